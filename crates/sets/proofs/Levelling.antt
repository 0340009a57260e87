-- Levels of pieces by the sizes of sets. Assumes nothing.
use Rattle.std.proofs.Common.{◌≡◌, ℕ, ◌<◌, ◌≤◌, true, ◌&&◌, ltb, eqb, sym, ap, ◌∙◌, subst, ⊎_elim}
use Rattle.std.proofs.lemmas.Bool.{cases_Bool, ltb-true}
use Rattle.sets.specs.Sets.{member, size_of, SetOf}
use Rattle.sets.specs.Levels.{level_of, ByKey, BySize}
use Rattle.sets.specs.declared.levels.Levelled.{Levelled}
use Rattle.sets.proofs.Members.{first_below}

-- the set of a level, however it is written
pub by_key_at : (key : ℕ → ℕ) (n level set : ℕ) (levels : Levelled) → ByKey key n levels → set ≡ level_of levels level → SetOf n (λ j. eqb (key j) level) set
by_key_at key n level set levels sorted same j = ap (λ s. member s j) same ∙ sorted level j

-- levels by size of the pieces below n, where the size of what is answered of each is its key
pub by_key_sized : {answer : ℕ → ℕ → Type 0} (key : ℕ → ℕ) (n m all : ℕ) (levels : Levelled) → m ≡ n → n ≤ 64 → SetOf 64 (λ k. ltb k m) all
    → ((v set : ℕ) → v < n → answer v set → size_of set ≡ key v) → BySize (member all) answer levels → ByKey key n levels
by_key_sized {answer} key n m all levels same few first sized by l j =
    ⊎_elim there (λ e. by.others j e l ∙ ap (λ b. b && eqb (key j) l) (sym e ∙ below j)) (cases_Bool (member all j))
  where
    below : (k : ℕ) → member all k ≡ ltb k n
    below = first_below n all few (subst (λ x. SetOf 64 (λ k. ltb k x) all) same first)

    there : member all j ≡ true → member (level_of levels l) j ≡ (ltb j n && eqb (key j) l)
    there e =
        let a = by.asked j e in
        a.2 l ∙ ap (λ x. eqb x l) (sized j a.0 (ltb-true j n (sym (below j) ∙ e)) a.1) ∙ ap (λ b. b && eqb (key j) l) (sym e ∙ below j)
