-- A loop over the pieces of a set: which it has passed, from its start to its end. Assumes nothing.
use Rattle.std.proofs.Common.{◌≡◌, ℕ, Bool, true, false, not, ◌&&◌, ◌||◌, eqb, sym, refl, ap, ◌∙◌}
use mathlib.Core.Bool.{and-true, and-false, and-not_self}
use Rattle.std.proofs.lemmas.Bool.{both_ways, and_parts, eqb-true}
use Rattle.sets.specs.Sets.{member, Without}
use Rattle.sets.proofs.Members.{member-zero}

-- piece k of the set has been passed, where the rest is to come
abbrev pub passed : ℕ → ℕ → ℕ → Bool
passed set rest k = member set k && not (member rest k)

-- what is to come is of the set
abbrev pub Within : ℕ → ℕ → Type 0
Within rest set = (k : ℕ) → member rest k ≡ true → member set k ≡ true

-- at the start nothing has been passed
pub passed_none : (set rest : ℕ) → rest ≡ set → (k : ℕ) → passed set rest k ≡ false
passed_none set rest e k = ap (λ s. member set k && not (member s k)) e ∙ and-not_self (member set k)

pub within_none : (set rest : ℕ) → rest ≡ set → Within rest set
within_none set rest e k h = ap (λ s. member s k) (sym e) ∙ h

-- at the end all of it has
pub passed_all : (set rest : ℕ) → rest ≡ 0 → (k : ℕ) → passed set rest k ≡ member set k
passed_all set rest e k = ap (λ b. member set k && not b) (ap (λ s. member s k) e ∙ member-zero k) ∙ and-true (member set k)

one_more : (s r e : Bool) → (r ≡ true → s ≡ true) → (e ≡ true → r ≡ true) → (s && not (r && not e)) ≡ ((s && not r) || e)
one_more true true true h g = refl
one_more true true false h g = refl
one_more true false true h g = absurd (both_ways false refl (g refl))
one_more true false false h g = refl
one_more false true e h g = absurd (both_ways false refl (h refl))
one_more false false true h g = absurd (both_ways false refl (g refl))
one_more false false false h g = refl

-- nothing to come has been passed
pub passed_not : (set rest k : ℕ) → member rest k ≡ true → passed set rest k ≡ false
passed_not set rest k here = ap (λ b. member set k && not b) here ∙ and-false (member set k)

module _ (set rest next k : ℕ) (inside : Within rest set) (here : member rest k ≡ true) (without : Without rest k next) where
  -- a turn passes one more
  pub passed_more : (j : ℕ) → passed set next j ≡ (passed set rest j || eqb k j)
  passed_more j =
      ap (λ b. member set j && not b) (without j)
      ∙ one_more (member set j) (member rest j) (eqb k j) (inside j) (λ e. ap (member rest) (sym (eqb-true k j e)) ∙ here)

  pub within_more : Within next set
  within_more j h = inside j (and_parts (member rest j) (not (eqb k j)) (sym (without j) ∙ h)).0
