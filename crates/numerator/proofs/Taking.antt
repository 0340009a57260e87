-- The pieces of a level taken one after the other: which walks may go through, and when all may. Assumes nothing.
use Rattle.std.proofs.Common.{◌≡◌, ℕ, ◌+◌, ◌<◌, ◌≤◌, true, false, not, ◌&&◌, eqb, ◌⊎◌, sym, refl, ap, ◌∙◌, inl, inr, ⊎_elim, arith}
use mathlib.Core.Bool.{and-true}
use Rattle.std.proofs.lemmas.Bool.{both_ways, cases_lt, and_left, and_right, eqb-true, eq-eqb, ne_eqb}
use Rattle.sets.specs.Sets.{member, SetOf, Without}
use Rattle.sets.proofs.Members.{member-zero, set_true, true_set}
use Rattle.sets.proofs.Iterating.{Within}
use Rattle.theory.specs.Tasks.{Task, Lawful}
use Rattle.theory.specs.Inner.{Best, stepped}
use Rattle.theory.proofs.Eliminating.{eliminated, best_same}
use Rattle.theory.proofs.Sizes.{entry_small}
use Rattle.numerator.specs.Cells.{entry, Ready, Wrote}
use Rattle.numerator.specs.Settings.{rank, Ahead}
use Rattle.numerator.specs.declared.table.Table.{Table}
use Rattle.numerator.proofs.Ranks.{rank_few, rank_orders}
use Rattle.numerator.proofs.Rows.{all_stepped}

-- a piece that is taken: of smaller rank, or of the level and not to come
abbrev pub Taken : Task → ℕ → ℕ → ℕ → Type 0
Taken t level rest x = (x < t.pieces) × ((rank t x < level) ⊎ ((rank t x ≡ level) × (member rest x ≡ false)))

-- the set of the pieces of a level
module _ {t : Task} (law : Lawful t) (cores level set : ℕ) (at : SetOf t.pieces (λ j. eqb (rank t j) level) set) where
  -- before the first only those ahead are taken
  pub taking_start : (M : ℕ → ℕ → ℕ) (rest : ℕ) → rest ≡ set → Best t cores (Ahead t level) M → Best t cores (Taken t level rest) M
  taking_start M rest e =
      best_same law cores (Ahead t level) (Taken t level rest) M (λ x a. (a.0, inl a.1))
      (λ x k. (k.0, ⊎_elim (λ l. l) (λ here. absurd (both_ways (member rest x) here.1 (ap (λ s. member s x) e ∙ true_set t.pieces set _ at x k.0 (eq-eqb (rank t x) level here.0)))) k.1))

  -- after the last all of the level
  pub taking_end : (M : ℕ → ℕ → ℕ) (rest : ℕ) → rest ≡ 0 → Best t cores (Taken t level rest) M → Best t cores (Ahead t (level + 1)) M
  taking_end M rest e =
      best_same law cores (Taken t level rest) (Ahead t (level + 1)) M (λ x k. (k.0, ⊎_elim (λ l. omega arith) (λ here. omega (arith, here.0)) k.1))
      (λ x a. (a.0, ⊎_elim (λ l. inl l) (λ l. inr (omega (arith, a.1), ap (λ s. member s x) e ∙ member-zero x)) (cases_lt (rank t x) level)))

  module _ (rest next v : ℕ) (inside : Within rest set) (here : member rest v ≡ true) (without : Without rest v next) where
    pub taking_piece : (v < t.pieces) × (eqb (rank t v) level ≡ true)
    taking_piece = set_true t.pieces set _ at v (inside v here)

    its_rank : rank t v ≡ level
    its_rank = eqb-true (rank t v) level taking_piece.1

    wider : (x : ℕ) → Taken t level rest x → Taken t level next x
    wider x k = (k.0, ⊎_elim (λ l. inl l) (λ h. inr (h.0, without x ∙ and_left (member rest x) (not (eqb v x)) h.1)) k.1)

    it : Taken t level next v
    it = (taking_piece.0, inr (its_rank, without v ∙ and_right (member rest v) (not (eqb v v)) (ap not (eq-eqb v v refl))))

    narrow : (x : ℕ) → Taken t level next x → (x ≡ v → ⊥) → Taken t level rest x
    narrow x k d =
        (k.0, ⊎_elim (λ l. inl l) (λ h. inr (h.0, sym (without x ∙ ap (λ b. member rest x && not b) (ne_eqb v x (λ e. d (sym e))) ∙ and-true (member rest x)) ∙ h.1)) k.1)

    ahead : (a : ℕ) → Taken t level rest a → t.not_after a v ≡ true
    ahead a k = rank_orders law a v k.0 taking_piece.0 (⊎_elim (λ l. omega (arith, its_rank)) (λ h. omega (arith, its_rank, h.0)) k.1)

    -- what is taken so far leaves the entries small enough to be added
    pub taking_ready : cores ≤ 16 → (m : Table) → Best t cores (Taken t level rest) (entry t m) → Ready t m v
    taking_ready most m best a ha =
        let small = entry_small law cores most (Taken t level rest) (entry t m) best in
        (small a v ha taking_piece.0, small v a taking_piece.0 ha)

    -- and taking v makes walks through it count
    pub taking_turn : 1 ≤ cores → (m new : Table) → Best t cores (Taken t level rest) (entry t m)
        → Wrote (λ a b. t.ancestor a v && t.ancestor v b) (stepped t cores (entry t m) v) m new → Best t cores (Taken t level next) (entry t new)
    taking_turn some m new best wrote =
        eliminated law cores some (Taken t level rest) (Taken t level next) v taking_piece.0 wider it narrow ahead (entry t m) (entry t new) best
        (λ u w _ _. all_stepped law cores v m new wrote u w)

-- in the end all pieces are taken
pub taken_all : {t : Task} → Lawful t → (cores level : ℕ) (M : ℕ → ℕ → ℕ) → 64 < level → Best t cores (Ahead t level) M → Best t cores (λ x. x < t.pieces) M
taken_all {t} law cores level M high =
    best_same law cores (Ahead t level) (λ x. x < t.pieces) M (λ x a. a.0) (λ x l. (l, omega (arith, rank_few t x)))
