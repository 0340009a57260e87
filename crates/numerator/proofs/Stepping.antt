-- What allowing one more piece makes of the entry of a pair, from the three cells that it goes by. Assumes nothing.
use Rattle.std.proofs.Common.{◌≡◌, ℕ, ◌+◌, ◌-◌, max, true, false, cond, ◌||◌, eqb, ◌⊎◌, sym, ap, ◌∙◌, inl, inr, ⊎_elim}
use Rattle.std.proofs.lemmas.Bool.{cond-true, cond-false, or_left, or_right, or_from, eq-eqb, ne_eqb}
use Rattle.theory.specs.Tasks.{Task, Lawful}
use Rattle.theory.specs.Inner.{twice, stepped}
use Rattle.theory.proofs.Ancestors.{ancestor_join}
use Rattle.numerator.specs.Cells.{cell, entry}
use Rattle.numerator.specs.declared.table.Table.{Table}

module _ (t : Task) (cores : ℕ) where
  -- a step goes by three entries
  pub stepped_same : (M N : ℕ → ℕ → ℕ) (v u w : ℕ) → M u v ≡ N u v → M v w ≡ N v w → M u w ≡ N u w → stepped t cores M v u w ≡ stepped t cores N v u w
  stepped_same M N v u w a b c =
      ap (λ x. cond (eqb x 0 || eqb (M v w) 0) (M u w) (max (M u w) ((x + M v w) - twice t cores u v w))) a
      ∙ ap (λ x. cond (eqb (N u v) 0 || eqb x 0) (M u w) (max (M u w) ((N u v + x) - twice t cores u v w))) b
      ∙ ap (λ x. cond (eqb (N u v) 0 || eqb (N v w) 0) x (max x ((N u v + N v w) - twice t cores u v w))) c

  -- where there is no walk on one side, the entry stays
  pub stepped_stays : (M : ℕ → ℕ → ℕ) (v u w : ℕ) → (M u v ≡ 0) ⊎ (M v w ≡ 0) → stepped t cores M v u w ≡ M u w
  stepped_stays M v u w none =
      cond-true (eqb (M u v) 0 || eqb (M v w) 0) _ _
      (⊎_elim (λ e. or_left (eqb (M u v) 0) _ (eq-eqb (M u v) 0 e)) (λ e. or_right (eqb (M u v) 0) _ (eq-eqb (M v w) 0 e)) none)

  -- where there are walks on both, the larger of the entry and of the two joined
  stepped_joins : (M : ℕ → ℕ → ℕ) (v u w : ℕ) → (M u v ≡ 0 → ⊥) → (M v w ≡ 0 → ⊥)
      → stepped t cores M v u w ≡ max (M u w) ((M u v + M v w) - twice t cores u v w)
  stepped_joins M v u w to on = cond-false (eqb (M u v) 0 || eqb (M v w) 0) _ _ (or_from (eqb (M u v) 0) _ (ne_eqb (M u v) 0 to) (ne_eqb (M v w) 0 on))

-- the entry of an ancestor is what its cell holds
pub entry_read : (t : Task) (m : Table) (u w : ℕ) → t.ancestor u w ≡ true → entry t m u w ≡ cell m u w
entry_read t m u w h = cond-true (t.ancestor u w) _ 0 h

-- and where there is none it is 0
pub entry_none : (t : Task) (m : Table) (u w : ℕ) → t.ancestor u w ≡ false → entry t m u w ≡ 0
entry_none t m u w h = cond-false (t.ancestor u w) _ 0 h

module _ {t : Task} (law : Lawful t) (cores : ℕ) (m : Table) (u v w : ℕ) (to_v : t.ancestor u v ≡ true) (on_w : t.ancestor v w ≡ true) where
  to_is : entry t m u v ≡ cell m u v
  to_is = entry_read t m u v to_v

  on_is : entry t m v w ≡ cell m v w
  on_is = entry_read t m v w on_w

  old_is : entry t m u w ≡ cell m u w
  old_is = entry_read t m u w (ancestor_join law u v w to_v on_w)

  -- the two ways of the step, on what the cells hold
  pub cells_stay : (cell m u v ≡ 0) ⊎ (cell m v w ≡ 0) → stepped t cores (entry t m) v u w ≡ cell m u w
  cells_stay none = stepped_stays t cores (entry t m) v u w (⊎_elim (λ e. inl (to_is ∙ e)) (λ e. inr (on_is ∙ e)) none) ∙ old_is

  pub cells_join : (cell m u v ≡ 0 → ⊥) → (cell m v w ≡ 0 → ⊥)
      → max (cell m u w) ((cell m u v + cell m v w) - twice t cores u v w) ≡ stepped t cores (entry t m) v u w
  cells_join to on =
      sym (stepped_joins t cores (entry t m) v u w (λ e. to (sym to_is ∙ e)) (λ e. on (sym on_is ∙ e))
      ∙ ap (λ x. max x ((entry t m u v + entry t m v w) - twice t cores u v w)) old_is
      ∙ ap (λ x. max (cell m u w) ((x + entry t m v w) - twice t cores u v w)) to_is
      ∙ ap (λ x. max (cell m u w) ((cell m u v + x) - twice t cores u v w)) on_is)

  pub joined_is : (to on old value : ℕ) → to ≡ cell m u v → on ≡ cell m v w → old ≡ cell m u w → (to ≡ 0 → ⊥) → (on ≡ 0 → ⊥)
      → value ≡ max old ((to + on) - twice t cores u v w) → value ≡ stepped t cores (entry t m) v u w
  joined_is to on old value to_at on_at old_at some_to some_on is =
      is ∙ ap (λ x. max x ((to + on) - twice t cores u v w)) old_at
      ∙ ap (λ x. max (cell m u w) ((x + on) - twice t cores u v w)) to_at
      ∙ ap (λ x. max (cell m u w) ((cell m u v + x) - twice t cores u v w)) on_at
      ∙ cells_join (λ e. some_to (to_at ∙ e)) (λ e. some_on (on_at ∙ e))
