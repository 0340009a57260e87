-- The remaining chain of a piece, from those of the pieces straight after it; the largest of them is the task's chain. Assumes
-- nothing.
use Rattle.std.proofs.Common.{◌≡◌, ℕ, ◌+◌, ◌<◌, ◌≤◌, true, ltb, List, [], ◌∷◌, inr, ⊎_elim, arith}
use native.Mathlib.Bridge.{le_prop}
use mathlib.Core.Logic.Or
use mathlib.Core.Logic.{◌∨₁◌, ∥∥₁_elim, ∥∥₁_map}
use Rattle.std.proofs.lemmas.Bool.{cases_lt, lt-ltb, ltb-true}
use Rattle.sets.specs.Sets.{LargestWhere}
use Rattle.theory.specs.Tasks.{Task, Lawful}
use Rattle.theory.specs.Paths.{Linked, Complete, length_of, volume, Chain, Remaining}
use Rattle.theory.proofs.Volumes.{within_volume}
use Rattle.theory.proofs.Paths.{linked_start}
use Rattle.theory.proofs.Completing.{completed}

pub remaining_step : (t : Task) (f : ℕ → ℕ) (v n : ℕ) → v < t.pieces → LargestWhere (t.edge v) f n → ((w : ℕ) → t.edge v w ≡ true → Remaining t w (f w))
    → Remaining t v (t.worst v + n)
remaining_step t f v n on_task most after = record { bounds = bounds; reached = reached }
  where
    bounds : (path : List ℕ) → Linked t (v ∷ path) → length_of t (v ∷ path) ≤ t.worst v + n
    bounds [] l = omega arith
    bounds (w ∷ path) l = omega (arith, (after w l.0).bounds path l.1, most.bounds w l.0)

    reached : ∥ ((path : List ℕ) × Linked t (v ∷ path) × (length_of t (v ∷ path) ≡ t.worst v + n)) ∥₁
    reached =
        ⊎_elim (λ none. ∣ ([], on_task, omega (arith, none)) ∣₁)
        (λ w. ∥∥₁_map (after w.0 w.1).reached (λ p. (w.0 ∷ p.0, (w.1, p.1), omega (arith, p.2, w.2))))
        most.reached

module _ {t : Task} (law : Lawful t) where
  -- a path holds no piece twice, so no chain is above the volume
  pub remaining_small : (v n : ℕ) → Remaining t v n → n ≤ volume t
  remaining_small v n r = ∥∥₁_elim r.reached le_prop (λ p. omega (arith, p.2, within_volume law (v ∷ p.0) p.1))

  remaining_some : (v n : ℕ) → v < t.pieces → Remaining t v n → 1 ≤ n
  remaining_some v n l r = omega (arith, r.bounds [] l, law.at_least v l)

  -- the largest remaining chain of all pieces is the greatest length of a complete path
  pub chain_from : (f : ℕ → ℕ) (n : ℕ) → ((v : ℕ) → v < t.pieces → Remaining t v (f v)) → LargestWhere (λ v. ltb v t.pieces) f n → Chain t n
  chain_from f n each most = record { bounds = λ path c. linked_bound path c.linked; reached = reached }
    where
      linked_bound : (path : List ℕ) → Linked t path → length_of t path ≤ n
      linked_bound [] l = absurd l
      linked_bound (v ∷ rest) l =
          let on_task = linked_start law v rest l in
          omega (arith, (each v on_task).bounds rest l, most.bounds v (lt-ltb v t.pieces on_task))

      from_piece : (v : ℕ) → v < t.pieces → f v ≡ n → ∥ ((path : List ℕ) × Complete t path × (length_of t path ≡ n)) ∥₁
      from_piece v on_task e =
          ∥∥₁_map (each v on_task).reached
          (λ p. let whole = completed law (v ∷ p.0) p.1 in (whole.0, whole.1, omega (arith, linked_bound whole.0 whole.1.linked, whole.2, p.2, e)))

      nothing : n ≡ 0 → t.pieces ≡ 0
      nothing e =
          ⊎_elim (λ l. absurd (omega (arith, remaining_some 0 (f 0) l (each 0 l), most.bounds 0 (lt-ltb 0 t.pieces l)))) (λ l. omega arith)
          (cases_lt 0 t.pieces)

      reached : ((t.pieces ≡ 0) × (n ≡ 0)) ∨₁ ((path : List ℕ) × Complete t path × (length_of t path ≡ n))
      reached =
          ⊎_elim (λ none. Or.inl (nothing none, none))
          (λ w. ∥∥₁_map (from_piece w.0 (ltb-true w.0 t.pieces w.1) w.2) (λ p. inr p))
          most.reached
