-- From the table in which every piece is allowed to the numerator of the task. Assumes nothing.
use Rattle.std.proofs.Common.{◌≡◌, ℕ, ◌<◌, ◌≤◌, ◌⊎◌, List, [], ◌∷◌, ◌++◌, ap, ◌∙◌, inl, inr, arith}
use mathlib.Core.Logic.Or
use mathlib.Core.Logic.{◌∨₁◌}
use Rattle.theory.specs.Tasks.{Task, Lawful}
use Rattle.theory.specs.Paths.{Linked, Complete, numerator_of, Numerator}
use Rattle.theory.specs.Inner.{alone, Best, Greatest}
use Rattle.theory.proofs.Completing.{completed}
use Rattle.theory.proofs.Walking.{via_within}
use Rattle.theory.proofs.AsPaths.{numerator_walk, numerator_alone, walk_linked, as_walk}

module _ {t : Task} (law : Lawful t) (E : ℕ → Type 0) (all : (x : ℕ) → x < t.pieces → E x) (cores : ℕ) (M : ℕ → ℕ → ℕ)
    (best : Best t cores E M) (n : ℕ) (greatest : Greatest t cores M n) where
  -- no path has a larger numerator
  linked_bound : (path : List ℕ) → Linked t path → numerator_of t cores path ≤ n
  linked_bound [] h = absurd h
  linked_bound (a ∷ []) h = omega (arith, numerator_alone t cores a, greatest.over_pieces a h)
  linked_bound (a ∷ b ∷ rest) h =
      let i = as_walk law E all a b rest h in
      let k = via_within law E a i.inner i.last i.via in
      omega (
        arith,
        ap (numerator_of t cores) i.is,
        numerator_walk t cores a i.inner i.last,
        best.bounds a i.last i.inner i.via,
        greatest.over_walks a i.last k.0 k.1,
      )

  -- so where a path has this one, so has a complete path
  complete_too : (path : List ℕ) → Linked t path → numerator_of t cores path ≡ n → (whole : List ℕ) × Complete t whole × (numerator_of t cores whole ≡ n)
  complete_too path l e =
      let whole = completed law path l in
      (whole.0, whole.1, omega (arith, linked_bound whole.0 whole.1.linked, whole.3 cores))

  pub concluded : Numerator t cores n
  concluded = record { bounds = λ path c. linked_bound path c.linked; reached = attained greatest.reached }
    where
      attained : ((t.pieces ≡ 0) × (n ≡ 0)) ⊎ (((v : ℕ) × (v < t.pieces) × (alone t cores v ≡ n))
          ⊎ ((u : ℕ) × (w : ℕ) × (u < t.pieces) × (w < t.pieces) × (1 ≤ M u w) × (M u w ≡ n)))
          → ((t.pieces ≡ 0) × (n ≡ 0)) ∨₁ ((path : List ℕ) × Complete t path × (numerator_of t cores path ≡ n))
      attained (inl none) = Or.inl none
      attained (inr (inl r)) = Or.inr (complete_too (r.0 ∷ []) r.1 (numerator_alone t cores r.0 ∙ r.2))
      attained (inr (inr r)) =
          elim (best.reached r.0 r.1 r.2 r.3) [
            | inl z ↦ absurd (omega (arith, z, r.4))
            | inr k ↦
                Or.inr (complete_too (r.0 ∷ (k.0 ++ r.1 ∷ [])) (walk_linked law E r.0 k.0 r.1 k.1)
                (numerator_walk t cores r.0 k.0 r.1 ∙ k.2 ∙ r.5))
          ]
