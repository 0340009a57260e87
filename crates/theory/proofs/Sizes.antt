-- How large volumes, numerators and chains are in a lawful task, on 16 cores at most. Assumes nothing.
use Rattle.std.proofs.Common.{ℕ, ◌*◌, ◌<◌, ◌≤◌, Bool, true, List, [], ◌∷◌, ◌++◌, refl, inl, inr, arith}
use native.Mathlib.Bridge.{le_prop}
use mathlib.Core.Logic.Or
use Rattle.std.proofs.lemmas.Nat.{mul-le}
use Rattle.sets.proofs.Sums.{sum_small}
use Rattle.theory.specs.Tasks.{Task, Lawful}
use Rattle.theory.specs.Paths.{Linked, length_of, volume_of, volume, numerator_of, Numerator, Chain}
use Rattle.theory.specs.Inner.{Via, weight, Best}
use Rattle.theory.proofs.Volumes.{volume_mono, within_volume}
use Rattle.theory.proofs.AsPaths.{numerator_walk, walk_linked}

module _ {t : Task} (law : Lawful t) where
  -- 64 pieces of 65535 ticks each
  pub volume_most : volume t ≤ 4194240
  volume_most = omega (arith, sum_small t.pieces 65535 t.worst law.at_most, mul-le t.pieces 65535 64 65535 law.few (omega arith))

  pub volume_small : (p : ℕ → Bool) → volume_of t p ≤ 4194240
  volume_small p = omega (arith, volume_mono t p (λ _. true) (λ x l h. refl), volume_most)

  pub product_small : (cores v : ℕ) → cores ≤ 16 → v < t.pieces → cores * t.worst v ≤ 1048560
  product_small cores v c h = omega (arith, mul-le cores (t.worst v) 16 65535 c (law.at_most v h))

  -- 16 times the volume: a path and its interference set are within it
  path_small : (cores : ℕ) (path : List ℕ) → cores ≤ 16 → Linked t path → numerator_of t cores path ≤ 67107840
  path_small cores path c l =
      let both = within_volume law path l in
      omega (arith, volume_most, mul-le cores (length_of t path) 16 (length_of t path) c (omega arith))

  weight_small : (cores : ℕ) → cores ≤ 16 → (E : ℕ → Type 0) (u : ℕ) (l : List ℕ) (w : ℕ) → Via t E u l w → weight t cores u l w ≤ 67107840
  weight_small cores c E u l w p = omega (arith, numerator_walk t cores u l w, path_small cores (u ∷ (l ++ w ∷ [])) c (walk_linked law E u l w p))

  pub entry_small : (cores : ℕ) → cores ≤ 16 → (E : ℕ → Type 0) (M : ℕ → ℕ → ℕ) → Best t cores E M → (u w : ℕ) → u < t.pieces → w < t.pieces
      → M u w ≤ 67107840
  entry_small cores c E M best u w hu hw =
      elim (best.reached u w hu hw) [ inl z ↦ omega (arith, z) | inr r ↦ omega (arith, r.2, weight_small cores c E u r.0 w r.1) ]

  pub numerator_small : (cores n : ℕ) → cores ≤ 16 → Numerator t cores n → n ≤ 67107840
  numerator_small cores n c num =
      Or.elim le_prop num.reached (λ none. omega arith) (λ p. omega (arith, p.2, path_small cores p.0 c p.1.linked))

  -- a path is no longer than all pieces together
  pub chain_small : (n : ℕ) → Chain t n → n ≤ volume t
  chain_small n long = Or.elim le_prop long.reached (λ none. omega arith) (λ p. omega (arith, p.2, within_volume law p.0 p.1.linked))
