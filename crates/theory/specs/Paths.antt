-- Paths, what interferes with them, and the response-time bound. Assumes nothing.
use Rattle.std.specs.Prelude.{◌≡◌, ℕ, ◌+◌, ◌*◌, ◌<◌, ◌≤◌, Bool, true, false, cond, not, ◌&&◌, ◌||◌, List, [], ◌∷◌, ◌==◌}
use Rattle.std.proofs.Math.Logic.{◌∨₁◌}
use Rattle.sets.specs.Sets.{sum}
use Rattle.theory.specs.Tasks.{Task}

module _ (t : Task) where
  -- ---- paths

  -- one or more pieces, each joined to the next by an edge
  abbrev pub Linked : List ℕ → Type 0
  Linked [] = ⊥
  Linked (a ∷ []) = a < t.pieces
  Linked (a ∷ (b ∷ rest)) = (t.edge a b ≡ true) × Linked (b ∷ rest)

  -- a piece without predecessors
  abbrev pub Source : ℕ → Type 0
  Source v = (a : ℕ) → t.edge a v ≡ false

  -- a piece that is nobody's predecessor
  abbrev pub Sink : ℕ → Type 0
  Sink v = (b : ℕ) → t.edge v b ≡ false

  abbrev pub StartsAt : (ℕ → Type 0) → List ℕ → Type 0
  StartsAt P [] = ⊥
  StartsAt P (a ∷ rest) = P a

  abbrev pub EndsAt : (ℕ → Type 0) → List ℕ → Type 0
  EndsAt P [] = ⊥
  EndsAt P (a ∷ []) = P a
  EndsAt P (a ∷ (b ∷ rest)) = EndsAt P (b ∷ rest)

  -- a path from a piece without predecessors to one that is nobody's predecessor
  pub record Complete (path : List ℕ) : Type 0 where
    pub linked : Linked path
    pub first : StartsAt Source path
    pub last : EndsAt Sink path

  -- the sum of the worst times along a path
  abbrev pub length_of : List ℕ → ℕ
  length_of [] = 0
  length_of (a ∷ rest) = t.worst a + length_of rest

  -- ---- interference

  -- different pieces of which neither is an ancestor of the other
  abbrev pub parallel : ℕ → ℕ → Bool
  parallel a b = not (a == b) && (not (t.ancestor a b) && not (t.ancestor b a))

  -- u is in the interference set of v: parallel to v, and its priority is not after that of v
  abbrev pub interferes : ℕ → ℕ → Bool
  interferes v u = parallel u v && t.not_after u v

  -- u is in the interference set of the path, the union over its pieces
  abbrev pub interferes_with : List ℕ → ℕ → Bool
  interferes_with [] u = false
  interferes_with (v ∷ rest) u = interferes v u || interferes_with rest u

  -- ---- the bound

  -- the worst times of the pieces that pass the test, added up
  abbrev pub volume_of : (ℕ → Bool) → ℕ
  volume_of p = sum t.pieces (λ k. cond (p k) (t.worst k) 0)

  -- the worst times of all pieces, added up
  abbrev pub volume : ℕ
  volume = sum t.pieces t.worst

  -- a path's numerator: the cores times its length, and the worst times in its interference set
  abbrev pub numerator_of : ℕ → List ℕ → ℕ
  numerator_of cores path = cores * length_of path + volume_of (interferes_with path)

  -- n is the largest value of f over all complete paths, and 0 without pieces: none is larger, and one is as large
  pub record LargestOf (f : List ℕ → ℕ) (n : ℕ) : Type 0 where
    pub bounds : (path : List ℕ) → Complete path → f path ≤ n
    pub reached : ((t.pieces ≡ 0) × (n ≡ 0)) ∨₁ ((path : List ℕ) × Complete path × (f path ≡ n))

  -- the task's numerator on so many cores
  abbrev pub Numerator : ℕ → ℕ → Type 0
  Numerator cores = LargestOf (numerator_of cores)

  -- the greatest length of a complete path
  abbrev pub Chain : ℕ → Type 0
  Chain = LargestOf length_of

  -- n is the remaining chain of v: the greatest length of a path that starts there
  pub record Remaining (v n : ℕ) : Type 0 where
    pub bounds : (path : List ℕ) → Linked (v ∷ path) → length_of (v ∷ path) ≤ n
    pub reached : ∥ ((path : List ℕ) × Linked (v ∷ path) × (length_of (v ∷ path) ≡ n)) ∥₁
