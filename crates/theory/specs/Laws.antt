-- The laws of the bound. Assumes nothing.
use Rattle.std.specs.Prelude.{◌≡◌, ℕ, ◌+◌, ◌-◌, ◌/◌, ◌<◌, ◌≤◌, ◌↔◌, List}
use Rattle.theory.specs.Tasks.{Task, Lawful}
use Rattle.theory.specs.Paths.{Complete, Numerator, Chain, volume}
use Rattle.theory.specs.Listing.{In, walk, numerator, bound, chain}

-- the walk lists exactly the complete paths; numerator and chain are what the paths define, and nothing else is
pub record Largest (t : Task) (cores : ℕ) : Type 0 where
  pub listed : (path : List ℕ) → In path (walk t) ↔ Complete t path
  pub largest : Numerator t cores (numerator t cores)
  pub unique : (n : ℕ) → Numerator t cores n → n ≡ numerator t cores
  pub longest : Chain t (chain t)
  pub longest_once : (n : ℕ) → Chain t n → n ≡ chain t

abbrev pub BoundIsTheLargest : Type 0
BoundIsTheLargest = (t : Task) (cores : ℕ) → Lawful t → Largest t cores

-- the bound lies between the longest chain and that chain plus its share of the rest, fraction dropped
abbrev pub BoundBetween : Type 0
BoundBetween =
    (t : Task) (cores : ℕ) → Lawful t → 1 ≤ cores
    → (chain t ≤ bound t cores) × (bound t cores ≤ chain t + (volume t - chain t) / cores)

-- the first task is no harder than the second: equally many pieces, the same edges, the same not-after for any two pieces,
-- and no worst time longer
pub record NoHarder (t s : Task) : Type 0 where
  pub pieces : t.pieces ≡ s.pieces
  pub edges : (a b : ℕ) → t.edge a b ≡ s.edge a b
  pub order : (a b : ℕ) → a < t.pieces → b < t.pieces → t.not_after a b ≡ s.not_after a b
  pub worst : (k : ℕ) → k < t.pieces → t.worst k ≤ s.worst k

-- a task that is no harder, on no fewer cores, has no larger bound
abbrev pub BoundIsSustainable : Type 0
BoundIsSustainable =
    (t s : Task) (more fewer : ℕ) → Lawful t → Lawful s → NoHarder t s → 1 ≤ fewer → fewer ≤ more → bound t more ≤ bound s fewer
