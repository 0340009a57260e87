-- Tables of remaining chains, and the order in which they are found. Assumes nothing.
use Rattle.std.specs.Prelude.{◌≡◌, ℕ, ◌<◌, ◌≤◌, Bool, true, false, List, nat_le, slice_index}
use Rattle.theory.specs.Tasks.{Task, above}
use Rattle.theory.specs.Paths.{Remaining}

-- the table has the remaining chain of each piece that passes the test, and 0 everywhere else
pub record Known (t : Task) (p : ℕ → Bool) (lengths : List ℕ) : Type 0 where
  pub exact : (v : ℕ) → v < t.pieces → p v ≡ true → Remaining t v (slice_index lengths v)
  pub open_yet : (v : ℕ) → (v < t.pieces → p v ≡ false) → slice_index lengths v ≡ 0

-- so many pieces are above v, or more
abbrev pub deep : Task → ℕ → ℕ → Bool
deep t l v = nat_le l (above t v)

-- the table has the remaining chain of every piece, and 0 for what is no piece of the task
pub record Remainders (t : Task) (lengths : List ℕ) : Type 0 where
  pub on_task : (v : ℕ) → v < t.pieces → Remaining t v (slice_index lengths v)
  pub others : (v : ℕ) → t.pieces ≤ v → slice_index lengths v ≡ 0
