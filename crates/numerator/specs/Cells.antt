-- The table of numerators: a cell for each pair of pieces, of which one is an ancestor of the other. Assumes nothing.
use Rattle.std.specs.Prelude.{◌≡◌, ℕ, ◌<◌, ◌≤◌, Bool, cond, ◌&&◌, Some, None, Option, nat_lt, slice_index}
use Rattle.theory.specs.Tasks.{Task}
use Rattle.numerator.specs.Places.{place_of, room_of}
use Rattle.numerator.specs.declared.table.Table.{Table}

-- both numbers are of pieces of the table
abbrev pub Inside : Table → ℕ → ℕ → Type 0
Inside m u w = (u < m.pieces) × (w < m.pieces)

-- where the cell of a pair lies: within the room for all, which is small, and nowhere past the table
abbrev pub PlaceSays : Table → ℕ → ℕ → Option ℕ → Type 0
PlaceSays m u w (Some place) = Inside m u w × (place ≡ place_of m.pieces u w) × (place < room_of m.pieces) × (place < 4096)
PlaceSays m u w None = Inside m u w → ⊥

-- what the cell of a pair holds, and 0 past the table
abbrev pub cell : Table → ℕ → ℕ → ℕ
cell m u w = cond (nat_lt u m.pieces && nat_lt w m.pieces) (slice_index m.cells.now (place_of m.pieces u w)) 0

-- the table is as large as it was, the cells of the pairs that pass the test hold the values of f, and the other cells what they held
pub record Wrote (p : ℕ → ℕ → Bool) (f : ℕ → ℕ → ℕ) (old new : Table) : Type 0 where
  pub same : new.pieces ≡ old.pieces
  pub cells : (a b : ℕ) → a < old.pieces → b < old.pieces → cell new a b ≡ cond (p a b) (f a b) (cell old a b)

-- the numerators that the table holds: where u is no ancestor of w there is no walk, whatever the cell holds
abbrev pub entry : Task → Table → ℕ → ℕ → ℕ
entry t m u w = cond (t.ancestor u w) (cell m u w) 0

-- the entries of walks to v and from v are small enough to be added
abbrev pub Ready : Task → Table → ℕ → Type 0
Ready t m v = (a : ℕ) → a < t.pieces → (entry t m a v ≤ 67107840) × (entry t m v a ≤ 67107840)
