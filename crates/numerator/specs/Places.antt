-- Where the cells of pairs lie in a square. Assumes nothing.
use Rattle.std.specs.Prelude.{ℕ, ◌+◌, ◌*◌}

-- where the cell of a pair lies among n pieces, and how many cells there are; shut: what counts is that no two lie in one place
unfoldable pub place_of : ℕ → ℕ → ℕ → ℕ
place_of n u w = u * n + w

unfoldable pub room_of : ℕ → ℕ
room_of n = n * n
