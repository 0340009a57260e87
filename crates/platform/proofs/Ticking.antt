-- Pieces that run a tick, one by one. Assumes nothing.
use Rattle.std.proofs.Common.{◌≡◌, ℕ, ◌+◌, cond, List, get_or}
use Rattle.sets.proofs.Iterating.{passed}

-- each piece that was passed has run one tick more
abbrev pub Ticked : List ℕ → ℕ → ℕ → List ℕ → Type 0
Ticked old pieces rest now = (j : ℕ) → get_or now j 0 ≡ get_or old j 0 + cond (passed pieces rest j) 1 0
