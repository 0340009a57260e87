-- Figures of rows copied into a table, row by row. Assumes nothing.
use Rattle.std.proofs.Common.{◌≡◌, ℕ, ◌<◌, ◌≤◌, List, length, get_or, replicate, refl, arith}
use Rattle.sets.proofs.Tables.{zeros}

-- a table of 64 has the figures of the rows below k, and 0 from there on
pub record Copied (figure : ℕ → ℕ) (k : ℕ) (table : List ℕ) : Type 0 where
  pub long : length table ≡ 64
  pub below : (j : ℕ) → j < k → get_or table j 0 ≡ figure j
  pub above : (j : ℕ) → k ≤ j → get_or table j 0 ≡ 0

pub copied_none : (figure : ℕ → ℕ) → Copied figure 0 (replicate 64 0)
copied_none figure = record { long = refl; below = λ j l. absurd (omega arith); above = λ j _. zeros 64 j }
