-- Fillings: rows are judged one after the other. Assumes nothing.
use Rattle.std.specs.Prelude.{ℕ, ◌<◌}

-- the first of n rows that does not fit is wrong in this way
abbrev pub FirstWrong : ℕ → (ℕ → Type 0) → (ℕ → Type 0) → Type 0
FirstWrong n fits wrong = (k : ℕ) × (k < n) × ((j : ℕ) → j < k → fits j) × wrong k
