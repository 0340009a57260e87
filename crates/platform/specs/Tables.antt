-- The platform that tables stand for. Assumes nothing.
use Rattle.std.specs.Prelude.{ℕ, List, slice_index}
use Rattle.sets.specs.Sets.{member}
use Rattle.theory.specs.Platforms.{Platform}

-- worst times and ticks run at the place of each piece, and the set of the ended pieces
abbrev pub platform_from : List ℕ → List ℕ → ℕ → Platform
platform_from worst ran ended = record {
  worst = λ k. slice_index worst k;
  ran = λ k. slice_index ran k;
  ended = member ended;
}
