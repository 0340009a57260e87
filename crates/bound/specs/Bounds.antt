-- What bounding a task answers. Assumes nothing.
use Rattle.std.specs.Prelude.{◌≡◌, ℕ, ◌+◌, ◌*◌, ◌/◌, ◌<◌, ◌≤◌, List, length, Ok, Err, Result}
use Rattle.theory.specs.Tasks.{Task}
use Rattle.theory.specs.Paths.{Numerator, Chain, volume}
use Rattle.theory.specs.Listing.{bound}
use Rattle.numerator.specs.Finding.{CoresFit, scratch_for}
use Rattle.numerator.specs.declared.refusals.BoundRefusal.{BoundRefusal}
use Rattle.numerator.specs.declared.refusals.BoundRefusal.TheVariants.{Cores, Scratch}
use Rattle.bound.specs.declared.answers.Bound.{Bound}

-- p is the part in percent of the whole, to the nearest whole number, a half going up: p − ½ ≤ 100 × part ÷ whole < p + ½;
-- of nothing it is 0
pub record Percent (part whole p : ℕ) : Type 0 where
  pub none : whole ≡ 0 → p ≡ 0
  pub at_least : 0 < whole → 2 * (p * whole) ≤ 200 * part + whole
  pub at_most : 0 < whole → 200 * part + whole < 2 * ((p + 1) * whole)

-- the five numbers of a task on so many cores
pub record Bounded (t : Task) (cores : ℕ) (b : Bound) : Type 0 where
  -- the largest numerator of a complete path
  pub numerator : Numerator t cores b.numerator
  -- divided by the cores, fraction dropped: the task's bound
  pub ticks : b.ticks ≡ b.numerator / cores
  pub named : b.ticks ≡ bound t cores
  -- the greatest length of a complete path
  pub chain : Chain t b.chain
  pub volume : b.volume ≡ volume t
  -- how much of what the cores can do in these ticks the task takes at worst
  pub busy : Percent b.volume (cores * b.ticks) b.busy

-- what is answered, and the scratch that is left: it is open after an accepted call
abbrev pub BoundSays : Task → ℕ → List ℕ → Result Bound BoundRefusal → List ℕ → Type 0
BoundSays t cores before (Ok b) after = CoresFit cores × (scratch_for t.pieces ≤ length before) × Bounded t cores b
BoundSays t cores before (Err Cores) after = (CoresFit cores → ⊥) × (after ≡ before)
BoundSays t cores before (Err Scratch) after = CoresFit cores × (length before < scratch_for t.pieces) × (after ≡ before)
