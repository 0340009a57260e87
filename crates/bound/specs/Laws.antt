-- The laws of the bound, on what a call answers. Assumes nothing.
use Rattle.std.specs.Prelude.{ℕ, ◌+◌, ◌-◌, ◌/◌, ◌≤◌, Ok, Err, Result}
use Rattle.theory.specs.Tasks.{Task, Lawful}
use Rattle.theory.specs.Laws.{Largest, NoHarder}
use Rattle.numerator.specs.Finding.{CoresFit}
use Rattle.numerator.specs.declared.refusals.BoundRefusal.{BoundRefusal}
use Rattle.bound.specs.declared.answers.Bound.{Bound}
use Rattle.bound.specs.Bounds.{Bounded}

-- the bound of a task on so many cores is neither below its longest chain nor above that chain and its share of the rest, and no
-- bound of a task that is no harder, on no fewer cores, is larger; and the functions by which others speak of numerator, bound and
-- chain are what the complete paths define
pub record Lawfully (t : Task) (cores : ℕ) (b : Bound) : Type 0 where
  pub not_below : b.chain ≤ b.ticks
  pub not_above : b.ticks ≤ b.chain + (b.volume - b.chain) / cores
  pub sustained : (s : Task) (more : ℕ) (d : Bound) → Lawful s → NoHarder s t → cores ≤ more → CoresFit more → Bounded s more d → d.ticks ≤ b.ticks
  pub largest : Largest t cores

abbrev pub KeepsLaws : Task → ℕ → Result Bound BoundRefusal → Type 0
KeepsLaws t cores (Ok b) = Lawfully t cores b
KeepsLaws t cores (Err refusal) = Unit {0}
