-- What finding the numerator answers. Assumes nothing.
use Rattle.std.specs.Prelude.{◌≡◌, ℕ, ◌+◌, ◌*◌, ◌<◌, ◌≤◌, List, length, Ok, Err, Result}
use Rattle.theory.specs.Tasks.{Task}
use Rattle.theory.specs.Paths.{Numerator}
use Rattle.numerator.specs.declared.refusals.BoundRefusal.{BoundRefusal}
use Rattle.numerator.specs.declared.refusals.BoundRefusal.TheVariants.{Cores, Scratch}

-- a number of cores that a task is bounded for
abbrev pub CoresFit : ℕ → Type 0
CoresFit cores = (1 ≤ cores) × (cores ≤ 16)

-- how many numbers of scratch a task with so many pieces takes
abbrev pub scratch_for : ℕ → ℕ
scratch_for pieces = (pieces + 2) * (pieces + 2)

-- which numerator or refusal is answered, and the scratch that is left: it is open after an accepted call
abbrev pub NumeratorSays : Task → ℕ → List ℕ → Result ℕ BoundRefusal → List ℕ → Type 0
NumeratorSays t cores before (Ok n) after = CoresFit cores × (scratch_for t.pieces ≤ length before) × Numerator t cores n
NumeratorSays t cores before (Err Cores) after = (CoresFit cores → ⊥) × (after ≡ before)
NumeratorSays t cores before (Err Scratch) after = CoresFit cores × (length before < scratch_for t.pieces) × (after ≡ before)
