-- The number of each refusal of a bound. Assumes nothing.
use Rattle.std.specs.Prelude.{ℕ}
use Rattle.numerator.specs.declared.refusals.BoundRefusal.{BoundRefusal}
use Rattle.numerator.specs.declared.refusals.BoundRefusal.TheVariants.{Cores, Scratch}

abbrev pub bound_number : BoundRefusal → ℕ
bound_number Cores = 31
bound_number Scratch = 32
