-- The number of each refusal of filling a platform. Assumes nothing.
use Rattle.std.specs.Prelude.{ℕ}
use Rattle.platform.specs.declared.refusals.TimedRefusal.{TimedRefusal}
use Rattle.platform.specs.declared.refusals.TimedRefusal.TheVariants as timed
use Rattle.platform.specs.declared.refusals.ScriptedRefusal.{ScriptedRefusal}
use Rattle.platform.specs.declared.refusals.ScriptedRefusal.TheVariants as scripted

abbrev pub timed_number : TimedRefusal → ℕ
timed_number timed.TooMany = 51
timed_number timed.Worst = 52
timed_number timed.Time = 53

abbrev pub scripted_number : ScriptedRefusal → ℕ
scripted_number scripted.TooMany = 51
scripted_number scripted.Worst = 52
