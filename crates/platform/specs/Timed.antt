-- Platforms of true times: what they mean, what a filling says, and which pieces end when. Assumes nothing.
use Rattle.std.specs.Prelude.{◌≡◌, ℕ, ◌+◌, ◌<◌, ◌≤◌, ◌&&◌, List, length, Ok, Err, Result, ◌==◌, slice_index, slice_index_or}
use Rattle.sets.specs.Sets.{member}
use Rattle.theory.specs.Tasks.{WorstFits}
use Rattle.theory.specs.Platforms.{Platform, Fresh, runs}
use Rattle.platform.specs.Holding.{held_means}
use Rattle.platform.specs.Filling.{FirstWrong}
use Rattle.platform.specs.declared.refusals.TimedRefusal.{TimedRefusal}
use Rattle.platform.specs.declared.refusals.TimedRefusal.TheVariants.{TooMany, Worst, Time}
use Rattle.platform.specs.declared.timed.TimedRow.{TimedRow}
use Rattle.platform.specs.declared.timed.TimedPlatform.{TimedPlatform}

abbrev pub timed_means : TimedPlatform → Platform
timed_means p = held_means p.held

-- the ticks after which a piece ends, and 0 for one that is not held
abbrev pub true_time : TimedPlatform → ℕ → ℕ
true_time p k = slice_index p.times k

-- ---- filling

-- row k, and past the rows one of zeros
abbrev pub row_at : List TimedRow → ℕ → TimedRow
row_at rows k = slice_index_or rows k (record { worst = 0; time = 0 })

-- a true time that a row may have
abbrev pub TimeFits : TimedRow → Type 0
TimeFits row = (1 ≤ row.time) × (row.time ≤ row.worst)

-- what is said of a row: it fits, or what is wrong with it
abbrev pub RowSays : TimedRow → Result (Unit {0}) TimedRefusal → Type 0
RowSays row (Ok x) = WorstFits row.worst × TimeFits row
RowSays row (Err TooMany) = ⊥
RowSays row (Err Worst) = WorstFits row.worst → ⊥
RowSays row (Err Time) = WorstFits row.worst × (TimeFits row → ⊥)

-- row k is held as piece k and nothing else is, and no piece has run
pub record Filled (rows : List TimedRow) (p : TimedPlatform) : Type 0 where
  pub worst : (k : ℕ) → (timed_means p).worst k ≡ (row_at rows k).worst
  pub time : (k : ℕ) → true_time p k ≡ (row_at rows k).time
  pub fresh : Fresh (timed_means p)

-- what a filling answers, and the platform that it leaves
abbrev pub FillSays : TimedPlatform → List TimedRow → Result (Unit {0}) TimedRefusal → TimedPlatform → Type 0
FillSays p rows (Ok x) q = (length rows ≤ 64) × ((k : ℕ) → k < length rows → RowSays (row_at rows k) (Ok x)) × Filled rows q
FillSays p rows (Err TooMany) q = (64 < length rows) × (q ≡ p)
FillSays p rows (Err Worst) q = (length rows ≤ 64) × FirstWrong (length rows) (λ k. RowSays (row_at rows k) (Ok tt)) (λ k. RowSays (row_at rows k) (Err Worst)) × (q ≡ p)
FillSays p rows (Err Time) q = (length rows ≤ 64) × FirstWrong (length rows) (λ k. RowSays (row_at rows k) (Ok tt)) (λ k. RowSays (row_at rows k) (Err Time)) × (q ≡ p)

-- ---- working

-- the pieces that end in a working call are those that run in it and reach their true time; no true time changes
pub record EndsOnTime (p : TimedPlatform) (set answer : ℕ) (q : TimedPlatform) : Type 0 where
  pub exactly : (k : ℕ) → member answer k ≡ (runs (timed_means p) set k && (timed_means p).ran k + 1 == true_time p k)
  pub times : (k : ℕ) → true_time q k ≡ true_time p k
