-- How many ancestors a piece has, by the size of their set. Assumes nothing.
use Rattle.std.proofs.Common.{◌≡◌, ℕ, ◌<◌, cond, ◌∙◌}
use Rattle.sets.specs.Sets.{size_of}
use Rattle.sets.proofs.Sums.{sum_cut}
use Rattle.theory.specs.Tasks.{Task, above, Lawful}
use Rattle.theory.proofs.Ancestors.{ancestor_ends}
use Rattle.task.specs.Filing.{Related}
use Rattle.task.proofs.Filed.{size_related, past_none}

pub above_size : {t : Task} → Lawful t → (v r : ℕ) → v < t.pieces → Related t t.ancestor v r → size_of r ≡ above t v
unfolding above
above_size {t} law v r l related =
    size_related t t.ancestor v r l related
    ∙ sum_cut 64 t.pieces (λ a. cond (t.ancestor a v) 1 0) law.few (past_none t.pieces t.ancestor (ancestor_ends law) v)
