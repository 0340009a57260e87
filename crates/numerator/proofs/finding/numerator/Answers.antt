-- The edges, all pieces taken, and the largest: the numerator of the task.
use Rattle.std.proofs.Common.{◌≡◌, ℕ, ◌+◌, ◌*◌, ◌≤◌, length, ap, subst, arith}
use Rattle.theory.specs.Paths.{Numerator}
use Rattle.theory.specs.Inner.{Greatest}
use Rattle.theory.proofs.Sizes.{numerator_small}
use Rattle.theory.proofs.Concluding.{concluded}
use Rattle.task.specs.Filing.{filed_task}
use Rattle.task.specs.declared.stages.Filed.{Filed}
use Rattle.task.proofs.Filed.{filed_lawful}
use Rattle.numerator.specs.Cells.{entry}
use Rattle.numerator.specs.Settings.{task_in, Piece, HasBest, Ahead}
use Rattle.numerator.specs.declared.setting.Setting.{Setting}
use Rattle.numerator.specs.declared.table.Table.{Table}
use Rattle.numerator.proofs.Placing.{room_in}
use Rattle.numerator.proofs.Rows.{edges_best}
use Rattle.numerator.proofs.finding.numerator.Goals as goal

pub new-table-requires : goal.new-table-requires
new-table-requires c = record { few = omega (arith, (filed_lawful c.args.task.now).few); room = omega (arith, room_in c.pieces-n.result) }

pub eliminate_all-requires : goal.eliminate_all-requires
eliminate_all-requires c =
    let s = c.new-setting.result in
    let large : (task_in s).pieces ≤ c.new-table.result.pieces = omega (arith, ap (λ f. (filed_task f).pieces) c.new-setting.ensures.task) in
    edges_best (filed_lawful s.task) s.cores c.new-table.result c.fill.new.table (Ahead (task_in s) 0) (λ x a. omega (arith, a.1)) large c.fill.ensures

-- what the setting has is the task's
found : (f : Filed) (cores n : ℕ) (s : Setting) (m : Table) → s.task ≡ f → s.cores ≡ cores → HasBest s (Piece s) m
    → Greatest (task_in s) s.cores (entry (task_in s) m) n → Numerator (filed_task f) cores n
found f cores n s m task same best greatest =
    subst (λ g. Numerator (filed_task g) cores n) task
    (subst (λ (k : ℕ). Numerator (task_in s) k n) same
    (concluded (filed_lawful s.task) (Piece s) (λ x l. l) s.cores (entry (task_in s) m) best n greatest))

pub overflow_cast-result : goal.overflow_cast-result
overflow_cast-result c =
    let n = c.greatest.result in
    omega (
      arith,
      numerator_small (filed_lawful c.args.task.now) c.args.cores n (omega arith)
          (found c.args.task.now c.args.cores n c.new-setting.result c.eliminate_all.new.table c.new-setting.ensures.task c.new-setting.ensures.cores c.eliminate_all.ensures c.greatest.ensures),
    )

pub returns : goal.returns
returns c =
    let room = length c.args.scratch.now in (
      (omega arith, omega arith),
      subst (λ (m : ℕ). (m + 2) * (m + 2) ≤ room) c.pieces-n.ensures (omega arith),
      found c.args.task.now c.args.cores c.greatest.result c.new-setting.result c.eliminate_all.new.table c.new-setting.ensures.task c.new-setting.ensures.cores
          c.eliminate_all.ensures c.greatest.ensures,
    )
