-- The code's tests are those of the definition, and the edge that passes them is added.
use Rattle.std.proofs.Common.{sym, refl, ◌∙◌, arith}
use mathlib.Core.Logic.Or
use Rattle.theory.proofs.Lawfuls.{lawful_of}
use Rattle.task.specs.Filing.{task_of, Circle}
use Rattle.task.proofs.Joining.{circle, no_circle}
use Rattle.task.proofs.stages.Linking.link.Goals as goal
use Rattle.task.proofs.stages.Linking.link.Goals.{then-before-after-via-then-before-after, then-before-after-via-else-before-after+then-has-2}

pub returns-then-before-after : goal.returns-then-before-after
returns-then-before-after c =
    let s = c.args.self.now.tables in
    let around : Circle (task_of s) c.args.before c.args.after =
    elim c.then-before-after.branch [
      | then-before-after-via-then-before-after w ↦ Or.inl w.if-before-after.true
      | then-before-after-via-else-before-after+then-has-2 w ↦
          circle (lawful_of s.lawful) c.args.before c.args.after (sym w.has-else-before-after.ensures ∙ w.if-has-2.true)
    ] in
    ((omega arith, omega arith), sym c.if-has.ensures, around, refl)

pub add_edge-requires : goal.add_edge-requires
add_edge-requires c = record {
  ends = (omega arith, omega arith);
  free = no_circle (lawful_of c.args.self.now.tables.lawful) c.args.before c.args.after c.if-before-after.false (sym c.if-has-2.ensures);
}

pub returns : goal.returns
returns c = (
  (omega arith, omega arith),
  sym c.if-has.ensures,
  no_circle (lawful_of c.args.self.now.tables.lawful) c.args.before c.args.after c.if-before-after.false (sym c.if-has-2.ensures),
  c.add_edge.ensures,
)
