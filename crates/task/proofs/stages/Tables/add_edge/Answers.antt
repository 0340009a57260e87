-- With one more edge the tables are those of the task with that edge, which is lawful.
use Rattle.std.proofs.Common.{◌≡◌, ◌<◌, length, arith}
use Rattle.theory.proofs.Lawfuls.{lawful_of}
use Rattle.task.proofs.Tables.{reached_all}
use Rattle.task.proofs.Joining.{linked_of, linked_lawful}
use Rattle.task.proofs.stages.Tables.add_edge.Goals as goal

pub invariant_of-self : goal.invariant_of-self
invariant_of-self c =
    let s = c.args.self.now in
    let a = c.args.before in
    let b = c.args.after in
    let law = lawful_of s.lawful in
    let room : b < length s.predecessors = omega arith in
    let old : length s.ancestors ≡ 64 = omega arith in
    let new : length c.reached-ancestors.result ≡ 64 = omega arith in
    record {
      few = s.few;
      lawful =
          ∣ linked_lawful law a b c.requires.ends c.requires.free
          (linked_of s.pieces s.worst s.predecessors s.ancestors c.reached-ancestors.result s.not_after a b c.with.result room (c.with.ensures.added (omega arith)))
          (reached_all s.ancestors c.reached-ancestors.result a b old new (omega arith) c.reached-ancestors.ensures) ∣₁;
    }
