-- The tables are those of the task with its pieces ranked, which is lawful by the two laws of priorities.
use Rattle.theory.proofs.Lawfuls.{lawful_of}
use Rattle.task.proofs.Ranking.{ranked, ranked_lawful}
use Rattle.task.proofs.stages.Linking.rank.Goals as goal

pub invariant_of-self : goal.invariant_of-self
invariant_of-self g c =
    let s = c.args.self.now.tables in
    let r = c.ranking-table in
    record {
      few = s.few;
      lawful =
          ∣ ranked_lawful g.P.Priority.not_after g.met.P.Priority.total g.met.P.Priority.transitive s.pieces s.worst s.predecessors s.ancestors s.not_after r.result
          c.args.priorities.now
          c.if-priorities-self.false
          r.ensures.sets
          r.ensures.rest
          (lawful_of s.lawful) ∣₁;
    }

pub returns : goal.returns
returns g c =
    let s = c.args.self.now.tables in
    let r = c.ranking-table in (
      c.if-priorities-self.false,
      ranked g.P.Priority.not_after g.met.P.Priority.total g.met.P.Priority.transitive s.pieces s.worst s.predecessors s.ancestors s.not_after r.result
          c.args.priorities.now
          c.if-priorities-self.false
          r.ensures.sets
          r.ensures.rest,
    )
