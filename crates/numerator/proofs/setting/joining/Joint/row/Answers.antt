-- Each turn writes the cell of u with one more piece that v leads to; what it goes by was not written before.
use Rattle.std.proofs.Common.{◌≡◌, ℕ, ◌+◌, ◌-◌, max, true, ◌&&◌, eqb, sym, ap, ◌∙◌, arith}
use Rattle.sets.proofs.Iterating.{within_more}
use Rattle.theory.proofs.Ancestors.{ancestor_ends}
use Rattle.task.proofs.Filed.{filed_lawful}
use Rattle.numerator.specs.Joints.{task_at}
use Rattle.numerator.proofs.Lines.{line_end}
use Rattle.numerator.proofs.Stepping.{entry_read, joined_is}
use Rattle.numerator.proofs.Rows.{row_stays, row_to, row_ready, row_turn, row_skips}
use Rattle.numerator.proofs.setting.joining.Joint.row.Goals as goal

pub returns-then-to-eq0 : goal.returns-then-to-eq0
returns-then-to-eq0 c =
    let j = c.args.self.now in
    row_stays j c.args.u c.requires.to c.args.table.now (sym c.get-to.ensures ∙ c.if-to-eq0.true)

pub loop-w-preserved-then-on-eq0 : goal.loop-w-preserved-then-on-eq0
loop-w-preserved-then-on-eq0 c =
    let j = c.args.self.now in
    let rest = c.loop-w.w-iterator.rest in
    let next = c.next.new.self.rest in
    let taken = c.in-Some.ensures.steps in
    let w = c.in-Some.w in
    record {
      inside = within_more j.behind rest next w c.loop-w.invariant.inside taken.1.0 taken.2;
      wrote = row_skips j c.args.u c.requires.to rest c.loop-w.invariant.wrote next w c.loop-w.invariant.inside taken.1.0 taken.2
          (sym c.get-on.ensures ∙ c.if-on-eq0.true);
    }

pub overflow_add-to : goal.overflow_add-to
overflow_add-to c =
    let j = c.args.self.now in
    let t = task_at j in
    let law = filed_lawful j.setting.now.task in
    let u = c.args.u in
    let w = c.in-Some.w in
    let on : t.ancestor j.v w ≡ true = sym (j.led w) ∙ c.loop-w.invariant.inside w c.in-Some.ensures.steps.1.0 in
    omega (
      arith,
      c.get-to.ensures,
      entry_read t c.args.table.now u j.v c.requires.to,
      (c.requires.ready u (ancestor_ends law u j.v c.requires.to).0).0,
      c.get-on.ensures,
      entry_read t c.loop-w.table j.v w on,
      (row_ready j u c.requires.to c.loop-w.w-iterator.rest c.loop-w.invariant.wrote c.requires.ready w (ancestor_ends law j.v w on).1).1,
    )

pub loop-w-preserved : goal.loop-w-preserved
loop-w-preserved c =
    let j = c.args.self.now in
    let law = filed_lawful j.setting.now.task in
    let cores = j.setting.now.cores in
    let u = c.args.u in
    let w = c.in-Some.w in
    let to = c.get-to.result in
    let on = c.get-on.result in
    let rest = c.loop-w.w-iterator.rest in
    let next = c.next.new.self.rest in
    let taken = c.in-Some.ensures.steps in
    let wrote = c.loop-w.invariant.wrote in
    let is = c.max.ensures ∙ ap (λ (x : ℕ). max c.get.result x) (c.saturating_sub-joined.ensures ∙ ap (λ (x : ℕ). (to + on) - x) c.twice.ensures) in
    record {
      inside = within_more j.behind rest next w c.loop-w.invariant.inside taken.1.0 taken.2;
      wrote = row_turn j u c.requires.to rest wrote next w c.max.result c.loop-w.invariant.inside taken.1.0 taken.2
          (joined_is law cores c.loop-w.table u j.v w c.requires.to (sym (j.led w) ∙ c.loop-w.invariant.inside w taken.1.0) to on c.get.result c.max.result
          (c.get-to.ensures ∙ sym (row_to j u c.requires.to rest wrote)) c.get-on.ensures c.get.ensures c.if-to-eq0.false c.if-on-eq0.false is)
          c.set.ensures;
    }

pub returns : goal.returns
returns c =
    let j = c.args.self.now in
    line_end (λ a b. eqb c.args.u a) (λ a b. b) j.behind c.loop-w.w-iterator.rest (λ a b. eqb c.args.u a && (task_at j).ancestor j.v b) c.in-None.ensures.steps.0
    (λ a b. ap (λ x. eqb c.args.u a && x) (j.led b)) c.loop-w.invariant.wrote
