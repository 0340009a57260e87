-- Each turn asks one more piece of the set, of which there are at most 64.
use Rattle.std.proofs.Common.{◌≡◌, ◌+◌, refl, ap, ◌∙◌, arith}
use Rattle.sets.proofs.Counts.{size_few, size_without}
use Rattle.sets.proofs.Iterating.{passed, passed_none, passed_more, passed_all, passed_not, within_none, within_more}
use Rattle.sets.proofs.Answering.{sum_none, sum_more, sum_all}
use Rattle.sets.proofs.over.sum_over.Goals as goal

pub loop-k-init : goal.loop-k-init
loop-k-init g c =
    let start : c.into_iter-k-iterator.result.rest ≡ c.args.set = ap (λ p. p.rest) c.into_iter-k-iterator.ensures.into_iter_gives ∙ c.pieces_of-k-items.ensures in
    (within_none c.args.set _ start, omega (arith, size_few c.into_iter-k-iterator.result.rest), sum_none (passed c.args.set c.into_iter-k-iterator.result.rest) (goal.F-post g c.args.value) (passed_none c.args.set _ start))

pub loop-k-preserved : goal.loop-k-preserved
loop-k-preserved g c =
    let taken = c.in-Some.ensures.steps in
    let set = c.args.set in
    let rest = c.loop-k.k-iterator.rest in
    let next = c.next.new.self.rest in
    let k = c.in-Some.k in
    let inside = c.loop-k.invariant.0 in (
      within_more set rest next k inside taken.1.0 taken.2,
      omega (arith, c.loop-k.invariant.1, size_without rest next k taken.0 taken.1.0 taken.2),
      sum_more (passed set rest) (passed set next) k (passed_more set rest next k inside taken.1.0 taken.2) (passed_not set rest k taken.1.0)
          (goal.F-post g c.args.value) c.loop-k.sum c.value.result (c.loop-k.sum + c.value.result) taken.0 c.loop-k.invariant.2 c.value.ensures refl,
    )

pub returns : goal.returns
returns g c =
    let rest = c.loop-k.k-iterator.rest in
    sum_all (passed c.args.set rest) c.args.set (goal.F-post g c.args.value) c.loop-k.sum (passed_all c.args.set rest c.in-None.ensures.steps.0) c.loop-k.invariant.2
