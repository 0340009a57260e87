-- Each turn adds the edges to one more piece, of which there are at most 64.
use Rattle.std.proofs.Common.{◌≡◌, ℕ, ◌+◌, ◌<◌, ◌∙◌, sym, ap, subst, arith}
use Rattle.std.proofs.lemmas.List.{get_or-take, length-take-le}
use Rattle.sets.specs.Sets.{size_of}
use Rattle.task.specs.Filing.{edges_of}
use Rattle.task.proofs.Filed.{edges_below, edges_more, edges_few}
use Rattle.task.proofs.stages.Filed.edges.Goals as goal

one_more : (c : goal.After-size-edges) → edges_below c.args.self.now (c.loop-predecessors.predecessors-index + 1) ≡ edges_below c.args.self.now c.loop-predecessors.predecessors-index + c.size-edges.result
one_more c =
    let tables = c.args.self.now.tables in
    let i = c.loop-predecessors.predecessors-index in
    let on : i < tables.pieces = omega (arith, length-take-le tables.pieces tables.predecessors (omega arith)) in
    edges_more c.args.self.now i c.size-edges.result (c.size-edges.ensures ∙ ap size_of (get_or-take tables.pieces tables.predecessors i 0 on))

pub overflow_add-edges : goal.overflow_add-edges
overflow_add-edges c =
    let f = c.args.self.now in
    let old : c.loop-predecessors.edges ≡ edges_below f c.loop-predecessors.predecessors-index = c.loop-predecessors.invariant in
    let few = f.tables.few in
    omega (arith, one_more c, edges_few f (c.loop-predecessors.predecessors-index + 1), length-take-le f.tables.pieces f.tables.predecessors (omega arith))

pub loop-predecessors-preserved : goal.loop-predecessors-preserved
loop-predecessors-preserved c = ap (λ (n : ℕ). n + c.size-edges.result) c.loop-predecessors.invariant ∙ sym (one_more c)

pub returns : goal.returns
unfolding edges_of
returns c =
    let f = c.args.self.now in
    let end : c.loop-predecessors.predecessors-index ≡ f.tables.pieces = omega (arith, length-take-le f.tables.pieces f.tables.predecessors (omega arith)) in
    subst (λ (n : ℕ). c.loop-predecessors.edges ≡ edges_below f n) end c.loop-predecessors.invariant
