-- The largest of the remaining chains of all pieces.
use Rattle.std.proofs.Common.{ℕ, ◌&&◌, ltb, get_or, sym, ap, ◌∙◌, arith}
use Rattle.sets.specs.Sets.{member}
use Rattle.sets.proofs.Members.{below_both}
use Rattle.sets.proofs.Bests.{largest_same}
use Rattle.theory.proofs.Remaining.{chain_from}
use Rattle.task.specs.Filing.{filed_task}
use Rattle.task.proofs.Filed.{filed_lawful}
use Rattle.chains.proofs.chain.Goals as goal

pub returns : goal.returns
returns c =
    let f = c.args.task.now in
    let n = (filed_task f).pieces in
    let lengths : ℕ → ℕ = λ k. get_or c.remaining-lengths.result k 0 in
    chain_from (filed_lawful f) lengths c.longest_of.result c.remaining-lengths.ensures.on_task
    (largest_same (member c.first.result) (λ k. ltb k n) lengths c.longest_of.result
    (λ k. below_both k 64 n (omega (arith, (filed_lawful f).few)) ∙ ap (λ (m : ℕ). ltb k 64 && ltb k m) (sym c.pieces.ensures) ∙ sym (c.first.ensures k)) c.longest_of.ensures)
