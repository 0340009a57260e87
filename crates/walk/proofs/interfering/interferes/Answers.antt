-- What the questions say of two pieces, put together.
use Rattle.std.proofs.Common.{◌≡◌, Bool, true, false, not, ◌&&◌, ltb, eqb, refl, ◌∙◌}
use Rattle.std.proofs.lemmas.Bool.{lt-ltb, ne_eqb}
use Rattle.theory.proofs.Ancestors.{ancestor_ends}
use Rattle.task.specs.Filing.{filed_task}
use Rattle.task.proofs.Filed.{filed_lawful}
use Rattle.walk.proofs.interfering.interferes.Goals as goal

-- v and x are pieces, they are not the same, neither is an ancestor of the other, and the priority of x is not after v's
apart : (on_v on_x same above below not_after : Bool) → same ≡ false → (on_v && above) ≡ false → (on_x && below) ≡ false → (below ≡ true → on_x ≡ true)
    → (on_v && not_after) ≡ (on_v && ((not same && (not above && not below)) && not_after))
apart false on_x same above below not_after e f g ends = refl
apart true on_x true above below not_after e f g ends = cc
apart true on_x false true below not_after e f g ends = cc
apart true on_x false false false not_after e f g ends = refl
apart true on_x false false true not_after e f g ends = let on = ends refl in cc

pub returns : goal.returns
returns c =
    let t = filed_task c.args.task.now in
    let v = c.args.v in
    let x = c.args.x in
    let not_above : (ltb v t.pieces && t.ancestor x v) ≡ false = cc (c.ancestors.ensures.set x) in
    let not_below : (ltb x t.pieces && t.ancestor v x) ≡ false = cc (c.ancestors-else-has.ensures.set v) in
    let asked = apart (ltb v t.pieces) (ltb x t.pieces) (eqb x v) (t.ancestor x v) (t.ancestor v x) (t.not_after x v) (ne_eqb x v c.if-x-v.false) not_above not_below
    (λ e. lt-ltb x t.pieces (ancestor_ends (filed_lawful c.args.task.now) v x e).1) in
    c.has-2.ensures ∙ c.not_after.ensures x ∙ asked
