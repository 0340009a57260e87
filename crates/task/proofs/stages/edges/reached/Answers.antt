-- What each set holds is what leads to its piece.
use Rattle.std.proofs.Common.{◌≡◌, ℕ, ◌&&◌, ◌||◌, eqb, get_or, cond, ap, ◌∙◌, rules}
use lib.Bits.{bit_or}
use Rattle.sets.specs.Sets.{member}
use Rattle.task.proofs.Tables.{member_joined, swapped}
use Rattle.task.proofs.stages.edges.reached.Goals as goal

pub returns : goal.returns
returns c y h x =
    let said = c.table_of.ensures.pieces y h h in
    let old = c.args.ancestors.now in
    let b = c.args.after in
    let gained = c.with-gained.result in
    let is : get_or c.table_of.result y 0 ≡ cond (eqb y b || member (get_or old y 0) b) (bit_or (get_or old y 0) gained) (get_or old y 0) = search rules in
    ap (λ (s : ℕ). member s x) is ∙ member_joined (eqb y b || member (get_or old y 0) b) (get_or old y 0) gained x
    ∙ ap (λ m. member (get_or old y 0) x || ((eqb y b || member (get_or old y 0) b) && m))
    (c.with-gained.ensures.added c.requires.before x ∙ swapped (member (get_or old c.args.before 0) x) (eqb c.args.before x))
