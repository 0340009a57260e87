-- The place is that of the definition, which lies within the room.
use Rattle.std.proofs.Common.{refl}
use Rattle.numerator.specs.Places.{place_of}
use Rattle.numerator.proofs.Placing.{place_within, place_few}
use Rattle.numerator.proofs.table.Table.place.Goals as goal

pub returns-then-w-self : goal.returns-then-w-self
unfolding place_of
returns-then-w-self c =
    let m = c.args.self.now in
    let u = c.if-u-self.true in
    let w = c.if-w-self.true in
    ((u, w), refl, place_within m.pieces c.args.u c.args.w u w, place_few m.pieces c.args.u c.args.w m.few u w)
