-- What runs has a tick left, and what it leaves is sound.
use Rattle.theory.proofs.Platforms.{sound_of}
use Rattle.platform.proofs.Holdings.{held_works_also, held_sound}
use Rattle.platform.proofs.held.Holding.work.Goals as goal

pub invariant_of-self-2 : goal.invariant_of-self-2
invariant_of-self-2 c =
    let b = c.args.self.now in
    let sound = held_sound b.worst b.ran b.ended c.args.set c.args.early c.running-runs.result c.one_short.result c.one_more.result
    c.running-runs.ensures c.one_short.ensures c.one_more.ensures (sound_of b.sound) in
    record { most = b.most; holds = b.holds; sound = ∣ sound ∣₁ }

pub returns : goal.returns
returns c =
    let b = c.args.self.now in
    let both = held_works_also b.worst b.ran b.ended c.args.set c.args.early c.running-runs.result c.one_short.result c.one_more.result
    c.running-runs.ensures c.one_short.ensures c.one_more.ensures in
    record { works = both.0; also = both.1 }
