-- How priorities of the two kinds that we ship compare. Assumes nothing.
use Rattle.std.specs.Prelude.{ℕ, Bool, ◌&&◌, ◌||◌, ◌==◌, nat_le, nat_lt}
use Rattle.task.specs.declared.priorities.Plain.{Plain}
use Rattle.task.specs.declared.priorities.Band.{Band}
use Rattle.task.specs.declared.priorities.Band.TheVariants.{Zero, One, Two, Three}
use Rattle.task.specs.declared.priorities.Banded.{Banded}

-- the smaller number is ahead
abbrev pub plain_not_after : Plain → Plain → Bool
plain_not_after a b = nat_le a.0 b.0

-- the number of a band
abbrev pub place : Band → ℕ
place Zero = 0
place One = 1
place Two = 2
place Three = 3

-- the smaller band is ahead, and within a band the smaller number
abbrev pub banded_not_after : Banded → Banded → Bool
banded_not_after a b = nat_lt (place a.band) (place b.band) || (place a.band == place b.band && nat_le a.number b.number)
