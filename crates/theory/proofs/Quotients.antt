-- Quotients, and a length's share of a whole. Assumes nothing.
use Rattle.std.proofs.Common.{ℕ, zero, suc, ◌+◌, ◌-◌, ◌*◌, ◌/◌, ◌<◌, ◌≤◌, mul-le-mul_left, div-mul-le_self, arith}
use Rattle.std.proofs.lemmas.Nat.{le-div}

-- a quotient grows with its numerator
pub div_mono : (m n k : ℕ) → 0 < k → m ≤ n → m / k ≤ n / k
div_mono m n k some l = le-div (m / k) n k some (omega (arith, div-mul-le_self m k))

-- and shrinks as its denominator grows
pub div_less : (m more fewer : ℕ) → 1 ≤ fewer → fewer ≤ more → m / more ≤ m / fewer
div_less m more fewer some l = le-div (m / more) m fewer some (omega (arith, div-mul-le_self m more, mul-le-mul_left (m / more) l))

-- c times a length, and what the length leaves of the whole, grow with the length
pub share : (c length chain rest whole : ℕ) → 1 ≤ c → length ≤ chain → chain ≤ whole → length + rest ≤ whole
    → c * length + rest ≤ c * chain + (whole - chain)
share zero length chain rest whole some l m both = absurd (omega arith)
share (suc c) length chain rest whole some l m both = omega (arith, mul-le-mul_left c l)
