-- The bits of a number one by one, as numbers below two: what `&`, `|`, `^`, `!` and a shift do to them. Assumes nothing.
use Rattle.std.proofs.Common.{◌≡◌, ℕ, zero, suc, ◌+◌, ◌-◌, ◌/◌, ◌%◌, ◌^◌, ◌<◌, ◌≤◌, min, max, cond, eqb, ◌⊎◌, sym, refl, ap, ◌∙◌, inl, inr, lt_of_lt_of_le, pow-suc, zero-add, one-add, arith, lit<, pow_pos, pow_mono, shr-shr, shr_lt}
use lib.Dec.{eqb-suc-suc}
use lib.Bits.{bit_and, bit_or, bit_xor, and_shr, or_shr, and_step, or_step, xor_shr, xor_mod}
use lib.Pow.{shr_le}
use Rattle.std.proofs.lemmas.Bool.{ne_eqb}

-- the bit of s at k
abbrev pub bit : ℕ → ℕ → ℕ
bit s k = s / 2 ^ k % 2

pub bit_two : (s k : ℕ) → bit s k < 2
bit_two s k = omega arith

pub bit_next : (s k : ℕ) → bit s (suc k) ≡ bit (s / 2) k
bit_next s k = ap (λ x. x % 2) (ap (λ i. s / 2 ^ i) (sym (one-add k)) ∙ sym (shr-shr s 1 k))

pub bit_first : (s : ℕ) → bit s 0 ≡ s % 2
bit_first s = omega arith

pub bit-and : (a b k : ℕ) → bit (bit_and a b) k ≡ min (bit a k) (bit b k)
bit-and a b k = omega (arith, and_shr a b k, and_step (a / 2 ^ k) (b / 2 ^ k))

pub bit-or : (a b k : ℕ) → bit (bit_or a b) k ≡ max (bit a k) (bit b k)
bit-or a b k = omega (arith, or_shr a b k, or_step (a / 2 ^ k) (b / 2 ^ k))

pub bit-xor : (a b k : ℕ) → bit (bit_xor a b) k ≡ bit_xor (bit a k) (bit b k)
bit-xor a b k = ap (λ n. n % 2) (xor_shr a b k) ∙ xor_mod (a / 2 ^ k) (b / 2 ^ k) 1

pub bit_above : (s w k : ℕ) → s < 2 ^ w → w ≤ k → bit s k ≡ 0
bit_above s w k h le =
    let none : s < 2 ^ (0 + k) = rw zero-add (lt_of_lt_of_le h (pow_mono le)) in
    let small = shr_lt {n = s} 0 k none in omega arith

pub bit-zero : (k : ℕ) → bit 0 k ≡ 0
bit-zero k = omega (arith, shr_le 0 k)

-- `!s` at w bits turns each of them
pub bit-not : (s w k : ℕ) → s < 2 ^ w → k < w → bit (2 ^ w - 1 - s) k + bit s k ≡ 1
bit-not s zero k h lt = absurd (omega arith)
bit-not s (suc w) zero h lt = let e = pow-suc 2 w in omega (arith, pow_pos w)
bit-not s (suc w) (suc k) h lt =
    let e = pow-suc 2 w in
    let half : (2 ^ suc w - 1 - s) / 2 ≡ 2 ^ w - 1 - s / 2 = omega (arith, pow_pos w) in
    let small : s / 2 < 2 ^ w = omega arith in
    let rest = bit-not (s / 2) w k small (omega arith) in
    let same = bit_next (2 ^ suc w - 1 - s) k ∙ ap (λ x. bit x k) half in
    omega (arith, bit_next s k)

-- `1 << j` has the one bit j
pub bit_one : (j k : ℕ) → bit (2 ^ j) k ≡ cond (eqb j k) 1 0
bit_one zero zero = refl
bit_one zero (suc k) = bit_above 1 1 (suc k) (lit< tt) (omega arith) ∙ ap (λ b. cond b 1 0) (sym (ne_eqb 0 (suc k) (omega arith)))
bit_one (suc j) zero = let e = pow-suc 2 j in omega arith ∙ ap (λ b. cond b 1 0) (sym (ne_eqb (suc j) 0 (omega arith)))
bit_one (suc j) (suc k) =
    let e = pow-suc 2 j in
    let half : 2 ^ suc j / 2 ≡ 2 ^ j = omega arith in
    bit_next (2 ^ suc j) k ∙ ap (λ x. bit x k) half ∙ bit_one j k ∙ ap (λ b. cond b 1 0) (sym (eqb-suc-suc j k))

bit_cases : (n : ℕ) → n < 2 → (n ≡ 0) ⊎ (n ≡ 1)
bit_cases zero h = inl refl
bit_cases (suc zero) h = inr refl
bit_cases (suc (suc n)) h = absurd (omega arith)

by_bits : (P : ℕ → ℕ → Type 0) → P 0 0 → P 0 1 → P 1 0 → P 1 1 → (r s : ℕ) → (r ≡ 0) ⊎ (r ≡ 1) → (s ≡ 0) ⊎ (s ≡ 1) → P r s
by_bits P a b c d r s (inl e) (inl f) = rw (e, f) a
by_bits P a b c d r s (inl e) (inr f) = rw (e, f) b
by_bits P a b c d r s (inr e) (inl f) = rw (e, f) c
by_bits P a b c d r s (inr e) (inr f) = rw (e, f) d

-- what holds of the four pairs of bits holds of any two
pub two_bits : (P : ℕ → ℕ → Type 0) → P 0 0 → P 0 1 → P 1 0 → P 1 1 → (r s : ℕ) → r < 2 → s < 2 → P r s
two_bits P a b c d r s h k = by_bits P a b c d r s (bit_cases r h) (bit_cases s k)
