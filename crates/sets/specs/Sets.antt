-- Sets of pieces as numbers: bit k of a set, worth 2 to the power k, stands for piece k. Assumes nothing.
use Rattle.std.specs.Prelude.{◌≡◌, ℕ, zero, suc, ◌+◌, ◌/◌, ◌%◌, ◌^◌, ◌<◌, ◌≤◌, Bool, true, false, cond, not, ◌&&◌, ◌⊎◌, Some, None, Option, ◌==◌, bit_and, nat_lt}

-- piece k is in the set
abbrev pub member : ℕ → ℕ → Bool
member set k = (set / 2 ^ k % 2) == 1

-- the sum of f over the pieces below n
abbrev pub sum : ℕ → (ℕ → ℕ) → ℕ
sum zero f = zero
sum (suc n) f = sum n f + f n

-- how many of the pieces below n pass the test
abbrev pub count : ℕ → (ℕ → Bool) → ℕ
count n p = sum n (λ k. cond (p k) 1 0)

-- the sum of f over the members of the set; shut, so that no goal spells out 64 terms
unfoldable pub sum_over : ℕ → (ℕ → ℕ) → ℕ
sum_over set f = sum 64 (λ k. cond (member set k) (f k) 0)

-- how many pieces the set has; shut likewise
unfoldable pub size_of : ℕ → ℕ
size_of set = count 64 (member set)

-- n is the largest value of f over the pieces that pass the test, and 0 where none does: none is larger, and one is as large
pub record LargestWhere (p : ℕ → Bool) (f : ℕ → ℕ) (n : ℕ) : Type 0 where
  pub bounds : (k : ℕ) → p k ≡ true → f k ≤ n
  pub reached : (n ≡ 0) ⊎ ((k : ℕ) × (p k ≡ true) × (f k ≡ n))

-- r is the set of the pieces below n that pass the test
abbrev pub SetOf : ℕ → (ℕ → Bool) → ℕ → Type 0
SetOf n p r = (k : ℕ) → member r k ≡ (nat_lt k n && p k)

-- every piece of the one is in the other
abbrev pub within : ℕ → ℕ → Bool
within a b = bit_and a b == a

-- no piece of the one is in the other
abbrev pub apart : ℕ → ℕ → Bool
apart a b = bit_and a b == 0

-- ---- the pieces one after the other

-- piece k is the lowest of the set
abbrev pub Lowest : ℕ → ℕ → Type 0
Lowest s k = (member s k ≡ true) × ((j : ℕ) → j < k → member s j ≡ false)

-- r is the set without piece k
abbrev pub Without : ℕ → ℕ → ℕ → Type 0
Without s k r = (j : ℕ) → member r j ≡ (member s j && not (k == j))

-- the lowest piece is taken out of the set, or it has none
abbrev pub Takes : ℕ → Option ℕ → ℕ → Type 0
Takes s None r = (s ≡ 0) × (r ≡ s)
Takes s (Some k) r = (k < 64) × Lowest s k × Without s k r
