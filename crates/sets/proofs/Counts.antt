-- How many pieces pass a test, how many a set has, and that `count_ones` says so. Assumes nothing.
use Rattle.std.proofs.Common.{◌≡◌, ℕ, zero, suc, ◌+◌, ◌/◌, ◌^◌, ◌<◌, ◌≤◌, Bool, true, false, cond, not, ◌&&◌, ◌||◌, eqb, sym, refl, ap, ◌∙◌, pow-suc, arith}
use lib.Bits.{bit_and, bit_or}
use lib.Count.{ones, ones_step, ones-ones}
use Rattle.std.proofs.lemmas.Bool.{both_ways, eqb-true}
use Rattle.sets.specs.Sets.{member, count, sum_over, size_of}
use Rattle.sets.proofs.Bits.{bit_first}
use Rattle.sets.proofs.Members.{cond_member, member_next}
use Rattle.sets.proofs.Sums.{sum_same, sum_mono, sum_strict, sum_add, sum_at, sum_over_none, sum_over-or, sum_over_without, cond_mono}

-- ---- how many of the pieces below n

pub count_same : (n : ℕ) (p q : ℕ → Bool) → ((k : ℕ) → k < n → p k ≡ q k) → count n p ≡ count n q
count_same n p q e = sum_same n (λ k. cond (p k) 1 0) (λ k. cond (q k) 1 0) (λ k l. ap (λ b. cond b 1 0) (e k l))

pub count_mono : (n : ℕ) (p q : ℕ → Bool) → ((k : ℕ) → p k ≡ true → q k ≡ true) → count n p ≤ count n q
count_mono n p q h = sum_mono n (λ k. cond (p k) 1 0) (λ k. cond (q k) 1 0) (λ k l. cond_mono (p k) (q k) 1 1 (h k) (omega arith))

pub count_all : (n : ℕ) → count n (λ k. true) ≡ n
count_all zero = refl
count_all (suc n) = let fewer = count_all n in omega arith

-- a test that passes wherever another does, and at one more piece, counts more
pub count_strict : (n : ℕ) (p q : ℕ → Bool) → ((k : ℕ) → p k ≡ true → q k ≡ true) → (j : ℕ) → j < n → p j ≡ false → q j ≡ true
    → count n p < count n q
count_strict n p q wider j l out into =
    sum_strict n (λ k. cond (p k) 1 0) (λ k. cond (q k) 1 0) (λ k m. cond_mono (p k) (q k) 1 1 (wider k) (omega arith)) j l
    (rw (out, into) (omega arith))

-- ---- how many a set has

-- as the sum of one for each member
pub size_of_sum : (set : ℕ) → size_of set ≡ sum_over set (λ _. 1)
unfolding size_of sum_over
size_of_sum set = refl

pub size_of-zero : size_of 0 ≡ 0
size_of-zero = size_of_sum 0 ∙ sum_over_none (λ _. 1)

pub size_same : (a b : ℕ) → ((k : ℕ) → member a k ≡ member b k) → size_of a ≡ size_of b
unfolding size_of
size_same a b e = count_same 64 (member a) (member b) (λ k _. e k)

-- there are 64 pieces
pub size_few : (set : ℕ) → size_of set ≤ 64
unfolding size_of
size_few set = omega (arith, count_mono 64 (member set) (λ _. true) (λ _ _. refl), count_all 64)

-- a part has no more pieces
pub size_mono : (a b : ℕ) → ((k : ℕ) → member a k ≡ true → member b k ≡ true) → size_of a ≤ size_of b
unfolding size_of
size_mono a b h = count_mono 64 (member a) (member b) h

-- those of a union, counted with those in both
pub size_of-or : (a b : ℕ) → size_of (bit_or a b) + size_of (bit_and a b) ≡ size_of a + size_of b
size_of-or a b = omega (arith, size_of_sum (bit_or a b), size_of_sum (bit_and a b), size_of_sum a, size_of_sum b, sum_over-or a b (λ _. 1))

-- one member, and the set without it
pub size_without : (s r k : ℕ) → k < 64 → member s k ≡ true → ((j : ℕ) → member r j ≡ (member s j && not (eqb k j))) → size_of s ≡ size_of r + 1
size_without s r k l m w = size_of_sum s ∙ sum_over_without s r k (λ _. 1) l m w ∙ ap (λ n. n + 1) (sym (size_of_sum r))

fresh : (m e one : Bool) → (e ≡ true → m ≡ false) → cond (m || (e && one)) 1 0 ≡ cond m 1 0 + cond e (cond one 1 0) 0
fresh true true one h = absurd (both_ways true (h refl) refl)
fresh true false one h = refl
fresh false true true h = refl
fresh false true false h = refl
fresh false false one h = refl

-- a piece that was not in the set is added, or is not
pub size_with : (a r k : ℕ) (one : Bool) → k < 64 → member a k ≡ false → ((j : ℕ) → member r j ≡ (member a j || (eqb k j && one))) → size_of r ≡ size_of a + cond one 1 0
unfolding size_of
size_with a r k one l out w =
    sum_same 64 (λ j. cond (member r j) 1 0) (λ j. cond (member a j) 1 0 + cond (eqb k j) (cond one 1 0) 0)
    (λ j _. ap (λ b. cond b 1 0) (w j) ∙ fresh (member a j) (eqb k j) one (λ e. ap (member a) (sym (eqb-true k j e)) ∙ out))
    ∙ sum_add 64 (λ j. cond (member a j) 1 0) (λ j. cond (eqb k j) (cond one 1 0) 0)
    ∙ ap (λ x. count 64 (member a) + x) (sum_at 64 (λ _. cond one 1 0) k l)

-- ---- `count_ones`

count_first : (n : ℕ) (p : ℕ → Bool) → count (suc n) p ≡ cond (p 0) 1 0 + count n (λ k. p (suc k))
count_first zero p = omega arith
count_first (suc n) p = let r = count_first n p in omega arith

ones_count : (w s : ℕ) → s < 2 ^ w → ones s ≡ count w (member s)
ones_count zero s h = let z : s ≡ 0 = omega arith in ap ones z ∙ ones-ones 0
ones_count (suc w) s h =
    let half : s / 2 < 2 ^ w = omega (arith, pow-suc 2 w) in
    let rest = ones_count w (s / 2) half in
    let moved = count_same w (member (s / 2)) (λ k. member s (suc k)) (λ k _. sym (member_next s k)) in
    let first = count_first w (member s) in
    omega (arith, ones_step s, cond_member s 0, bit_first s)

-- at 64 bits it is the number of members
pub ones_size : (s : ℕ) → s < 2 ^ 64 → ones s ≡ size_of s
unfolding size_of
ones_size s h = ones_count 64 s h
