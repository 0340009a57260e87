-- What the operations on masks do to the members, and sets by their members alone. Assumes nothing.
use Rattle.std.proofs.Common.{◌≡◌, ℕ, suc, ◌+◌, ◌-◌, ◌/◌, ◌%◌, ◌^◌, ◌<◌, ◌≤◌, min, max, Bool, true, false, cond, not, ◌&&◌, ◌||◌, eqb, ltb, sym, refl, ap, ◌∙◌, ⊎_elim, arith, pow_pos}
use mathlib.Core.Bool.{or-false}
use lib.Arith.{bin_ind, le-zero}
use lib.Bits.{bit_and, bit_or, bit_xor}
use lib.Pow.{pow-lt}
use Rattle.std.proofs.lemmas.Bool.{cases_lt, cases_order, both_ways, and_parts, and_from, eqb-true, eqb-false, eq-eqb, ne_eqb, lt-ltb, le-ltb, ltb-true, false≢true, true≢false}
use Rattle.std.proofs.lemmas.Bool.Decides.{nat_tests as tells}
use Rattle.sets.specs.Sets.{member, within, apart, SetOf}
use Rattle.sets.proofs.Bits.{bit, bit_two, bit_next, bit_first, bit-and, bit-or, bit-xor, bit_above, bit-zero, bit-not, bit_one, two_bits}

-- ---- one member

-- membership as the number that counts it
pub cond_member : (s k : ℕ) → cond (member s k) 1 0 ≡ bit s k
cond_member s k = two_bits (λ x _. cond (eqb x 1) 1 0 ≡ x) refl refl refl refl (bit s k) 0 (bit_two s k) (omega arith)

pub member_first : (s : ℕ) → member s 0 ≡ eqb (s % 2) 1
member_first s = ap (λ x. eqb x 1) (bit_first s)

pub member_next : (s k : ℕ) → member s (suc k) ≡ member (s / 2) k
member_next s k = ap (λ x. eqb x 1) (bit_next s k)

pub member-zero : (k : ℕ) → member 0 k ≡ false
member-zero k = ap (λ x. eqb x 1) (bit-zero k)

-- a set of w bits has no member from w on
pub member_above : (s w k : ℕ) → s < 2 ^ w → w ≤ k → member s k ≡ false
member_above s w k h le = ap (λ x. eqb x 1) (bit_above s w k h le)

pub member_below : (s w k : ℕ) → s < 2 ^ w → member s k ≡ true → k < w
member_below s w k h m = ⊎_elim (λ lt. lt) (λ le. absurd (both_ways (member s k) (member_above s w k h le) m)) (cases_lt k w)

-- ---- the operations

-- `a & b`
pub member-and : (a b k : ℕ) → member (bit_and a b) k ≡ (member a k && member b k)
member-and a b k =
    ap (λ x. eqb x 1) (bit-and a b k)
    ∙ two_bits (λ x y. eqb (min x y) 1 ≡ (eqb x 1 && eqb y 1)) refl refl refl refl (bit a k) (bit b k) (bit_two a k) (bit_two b k)

-- `a | b`
pub member-or : (a b k : ℕ) → member (bit_or a b) k ≡ (member a k || member b k)
member-or a b k =
    ap (λ x. eqb x 1) (bit-or a b k)
    ∙ two_bits (λ x y. eqb (max x y) 1 ≡ (eqb x 1 || eqb y 1)) refl refl refl refl (bit a k) (bit b k) (bit_two a k) (bit_two b k)

-- `a ^ b`: in one of the two alone
pub member-xor : (a b k : ℕ) → member (bit_xor a b) k ≡ cond (member a k) (not (member b k)) (member b k)
member-xor a b k =
    ap (λ x. eqb x 1) (bit-xor a b k)
    ∙ two_bits (λ x y. eqb (bit_xor x y) 1 ≡ cond (eqb x 1) (not (eqb y 1)) (eqb y 1)) refl refl refl refl (bit a k) (bit b k) (bit_two a k) (bit_two b k)

-- `!s` at w bits
pub member-not : (s w k : ℕ) → s < 2 ^ w → k < w → member (2 ^ w - 1 - s) k ≡ not (member s k)
member-not s w k h lt =
    two_bits (λ x y. x + y ≡ 1 → eqb x 1 ≡ not (eqb y 1)) (λ e. absurd (omega arith)) (λ _. refl) (λ _. refl) (λ e. absurd (omega arith))
    (bit (2 ^ w - 1 - s) k) (bit s k) (bit_two (2 ^ w - 1 - s) k) (bit_two s k) (bit-not s w k h lt)

-- `1 << j`
pub member_one : (j k : ℕ) → member (2 ^ j) k ≡ eqb j k
member_one j k = ap (λ x. eqb x 1) (bit_one j k) ∙ tells (eqb j k)
  where
    tells : (b : Bool) → eqb (cond b 1 0) 1 ≡ b
    tells true = refl
    tells false = refl

-- `(1 << n) - 1`: the pieces below n
pub member_ones : (n k : ℕ) → member (2 ^ n - 1) k ≡ ltb k n
member_ones n k =
    ⊎_elim (λ lt.
    let whole : 2 ^ n - 1 ≡ 2 ^ n - 1 - 0 = omega arith in
    ap (λ m. member m k) whole ∙ member-not 0 n k (omega (arith, pow_pos n)) lt ∙ ap not (member-zero k) ∙ sym (lt-ltb k n lt))
    (λ le. member_above (2 ^ n - 1) n k (omega (arith, pow_pos n)) le ∙ sym (le-ltb k n le))
    (cases_lt k n)

-- below the smaller of two numbers is below both
pub below_first : (k m n : ℕ) → m ≤ n → ltb k m ≡ (ltb k m && ltb k n)
below_first k m n h = grind (arith, tells)

pub below_both : (k m n : ℕ) → n ≤ m → ltb k n ≡ (ltb k m && ltb k n)
below_both k m n h = grind (arith, tells)

-- so that the first n of 64 pieces are those below n
pub first_below : (n set : ℕ) → n ≤ 64 → SetOf 64 (λ k. ltb k n) set → (k : ℕ) → member set k ≡ ltb k n
first_below n set few first k = first k ∙ sym (below_both k 64 n few)

-- `a & !b` at w bits
pub member-minus : (a b w k : ℕ) → a < 2 ^ w → b < 2 ^ w → member (bit_and a (2 ^ w - 1 - b)) k ≡ (member a k && not (member b k))
member-minus a b w k ha hb =
    member-and a (2 ^ w - 1 - b) k
    ∙ ⊎_elim (λ lt. ap (λ x. member a k && x) (member-not b w k hb lt))
    (λ le. let none = member_above a w k ha le in ap (λ x. x && member (2 ^ w - 1 - b) k) none ∙ ap (λ x. x && not (member b k)) (sym none))
    (cases_lt k w)

-- `s | 1 << k`, where the piece is to be added
pub member_with : (s k j : ℕ) → member (bit_or s (2 ^ k)) j ≡ (member s j || eqb k j)
member_with s k j = member-or s (2 ^ k) j ∙ ap (λ b. member s j || b) (member_one k j)

-- `s & !(1 << k)` at w bits
pub member_without : (s k w j : ℕ) → s < 2 ^ w → k < w → member (bit_and s (2 ^ w - 1 - 2 ^ k)) j ≡ (member s j && not (eqb k j))
member_without s k w j h lt = member-minus s (2 ^ k) w j h (pow-lt lt) ∙ ap (λ x. member s j && not x) (member_one k j)

-- ---- sets by their members

pub no_members : (s : ℕ) → ((k : ℕ) → member s k ≡ false) → s ≡ 0
no_members =
    bin_ind (λ s. ((k : ℕ) → member s k ≡ false) → s ≡ 0) (λ _. refl)
    (λ s rest none. omega (arith, rest (λ k. sym (member_next s k) ∙ none (suc k)), eqb-false (s % 2) 1 (sym (member_first s) ∙ none 0)))

same_bit : (a b : ℕ) → eqb (a % 2) 1 ≡ eqb (b % 2) 1 → a % 2 ≡ b % 2
same_bit a b = two_bits (λ r s. eqb r 1 ≡ eqb s 1 → r ≡ s) (λ _. refl) (λ e. absurd (false≢true e)) (λ e. absurd (true≢false e)) (λ _. refl) (a % 2) (b % 2) (omega arith) (omega arith)

-- sets with the same members are the same number
pub same_members : (a b : ℕ) → ((k : ℕ) → member a k ≡ member b k) → a ≡ b
same_members =
    bin_ind (λ a. (b : ℕ) → ((k : ℕ) → member a k ≡ member b k) → a ≡ b) (λ b e. sym (no_members b (λ k. sym (e k) ∙ member-zero k)))
    (λ a rest b e.
    let low = same_bit a b (sym (member_first a) ∙ e 0 ∙ member_first b) in
    omega (arith, rest (b / 2) (λ k. sym (member_next a k) ∙ e (suc k) ∙ member_next b k)))

pub some_member : (s k : ℕ) → member s k ≡ true → 0 < s
some_member s k m = ⊎_elim (λ lt. lt) (λ le. absurd (both_ways (member s k) (ap (λ x. member x k) (le-zero le) ∙ member-zero k) m)) (cases_lt 0 s)

pub within_true : (a b : ℕ) → within a b ≡ true → (k : ℕ) → member a k ≡ true → member b k ≡ true
within_true a b e k h =
    (and_parts (member a k) (member b k) (sym (member-and a b k) ∙ ap (λ n. member n k) (eqb-true (bit_and a b) a e) ∙ h)).1

pub true_within : (a b : ℕ) → ((k : ℕ) → member a k ≡ true → member b k ≡ true) → within a b ≡ true
true_within a b h = eq-eqb (bit_and a b) a (same_members (bit_and a b) a (λ k. member-and a b k ∙ go (member a k) (member b k) (h k)))
  where
    go : (x y : Bool) → (x ≡ true → y ≡ true) → (x && y) ≡ x
    go true y h = h refl
    go false y h = refl

pub apart_true : (a b : ℕ) → apart a b ≡ true → (k : ℕ) → member a k ≡ true → member b k ≡ false
apart_true a b e k h = go (member a k) (member b k) (sym (member-and a b k) ∙ ap (λ n. member n k) (eqb-true (bit_and a b) 0 e) ∙ member-zero k) h
  where
    go : (x y : Bool) → (x && y) ≡ false → x ≡ true → y ≡ false
    go true y e h = e
    go false y e h = absurd (false≢true h)

pub true_apart : (a b : ℕ) → ((k : ℕ) → member a k ≡ true → member b k ≡ false) → apart a b ≡ true
true_apart a b h = eq-eqb (bit_and a b) 0 (no_members (bit_and a b) (λ k. member-and a b k ∙ go (member a k) (member b k) (h k)))
  where
    go : (x y : Bool) → (x ≡ true → y ≡ false) → (x && y) ≡ false
    go true y h = h refl
    go false y h = refl

-- ---- sets that a loop makes piece by piece

pub set_none : (p : ℕ → Bool) → SetOf 0 p 0
set_none p k = let b : ltb k 0 ≡ false = le-ltb k 0 (omega arith) in member-zero k ∙ sym (ap (λ x. x && p k) b)

one_more : (i j : ℕ) (p : ℕ → Bool) → ((ltb j i && p j) || (eqb i j && p i)) ≡ (ltb j (i + 1) && p j)
one_more i j p =
    ⊎_elim (λ e.
    let a : ltb j i ≡ false = le-ltb j i (omega arith) in
    let b : eqb i j ≡ true = eq-eqb i j (sym e) in
    let d : ltb j (i + 1) ≡ true = lt-ltb j (i + 1) (omega arith) in
    rw (a, b, d) (ap p (sym e)))
    (⊎_elim (λ l.
    let a : ltb j i ≡ true = lt-ltb j i l in
    let b : eqb i j ≡ false = ne_eqb i j (λ e. omega arith) in
    let d : ltb j (i + 1) ≡ true = lt-ltb j (i + 1) (omega arith) in
    rw (a, b, d) (or-false (p j)))
    (λ l.
    let a : ltb j i ≡ false = le-ltb j i (omega arith) in
    let b : eqb i j ≡ false = ne_eqb i j (λ e. omega arith) in
    let d : ltb j (i + 1) ≡ false = le-ltb j (i + 1) (omega arith) in
    rw (a, b, d) refl))
    (cases_order j i)

-- a turn of such a loop: piece i is added where it passes the test
pub set_more : (i s r : ℕ) (p : ℕ → Bool) (add : Bool) → SetOf i p s → add ≡ p i → ((j : ℕ) → member r j ≡ (member s j || (eqb i j && add))) → SetOf (i + 1) p r
set_more i s r p add h e w j = w j ∙ ap (λ b. b || (eqb i j && add)) (h j) ∙ ap (λ b. (ltb j i && p j) || (eqb i j && b)) e ∙ one_more i j p

-- the piece that comes next is not in it yet
pub set_here : (n r : ℕ) (p : ℕ → Bool) → SetOf n p r → member r n ≡ false
set_here n r p h = let b : ltb n n ≡ false = le-ltb n n (omega arith) in h n ∙ ap (λ x. x && p n) b

pub set_true : (n r : ℕ) (p : ℕ → Bool) → SetOf n p r → (k : ℕ) → member r k ≡ true → (k < n) × (p k ≡ true)
set_true n r p h k e = let q = and_parts (ltb k n) (p k) (sym (h k) ∙ e) in (ltb-true k n q.0, q.1)

pub true_set : (n r : ℕ) (p : ℕ → Bool) → SetOf n p r → (k : ℕ) → k < n → p k ≡ true → member r k ≡ true
true_set n r p h k l e = h k ∙ and_from (ltb k n) (p k) (lt-ltb k n l) e

pub set_false : (n r : ℕ) (p : ℕ → Bool) → SetOf n p r → (k : ℕ) → k < n → member r k ≡ false → p k ≡ false
set_false n r p h k l e = let b : ltb k n ≡ true = lt-ltb k n l in rw b at (sym (h k) ∙ e)
