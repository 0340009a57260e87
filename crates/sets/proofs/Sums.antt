-- Sums over the pieces below a number and over the members of a set, and a search among the pieces. Assumes nothing.
use Rattle.std.proofs.Common.{◌≡◌, ℕ, zero, suc, ◌+◌, ◌*◌, ◌<◌, ◌≤◌, Bool, true, false, cond, not, ◌&&◌, ◌||◌, eqb, ◌⊎◌, sym, refl, ap, ◌∙◌, subst, inl, inr, ⊎_elim, add-mul, add-one, arith}
use lib.Bits.{bit_and, bit_or}
use Rattle.std.proofs.lemmas.Bool.{both_ways, cases_lt, cases_Bool, eq-eqb, eqb-true, ne_eqb, cond-true, cond_both}
use Rattle.sets.specs.Sets.{member, sum, sum_over}
use Rattle.sets.proofs.Members.{member-and, member-or, member-zero}

pub at_or_below : (k n : ℕ) → k < suc n → (k < n) ⊎ (n ≡ k)
at_or_below k n h = ⊎_elim (λ l. inl l) (λ l. inr (omega arith)) (cases_lt k n)

-- a piece below n passes the test, or none does
pub find : (n : ℕ) (p : ℕ → Bool) → ((k : ℕ) × (k < n) × (p k ≡ true)) ⊎ ((k : ℕ) → k < n → p k ≡ false)
find zero p = inr (λ k h. absurd (omega arith))
find (suc n) p = go (find n p) (cases_Bool (p n))
  where
    go : ((k : ℕ) × (k < n) × (p k ≡ true)) ⊎ ((k : ℕ) → k < n → p k ≡ false) → (p n ≡ true) ⊎ (p n ≡ false)
        → ((k : ℕ) × (k < suc n) × (p k ≡ true)) ⊎ ((k : ℕ) → k < suc n → p k ≡ false)
    go (inl w) c = inl (w.0, omega arith, w.2)
    go (inr none) (inl e) = inl (n, omega arith, e)
    go (inr none) (inr e) = inr (λ k h. ⊎_elim (none k) (λ same. subst (λ x. p x ≡ false) same e) (at_or_below k n h))

-- ---- sums over the pieces below n

-- a turn of a loop that adds up
pub sum_more : (n : ℕ) (f : ℕ → ℕ) → sum (n + 1) f ≡ sum n f + f n
sum_more n f = ap (λ m. sum m f) (add-one n)

pub sum_same : (n : ℕ) (f g : ℕ → ℕ) → ((k : ℕ) → k < n → f k ≡ g k) → sum n f ≡ sum n g
sum_same zero f g h = refl
sum_same (suc n) f g h =
    let here = h n (omega arith) in
    let below = sum_same n f g (λ k l. h k (omega arith)) in
    omega arith

-- a sum grows with its terms
pub sum_mono : (n : ℕ) (f g : ℕ → ℕ) → ((k : ℕ) → k < n → f k ≤ g k) → sum n f ≤ sum n g
sum_mono zero f g h = omega arith
sum_mono (suc n) f g h =
    let here = h n (omega arith) in
    let below = sum_mono n f g (λ k l. h k (omega arith)) in
    omega arith

-- n terms of at most m each
pub sum_small : (n m : ℕ) (f : ℕ → ℕ) → ((k : ℕ) → k < n → f k ≤ m) → sum n f ≤ n * m
sum_small zero m f h = omega arith
sum_small (suc n) m f h =
    let here = h n (omega arith) in
    let below = sum_small n m f (λ k l. h k (omega arith)) in
    omega (arith, add-mul n 1 m)

pub sum_add : (n : ℕ) (f g : ℕ → ℕ) → sum n (λ k. f k + g k) ≡ sum n f + sum n g
sum_add zero f g = refl
sum_add (suc n) f g = let below = sum_add n f g in omega arith

pub sum_none : (n : ℕ) (f : ℕ → ℕ) → ((k : ℕ) → k < n → f k ≡ 0) → sum n f ≡ 0
sum_none zero f h = refl
sum_none (suc n) f h =
    let here = h n (omega arith) in
    let below = sum_none n f (λ k l. h k (omega arith)) in
    omega arith

-- where each term gains h, the sum gains the sum of h
pub sum_gain : (n : ℕ) (f h g : ℕ → ℕ) → ((k : ℕ) → k < n → f k + h k ≤ g k) → sum n f + sum n h ≤ sum n g
sum_gain n f h g each = let both = sum_mono n (λ k. f k + h k) g each in omega (arith, sum_add n f h)

-- a term is the sum of the terms at its place
pub sum_at : (n : ℕ) (f : ℕ → ℕ) (j : ℕ) → j < n → sum n (λ k. cond (eqb j k) (f k) 0) ≡ f j
sum_at zero f j l = absurd (omega arith)
sum_at (suc n) f j l =
    ⊎_elim (λ below.
    let away : cond (eqb j n) (f n) 0 ≡ 0 = ap (λ b. cond b (f n) 0) (ne_eqb j n (λ e. omega arith)) in
    let rest = sum_at n f j below in
    omega arith)
    (λ same.
    let here : cond (eqb j n) (f n) 0 ≡ f n = cond-true (eqb j n) (f n) 0 (eq-eqb j n (sym same)) in
    let none = sum_none n (λ k. cond (eqb j k) (f k) 0) (λ k m. ap (λ b. cond b (f k) 0) (ne_eqb j k (λ e. omega arith))) in
    let moved : f n ≡ f j = ap f same in
    omega arith)
    (at_or_below j n l)

-- a sum grows strictly where a term does
pub sum_strict : (n : ℕ) (f g : ℕ → ℕ) → ((k : ℕ) → k < n → f k ≤ g k) → (j : ℕ) → j < n → f j < g j → sum n f < sum n g
sum_strict n f g each j l more = omega (arith, sum_at n (λ k. 1) j l, sum_gain n f (λ k. cond (eqb j k) 1 0) g gain)
  where
    gain : (k : ℕ) → k < n → f k + cond (eqb j k) 1 0 ≤ g k
    gain k m =
        cond_both (eqb j k) 1 0 (λ x. f k + x ≤ g k) (λ e. omega (arith, subst (λ x. f x < g x) (eqb-true j k e) more))
        (λ e. omega (arith, each k m))

sum_longer : (n m : ℕ) (f : ℕ → ℕ) → n ≤ m → sum n f ≤ sum m f
sum_longer n zero f h = let e : 0 ≡ n = omega arith in subst (λ x. sum x f ≤ 0) e (omega arith)
sum_longer n (suc m) f h =
    ⊎_elim (λ l. let ih = sum_longer n m f (omega arith) in omega arith) (λ e. subst (λ x. sum x f ≤ sum (suc m) f) e (omega arith))
    (at_or_below n (suc m) (omega arith))

-- terms past m that are 0 add nothing
pub sum_short : (n m : ℕ) (f : ℕ → ℕ) → ((k : ℕ) → m ≤ k → f k ≡ 0) → sum n f ≤ sum m f
sum_short zero m f none = omega arith
sum_short (suc n) m f none =
    ⊎_elim (sum_longer (suc n) m f) (λ l. let ih = sum_short n m f none in omega (arith, none n l)) (cases_lt n m)

pub sum_cut : (n m : ℕ) (f : ℕ → ℕ) → m ≤ n → ((k : ℕ) → m ≤ k → f k ≡ 0) → sum n f ≡ sum m f
sum_cut n m f h none = let down = sum_short n m f none in let up = sum_longer m n f h in omega arith

-- ---- sums over the pieces that pass a test

pub cond_mono : (p q : Bool) (x y : ℕ) → (p ≡ true → q ≡ true) → x ≤ y → cond p x 0 ≤ cond q y 0
cond_mono true true x y h l = l
cond_mono true false x y h l = absurd (both_ways false refl (h refl))
cond_mono false q x y h l = omega arith

-- a sum over the pieces that pass a wider test, of larger terms, is no smaller
pub sum_where : (n : ℕ) (p q : ℕ → Bool) (f g : ℕ → ℕ) → ((k : ℕ) → k < n → p k ≡ true → q k ≡ true) → ((k : ℕ) → k < n → f k ≤ g k)
    → sum n (λ k. cond (p k) (f k) 0) ≤ sum n (λ k. cond (q k) (g k) 0)
sum_where n p q f g wider larger = sum_mono n _ _ (λ k l. cond_mono (p k) (q k) (f k) (g k) (wider k l) (larger k l))

once : (p q : Bool) (x : ℕ) → cond (p || q) x 0 + cond (p && q) x 0 ≡ cond p x 0 + cond q x 0
once true true x = refl
once true false x = refl
once false true x = omega arith
once false false x = refl

-- what passes one test or the other, counted with what passes both
pub sum-or : (n : ℕ) (p q : ℕ → Bool) (f : ℕ → ℕ)
    → sum n (λ k. cond (p k || q k) (f k) 0) + sum n (λ k. cond (p k && q k) (f k) 0) ≡ sum n (λ k. cond (p k) (f k) 0) + sum n (λ k. cond (q k) (f k) 0)
sum-or zero p q f = refl
sum-or (suc n) p q f = let rest = sum-or n p q f in omega (arith, once (p n) (q n) (f n))

-- ---- sums over the members of a set

pub sum_over_none : (f : ℕ → ℕ) → sum_over 0 f ≡ 0
unfolding sum_over
sum_over_none f = sum_none 64 (λ k. cond (member 0 k) (f k) 0) (λ k l. ap (λ b. cond b (f k) 0) (member-zero k))

-- a set with its members among those that pass a test
pub sum_over_where : (n : ℕ) (set : ℕ) (p : ℕ → Bool) (f : ℕ → ℕ) → n ≤ 64 → ((k : ℕ) → n ≤ k → member set k ≡ false) → ((k : ℕ) → k < n → member set k ≡ p k)
    → sum_over set f ≡ sum n (λ k. cond (p k) (f k) 0)
unfolding sum_over
sum_over_where n set p f few past same =
    sum_cut 64 n (λ k. cond (member set k) (f k) 0) few (λ k l. ap (λ b. cond b (f k) 0) (past k l))
    ∙ sum_same n (λ k. cond (member set k) (f k) 0) (λ k. cond (p k) (f k) 0) (λ k l. ap (λ b. cond b (f k) 0) (same k l))

-- union and intersection
pub sum_over-or : (a b : ℕ) (f : ℕ → ℕ) → sum_over (bit_or a b) f + sum_over (bit_and a b) f ≡ sum_over a f + sum_over b f
unfolding sum_over
sum_over-or a b f =
    let union = sum_same 64 (λ k. cond (member (bit_or a b) k) (f k) 0) (λ k. cond (member a k || member b k) (f k) 0) (λ k l. ap (λ x. cond x (f k) 0) (member-or a b k)) in
    let both = sum_same 64 (λ k. cond (member (bit_and a b) k) (f k) 0) (λ k. cond (member a k && member b k) (f k) 0) (λ k l. ap (λ x. cond x (f k) 0) (member-and a b k)) in
    subst (λ x. x + sum 64 (λ k. cond (member (bit_and a b) k) (f k) 0) ≡ sum 64 (λ k. cond (member a k) (f k) 0) + sum 64 (λ k. cond (member b k) (f k) 0)) (sym union)
    (subst (λ x. sum 64 (λ k. cond (member a k || member b k) (f k) 0) + x ≡ sum 64 (λ k. cond (member a k) (f k) 0) + sum 64 (λ k. cond (member b k) (f k) 0)) (sym both)
    (sum-or 64 (member a) (member b) f))

split : (m e : Bool) (x : ℕ) → (e ≡ true → m ≡ true) → cond m x 0 ≡ cond (m && not e) x 0 + cond e x 0
split true true x h = omega arith
split true false x h = omega arith
split false true x h = absurd (both_ways false refl (h refl))
split false false x h = refl

-- one member, and the set without it
pub sum_over_without : (s r k : ℕ) (f : ℕ → ℕ) → k < 64 → member s k ≡ true → ((j : ℕ) → member r j ≡ (member s j && not (eqb k j))) → sum_over s f ≡ sum_over r f + f k
unfolding sum_over
sum_over_without s r k f l m w =
    sum_same 64 (λ j. cond (member s j) (f j) 0) (λ j. cond (member r j) (f j) 0 + cond (eqb k j) (f j) 0)
    (λ j h. split (member s j) (eqb k j) (f j) (λ e. ap (member s) (sym (eqb-true k j e)) ∙ m) ∙ ap (λ b. cond b (f j) 0 + cond (eqb k j) (f j) 0) (sym (w j)))
    ∙ sum_add 64 (λ j. cond (member r j) (f j) 0) (λ j. cond (eqb k j) (f j) 0)
    ∙ ap (λ x. sum 64 (λ j. cond (member r j) (f j) 0) + x) (sum_at 64 f k l)

-- 64 terms of at most m each
pub sum_over_small : (set m : ℕ) (f : ℕ → ℕ) → ((k : ℕ) → k < 64 → f k ≤ m) → sum_over set f ≤ 64 * m
unfolding sum_over
sum_over_small set m f h = sum_small 64 m (λ k. cond (member set k) (f k) 0) (λ k l. cond_both (member set k) (f k) 0 (λ x. x ≤ m) (λ _. h k l) (λ _. omega arith))
