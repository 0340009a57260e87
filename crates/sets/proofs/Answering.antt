-- Pieces that are asked one after the other: what one more of them adds, and what is known where only one thing can be answered of
-- each. Assumes nothing.
use Rattle.std.proofs.Common.{◌≡◌, ℕ, ◌+◌, ◌<◌, ◌≤◌, max, Bool, true, false, cond, ◌&&◌, ◌||◌, eqb, ◌⊎◌, sym, refl, ap, ◌∙◌, subst, inl, inr, ⊎_elim, arith}
use mathlib.Core.Bool.{and-true, and-false, or-false}
use Rattle.std.proofs.lemmas.Bool.{both_ways, cases_Bool, cases_lt, or_left, or_right, or_parts, eqb-true, eq-eqb}
use Rattle.sets.specs.Sets.{member, sum, size_of, sum_over, LargestWhere}
use Rattle.sets.specs.Over.{LargestAnswer, SumAnswer}
use Rattle.sets.specs.Levels.{level_of, BySize}
use Rattle.sets.specs.declared.levels.Levelled.{Levelled}
use Rattle.sets.proofs.Sums.{sum_none as sum_zero, sum_same, sum_add, sum_at}

split : (p e : Bool) (x v : ℕ) → (e ≡ true → p ≡ false) → cond (p || e) (cond e v x) 0 ≡ cond p x 0 + cond e v 0
split true true x v h = absurd (both_ways true (h refl) refl)
split true false x v h = omega arith
split false true x v h = omega arith
split false false x v h = omega arith

-- the sum of f over the pieces that pass the test; shut, so that no goal spells out 64 terms
unfoldable pub sum_where : (ℕ → Bool) → (ℕ → ℕ) → ℕ
sum_where p f = sum 64 (λ k. cond (p k) (f k) 0)

-- so far n is the sum of the numbers that were answered, one of each piece that passes the test
pub record SumSoFar (p : ℕ → Bool) (answer : ℕ → ℕ → Type 0) (n : ℕ) : Type 0 where
  pub value : ℕ → ℕ
  pub asked : (k : ℕ) → p k ≡ true → answer k (value k)
  pub adds : n ≡ sum_where p value

-- at first no piece has been asked
pub sum_none : (p : ℕ → Bool) (answer : ℕ → ℕ → Type 0) → ((k : ℕ) → p k ≡ false) → SumSoFar p answer 0
unfolding sum_where
sum_none p answer none = record {
  value = λ _. 0;
  asked = λ k h. absurd (both_ways (p k) (none k) h);
  adds = sym (sum_zero 64 (λ k. cond (p k) 0 0) (λ k _. ap (λ b. cond b 0 0) (none k)));
}

-- at last all of the set have
pub sum_all : (p : ℕ → Bool) (set : ℕ) (answer : ℕ → ℕ → Type 0) (n : ℕ) → ((k : ℕ) → p k ≡ member set k) → SumSoFar p answer n → SumAnswer set answer n
unfolding sum_where sum_over
sum_all p set answer n same s = record {
  value = s.value;
  asked = λ k h. s.asked k (same k ∙ h);
  adds = s.adds ∙ sum_same 64 (λ k. cond (p k) (s.value k) 0) (λ k. cond (member set k) (s.value k) 0) (λ k _. ap (λ b. cond b (s.value k) 0) (same k));
}

-- piece j is asked, which was not before
module _ (p q : ℕ → Bool) (j : ℕ) (one : (k : ℕ) → q k ≡ (p k || eqb j k)) (new : p j ≡ false) where
  -- it is piece j, or one that was asked before
  either : (P : ℕ → Type 0) → P j → ((k : ℕ) → p k ≡ true → eqb j k ≡ false → P k) → (k : ℕ) → q k ≡ true → P k
  either P here before k h =
      ⊎_elim (λ e. subst P (eqb-true j k e) here)
      (λ e. before k (sym (or-false (p k)) ∙ ap (λ b. p k || b) (sym e) ∙ sym (one k) ∙ h) e)
      (cases_Bool (eqb j k))

  neither : (k : ℕ) → q k ≡ false → (p k ≡ false) × (eqb j k ≡ false)
  neither k h = or_parts (p k) (eqb j k) (sym (one k) ∙ h)

  same : eqb j j ≡ true
  same = eq-eqb j j refl

  pub largest_more : (answer : ℕ → ℕ → Type 0) (n r m : ℕ) → LargestAnswer p answer n → answer j r → m ≡ max r n → LargestAnswer q answer m
  largest_more answer n r m old said e = record {
    bounds = either (λ k. (x : ℕ) × answer k x × (x ≤ m)) (r, said, omega (arith, e)) (λ k h _. let a = old.bounds k h in (a.0, a.1, omega (arith, e, a.2)));
    reached = ⊎_elim top before (cases_lt n r);
  }
    where
      top : n < r → (m ≡ 0) ⊎ ((k : ℕ) × (q k ≡ true) × answer k m)
      top less = let is : r ≡ m = omega (arith, e, less) in inr (j, one j ∙ or_right (p j) (eqb j j) same, subst (answer j) is said)

      before : r ≤ n → (m ≡ 0) ⊎ ((k : ℕ) × (q k ≡ true) × answer k m)
      before more =
          let is : n ≡ m = omega (arith, e, more) in
          ⊎_elim (λ z. inl (omega (arith, is, z))) (λ w. inr (w.0, one w.0 ∙ or_left (p w.0) (eqb j w.0) w.1, subst (answer w.0) is w.2)) old.reached

  pub sum_more : (answer : ℕ → ℕ → Type 0) (n r m : ℕ) → j < 64 → SumSoFar p answer n → answer j r → m ≡ n + r → SumSoFar q answer m
  unfolding sum_where
  sum_more answer n r m lt old said e = record {
    value = λ k. cond (eqb j k) r (old.value k);
    asked = either (λ k. answer k (cond (eqb j k) r (old.value k))) (subst (λ b. answer j (cond b r (old.value j))) (sym same) said)
        (λ k h f. subst (λ b. answer k (cond b r (old.value k))) (sym f) (old.asked k h));
    adds = e ∙ ap (λ x. x + r) old.adds ∙ sym adds;
  }
    where
      adds : sum 64 (λ k. cond (q k) (cond (eqb j k) r (old.value k)) 0) ≡ sum 64 (λ k. cond (p k) (old.value k) 0) + r
      adds =
          sum_same 64 (λ k. cond (q k) (cond (eqb j k) r (old.value k)) 0) (λ k. cond (p k) (old.value k) 0 + cond (eqb j k) r 0)
          (λ k _. ap (λ b. cond b (cond (eqb j k) r (old.value k)) 0) (one k) ∙ split (p k) (eqb j k) (old.value k) r (λ f. subst (λ x. p x ≡ false) (eqb-true j k f) new))
          ∙ sum_add 64 (λ k. cond (p k) (old.value k) 0) (λ k. cond (eqb j k) r 0)
          ∙ ap (λ x. sum 64 (λ k. cond (p k) (old.value k) 0) + x) (sum_at 64 (λ _. r) j lt)

  pub size_more : (answer : ℕ → ℕ → Type 0) (set level : ℕ) (old now : Levelled) → BySize p answer old → answer j set → level ≡ size_of set
      → ((l k : ℕ) → member (level_of now l) k ≡ (member (level_of old l) k || (eqb level l && eqb j k))) → BySize q answer now
  size_more answer set level old now by said is put = record {
    asked = either (λ k. (s : ℕ) × answer k s × ((l : ℕ) → member (level_of now l) k ≡ eqb (size_of s) l)) (set, said, here)
        (λ k h e. let a = by.asked k h in (a.0, a.1, λ l. kept k e l ∙ a.2 l));
    others = λ k h l. kept k (neither k h).1 l ∙ by.others k (neither k h).0 l;
  }
    where
      kept : (k : ℕ) → eqb j k ≡ false → (l : ℕ) → member (level_of now l) k ≡ member (level_of old l) k
      kept k e l = put l k ∙ ap (λ b. member (level_of old l) k || (eqb level l && b)) e ∙ ap (λ b. member (level_of old l) k || b) (and-false (eqb level l)) ∙ or-false (member (level_of old l) k)

      here : (l : ℕ) → member (level_of now l) j ≡ eqb (size_of set) l
      here l =
          put l j ∙ ap (λ b. b || (eqb level l && eqb j j)) (by.others j new l) ∙ ap (λ b. eqb level l && b) same ∙ and-true (eqb level l)
          ∙ ap (λ n. eqb n l) is

-- ---- where only one thing can be answered of each piece

pub largest_is : {p : ℕ → Bool} {answer : ℕ → ℕ → Type 0} (f : ℕ → ℕ) (n : ℕ) → LargestAnswer p answer n
    → ((k r : ℕ) → p k ≡ true → answer k r → r ≡ f k) → LargestWhere p f n
largest_is f n l only = record {
  bounds = λ k h. let a = l.bounds k h in omega (arith, only k a.0 h a.1, a.2);
  reached = ⊎_elim (λ z. inl z) (λ w. inr (w.0, w.1, sym (only w.0 n w.1 w.2))) l.reached;
}

once : (b : Bool) (x y : ℕ) → (b ≡ true → x ≡ y) → cond b x 0 ≡ cond b y 0
once true x y h = h refl
once false x y h = refl

pub sum_is : {answer : ℕ → ℕ → Type 0} (set n : ℕ) (f : ℕ → ℕ) → SumAnswer set answer n
    → ((k r : ℕ) → member set k ≡ true → answer k r → r ≡ f k) → n ≡ sum_over set f
unfolding sum_over
sum_is set n f s only =
    s.adds ∙ sum_same 64 (λ k. cond (member set k) (s.value k) 0) (λ k. cond (member set k) (f k) 0)
    (λ k _. once (member set k) (s.value k) (f k) (λ h. only k (s.value k) h (s.asked k h)))
