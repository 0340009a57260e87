-- Pairs of numbers in order, the first number first. Assumes nothing.
use Rattle.std.specs.Prelude.{◌≡◌, ℕ, ◌<◌, ◌≤◌, true, ◌&&◌, ◌||◌, ◌⊎◌, ◌==◌, nat_le, nat_lt}
use Rattle.std.proofs.Common.{arith, inl, inr, ⊎_elim}
use Rattle.std.proofs.lemmas.Bool.{and_parts, and_from, or_cases, or_left, or_right, ltb-true, lt-ltb, eqb-true, eq-eqb, leb-true, le-leb}

abbrev Ordered : ℕ → ℕ → ℕ → ℕ → Type 0
Ordered p q m n = (p < q) ⊎ ((p ≡ q) × (m ≤ n))

ordered : (p q m n : ℕ) → (nat_lt p q || (p == q && nat_le m n)) ≡ true → Ordered p q m n
ordered p q m n h =
    ⊎_elim (λ l. inl (ltb-true p q l)) (λ e. let b = and_parts (p == q) (nat_le m n) e in inr (eqb-true p q b.0, leb-true m n b.1))
    (or_cases (nat_lt p q) (p == q && nat_le m n) h)

tested : (p q m n : ℕ) → Ordered p q m n → (nat_lt p q || (p == q && nat_le m n)) ≡ true
tested p q m n (inl l) = or_left (nat_lt p q) (p == q && nat_le m n) (lt-ltb p q l)
tested p q m n (inr e) = or_right (nat_lt p q) (p == q && nat_le m n) (and_from (p == q) (nat_le m n) (eq-eqb p q e.0) (le-leb m n e.1))

follows : (p q r k m n : ℕ) → Ordered p q k m → Ordered q r m n → Ordered p r k n
follows p q r k m n (inl x) (inl y) = inl (omega arith)
follows p q r k m n (inl x) (inr y) = inl (omega arith)
follows p q r k m n (inr x) (inl y) = inl (omega arith)
follows p q r k m n (inr x) (inr y) = inr (omega arith, omega arith)

pub in_order : (p q r k m n : ℕ) → (nat_lt p q || (p == q && nat_le k m)) ≡ true → (nat_lt q r || (q == r && nat_le m n)) ≡ true → (nat_lt p r || (p == r && nat_le k n)) ≡ true
in_order p q r k m n x y = tested p r k n (follows p q r k m n (ordered p q k m x) (ordered q r m n y))
