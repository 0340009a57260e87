-- The largest value over the pieces that pass a test, turn by turn. Assumes nothing.
use Rattle.std.proofs.Common.{◌≡◌, ℕ, ◌<◌, ◌≤◌, max, Bool, true, false, ◌||◌, eqb, ◌⊎◌, sym, refl, ◌∙◌, subst, inl, inr, ⊎_elim, arith}
use Rattle.std.proofs.lemmas.Bool.{both_ways, cases_lt, or_cases, or_left, or_right, eqb-true, eq-eqb}
use Rattle.sets.specs.Sets.{LargestWhere}

-- none passes
pub largest_none : (p : ℕ → Bool) (f : ℕ → ℕ) → ((k : ℕ) → p k ≡ false) → LargestWhere p f 0
largest_none p f none = record { bounds = λ k h. absurd (both_ways (p k) (none k) h); reached = inl refl }

-- tests that agree have the same largest
pub largest_same : (p q : ℕ → Bool) (f : ℕ → ℕ) (n : ℕ) → ((k : ℕ) → q k ≡ p k) → LargestWhere p f n → LargestWhere q f n
largest_same p q f n same l = record {
  bounds = λ k h. l.bounds k (sym (same k) ∙ h);
  reached = ⊎_elim (λ z. inl z) (λ w. inr (w.0, same w.0 ∙ w.1, w.2)) l.reached;
}

-- one more piece passes
pub largest_more : (p q : ℕ → Bool) (f : ℕ → ℕ) (n j m : ℕ) → LargestWhere p f n → ((k : ℕ) → q k ≡ (p k || eqb j k)) → m ≡ max n (f j) → LargestWhere q f m
largest_more p q f n j m l one e = record { bounds = bounds; reached = ⊎_elim new old (cases_lt n (f j)) }
  where
    bounds : (k : ℕ) → q k ≡ true → f k ≤ m
    bounds k h =
        ⊎_elim (λ was. omega (arith, e, l.bounds k was)) (λ is. subst (λ x. f x ≤ m) (eqb-true j k is) (omega (arith, e)))
        (or_cases (p k) (eqb j k) (sym (one k) ∙ h))

    new : n < f j → (m ≡ 0) ⊎ ((k : ℕ) × (q k ≡ true) × (f k ≡ m))
    new less = inr (j, one j ∙ or_right (p j) (eqb j j) (eq-eqb j j refl), omega (arith, e, less))

    old : f j ≤ n → (m ≡ 0) ⊎ ((k : ℕ) × (q k ≡ true) × (f k ≡ m))
    old more =
        ⊎_elim (λ z. inl (omega (arith, e, more, z))) (λ w. inr (w.0, one w.0 ∙ or_left (p w.0) (eqb j w.0) w.1, omega (arith, e, more, w.2)))
        l.reached
