-- Tests as booleans: two that pass together, one that cannot pass, and one at each number below another. Assumes nothing.
use Rattle.std.proofs.Common.{◌≡◌, ℕ, zero, suc, ◌<◌, Bool, true, false, ◌||◌, sym, refl, subst, ⊎_elim, arith}
use Rattle.std.proofs.lemmas.Bool.{or_parts, or_from}
use Rattle.sets.proofs.Sums.{at_or_below}
use Rattle.theory.specs.Listing.{any}

-- a test that cannot pass is false
pub is_false : (b : Bool) → (b ≡ true → ⊥) → b ≡ false
is_false true h = absurd (h refl)
is_false false h = refl

-- two tests that pass together are one
pub same_test : (a b : Bool) → (a ≡ true → b ≡ true) → (b ≡ true → a ≡ true) → a ≡ b
same_test true b f g = sym (f refl)
same_test false true f g = g refl
same_test false false f g = refl

-- of five tests one passes, and the same with the middle one told twice
pub or_twice : (a b c d e : Bool) → (a || ((b || (c || d)) || e)) ≡ ((a || (b || c)) || (c || (d || e)))
or_twice true b c d e = refl
or_twice false true c d e = refl
or_twice false false true d e = refl
or_twice false false false d e = refl

-- none below n passes the test, as a number and as a fact
pub any_none : (n : ℕ) (p : ℕ → Bool) → any n p ≡ false → (k : ℕ) → k < n → p k ≡ false
any_none zero p e k l = absurd (omega arith)
any_none (suc n) p e k l =
    let both = or_parts (p n) (any n p) e in
    ⊎_elim (any_none n p both.1 k) (λ same. subst (λ x. p x ≡ false) same both.0) (at_or_below k n l)

pub none_any : (n : ℕ) (p : ℕ → Bool) → ((k : ℕ) → k < n → p k ≡ false) → any n p ≡ false
none_any zero p h = refl
none_any (suc n) p h = or_from (p n) (any n p) (h n (omega arith)) (none_any n p (λ k l. h k (omega arith)))
