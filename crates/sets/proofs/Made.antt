-- Arrays made by calls of a closure, one for each place, where a call leaves the closure as it was. Assumes nothing.
use Rattle.std.proofs.Common.{◌≡◌, ℕ, zero, suc, ◌+◌, ◌<◌, List, get_or, sym, subst, arith}
use Rattle.std.specs.Array.{IsFromFnResultFrom}
use denote.Param.Members.{Mut, Called}

module _ {F : Type 0} {g : Mut F (ℕ × Unit {0}) ℕ} (P : ℕ → ℕ → Type 0) (ys : List ℕ) where
  each : (n i : ℕ) (f : F) → ((k y : ℕ) (q : F) → Called g f (k, tt) y q → (q ≡ f) × P k y) → IsFromFnResultFrom g f ys i n
      → (k : ℕ) → k < n → P (i + k) (get_or ys (i + k) 0)
  each zero i f says made k h = absurd (omega arith)
  each (suc n) i f says made zero h =
      let said = says i made.1 made.0 made.3 in
      let here : i + 0 ≡ i = omega arith in
      subst (λ j. P j (get_or ys j 0)) (sym here) (subst (P i) (sym (made.2.1 0)) said.1)
  each (suc n) i f says made (suc k) h =
      let said = says i made.1 made.0 made.3 in
      let there : (i + 1) + k ≡ i + suc k = omega arith in
      subst (λ j. P j (get_or ys j 0)) there
      (each n (i + 1) made.0 (subst (λ q. (m y : ℕ) (r : F) → Called g q (m, tt) y r → (r ≡ q) × P m y) (sym said.0) says) made.4 k (omega arith))

  -- what each call says of its result holds at each place
  pub places : (n : ℕ) (f : F) → ((k y : ℕ) (q : F) → Called g f (k, tt) y q → (q ≡ f) × P k y) → IsFromFnResultFrom g f ys 0 n
      → (k : ℕ) → k < n → P k (get_or ys k 0)
  places n f says made k h = let e : 0 + k ≡ k = omega arith in subst (λ j. P j (get_or ys j 0)) e (each n 0 f says made k h)
