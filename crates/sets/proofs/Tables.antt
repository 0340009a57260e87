-- Tables of numbers, one for each piece, that are written place by place. Assumes nothing.
use Rattle.std.proofs.Common.{◌≡◌, ℕ, ◌+◌, ◌<◌, false, cond, eqb, List, length, get_or, set, replicate, sym, ap, ◌∙◌, subst, ⊎_elim, arith, length-set, get_or-set_other, get_or-set_same}
use lib.ListN.{get_or-replicate, length-replicate}
use Rattle.std.proofs.lemmas.List.{get_or_past}
use Rattle.std.proofs.lemmas.Bool.{cases_lt, cases_eq, eq-eqb, ne_eqb}
use Rattle.sets.specs.Sets.{member}
use Rattle.sets.proofs.Members.{member-zero}

-- a new table of n places holds 0 everywhere, and as a table of sets no piece anywhere
pub zeros : (n i : ℕ) → get_or {A = ℕ} (replicate n 0) i 0 ≡ 0
zeros n i = ⊎_elim (λ l. get_or-replicate n i 0 0 l) (λ l. get_or_past (replicate n 0) i 0 (rw length-replicate l)) (cases_lt i n)

pub none_in_zeros : (n y x : ℕ) → member (get_or (replicate n 0) y 0) x ≡ false
none_in_zeros n y x = ap (λ s. member s x) (zeros n y) ∙ member-zero x

pub kept_length : (l : List ℕ) (i v n : ℕ) → length l ≡ n → length (set l i v) ≡ n
kept_length l i v n e = length-set l i v ∙ e

-- what a written table holds
pub set_at : (l : List ℕ) (i v k : ℕ) → i < length l → get_or (set l i v) k 0 ≡ cond (eqb k i) v (get_or l k 0)
set_at l i v k h =
    ⊎_elim (λ e. ap (λ n. get_or (set l i v) n 0) e ∙ get_or-set_same l i v 0 h ∙ ap (λ c. cond c v (get_or l k 0)) (sym (eq-eqb k i e)))
    (λ d. get_or-set_other l i k v 0 d ∙ ap (λ c. cond c v (get_or l k 0)) (sym (ne_eqb k i d)))
    (cases_eq k i)

-- what holds of every entry below i, and of the one written at i
pub set_below : (P : ℕ → ℕ → Type 0) (l : List ℕ) (i v : ℕ) → i < length l → ((k : ℕ) → k < i → P k (get_or l k 0)) → P i v → (k : ℕ) → k < i + 1 → P k (get_or (set l i v) k 0)
set_below P l i v h old new k lt =
    ⊎_elim (λ e. subst (λ n. P n (get_or (set l i v) n 0)) (sym e) (subst (P i) (sym (get_or-set_same l i v 0 h)) new))
    (λ d. subst (P k) (sym (get_or-set_other l i k v 0 d)) (old k (omega arith)))
    (cases_eq k i)
