-- The lowest member of a set: `trailing_zeros` finds it, and `s & (s - 1)` takes it out. Assumes nothing.
use Rattle.std.proofs.Common.{◌≡◌, ℕ, zero, suc, ◌-◌, ◌/◌, ◌%◌, ◌^◌, ◌<◌, Bool, true, false, not, ◌&&◌, eqb, sym, refl, ap, ◌∙◌, ap₂, ⊎_elim, pow-suc, arith}
use lib.Dec.{eqb-suc-suc}
use lib.Bits.{bit_and, and_step, and_self, and_le_r}
use lib.Count.{count_trailing_zeros, under}
use Rattle.std.proofs.lemmas.Bool.{eq-eqb, ne_eqb, eqb-true, eqb-false, cases_order, both_ways}
use Rattle.sets.specs.Sets.{member, Lowest}
use Rattle.sets.proofs.Members.{member_first, member_next, some_member}

lowest_odd : (s : ℕ) → s % 2 ≡ 1 → Lowest s 0
lowest_odd s e = (member_first s ∙ eq-eqb (s % 2) 1 e, λ k none. absurd (omega arith))

lowest_even : (s t : ℕ) → s % 2 ≡ 0 → Lowest (s / 2) t → Lowest s (suc t)
lowest_even s t e low = (member_next s t ∙ low.0, go)
  where
    go : (k : ℕ) → k < suc t → member s k ≡ false
    go zero lt = member_first s ∙ ne_eqb (s % 2) 1 (omega arith)
    go (suc k) lt = member_next s k ∙ low.1 k (omega arith)

-- `trailing_zeros` at w bits is the lowest member of a set that has one
pub lowest : (s w : ℕ) → s < 2 ^ w → 0 < s → (count_trailing_zeros w s < w) × Lowest s (count_trailing_zeros w s)
unfolding count_trailing_zeros
lowest s zero h p = absurd (omega arith)
lowest s (suc w) h p = go (s % 2) refl (omega arith) (λ e. let d = pow-suc 2 w in lowest (s / 2) w (omega arith) (omega arith))
  where
    go : (x : ℕ) → s % 2 ≡ x → x < 2
        → (s % 2 ≡ 0 → (count_trailing_zeros w (s / 2) < w) × Lowest (s / 2) (count_trailing_zeros w (s / 2)))
        → (under x (count_trailing_zeros w (s / 2)) < suc w) × Lowest s (under x (count_trailing_zeros w (s / 2)))
    go zero e lt rest = let r = rest e in (omega arith, lowest_even s _ e r.1)
    go (suc zero) e lt rest = (omega arith, lowest_odd s e)
    go (suc (suc x)) e lt rest = absurd (omega arith)

pub lowest_once : (s t u : ℕ) → Lowest s t → Lowest s u → t ≡ u
lowest_once s t u p q =
    ⊎_elim (λ e. e)
    (⊎_elim (λ lt. absurd (both_ways (member s t) (q.1 t lt) p.0)) (λ lt. absurd (both_ways (member s u) (p.1 u lt) q.0)))
    (cases_order t u)

kept : (x y : Bool) → y ≡ false → (x && not y) ≡ x
kept true y e = ap not e
kept false y e = refl

gone : (x y : Bool) → y ≡ true → (x && not y) ≡ false
gone true y e = ap not e
gone false y e = refl

drop_odd : (s : ℕ) → s % 2 ≡ 1 → (k : ℕ) → member (bit_and s (s - 1)) k ≡ (member s k && not (eqb 0 k))
drop_odd s odd zero = member_first (bit_and s (s - 1)) ∙ ne_eqb _ 1 (omega (arith, and_step s (s - 1))) ∙ sym (gone (member s 0) true refl)
drop_odd s odd (suc k) =
    let back : (s - 1) / 2 ≡ s / 2 = omega arith in
    let twin = ap (bit_and (s / 2)) back ∙ and_self (s / 2) in
    let half : bit_and s (s - 1) / 2 ≡ s / 2 = omega (arith, and_step s (s - 1)) in
    member_next _ k ∙ ap (λ x. member x k) half ∙ sym (member_next s k) ∙ sym (kept (member s (suc k)) (eqb 0 (suc k)) (ne_eqb 0 (suc k) (omega arith)))

drop_even : (s t : ℕ) → 0 < s → s % 2 ≡ 0 → ((k : ℕ) → member (bit_and (s / 2) (s / 2 - 1)) k ≡ (member (s / 2) k && not (eqb t k)))
    → (k : ℕ) → member (bit_and s (s - 1)) k ≡ (member s k && not (eqb (suc t) k))
drop_even s t p even rest zero =
    let none = member_first s ∙ ne_eqb (s % 2) 1 (omega arith) in
    member_first (bit_and s (s - 1)) ∙ ne_eqb _ 1 (omega (arith, and_step s (s - 1))) ∙ ap (λ x. x && not (eqb (suc t) 0)) (sym none)
drop_even s t p even rest (suc k) =
    let back : (s - 1) / 2 ≡ s / 2 - 1 = omega arith in
    let twin = ap (bit_and (s / 2)) back in
    let half : bit_and s (s - 1) / 2 ≡ bit_and (s / 2) (s / 2 - 1) = omega (arith, and_step s (s - 1)) in
    member_next _ k ∙ ap (λ x. member x k) half ∙ rest k ∙ ap₂ (λ x y. x && not y) (sym (member_next s k)) (sym (eqb-suc-suc t k))

-- `s & (s - 1)` has each member of s but the lowest
pub member_drop_lowest : (s t : ℕ) → Lowest s t → (k : ℕ) → member (bit_and s (s - 1)) k ≡ (member s k && not (eqb t k))
member_drop_lowest s zero low = drop_odd s (eqb-true (s % 2) 1 (sym (member_first s) ∙ low.0))
member_drop_lowest s (suc t) low =
    let none = eqb-false (s % 2) 1 (sym (member_first s) ∙ low.1 0 (omega arith)) in
    drop_even s t (some_member s (suc t) low.0) (omega arith)
    (member_drop_lowest (s / 2) t (sym (member_next s t) ∙ low.0, λ k lt. sym (member_next s k) ∙ low.1 (suc k) (omega arith)))

-- so a loop over the members ends
pub drop_lowest_less : (s : ℕ) → 0 < s → bit_and s (s - 1) < s
drop_lowest_less s p = omega (arith, and_le_r s (s - 1))
