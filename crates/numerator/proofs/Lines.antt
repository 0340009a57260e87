-- Writing the cells of a line, a row or a column, piece by piece of a set, and line after line. Assumes nothing.
use Rattle.std.proofs.Common.{◌≡◌, ℕ, ◌+◌, Bool, true, false, ◌&&◌, ◌||◌, eqb, ltb, sym, refl, ap, ◌∙◌, ap₂, subst, arith}
use mathlib.Core.Bool.{and-false, and-or_distrib_left}
use Rattle.std.proofs.lemmas.Bool.{and_parts, eqb-true}
use Rattle.std.proofs.lemmas.Bool.Decides.{nat_tests}
use Rattle.sets.specs.Sets.{member, Without}
use Rattle.sets.proofs.Iterating.{passed, Within, passed_more, passed_all}
use Rattle.numerator.specs.Cells.{Wrote}
use Rattle.numerator.specs.declared.table.Table.{Table}
use Rattle.numerator.proofs.Placing.{wrote_same, wrote_join}

-- where a first test passes, the second matters
pub and_under : (p q r : Bool) → (p ≡ true → q ≡ r) → (p && q) ≡ (p && r)
and_under true q r h = h refl
and_under false q r h = refl

-- the numbers below w, and w
pub up_to : (b w : ℕ) (x : Bool) → (ltb b (w + 1) && x) ≡ ((ltb b w && x) || (eqb w b && x))
up_to b w true = grind (arith, nat_tests)
up_to b w false = and-false (ltb b (w + 1)) ∙ sym (ap₂ ◌||◌ (and-false (ltb b w)) (and-false (eqb w b)))

-- what holds of one pair, holds where a test says that a pair is that one
pub at_pair : (P : ℕ → ℕ → Type 0) (u w a b : ℕ) → P u w → eqb u a && eqb w b ≡ true → P a b
at_pair P u w a b p h =
    let both = and_parts (eqb u a) (eqb w b) h in
    subst (λ x. P x b) (eqb-true u a both.0) (subst (P u) (eqb-true w b both.1) p)

-- the cells (a, b) of the line, of which pick a b is in the set
module _ (line : ℕ → ℕ → Bool) (pick : ℕ → ℕ → ℕ) (set : ℕ) where
  -- those that have been passed, where the rest is to come
  abbrev gone : ℕ → ℕ → ℕ → Bool
  gone rest a b = line a b && passed set rest (pick a b)

  module _ {f : ℕ → ℕ → ℕ} where
    -- a turn writes the cell of one more piece of the set
    pub line_turn : {old cur new : Table} (rest next k u w value : ℕ) → Within rest set → member rest k ≡ true → Without rest k next
        → value ≡ f u w → ((a b : ℕ) → (line a b && eqb k (pick a b)) ≡ (eqb u a && eqb w b))
        → Wrote (gone rest) f old cur → Wrote (λ a b. eqb u a && eqb w b) (λ a b. value) cur new → Wrote (gone next) f old new
    line_turn rest next k u w value inside here without is cellwise before one =
        wrote_join before one (λ a b h. at_pair (λ x y. value ≡ f x y) u w a b is h)
        (λ a b. ap (λ x. line a b && x) (passed_more set rest next k inside here without (pick a b))
        ∙ and-or_distrib_left (line a b) (passed set rest (pick a b)) (eqb k (pick a b))
        ∙ ap (λ x. gone rest a b || x) (cellwise a b))

    pub line_end : {old cur : Table} (rest : ℕ) (q : ℕ → ℕ → Bool) → rest ≡ 0 → ((a b : ℕ) → (line a b && member set (pick a b)) ≡ q a b)
        → Wrote (gone rest) f old cur → Wrote q f old cur
    line_end rest q e same = wrote_same (λ a b. ap (λ x. line a b && x) (passed_all set rest e (pick a b)) ∙ same a b)
