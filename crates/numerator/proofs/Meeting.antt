-- Parallel pieces and interference sets as masks. Assumes nothing.
use Rattle.std.proofs.Common.{◌≡◌, ℕ, ◌-◌, ◌^◌, ◌<◌, ◌≤◌, Bool, true, false, not, ◌&&◌, ◌||◌, eqb, ltb, sym, refl, ap, ◌∙◌, ap₂, arith}
use mathlib.Core.Bool.{and_assoc}
use lib.Bits.{bit_and, bit_or}
use Rattle.std.proofs.lemmas.Bool.{eqb-true, eq-eqb}
use Rattle.sets.specs.Sets.{member, SetOf}
use Rattle.sets.proofs.Members.{member-and, member-or, member-minus, below_both}
use Rattle.theory.specs.Tasks.{Task}
use Rattle.theory.specs.Paths.{parallel, interferes}
use Rattle.theory.proofs.Tests.{same_test}
use Rattle.task.specs.Filing.{Related}
use Rattle.task.proofs.Filed.{related_at}

-- none of three tests
none_of : (a d e : Bool) → not ((a || d) || (e && true)) ≡ (not e && (not a && not d))
none_of true d true = refl
none_of true d false = refl
none_of false true true = refl
none_of false true false = refl
none_of false false true = refl
none_of false false false = refl

either_way : (x v : ℕ) → eqb v x ≡ eqb x v
either_way x v = same_test (eqb v x) (eqb x v) (λ e. eq-eqb x v (sym (eqb-true v x e))) (λ e. eq-eqb v x (sym (eqb-true x v e)))

module _ (t : Task) (v : ℕ) (on_task : v < t.pieces) where
  -- all pieces but v, what leads to it and what it leads to
  pub parallel_set : (n all before behind related : ℕ) → n ≡ t.pieces → t.pieces ≤ 64 → all < 2 ^ 64 → related < 2 ^ 64 → SetOf 64 (λ k. ltb k n) all
      → Related t t.ancestor v before → Related t (λ x y. t.ancestor y x) v behind
      → ((j : ℕ) → member related j ≡ (member (bit_or before behind) j || (eqb v j && true)))
      → SetOf t.pieces (λ x. parallel t x v) (bit_and all (2 ^ 64 - 1 - related))
  parallel_set n all before behind related e few fits_all fits_related whole is_before is_behind added x =
      member-minus all related 64 x fits_all fits_related
      ∙ ap₂ (λ a b. a && not b) (whole x ∙ sym (below_both x 64 n (omega (arith, e))) ∙ ap (ltb x) e)
      (added x ∙ ap (λ b. b || (eqb v x && true)) (member-or before behind x
      ∙ ap₂ ◌||◌ (related_at t t.ancestor v before on_task is_before x) (related_at t (λ x y. t.ancestor y x) v behind on_task is_behind x)))
      ∙ ap (λ b. ltb x t.pieces && b) (none_of (t.ancestor x v) (t.ancestor v x) (eqb v x) ∙ ap (λ b. not b && (not (t.ancestor x v) && not (t.ancestor v x))) (either_way x v))

  -- those of them that are not after v
  pub interference_set : (beside ahead : ℕ) → SetOf t.pieces (λ x. parallel t x v) beside → Related t t.not_after v ahead
      → SetOf t.pieces (interferes t v) (bit_and beside ahead)
  interference_set beside ahead is_beside is_ahead x =
      member-and beside ahead x ∙ ap₂ ◌&&◌ (is_beside x) (related_at t t.not_after v ahead on_task is_ahead x)
      ∙ and_assoc (ltb x t.pieces) (parallel t x v) (t.not_after x v)
