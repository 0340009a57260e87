-- Interference sets as masks: their unions and volumes are those of the walks. Assumes nothing.
use Rattle.std.proofs.Common.{◌≡◌, ℕ, ◌+◌, ◌-◌, ◌^◌, ◌<◌, Bool, true, false, cond, not, ◌&&◌, ◌||◌, List, [], get_or, refl, ap, ◌∙◌, ap₂, arith}
use lib.Bits.{bit_and, bit_or, and_le_l}
use Rattle.std.proofs.lemmas.Bool.{lt-ltb}
use Rattle.sets.specs.Sets.{member}
use Rattle.sets.proofs.Members.{member-and, member-or, member-minus}
use Rattle.sets.proofs.Sums.{sum-or, sum_none}
use Rattle.theory.specs.Tasks.{Task}
use Rattle.theory.specs.Paths.{interferes, volume_of}
use Rattle.theory.specs.Inner.{touches, shares}
use Rattle.theory.proofs.Volumes.{volume_cong}
use Rattle.numerator.specs.Tables.{Tabled}

-- what meets both ends and not v, and what meets v: each once
split : (u v w : Bool) → (v || ((u && w) && not v)) ≡ (v || (u && w))
split u true w = refl
split true false true = refl
split true false false = refl
split false false w = refl

never : (u v w : Bool) → (v && ((u && w) && not v)) ≡ false
never true true true = refl
never true true false = refl
never false true w = refl
never u false w = refl

module _ (t : Task) (table : List ℕ) (tabled : Tabled t table) where
  -- the set of a piece, asked of a piece
  meets : (v x : ℕ) → v < t.pieces → x < t.pieces → member (get_or table v 0) x ≡ interferes t v x
  meets v x hv hx = tabled v hv x ∙ ap (λ b. b && interferes t v x) (lt-ltb x t.pieces hx)

  pub volume_alone : (v : ℕ) → v < t.pieces → volume_of t (member (get_or table v 0)) ≡ volume_of t (interferes t v)
  volume_alone v hv = volume_cong t _ _ (λ x hx. meets v x hv hx)

  pub volume_straight : (u w : ℕ) → u < t.pieces → w < t.pieces → volume_of t (member (bit_or (get_or table u 0) (get_or table w 0))) ≡ volume_of t (touches t u [] w)
  volume_straight u w hu hw =
      volume_cong t (member (bit_or (get_or table u 0) (get_or table w 0))) (touches t u [] w)
      (λ x hx. member-or (get_or table u 0) (get_or table w 0) x ∙ ap₂ ◌||◌ (meets u x hu hx) (meets w x hw hx))

  -- what meets v, with what meets both u and w but not v, is what two walks that join at v share
  pub volume_shared : (u v w : ℕ) → u < t.pieces → v < t.pieces → w < t.pieces → get_or table u 0 < 2 ^ 64 → get_or table v 0 < 2 ^ 64
      → volume_of t (interferes t v) + volume_of t (member (bit_and (bit_and (get_or table u 0) (get_or table w 0)) (2 ^ 64 - 1 - get_or table v 0))) ≡ volume_of t (shares t u v w)
  volume_shared u v w hu hv hw fu fv =
      let outer : ℕ → Bool = λ x. (interferes t u x && interferes t w x) && not (interferes t v x) in
      let masked : volume_of t (member (bit_and (bit_and (get_or table u 0) (get_or table w 0)) (2 ^ 64 - 1 - get_or table v 0))) ≡ volume_of t outer =
      volume_cong t _ outer (λ x hx.
      member-minus (bit_and (get_or table u 0) (get_or table w 0)) (get_or table v 0) 64 x (omega (arith, and_le_l (get_or table u 0) (get_or table w 0))) fv
      ∙ ap₂ (λ a b. a && not b) (member-and (get_or table u 0) (get_or table w 0) x ∙ ap₂ ◌&&◌ (meets u x hu hx) (meets w x hw hx)) (meets v x hv hx)) in
      let union : volume_of t (λ x. interferes t v x || outer x) ≡ volume_of t (shares t u v w) =
      volume_cong t _ (shares t u v w) (λ x _. split (interferes t u x) (interferes t v x) (interferes t w x)) in
      let none : volume_of t (λ x. interferes t v x && outer x) ≡ 0 =
      sum_none t.pieces _ (λ x _. ap (λ b. cond b (t.worst x) 0) (never (interferes t u x) (interferes t v x) (interferes t w x))) in
      omega (arith, sum-or t.pieces (interferes t v) outer t.worst)
