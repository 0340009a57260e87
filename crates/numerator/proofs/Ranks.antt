-- How many pieces are not after a piece: a piece of smaller or equal rank is not after it. Assumes nothing.
use Rattle.std.proofs.Common.{◌≡◌, ℕ, ◌<◌, ◌≤◌, true, false, refl, ⊎_elim, arith}
use Rattle.std.proofs.lemmas.Bool.{cases_Bool}
use Rattle.sets.specs.Sets.{size_of}
use Rattle.sets.proofs.Counts.{count_all, count_mono, count_strict}
use Rattle.theory.specs.Tasks.{Task, Lawful}
use Rattle.theory.proofs.Orders.{other_way}
use Rattle.task.specs.Filing.{Related}
use Rattle.task.proofs.Filed.{size_related}
use Rattle.numerator.specs.Settings.{rank}

-- at most all 64
pub rank_few : (t : Task) (v : ℕ) → rank t v ≤ 64
unfolding rank
rank_few t v = omega (arith, count_all 64, count_mono 64 (λ a. t.not_after a v) (λ _. true) (λ _ _. refl))

-- the size of the set of those not after it
pub rank_size : (t : Task) (v r : ℕ) → v < t.pieces → Related t t.not_after v r → size_of r ≡ rank t v
unfolding rank
rank_size t v r l related = size_related t t.not_after v r l related

module _ {t : Task} (law : Lawful t) where
  self_first : (v : ℕ) → v < t.pieces → t.not_after v v ≡ true
  self_first v l = ⊎_elim (λ e. e) (λ e. other_way law v v l l e) (cases_Bool (t.not_after v v))

  -- a piece behind another has all that are not after the other, and itself
  ahead_less : (a b : ℕ) → a < t.pieces → b < t.pieces → t.not_after a b ≡ false → rank t b < rank t a
  unfolding rank
  ahead_less a b la lb e =
      count_strict 64 (λ x. t.not_after x b) (λ x. t.not_after x a) (λ x h. law.transitive x b a h (other_way law a b la lb e)) a
      (omega (arith, law.few)) e (self_first a la)

  pub rank_orders : (a b : ℕ) → a < t.pieces → b < t.pieces → rank t a ≤ rank t b → t.not_after a b ≡ true
  rank_orders a b la lb le = ⊎_elim (λ e. e) (λ e. absurd (omega (arith, ahead_less a b la lb e))) (cases_Bool (t.not_after a b))
