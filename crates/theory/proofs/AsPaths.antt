-- A walk is a path with the same numerator, and a path of two or more pieces is a walk. Assumes nothing.
use Rattle.std.proofs.Common.{◌≡◌, ℕ, ◌+◌, ◌*◌, ◌<◌, ◌||◌, List, [], ◌∷◌, ◌++◌, refl, ap, ◌∙◌, arith}
use mathlib.Core.Bool.{or-false}
use Rattle.theory.specs.Tasks.{Task, Lawful}
use Rattle.theory.specs.Paths.{Linked, length_of, interferes, interferes_with, numerator_of}
use Rattle.theory.specs.Inner.{Via, weight, touches, alone}
use Rattle.theory.proofs.Volumes.{volume_cong}
use Rattle.theory.proofs.Paths.{length-append, with_append}

module _ (t : Task) where
  pub numerator_walk : (cores u : ℕ) (l : List ℕ) (w : ℕ) → numerator_of t cores (u ∷ (l ++ w ∷ [])) ≡ weight t cores u l w
  numerator_walk cores u l w =
      let long : t.worst u + length_of t (l ++ w ∷ []) ≡ t.worst u + (length_of t l + t.worst w) = omega (arith, length-append t l (w ∷ [])) in
      let set = volume_cong t (interferes_with t (u ∷ (l ++ w ∷ []))) (touches t u l w)
      (λ x _. ap (λ b. interferes t u x || b) (with_append t l (w ∷ []) x ∙ ap (λ b. interferes_with t l x || b) (or-false (interferes t w x)))) in
      omega (arith, ap (λ y. cores * y) long)

  pub numerator_alone : (cores v : ℕ) → numerator_of t cores (v ∷ []) ≡ alone t cores v
  numerator_alone cores v =
      let long : t.worst v + 0 ≡ t.worst v = omega arith in
      let set = volume_cong t (interferes_with t (v ∷ [])) (interferes t v) (λ x _. or-false (interferes t v x)) in
      omega (arith, ap (λ y. cores * y) long)

-- a path from a through the inner pieces, which are allowed, to the last
pub record AsWalk (t : Task) (E : ℕ → Type 0) (a : ℕ) (path : List ℕ) : Type 0 where
  pub inner : List ℕ
  pub last : ℕ
  pub via : Via t E a inner last
  pub is : path ≡ a ∷ (inner ++ last ∷ [])

module _ {t : Task} (law : Lawful t) where
  pub walk_linked : (E : ℕ → Type 0) (u : ℕ) (l : List ℕ) (w : ℕ) → Via t E u l w → Linked t (u ∷ (l ++ w ∷ []))
  walk_linked E u [] w v = (v, (law.ends u w v).1)
  walk_linked E u (x ∷ l) w v = (v.0, walk_linked E x l w v.2)

  -- where every piece is allowed
  pub as_walk : (E : ℕ → Type 0) → ((x : ℕ) → x < t.pieces → E x) → (a b : ℕ) (rest : List ℕ) → Linked t (a ∷ b ∷ rest) → AsWalk t E a (a ∷ b ∷ rest)
  as_walk E all a b [] h = record { inner = []; last = b; via = h.0; is = refl }
  as_walk E all a b (c ∷ rest) h =
      let i = as_walk E all b c rest h.1 in
      record { inner = b ∷ i.inner; last = i.last; via = (h.0, all b (law.ends a b h.0).1, i.via); is = ap {B = List ℕ} (λ y. a ∷ y) i.is }
