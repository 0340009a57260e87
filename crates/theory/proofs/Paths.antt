-- Lists of pieces: where a path starts, and what one list behind another has for its length, its interference and its
-- numerator. Assumes nothing.
use Rattle.std.proofs.Common.{◌≡◌, ℕ, ◌+◌, ◌<◌, ◌≤◌, true, ◌||◌, List, [], ◌∷◌, ◌++◌, sym, refl, ap, ◌∙◌, mul-le-mul_left, arith}
use mathlib.Core.Bool.{or_assoc}
use Rattle.std.proofs.lemmas.Bool.{or_left, or_right}
use Rattle.theory.specs.Tasks.{Task, Lawful}
use Rattle.theory.specs.Paths.{Linked, length_of, interferes, interferes_with, numerator_of}
use Rattle.theory.proofs.Volumes.{volume_mono}

-- a path starts at a piece
pub linked_start : {t : Task} → Lawful t → (a : ℕ) (rest : List ℕ) → Linked t (a ∷ rest) → a < t.pieces
linked_start law a [] l = l
linked_start law a (b ∷ rest) l = (law.ends a b l.0).0

module _ (t : Task) where
  pub length-append : (p q : List ℕ) → length_of t (p ++ q) ≡ length_of t p + length_of t q
  length-append [] q = omega arith
  length-append (a ∷ p) q = let rest = length-append p q in omega arith

  -- the interference set of two lists is the union of theirs
  pub with_append : (p q : List ℕ) (x : ℕ) → interferes_with t (p ++ q) x ≡ (interferes_with t p x || interferes_with t q x)
  with_append [] q x = refl
  with_append (a ∷ p) q x =
      ap (λ b. interferes t a x || b) (with_append p q x) ∙ sym (or_assoc (interferes t a x) (interferes_with t p x) (interferes_with t q x))

  -- a longer list with a wider interference set has a larger numerator
  numerator_mono : (cores : ℕ) (p q : List ℕ) → length_of t p ≤ length_of t q → ((x : ℕ) → interferes_with t p x ≡ true → interferes_with t q x ≡ true)
      → numerator_of t cores p ≤ numerator_of t cores q
  numerator_mono cores p q longer wider =
      omega (arith, mul-le-mul_left cores longer, volume_mono t (interferes_with t p) (interferes_with t q) (λ k l. wider k))

  -- so has a list that goes on at either end
  pub numerator-append : (cores : ℕ) (p q : List ℕ) → numerator_of t cores p ≤ numerator_of t cores (p ++ q)
  numerator-append cores p q =
      numerator_mono cores p (p ++ q) (omega (arith, length-append p q)) (λ x h. with_append p q x ∙ or_left (interferes_with t p x) (interferes_with t q x) h)

  pub numerator_before : (cores a : ℕ) (p : List ℕ) → numerator_of t cores p ≤ numerator_of t cores (a ∷ p)
  numerator_before cores a p = numerator_mono cores p (a ∷ p) (omega arith) (λ x h. or_right (interferes t a x) (interferes_with t p x) h)
