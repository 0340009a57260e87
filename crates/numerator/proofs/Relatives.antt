-- What the sets of a piece's relatives have, for any number that was asked about. Assumes nothing.
use Rattle.std.proofs.Common.{◌≡◌, ℕ, ◌<◌, Bool, true, false, ◌&&◌, ltb, refl, ap, ◌∙◌, arith}
use mathlib.Core.Bool.{and-false}
use Rattle.std.proofs.lemmas.Bool.{lt-ltb}
use Rattle.sets.specs.Sets.{member}
use Rattle.theory.specs.Tasks.{Task, Lawful}
use Rattle.theory.proofs.Ancestors.{ancestor_ends}
use Rattle.task.specs.Filing.{Related}

-- a test that follows from another adds nothing to it
pub implied : (p r : Bool) → (r ≡ true → p ≡ true) → (p && r) ≡ r
implied p true h = ap (λ b. b && true) (h refl)
implied p false h = and-false p

-- a relation in which nothing stands to a number past the task
related_any : (t : Task) (R : ℕ → ℕ → Bool) (k r : ℕ) → ((x : ℕ) → R x k ≡ true → k < t.pieces) → Related t R k r → (x : ℕ) → member r x ≡ R x k
related_any t R k r on_task related x = related x ∙ implied (ltb k t.pieces) (R x k) (λ h. lt-ltb k t.pieces (on_task x h))

-- what leads anywhere, or is led to, is one of the 64
pub ancestor_low : {t : Task} → Lawful t → (a b : ℕ) → t.ancestor a b ≡ true → (a < 64) × (b < 64)
ancestor_low law a b h = let on = ancestor_ends law a b h in (omega (arith, law.few), omega (arith, law.few))

module _ {t : Task} (law : Lawful t) (k r : ℕ) where
  pub predecessors_are : Related t t.edge k r → (x : ℕ) → member r x ≡ t.edge x k
  predecessors_are = related_any t t.edge k r (λ x h. (law.ends x k h).1)

  pub ancestors_are : Related t t.ancestor k r → (x : ℕ) → member r x ≡ t.ancestor x k
  ancestors_are = related_any t t.ancestor k r (λ x h. (ancestor_ends law x k h).1)

  pub descendants_are : Related t (λ x y. t.ancestor y x) k r → (x : ℕ) → member r x ≡ t.ancestor k x
  descendants_are = related_any t (λ x y. t.ancestor y x) k r (λ x h. (ancestor_ends law k x h).0)
