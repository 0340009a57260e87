-- Ways along the edges, ancestors by what leads where, and how many a piece has above and below it. Assumes nothing.
use Rattle.std.proofs.Common.{◌≡◌, ℕ, ◌<◌, true, sym, refl, subst, arith}
use native.Mathlib.Bridge.{le_prop}
use mathlib.Core.Logic.{∥∥₁_elim, ∥∥₁_map, ∥∥₁_prop}
use mathlib.Core.HLevel.{×_prop}
use Rattle.std.proofs.lemmas.Bool.{both_ways}
use Rattle.sets.proofs.Counts.{count_all, count_strict}
use Rattle.theory.specs.Tasks.{Task, Leads, above, below, Lawful}

-- a way behind a way
pub leads_join : {t : Task} {a b c : ℕ} → Leads t a b → Leads t b c → Leads t a c
leads_join l (Leads.one e) = Leads.more l e
leads_join l (Leads.more m e) = Leads.more (leads_join l m) e

-- with the same edges, the same ways
pub leads_same : {t s : Task} → ((x y : ℕ) → t.edge x y ≡ true → s.edge x y ≡ true) → {a b : ℕ} → Leads t a b → Leads s a b
leads_same same {a} {b} (Leads.one e) = Leads.one (same a b e)
leads_same same {a} {b} (Leads.more {b = c} l e) = Leads.more (leads_same same l) (same c b e)

module _ {t : Task} (law : Lawful t) where
  pub ancestor_one : (a b : ℕ) → t.edge a b ≡ true → t.ancestor a b ≡ true
  ancestor_one a b e = (law.exact a b).1 ∣ Leads.one e ∣₁

  pub ancestor_more : (a b c : ℕ) → t.ancestor a b ≡ true → t.edge b c ≡ true → t.ancestor a c ≡ true
  ancestor_more a b c h e = (law.exact a c).1 (∥∥₁_map ((law.exact a b).0 h) (λ l. Leads.more l e))

  -- an ancestor's ancestor is an ancestor
  pub ancestor_join : (a b c : ℕ) → t.ancestor a b ≡ true → t.ancestor b c ≡ true → t.ancestor a c ≡ true
  ancestor_join a b c h k = (law.exact a c).1 (∥∥₁_elim ((law.exact a b).0 h) ∥∥₁_prop (λ l. ∥∥₁_map ((law.exact b c).0 k) (λ m. leads_join l m)))

  -- nothing leads to where the task has no piece
  pub leads_on_task : {a b : ℕ} → Leads t a b → b < t.pieces
  leads_on_task (Leads.one e) = (law.ends _ _ e).1
  leads_on_task (Leads.more l e) = (law.ends _ _ e).1

  leads_from : {a b : ℕ} → Leads t a b → a < t.pieces
  leads_from (Leads.one e) = (law.ends _ _ e).0
  leads_from (Leads.more l e) = leads_from l

  -- no piece is its own ancestor
  pub ancestor_apart : (a b : ℕ) → t.ancestor a b ≡ true → a ≡ b → ⊥
  ancestor_apart a b h e = both_ways (t.ancestor a a) (law.acyclic a) (subst (λ y. t.ancestor a y ≡ true) (sym e) h)

  -- both ends of a way along edges are pieces
  pub ancestor_ends : (a b : ℕ) → t.ancestor a b ≡ true → (a < t.pieces) × (b < t.pieces)
  ancestor_ends a b h = ∥∥₁_elim ((law.exact a b).0 h) (×_prop le_prop le_prop) (λ l. (leads_from l, leads_on_task l))

  -- ---- how many are above and below: by these a walk along the edges ends

  -- against an edge fewer pieces are above, and along it fewer below
  pub fewer_above : (a b : ℕ) → t.edge a b ≡ true → above t a < above t b
  unfolding above
  fewer_above a b e =
      count_strict t.pieces (λ k. t.ancestor k a) (λ k. t.ancestor k b) (λ k h. ancestor_more k a b h e) a
      (law.ends a b e).0 (law.acyclic a) (ancestor_one a b e)

  pub fewer_below : (a b : ℕ) → t.edge a b ≡ true → below t b < below t a
  unfolding below
  fewer_below a b e =
      count_strict t.pieces (t.ancestor b) (t.ancestor a) (λ k h. ancestor_join a b k (ancestor_one a b e) h) b
      (law.ends a b e).1 (law.acyclic b) (ancestor_one a b e)

  -- a piece is neither above nor below itself, so those are fewer than all
  pub above_few : (v : ℕ) → v < t.pieces → above t v < t.pieces
  unfolding above
  above_few v l =
      omega (arith, count_all t.pieces, count_strict t.pieces (λ a. t.ancestor a v) (λ k. true) (λ k h. refl) v l (law.acyclic v) refl)

  pub below_few : (v : ℕ) → v < t.pieces → below t v < t.pieces
  unfolding below
  below_few v l =
      omega (arith, count_all t.pieces, count_strict t.pieces (t.ancestor v) (λ k. true) (λ k h. refl) v l (law.acyclic v) refl)
