-- A lawful task with one more edge that closes no circle is lawful. Assumes nothing.
use Rattle.std.proofs.Common.{◌≡◌, ℕ, ◌<◌, ◌≤◌, true, false, ◌&&◌, ◌||◌, eqb, ◌⊎◌, List, length, get_or, set, sym, refl, ap, ◌∙◌, subst, inl, inr, ⊎_elim}
use mathlib.Core.Logic.Or
use mathlib.Core.Logic.{∥∥₁_elim, ∥∥₁_map, ∥∥₁_prop, ∨₁_prop}
use mathlib.Core.Bool.{Bool-set}
use Rattle.std.proofs.lemmas.Bool.{both_ways, cases_Bool, and_parts, and_from, or_cases, or_left, or_right, eqb-true, eq-eqb}
use Rattle.theory.specs.Tasks.{Task, Leads, Lawful}
use Rattle.sets.specs.Sets.{member}
use Rattle.task.specs.Tables.{task_from}
use Rattle.theory.proofs.Ancestors.{leads_join, leads_same, ancestor_one, ancestor_more, ancestor_join}
use Rattle.task.specs.Filing.{OnTask, Circle, Linked}
use Rattle.task.proofs.Tables.{edges_more}

module _ {t : Task} (law : Lawful t) where
  -- what the test of the ancestors says of circles
  pub no_circle : (a b : ℕ) → (a ≡ b → ⊥) → t.ancestor b a ≡ false → Circle t a b → ⊥
  no_circle a b ne free c = Or.elim (λ x y. absurd x) c ne (λ w. both_ways (t.ancestor b a) free ((law.exact b a).1 ∣ w ∣₁))

  pub circle : (a b : ℕ) → t.ancestor b a ≡ true → Circle t a b
  circle a b h = ∥∥₁_elim ((law.exact b a).0 h) ∥∥₁_prop (λ w. Or.inr w)

module _ {t s : Task} (law : Lawful t) (a b : ℕ) (on : OnTask t a b) (open_yet : Circle t a b → ⊥)
    (link : Linked t a b s) (grown : (x y : ℕ) → s.ancestor x y ≡ (t.ancestor x y || ((eqb y b || t.ancestor b y) && (eqb a x || t.ancestor x a)))) where
  ne : a ≡ b → ⊥
  ne e = open_yet (Or.inl e)

  free : t.ancestor b a ≡ false
  free = ⊎_elim (λ h. absurd (open_yet (circle law a b h))) (λ h. h) (cases_Bool (t.ancestor b a))

  new_edge : s.edge a b ≡ true
  new_edge = link.2 a b ∙ or_right (t.edge a b) (eqb a a && eqb b b) (and_from (eqb a a) (eqb b b) (eq-eqb a a refl) (eq-eqb b b refl))

  lift : {x y : ℕ} → Leads t x y → Leads s x y
  lift = leads_same (λ x y e. link.2 x y ∙ or_left (t.edge x y) (eqb a x && eqb b y) e)

  -- an edge of the new task is one of the old, or the new one
  EdgeWay : ℕ → ℕ → Type 0
  EdgeWay x y = (t.edge x y ≡ true) ⊎ ((a ≡ x) × (b ≡ y))

  -- x leads to y as before, or over the new edge
  Way : ℕ → ℕ → Type 0
  Way x y = (t.ancestor x y ≡ true) ⊎ (((y ≡ b) ⊎ (t.ancestor b y ≡ true)) × ((a ≡ x) ⊎ (t.ancestor x a ≡ true)))

  edge_way : (x y : ℕ) → s.edge x y ≡ true → EdgeWay x y
  unfolding EdgeWay
  edge_way x y e =
      ⊎_elim inl (λ n. let p = and_parts (eqb a x) (eqb b y) n in inr (eqb-true a x p.0, eqb-true b y p.1))
      (or_cases (t.edge x y) (eqb a x && eqb b y) (sym (link.2 x y) ∙ e))

  -- the new ancestor sets say just that
  way : (x y : ℕ) → s.ancestor x y ≡ true → Way x y
  unfolding Way
  way x y h =
      ⊎_elim inl (λ n.
      let p = and_parts (eqb y b || t.ancestor b y) (eqb a x || t.ancestor x a) n in
      inr (⊎_elim (λ e. inl (eqb-true y b e)) inr (or_cases (eqb y b) (t.ancestor b y) p.0), ⊎_elim (λ e. inl (eqb-true a x e)) inr (or_cases (eqb a x) (t.ancestor x a) p.1)))
      (or_cases (t.ancestor x y) ((eqb y b || t.ancestor b y) && (eqb a x || t.ancestor x a)) (sym (grown x y) ∙ h))

  back : (x y : ℕ) → Way x y → s.ancestor x y ≡ true
  unfolding Way
  back x y w =
      grown x y
      ∙ ⊎_elim (λ o. or_left (t.ancestor x y) ((eqb y b || t.ancestor b y) && (eqb a x || t.ancestor x a)) o)
      (λ g. or_right (t.ancestor x y) ((eqb y b || t.ancestor b y) && (eqb a x || t.ancestor x a))
      (and_from (eqb y b || t.ancestor b y) (eqb a x || t.ancestor x a)
      (⊎_elim (λ e. or_left (eqb y b) (t.ancestor b y) (eq-eqb y b e)) (λ h. or_right (eqb y b) (t.ancestor b y) h) g.0)
      (⊎_elim (λ e. or_left (eqb a x) (t.ancestor x a) (eq-eqb a x e)) (λ h. or_right (eqb a x) (t.ancestor x a) h) g.1)))
      w

  -- what leads to a's other side through b would be a circle
  never : (y : ℕ) → (y ≡ b) ⊎ (t.ancestor b y ≡ true) → a ≡ y → ⊥
  never y (inl e) p = ne (p ∙ e)
  never y (inr h) p = both_ways (t.ancestor b a) free (ap (t.ancestor b) p ∙ h)

  -- so each way along the new task's edges is such
  step : (x y z : ℕ) → Way x y → EdgeWay y z → Way x z
  unfolding Way EdgeWay
  step x y z (inl h) (inl e) = inl (ancestor_more law x y z h e)
  step x y z (inl h) (inr q) = inr (inl (sym q.1), inr (ap (t.ancestor x) q.0 ∙ h))
  step x y z (inr g) (inl e) =
      inr (inr (⊎_elim (λ p. ancestor_one law b z (subst (λ n. t.edge n z ≡ true) p e)) (λ h. ancestor_more law b y z h e) g.0), g.1)
  step x y z (inr g) (inr q) = absurd (never y g.0 q.0)

  start : (x y : ℕ) → EdgeWay x y → Way x y
  unfolding Way EdgeWay
  start x y (inl e) = inl (ancestor_one law x y e)
  start x y (inr q) = inr (inl (sym q.1), inl q.0)

  ways : {x y : ℕ} → Leads s x y → Way x y
  ways {x} {y} (Leads.one e) = start x y (edge_way x y e)
  ways {x} {y} (Leads.more {b = z} l e) = step x z y (ways l) (edge_way z y e)

  -- and each such is a way along them
  to_b : (x : ℕ) → (a ≡ x) ⊎ (t.ancestor x a ≡ true) → ∥ Leads s x b ∥₁
  to_b x (inl e) = ∣ Leads.one (subst (λ z. s.edge z b ≡ true) e new_edge) ∣₁
  to_b x (inr h) = ∥∥₁_map ((law.exact x a).0 h) (λ w. Leads.more (lift w) new_edge)

  from_b : (x y : ℕ) → (y ≡ b) ⊎ (t.ancestor b y ≡ true) → Leads s x b → ∥ Leads s x y ∥₁
  from_b x y (inl e) w = ∣ subst (λ z. Leads s x z) (sym e) w ∣₁
  from_b x y (inr h) w = ∥∥₁_map ((law.exact b y).0 h) (λ v. leads_join w (lift v))

  leads_of : (x y : ℕ) → Way x y → ∥ Leads s x y ∥₁
  unfolding Way
  leads_of x y (inl h) = ∥∥₁_map ((law.exact x y).0 h) lift
  leads_of x y (inr g) = ∥∥₁_elim (to_b x g.1) ∥∥₁_prop (λ w. from_b x y g.0 w)

  -- but not from a piece to itself
  no_way : (x : ℕ) → Way x x → ⊥
  unfolding Way
  no_way x (inl h) = both_ways (t.ancestor x x) (law.acyclic x) h
  no_way x (inr g) =
      ⊎_elim (λ e. never x g.0 e)
      (λ k. ⊎_elim (λ e. both_ways (t.ancestor b a) free (subst (λ z. t.ancestor z a ≡ true) e k))
      (λ h. both_ways (t.ancestor b a) free (ancestor_join law b x a h k)) g.0)
      g.1

  on_task : (x y : ℕ) → EdgeWay x y → (x < t.pieces) × (y < t.pieces)
  unfolding EdgeWay
  on_task x y (inl e) = law.ends x y e
  on_task x y (inr q) = (subst (λ n. n < t.pieces) q.0 on.0, subst (λ n. n < t.pieces) q.1 on.1)

  -- the ancestors are exact again, and no piece is its own
  pub linked_lawful : Lawful s
  linked_lawful = record {
    few = subst (λ n. n ≤ 64) (sym link.0) law.few;
    at_least = λ k h. subst (λ n. 1 ≤ n) (sym (link.1 k)) (law.at_least k (subst (λ n. k < n) link.0 h));
    at_most = λ k h. subst (λ n. n ≤ 65535) (sym (link.1 k)) (law.at_most k (subst (λ n. k < n) link.0 h));
    ends = λ x y e. subst (λ n. (x < n) × (y < n)) (sym link.0) (on_task x y (edge_way x y e));
    exact = λ x y. (λ h. leads_of x y (way x y h), λ h. ∥∥₁_elim h (Bool-set (s.ancestor x y) true) (λ w. back x y (ways w)));
    acyclic = λ x. ⊎_elim (λ h. absurd (no_way x (way x x h))) (λ h. h) (cases_Bool (s.ancestor x x));
    total = λ x y h k.
        Or.elim ∨₁_prop (law.total x y (subst (λ n. x < n) link.0 h) (subst (λ n. y < n) link.0 k)) (λ p. Or.inl (link.3 x y ∙ p)) (λ p. Or.inr (link.3 y x ∙ p));
    transitive = λ x y z h k. link.3 x z ∙ law.transitive x y z (sym (link.3 x y) ∙ h) (sym (link.3 y z) ∙ k);
  }

-- the task that the code leaves has one more edge
pub linked_of : (pieces : ℕ) (worst predecessors ancestors reached after : List ℕ) (a b new : ℕ) → b < length predecessors
    → ((j : ℕ) → member new j ≡ (member (get_or predecessors b 0) j || (eqb a j && true)))
    → Linked (task_from pieces worst predecessors ancestors after) a b (task_from pieces worst (set predecessors b new) reached after)
linked_of pieces worst predecessors ancestors reached after a b new h m = (refl, λ k. refl, edges_more predecessors a b new h m, λ x y. refl)
