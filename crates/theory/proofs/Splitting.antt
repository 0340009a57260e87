-- How the numerators of two walks that meet add up, and how a walk splits at a piece. Assumes nothing.
use Rattle.std.proofs.Common.{◌≡◌, ℕ, ◌+◌, ◌*◌, ◌≤◌, true, ◌&&◌, ◌||◌, ◌⊎◌, List, [], ◌∷◌, ◌++◌, sym, ap, subst, inl, inr, arith}
use Rattle.std.proofs.lemmas.Bool.{cases_eq}
use Rattle.std.proofs.lemmas.Nat.{mul-le}
use Rattle.sets.proofs.Sums.{sum-or}
use Rattle.theory.specs.Tasks.{Task, Lawful}
use Rattle.theory.specs.Paths.{length_of, volume_of}
use Rattle.theory.specs.Inner.{Via, touches, shares, weight, twice}
use Rattle.theory.proofs.Ancestors.{ancestor_one, ancestor_more, ancestor_apart}
use Rattle.theory.proofs.Volumes.{volume_cong}
use Rattle.theory.proofs.Paths.{length-append}
use Rattle.theory.proofs.Walking.{touches_join, shared, via_within}

-- a walk through the front to v, and on through the back to w
pub record Parts (t : Task) (E : ℕ → Type 0) (u v w : ℕ) (path : List ℕ) : Type 0 where
  pub front : List ℕ
  pub back : List ℕ
  pub first : Via t E u front v
  pub second : Via t E v back w
  pub whole : path ≡ front ++ v ∷ back

module _ {t : Task} (law : Lawful t) where
  -- the numerators of two walks that meet at v: what both count is taken off once
  pub weight_join : (cores : ℕ) (E : ℕ → Type 0) (u v w : ℕ) → ((a : ℕ) → E a → t.not_after a v ≡ true) → (l m : List ℕ) → Via t E u l v → Via t E v m w
      → weight t cores u (l ++ v ∷ m) w + twice t cores u v w ≡ weight t cores u l v + weight t cores v m w
  weight_join cores E u v w ahead l m p q =
      let either = volume_cong t (touches t u (l ++ v ∷ m) w) (λ x. touches t u l v x || touches t v m w x) (λ x _. touches_join t u l v m w x) in
      let both = volume_cong t (shares t u v w) (λ x. touches t u l v x && touches t v m w x) (λ x _. sym (shared law E u v w ahead l m p q x)) in
      let union = sum-or t.pieces (touches t u l v) (touches t v m w) t.worst in
      sums (volume_of t (touches t u (l ++ v ∷ m) w)) (volume_of t (shares t u v w)) (volume_of t (touches t u l v)) (volume_of t (touches t v m w))
      (t.worst u) (t.worst v) (t.worst w) (length_of t l) (length_of t m) (length_of t (l ++ v ∷ m)) (length-append t l (v ∷ m)) (omega arith)
    where
      sums : (x y p q : ℕ) (a b c l m n : ℕ) → n ≡ l + (b + m) → x + y ≡ p + q
          → cores * (a + (n + c)) + x + (cores * b + y) ≡ cores * (a + (l + b)) + p + (cores * (b + (m + c)) + q)
      sums x y p q a b c l m n e h =
          let f : cores * (a + (n + c)) ≡ cores * (a + (l + (b + m) + c)) = ap (λ z. cores * (a + (z + c))) e in
          omega arith

  -- the numerator of a walk is not 0
  pub weight_pos : (cores : ℕ) → 1 ≤ cores → (E : ℕ → Type 0) (u : ℕ) (l : List ℕ) (w : ℕ) → Via t E u l w → 1 ≤ weight t cores u l w
  weight_pos cores h E u l w p =
      let a : 1 ≤ t.worst u = law.at_least u (via_within law E u l w p).0 in
      omega (arith, mul-le 1 1 cores (t.worst u + (length_of t l + t.worst w)) h (omega arith))

  module _ (E F : ℕ → Type 0) (v : ℕ) (narrow : (x : ℕ) → F x → (x ≡ v → ⊥) → E x) where
    -- a walk that starts at v, or behind it, does not come to v again
    avoids : (u : ℕ) (l : List ℕ) (w : ℕ) → Via t F u l w → (u ≡ v) ⊎ (t.ancestor v u ≡ true) → Via t E u l w
    avoids u [] w p h = p
    avoids u (x ∷ l) w p h = (p.0, narrow x p.1 (λ e. ancestor_apart law v x (on h) (sym e)), avoids x l w p.2 (inr (on h)))
      where
        on : (u ≡ v) ⊎ (t.ancestor v u ≡ true) → t.ancestor v x ≡ true
        on (inl e) = subst (λ y. t.ancestor y x ≡ true) e (ancestor_one law u x p.0)
        on (inr a) = ancestor_more law v u x a p.0

    -- a walk avoids v, or splits there
    pub splits : (u : ℕ) (l : List ℕ) (w : ℕ) → Via t F u l w → (Via t E u l w) ⊎ Parts t E u v w l
    splits u [] w p = inl p
    splits u (x ∷ l) w p = elim (cases_eq x v) [ inl e ↦ inr (here e) | inr d ↦ later d (splits x l w p.2) ]
      where
        here : x ≡ v → Parts t E u v w (x ∷ l)
        here e = record {
          front = [];
          back = l;
          first = subst (λ y. t.edge u y ≡ true) e p.0;
          second = subst (λ y. Via t E y l w) e (avoids x l w p.2 (inl e));
          whole = ap {B = List ℕ} (λ y. y ∷ l) e;
        }

        later : (x ≡ v → ⊥) → (Via t E x l w) ⊎ Parts t E x v w l → (Via t E u (x ∷ l) w) ⊎ Parts t E u v w (x ∷ l)
        later d (inl q) = inl (p.0, narrow x p.1 d, q)
        later d (inr s) = inr (record {
          front = x ∷ s.front;
          back = s.back;
          first = (p.0, narrow x p.1 d, s.first);
          second = s.second;
          whole = ap {B = List ℕ} (λ y. x ∷ y) s.whole;
        })
