-- Walks through allowed pieces: where they lead, how two join, and what interferes with both. Assumes nothing.
use Rattle.std.proofs.Common.{◌≡◌, ℕ, ◌<◌, true, false, ◌&&◌, ◌||◌, ◌⊎◌, List, [], ◌∷◌, ◌++◌, sym, refl, ap, ◌∙◌, subst, inl, inr}
use Rattle.std.proofs.lemmas.Bool.{both_ways, or_cases, or_left, or_right, and_parts, and_from}
use Rattle.theory.specs.Tasks.{Task, Lawful}
use Rattle.theory.specs.Paths.{interferes, interferes_with}
use Rattle.theory.specs.Inner.{Via, touches, shares}
use Rattle.theory.proofs.Ancestors.{ancestor_one, ancestor_join}
use Rattle.theory.proofs.Tests.{is_false, same_test, or_twice}
use Rattle.theory.proofs.Paths.{with_append}
use Rattle.theory.proofs.Orders.{Meets, meets, meets_so}

module _ (t : Task) where
  -- a walk through allowed pieces is one where more are allowed
  pub via_wider : (E F : ℕ → Type 0) → ((x : ℕ) → E x → F x) → (u : ℕ) (l : List ℕ) (w : ℕ) → Via t E u l w → Via t F u l w
  via_wider E F h u [] w v = v
  via_wider E F h u (x ∷ l) w v = (v.0, h x v.1, via_wider E F h x l w v.2)

  -- two walks with a piece between them
  pub via_join : (E F : ℕ → Type 0) → ((x : ℕ) → E x → F x) → (u : ℕ) (l : List ℕ) (v : ℕ) (m : List ℕ) (w : ℕ)
      → Via t E u l v → F v → Via t E v m w → Via t F u (l ++ v ∷ m) w
  via_join E F h u [] v m w a f b = (a, f, via_wider E F h v m w b)
  via_join E F h u (x ∷ l) v m w a f b = (a.0, h x a.1, via_join E F h x l v m w a.2 f b)

  -- what interferes with the joined walk interferes with one of the two
  pub touches_join : (u : ℕ) (l : List ℕ) (v : ℕ) (m : List ℕ) (w x : ℕ) → touches t u (l ++ v ∷ m) w x ≡ (touches t u l v x || touches t v m w x)
  touches_join u l v m w x =
      ap (λ b. interferes t u x || (b || interferes t w x)) (with_append t l (v ∷ m) x)
      ∙ or_twice (interferes t u x) (interferes_with t l x) (interferes t v x) (interferes_with t m x) (interferes t w x)

-- a piece inside a walk with which x interferes
record Inside (t : Task) (E : ℕ → Type 0) (u w x : ℕ) : Type 0 where
  at : ℕ
  allowed : E at
  from : t.ancestor u at ≡ true
  to : t.ancestor at w ≡ true
  met : Meets t at x

module _ {t : Task} (law : Lawful t) where
  -- a walk leads to its end
  via_ancestor : (E : ℕ → Type 0) (u : ℕ) (l : List ℕ) (w : ℕ) → Via t E u l w → t.ancestor u w ≡ true
  via_ancestor E u [] w v = ancestor_one law u w v
  via_ancestor E u (x ∷ l) w v = ancestor_join law u x w (ancestor_one law u x v.0) (via_ancestor E x l w v.2)

  -- both ends of a walk are pieces
  pub via_within : (E : ℕ → Type 0) (u : ℕ) (l : List ℕ) (w : ℕ) → Via t E u l w → (u < t.pieces) × (w < t.pieces)
  via_within E u [] w v = law.ends u w v
  via_within E u (x ∷ l) w v = ((law.ends u x v.0).0, (via_within E x l w v.2).1)

  -- with which piece inside a walk x interferes
  inside : (E : ℕ → Type 0) (u : ℕ) (l : List ℕ) (w x : ℕ) → Via t E u l w → interferes_with t l x ≡ true → Inside t E u w x
  inside E u [] w x v h = absurd (both_ways false refl h)
  inside E u (a ∷ l) w x v h = elim (or_cases (interferes t a x) (interferes_with t l x) h) [ inl p ↦ here p | inr q ↦ later (inside E a l w x v.2 q) ]
    where
      here : interferes t a x ≡ true → Inside t E u w x
      here p = record { at = a; allowed = v.1; from = ancestor_one law u a v.0; to = via_ancestor E a l w v.2; met = meets t a x p }

      later : Inside t E a w x → Inside t E u w x
      later i = record {
        at = i.at;
        allowed = i.allowed;
        from = ancestor_join law u a i.at (ancestor_one law u a v.0) i.from;
        to = i.to;
        met = i.met;
      }

  -- what interferes with a piece before v does not come after v
  before_it : (a v x : ℕ) → t.ancestor a v ≡ true → Meets t a x → (x ≡ v → ⊥) × (t.ancestor v x ≡ false)
  before_it a v x h m = (
    λ e. both_ways (t.ancestor a x) m.not_behind (subst (λ y. t.ancestor a y ≡ true) (sym e) h),
    is_false (t.ancestor v x) (λ p. both_ways (t.ancestor a x) m.not_behind (ancestor_join law a v x h p)),
  )

  -- what interferes with a piece behind v does not come before v
  behind_it : (b v x : ℕ) → t.ancestor v b ≡ true → Meets t b x → t.ancestor x v ≡ false
  behind_it b v x h m = is_false (t.ancestor x v) (λ p. both_ways (t.ancestor x b) m.not_before (ancestor_join law x v b p h))

  module _ (E : ℕ → Type 0) (u v w : ℕ) (ahead : (a : ℕ) → E a → t.not_after a v ≡ true) where
    -- what interferes with a piece before v and with one behind v, one of the two not after v, interferes with v
    between : (a b x : ℕ) → t.ancestor a v ≡ true → t.ancestor v b ≡ true → Meets t a x → Meets t b x
        → (t.not_after a v ≡ true) ⊎ (t.not_after b v ≡ true) → interferes t v x ≡ true
    between a b x ha hb ma mb o =
        let front = before_it a v x ha ma in
        meets_so t v x (record { apart = front.0; not_before = behind_it b v x hb mb; not_behind = front.1; ahead = first o })
      where
        first : (t.not_after a v ≡ true) ⊎ (t.not_after b v ≡ true) → t.not_after x v ≡ true
        first (inl p) = law.transitive x a v ma.ahead p
        first (inr p) = law.transitive x b v mb.ahead p

    -- the key: where no allowed piece is after v, two walks that meet at v share the interference of v and of both ends, and no other
    pub shared : (l m : List ℕ) → Via t E u l v → Via t E v m w → (x : ℕ) → (touches t u l v x && touches t v m w x) ≡ shares t u v w x
    shared l m p q x = same_test (touches t u l v x && touches t v m w x) (shares t u v w x) into out
      where
        u_v : t.ancestor u v ≡ true
        u_v = via_ancestor E u l v p

        v_w : t.ancestor v w ≡ true
        v_w = via_ancestor E v m w q

        at_v : interferes t v x ≡ true → shares t u v w x ≡ true
        at_v h = or_left (interferes t v x) (interferes t u x && interferes t w x) h

        -- the piece before v is u
        from_u : interferes t u x ≡ true → (interferes t v x ≡ true) ⊎ ((interferes_with t m x || interferes t w x) ≡ true) → shares t u v w x ≡ true
        from_u h (inl a) = at_v a
        from_u h (inr b) =
            elim (or_cases (interferes_with t m x) (interferes t w x) b) [
              | inl c ↦ let i = inside E v m w x q c in
                  at_v (between u i.at x u_v i.from (meets t u x h) i.met (inr (ahead i.at i.allowed)))
              | inr d ↦ or_right (interferes t v x) (interferes t u x && interferes t w x) (and_from (interferes t u x) (interferes t w x) h d)
            ]

        -- the piece before v is inside
        from_inside : Inside t E u v x → (interferes t v x ≡ true) ⊎ ((interferes_with t m x || interferes t w x) ≡ true) → shares t u v w x ≡ true
        from_inside i (inl a) = at_v a
        from_inside i (inr b) =
            elim (or_cases (interferes_with t m x) (interferes t w x) b) [
              | inl c ↦ let j = inside E v m w x q c in
                  at_v (between i.at j.at x i.to j.from i.met j.met (inl (ahead i.at i.allowed)))
              | inr d ↦ at_v (between i.at w x i.to v_w i.met (meets t w x d) (inl (ahead i.at i.allowed)))
            ]

        into : (touches t u l v x && touches t v m w x) ≡ true → shares t u v w x ≡ true
        into h =
            let both = and_parts (touches t u l v x) (touches t v m w x) h in
            let second = or_cases (interferes t v x) (interferes_with t m x || interferes t w x) both.1 in
            elim (or_cases (interferes t u x) (interferes_with t l x || interferes t v x) both.0) [
              | inl a ↦ from_u a second
              | inr b ↦ elim (or_cases (interferes_with t l x) (interferes t v x) b) [
                | inl c ↦ from_inside (inside E u l v x p c) second
                | inr d ↦ at_v d
              ]
            ]

        out : shares t u v w x ≡ true → (touches t u l v x && touches t v m w x) ≡ true
        out h =
            elim (or_cases (interferes t v x) (interferes t u x && interferes t w x) h) [
              | inl a ↦ and_from (touches t u l v x) (touches t v m w x)
                  (or_right (interferes t u x) (interferes_with t l x || interferes t v x) (or_right (interferes_with t l x) (interferes t v x) a))
                  (or_left (interferes t v x) (interferes_with t m x || interferes t w x) a)
              | inr b ↦ let c = and_parts (interferes t u x) (interferes t w x) b in
                  and_from (touches t u l v x) (touches t v m w x)
                  (or_left (interferes t u x) (interferes_with t l x || interferes t v x) c.0)
                  (or_right (interferes t v x) (interferes_with t m x || interferes t w x) (or_right (interferes_with t m x) (interferes t w x) c.1))
            ]
