-- Volumes by what passes their tests, and that a path's pieces are apart from one another and from what interferes with it.
-- Assumes nothing.
use Rattle.std.proofs.Common.{◌≡◌, ℕ, ◌+◌, ◌<◌, ◌≤◌, Bool, true, false, cond, not, ◌||◌, eqb, ◌⊎◌, List, [], ◌∷◌, sym, refl, ap, ◌∙◌, subst, inl, inr, ⊎_elim, arith}
use Rattle.std.proofs.lemmas.Bool.{both_ways, or_cases, or_left, or_right, or_from, and_left, and_right, eqb-true, eq-eqb, not_from_true}
use Rattle.sets.proofs.Sums.{sum_same, sum_where, sum_gain, sum_at}
use Rattle.theory.specs.Tasks.{Task, Lawful}
use Rattle.theory.specs.Paths.{Linked, length_of, volume_of, volume, parallel, interferes, interferes_with}
use Rattle.theory.proofs.Ancestors.{ancestor_one, ancestor_more}

-- two tests that never both pass, and a third that passes where either does
apart_cond : (p q r : Bool) (x : ℕ) → (p ≡ true → r ≡ true) → (q ≡ true → r ≡ true) → (p ≡ true → q ≡ true → ⊥) → cond p x 0 + cond q x 0 ≤ cond r x 0
apart_cond true true r x h k apart = absurd (apart refl refl)
apart_cond true false r x h k apart = rw (h refl) (omega arith)
apart_cond false true r x h k apart = rw (k refl) (omega arith)
apart_cond false false r x h k apart = omega arith

module _ (t : Task) where
  -- tests that say the same of every piece have one volume
  pub volume_cong : (p q : ℕ → Bool) → ((k : ℕ) → k < t.pieces → p k ≡ q k) → volume_of t p ≡ volume_of t q
  volume_cong p q same =
      sum_same t.pieces (λ k. cond (p k) (t.worst k) 0) (λ k. cond (q k) (t.worst k) 0) (λ k l. ap (λ b. cond b (t.worst k) 0) (same k l))

  -- a wider test has a larger volume
  pub volume_mono : (p q : ℕ → Bool) → ((k : ℕ) → k < t.pieces → p k ≡ true → q k ≡ true) → volume_of t p ≤ volume_of t q
  volume_mono p q wider = sum_where t.pieces p q t.worst t.worst wider (λ k l. omega arith)

  -- so the volumes of the two are within that of the third
  volume_apart : (p q r : ℕ → Bool) → ((k : ℕ) → p k ≡ true → r k ≡ true) → ((k : ℕ) → q k ≡ true → r k ≡ true) → ((k : ℕ) → p k ≡ true → q k ≡ true → ⊥)
      → volume_of t p + volume_of t q ≤ volume_of t r
  volume_apart p q r h k apart =
      sum_gain t.pieces (λ j. cond (p j) (t.worst j) 0) (λ j. cond (q j) (t.worst j) 0) (λ j. cond (r j) (t.worst j) 0)
      (λ j l. apart_cond (p j) (q j) (r j) (t.worst j) (h j) (k j) (apart j))

-- piece k is one of the list's
abbrev on : List ℕ → ℕ → Bool
on [] k = false
on (a ∷ rest) k = eqb a k || on rest k

module _ {t : Task} (law : Lawful t) where
  -- what leads to a path's first piece leads to each of its pieces
  on_leads : (a b : ℕ) (rest : List ℕ) → t.ancestor a b ≡ true → Linked t (b ∷ rest) → (k : ℕ) → on (b ∷ rest) k ≡ true → t.ancestor a k ≡ true
  on_leads a b [] h l k e =
      ⊎_elim (λ same. subst (λ x. t.ancestor a x ≡ true) (eqb-true b k same) h) (λ none. absurd (both_ways false refl none)) (or_cases (eqb b k) false e)
  on_leads a b (c ∷ rest) h l k e =
      ⊎_elim (λ same. subst (λ x. t.ancestor a x ≡ true) (eqb-true b k same) h) (on_leads a c rest (ancestor_more law a b c h l.0) l.1 k)
      (or_cases (eqb b k) (on (c ∷ rest) k) e)

  head_leads : (a : ℕ) (rest : List ℕ) → Linked t (a ∷ rest) → (k : ℕ) → on rest k ≡ true → t.ancestor a k ≡ true
  head_leads a [] l k e = absurd (both_ways false refl e)
  head_leads a (b ∷ rest) l k e = on_leads a b rest (ancestor_one law a b l.0) l.1 k e

  -- a piece that leads to all the others adds its worst time to their volume
  head_adds : (a : ℕ) (rest : List ℕ) → a < t.pieces → ((k : ℕ) → on rest k ≡ true → t.ancestor a k ≡ true)
      → t.worst a + volume_of t (on rest) ≤ volume_of t (on (a ∷ rest))
  head_adds a rest l leads =
      omega (
        arith,
        sum_at t.pieces t.worst a l,
        volume_apart t (eqb a) (on rest) (on (a ∷ rest)) (λ k. or_left (eqb a k) (on rest k)) (λ k. or_right (eqb a k) (on rest k)) apart,
      )
    where
      apart : (k : ℕ) → eqb a k ≡ true → on rest k ≡ true → ⊥
      apart k same e = both_ways _ (law.acyclic a) (subst (λ x. t.ancestor a x ≡ true) (sym (eqb-true a k same)) (leads k e))

  -- so a path, which holds no piece twice, is at most as long as the volume of its pieces
  length_on : (path : List ℕ) → Linked t path → length_of t path ≤ volume_of t (on path)
  length_on [] l = omega arith
  length_on (a ∷ []) l = omega (arith, head_adds a [] l (head_leads a [] l))
  length_on (a ∷ (b ∷ rest)) l =
      let tail = length_on (b ∷ rest) l.1 in
      omega (arith, head_adds a (b ∷ rest) (law.ends a b l.0).0 (head_leads a (b ∷ rest) l))

  head_parallel : (a : ℕ) (rest : List ℕ) → ((k : ℕ) → on rest k ≡ true → t.ancestor a k ≡ true)
      → ((j k : ℕ) → on rest j ≡ true → on rest k ≡ true → parallel t j k ≡ false)
      → (j k : ℕ) → on (a ∷ rest) j ≡ true → on (a ∷ rest) k ≡ true → parallel t j k ≡ false
  head_parallel a rest leads tail j k e f = go (or_cases (eqb a j) (on rest j) e) (or_cases (eqb a k) (on rest k) f)
    where
      go : (eqb a j ≡ true) ⊎ (on rest j ≡ true) → (eqb a k ≡ true) ⊎ (on rest k ≡ true) → parallel t j k ≡ false
      go (inl x) (inl y) = and_left _ _ (not_from_true _ (eq-eqb j k (sym (eqb-true a j x) ∙ eqb-true a k y)))
      go (inl x) (inr y) =
          and_right (not (eqb j k)) _ (and_left _ _ (not_from_true _ (subst (λ z. t.ancestor z k ≡ true) (eqb-true a j x) (leads k y))))
      go (inr x) (inl y) =
          and_right (not (eqb j k)) _
          (and_right (not (t.ancestor j k)) _ (not_from_true _ (subst (λ z. t.ancestor z j ≡ true) (eqb-true a k y) (leads j x))))
      go (inr x) (inr y) = tail j k x y

  -- no two pieces of a path are parallel
  never_parallel : (path : List ℕ) → Linked t path → (j k : ℕ) → on path j ≡ true → on path k ≡ true → parallel t j k ≡ false
  never_parallel [] l = absurd l
  never_parallel (a ∷ []) l = head_parallel a [] (head_leads a [] l) (λ j k e f. absurd (both_ways false refl e))
  never_parallel (a ∷ (b ∷ rest)) l = head_parallel a (b ∷ rest) (head_leads a (b ∷ rest) l) (never_parallel (b ∷ rest) l.1)

  -- so none of them interferes with it
  none_interferes : (k : ℕ) (path : List ℕ) → ((j : ℕ) → on path j ≡ true → parallel t k j ≡ false) → interferes_with t path k ≡ false
  none_interferes k [] h = refl
  none_interferes k (a ∷ rest) h =
      or_from (interferes t a k) _ (and_left (parallel t k a) _ (h a (or_left (eqb a a) _ (eq-eqb a a refl))))
      (none_interferes k rest (λ j e. h j (or_right (eqb a j) _ e)))

  -- a path and what interferes with it are within the volume
  pub within_volume : (path : List ℕ) → Linked t path → length_of t path + volume_of t (interferes_with t path) ≤ volume t
  within_volume path l =
      omega (arith, length_on path l, volume_apart t (on path) (interferes_with t path) (λ _. true) (λ k e. refl) (λ k e. refl) apart)
    where
      apart : (k : ℕ) → on path k ≡ true → interferes_with t path k ≡ true → ⊥
      apart k e = both_ways _ (none_interferes k path (λ j h. never_parallel path l k j e h))
