-- What stands in a list of paths, and which lists go on from a number to the end. Assumes nothing.
use Rattle.std.proofs.Common.{◌≡◌, ℕ, zero, suc, ◌<◌, Bool, true, false, not, ◌⊎◌, List, [], ◌∷◌, ◌++◌, sym, refl, ap, ◌∙◌, subst, inl, inr, ⊎_elim, arith}
use Rattle.std.proofs.lemmas.Bool.{both_ways, not-true, not_from_false}
use Rattle.sets.proofs.Sums.{at_or_below, find}
use Rattle.theory.specs.Listing.{In, any, pick, each, alone, before, trails}
use Rattle.theory.proofs.Tests.{is_false, any_none, none_any}

module _ (path : List ℕ) where
  -- what stands in one list or another stands in the two together, and the other way round
  in_left : (xs ys : List (List ℕ)) → In path xs → In path (xs ++ ys)
  in_left [] ys h = absurd h
  in_left (x ∷ xs) ys (inl e) = inl e
  in_left (x ∷ xs) ys (inr h) = inr (in_left xs ys h)

  in_right : (xs ys : List (List ℕ)) → In path ys → In path (xs ++ ys)
  in_right [] ys h = h
  in_right (x ∷ xs) ys h = inr (in_right xs ys h)

  in_either : (xs ys : List (List ℕ)) → In path (xs ++ ys) → In path xs ⊎ In path ys
  in_either [] ys h = inr h
  in_either (x ∷ xs) ys (inl e) = inl (inl e)
  in_either (x ∷ xs) ys (inr h) = ⊎_elim (λ l. inl (inr l)) (λ r. inr r) (in_either xs ys h)

  -- what stands in `pick` stands in what f lists where the test has passed, and the other way round
  in_pick : (b : Bool) (f : ℕ → List (List ℕ)) (k : ℕ) → In path (pick b f k) → (b ≡ true) × In path (f k)
  in_pick true f k h = (refl, h)
  in_pick false f k h = absurd h

  pick_in : (b : Bool) (f : ℕ → List (List ℕ)) (k : ℕ) → b ≡ true → In path (f k) → In path (pick b f k)
  pick_in true f k e h = h
  pick_in false f k e h = absurd (both_ways false refl e)

  -- what stands in `each` stands in what f lists at a number that passes, and the other way round
  pub in_each : (n : ℕ) (p : ℕ → Bool) (f : ℕ → List (List ℕ)) → In path (each n p f) → (k : ℕ) × (k < n) × (p k ≡ true) × In path (f k)
  in_each zero p f h = absurd h
  in_each (suc n) p f h =
      ⊎_elim (λ l. let w = in_each n p f l in (w.0, omega arith, w.2, w.3))
      (λ r. let w = in_pick (p n) f n r in (n, omega arith, w.0, w.1))
      (in_either (each n p f) (pick (p n) f n) h)

  pub each_in : (n : ℕ) (p : ℕ → Bool) (f : ℕ → List (List ℕ)) (k : ℕ) → k < n → p k ≡ true → In path (f k) → In path (each n p f)
  each_in zero p f k l e h = absurd (omega arith)
  each_in (suc n) p f k l e h =
      ⊎_elim (λ m. in_left (each n p f) _ (each_in n p f k m e h))
      (λ same.
      in_right (each n p f) (pick (p n) f n)
      (pick_in (p n) f n (subst (λ x. p x ≡ true) (sym same) e) (subst (λ x. In path (f x)) (sym same) h)))
      (at_or_below k n l)

-- what stands in `before` is v in front of what stands in the list, and the other way round
in_before : (path : List ℕ) (v : ℕ) (xs : List (List ℕ)) → In path (before v xs) → (rest : List ℕ) × (path ≡ v ∷ rest) × In rest xs
in_before path v [] h = absurd h
in_before path v (x ∷ xs) (inl e) = (x, e, inl refl)
in_before path v (x ∷ xs) (inr h) = let w = in_before path v xs h in (w.0, w.1, inr w.2)

before_in : (rest : List ℕ) (v : ℕ) (xs : List (List ℕ)) → In rest xs → In (v ∷ rest) (before v xs)
before_in rest v [] h = absurd h
before_in rest v (x ∷ xs) (inl e) = inl (ap (λ y. v ∷ y) e)
before_in rest v (x ∷ xs) (inr h) = inr (before_in rest v xs h)

module _ (n : ℕ) (next : ℕ → ℕ → Bool) where
  -- each number is next to the one before it, and none to the last
  abbrev pub Trail : List ℕ → Type 0
  Trail [] = ⊥
  Trail (a ∷ []) = (a < n) × ((b : ℕ) → next a b ≡ false)
  Trail (a ∷ (b ∷ rest)) = (next a b ≡ true) × Trail (b ∷ rest)

  module _ (inside : (a b : ℕ) → next a b ≡ true → b < n) where
    -- where the test finds none next to v, none is
    pub last_of : (v : ℕ) → not (any n (next v)) ≡ true → (b : ℕ) → next v b ≡ false
    last_of v e b = is_false (next v b) (λ h. both_ways _ (any_none n (next v) (not-true _ e) b (inside v b h)) h)

    -- what is listed from v is a trail that begins with v
    pub trails_sound : (path : List ℕ) (fuel v : ℕ) → v < n → In path (trails n next fuel v)
        → (rest : List ℕ) × (path ≡ v ∷ rest) × Trail (v ∷ rest)
    trails_sound path zero v l h = absurd h
    trails_sound path (suc fuel) v l h =
        ⊎_elim (λ first. let w = in_pick path (not (any n (next v))) alone v first in ends w.0 w.1)
        (λ later.
        let w = in_before path v (each n (next v) (trails n next fuel)) later in
        let k = in_each w.0 n (next v) (trails n next fuel) w.2 in
        let on = trails_sound w.0 fuel k.0 k.1 k.3 in
        (k.0 ∷ on.0, w.1 ∙ ap (λ y. v ∷ y) on.1, (k.2, on.2)))
        (in_either path (pick (not (any n (next v))) alone v) _ h)
      where
        ends : not (any n (next v)) ≡ true → In path (alone v) → (rest : List ℕ) × (path ≡ v ∷ rest) × Trail (v ∷ rest)
        ends e (inl same) = ([], same, (l, last_of v e))
        ends e (inr none) = absurd none

    -- and each trail from v is listed, where a measure that falls along it is below the fuel
    pub trails_full : (m : ℕ → ℕ) → ((a b : ℕ) → next a b ≡ true → m b < m a) → (fuel v : ℕ) (rest : List ℕ) → m v < fuel
        → Trail (v ∷ rest) → In (v ∷ rest) (trails n next fuel v)
    trails_full m falls zero v rest l h = absurd (omega arith)
    trails_full m falls (suc fuel) v [] l h =
        in_left (v ∷ []) (pick (not (any n (next v))) alone v) _
        (pick_in (v ∷ []) (not (any n (next v))) alone v (not_from_false _ (none_any n (next v) (λ k m. h.1 k))) (inl refl))
    trails_full m falls (suc fuel) v (b ∷ rest) l h =
        in_right (v ∷ (b ∷ rest)) (pick (not (any n (next v))) alone v) _
        (before_in (b ∷ rest) v (each n (next v) (trails n next fuel))
        (each_in (b ∷ rest) n (next v) (trails n next fuel) b (inside v b h.0) h.0
        (trails_full m falls fuel b rest (omega (arith, falls v b h.0)) h.1)))

    -- some number is next to v, or none is
    pub next_or : (v : ℕ) → ((b : ℕ) × (next v b ≡ true)) ⊎ ((b : ℕ) → next v b ≡ false)
    next_or v =
        ⊎_elim (λ w. inl (w.0, w.2)) (λ none. inr (λ b. is_false (next v b) (λ e. both_ways _ (none b (inside v b e)) e))) (find n (next v))

    -- from each number a trail goes on
    pub trail_from : (m : ℕ → ℕ) → ((a b : ℕ) → next a b ≡ true → m b < m a) → (fuel v : ℕ) → v < n → m v < fuel
        → (rest : List ℕ) × Trail (v ∷ rest)
    trail_from m falls zero v l few = absurd (omega arith)
    trail_from m falls (suc fuel) v l few =
        ⊎_elim (λ w.
        let on = trail_from m falls fuel w.0 (inside v w.0 w.1) (omega (arith, falls v w.0 w.1)) in
        (w.0 ∷ on.0, (w.1, on.1)))
        (λ none. ([], (l, none)))
        (next_or v)
