-- A largest value over the complete paths is one at most, and the walk, which lists these paths, has it. Assumes nothing.
use Rattle.std.proofs.Common.{◌≡◌, ℕ, ◌≤◌, max, not, ◌⊎◌, List, [], ◌∷◌, sym, refl, subst, inl, inr, ⊎_elim, arith}
use native.Mathlib.Bridge.{le_prop}
use mathlib.Core.Logic.Or
use Rattle.std.proofs.lemmas.Bool.{cases_lt, not_from_false}
use Rattle.theory.specs.Tasks.{Task, below, Lawful}
use Rattle.theory.specs.Paths.{Complete, LargestOf, Numerator, Chain, length_of, numerator_of}
use Rattle.theory.specs.Listing.{In, any, trails, largest, walk, numerator, chain}
use Rattle.theory.specs.Laws.{BoundIsTheLargest}
use Rattle.theory.proofs.Ancestors.{fewer_below, below_few}
use Rattle.theory.proofs.Tests.{none_any}
use Rattle.theory.proofs.Paths.{linked_start}
use Rattle.theory.proofs.Listed.{in_each, each_in, last_of, trails_sound, trails_full}
use Rattle.theory.proofs.Completing.{onward_parts, onward_from, completed}

-- a largest value is at most another, so there is one
largest_le : (t : Task) (f : List ℕ → ℕ) (m n : ℕ) → LargestOf t f m → LargestOf t f n → m ≤ n
largest_le t f m n x y = Or.elim le_prop x.reached (λ none. omega arith) (λ p. subst (λ z. z ≤ n) p.2 (y.bounds p.0 p.1))

pub largest_once : {t : Task} {f : List ℕ → ℕ} {m n : ℕ} → LargestOf t f m → LargestOf t f n → m ≡ n
largest_once {t} {f} {m} {n} x y = omega (arith, largest_le t f m n x y, largest_le t f n m y x)

-- no value on a list is larger than the largest, and one is as large
largest_bounds : (f : List ℕ → ℕ) (path : List ℕ) (list : List (List ℕ)) → In path list → f path ≤ largest f list
largest_bounds f path [] h = absurd h
largest_bounds f path (x ∷ xs) (inl e) = subst (λ y. f y ≤ max (f x) (largest f xs)) (sym e) (omega arith)
largest_bounds f path (x ∷ xs) (inr h) = let ih = largest_bounds f path xs h in omega arith

largest_reached : (f : List ℕ → ℕ) (first : List ℕ) (list : List (List ℕ)) → In first list → (path : List ℕ) × In path list × (f path ≡ largest f list)
largest_reached f first [] h = absurd h
largest_reached f first (x ∷ []) h = (x, inl refl, omega arith)
largest_reached f first (x ∷ (y ∷ rest)) h =
    let ih = largest_reached f y (y ∷ rest) (inl refl) in
    ⊎_elim (λ l. (ih.0, inr ih.1, omega (arith, ih.2))) (λ l. (x, inl refl, omega (arith, ih.2))) (cases_lt (f x) (largest f (y ∷ rest)))

module _ {t : Task} (law : Lawful t) where
  -- what the walk lists is complete
  walk_sound : (path : List ℕ) → In path (walk t) → Complete t path
  unfolding walk
  walk_sound path h =
      let w = in_each path t.pieces (λ v. not (any t.pieces (λ a. t.edge a v))) (trails t.pieces t.edge t.pieces) h in
      let on = trails_sound t.pieces t.edge (λ a b e. (law.ends a b e).1) path t.pieces w.0 w.1 w.3 in
      let parts = onward_parts t (w.0 ∷ on.0) on.2 in
      let source = last_of t.pieces (λ b a. t.edge a b) (λ b a e. (law.ends a b e).0) w.0 w.2 in
      subst (Complete t) (sym on.1) (record { linked = parts.0; first = source; last = parts.1 })

  -- and what is complete it lists
  walk_full : (path : List ℕ) → Complete t path → In path (walk t)
  unfolding walk
  walk_full [] c = absurd c.linked
  walk_full (a ∷ rest) c =
      let l = linked_start law a rest c.linked in
      each_in (a ∷ rest) t.pieces (λ v. not (any t.pieces (λ u. t.edge u v))) (trails t.pieces t.edge t.pieces) a l
      (not_from_false _ (none_any t.pieces (λ u. t.edge u a) (λ k m. c.first k)))
      (trails_full t.pieces t.edge (λ x y e. (law.ends x y e).1) (below t) (fewer_below law) t.pieces a rest (below_few law a l)
      (onward_from t (a ∷ rest) c.linked c.last))

  -- there is no piece, or some path is complete
  some_complete : (t.pieces ≡ 0) ⊎ ((path : List ℕ) × Complete t path)
  some_complete =
      ⊎_elim (λ l. let on = completed law (0 ∷ []) l in inr (on.0, on.1)) (λ l. inl (omega arith)) (cases_lt 0 t.pieces)

  none_listed : t.pieces ≡ 0 → (list : List (List ℕ)) → ((path : List ℕ) → In path list → Complete t path) → (f : List ℕ → ℕ) → largest f list ≡ 0
  none_listed none [] sound f = refl
  none_listed none (x ∷ xs) sound f = absurd (no_path x (sound x (inl refl)))
    where
      no_path : (path : List ℕ) → Complete t path → ⊥
      no_path [] c = c.linked
      no_path (a ∷ rest) c = omega (arith, linked_start law a rest c.linked)

  -- the largest value of f on the walk is the largest on a complete path
  walk_largest : (f : List ℕ → ℕ) → LargestOf t f (largest f (walk t))
  walk_largest f = record {
    bounds = λ path c. largest_bounds f path (walk t) (walk_full path c);
    reached = ⊎_elim (λ none. Or.inl (none, none_listed none (walk t) walk_sound f))
        (λ p. let w = largest_reached f p.0 (walk t) (walk_full p.0 p.1) in Or.inr (w.0, walk_sound w.0 w.1, w.2))
        some_complete;
  }

  pub is_numerator : (cores : ℕ) → Numerator t cores (numerator t cores)
  unfolding numerator
  is_numerator cores = walk_largest (numerator_of t cores)

  pub is_chain : Chain t (chain t)
  unfolding chain
  is_chain = walk_largest (length_of t)

pub bound_is_the_largest : BoundIsTheLargest
bound_is_the_largest t cores law = record {
  listed = λ path. (walk_sound law path, walk_full law path);
  largest = is_numerator law cores;
  unique = λ n num. largest_once num (is_numerator law cores);
  longest = is_chain law;
  longest_once = λ n long. largest_once long (is_chain law);
}
