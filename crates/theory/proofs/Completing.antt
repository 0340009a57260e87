-- Every path is part of a complete one, which is no shorter and whose numerator is no smaller. Assumes nothing.
use Rattle.std.proofs.Common.{ℕ, zero, suc, ◌<◌, ◌≤◌, List, [], ◌∷◌, ◌++◌, ⊎_elim, arith}
use Rattle.theory.specs.Tasks.{Task, above, below, Lawful}
use Rattle.theory.specs.Paths.{Linked, Sink, EndsAt, Complete, length_of, numerator_of}
use Rattle.theory.proofs.Ancestors.{fewer_above, fewer_below}
use Rattle.theory.proofs.Paths.{length-append, numerator-append, numerator_before}
use Rattle.theory.proofs.Listed.{Trail, next_or, trail_from}

-- along the edges to a sink
abbrev Onward : Task → List ℕ → Type 0
Onward t = Trail t.pieces t.edge

module _ (t : Task) where
  -- to go on to a sink is to be linked, and to end at one
  pub onward_parts : (path : List ℕ) → Onward t path → Linked t path × EndsAt t (Sink t) path
  onward_parts [] h = absurd h
  onward_parts (a ∷ []) h = h
  onward_parts (a ∷ (b ∷ rest)) h = let on = onward_parts (b ∷ rest) h.1 in ((h.0, on.0), on.1)

  pub onward_from : (path : List ℕ) → Linked t path → EndsAt t (Sink t) path → Onward t path
  onward_from [] l e = l
  onward_from (a ∷ []) l e = (l, e)
  onward_from (a ∷ (b ∷ rest)) l e = (l.0, onward_from (b ∷ rest) l.1 e)

  -- a complete path that is no shorter than the list, and whose numerator is no smaller
  abbrev Within : List ℕ → Type 0
  Within list =
      (path : List ℕ) × Complete t path × (length_of t list ≤ length_of t path) × ((cores : ℕ) → numerator_of t cores list ≤ numerator_of t cores path)

module _ {t : Task} (law : Lawful t) where
  -- a path goes on to a sink
  to_sink : (a : ℕ) (rest : List ℕ) → Linked t (a ∷ rest) → (more : List ℕ) × Onward t (a ∷ (rest ++ more))
  to_sink a [] l = trail_from t.pieces t.edge (λ x y e. (law.ends x y e).1) (below t) (fewer_below law) (suc (below t a)) a l (omega arith)
  to_sink a (b ∷ rest) l = let on = to_sink b rest l.1 in (on.0, (l.0, on.1))

  -- and back to a source, by an edge in front as long as there is one
  from_source : (fuel a : ℕ) (rest : List ℕ) → above t a < fuel → Onward t (a ∷ rest) → Within t (a ∷ rest)
  from_source zero a rest few on = absurd (omega arith)
  from_source (suc fuel) a rest few on =
      ⊎_elim (λ w.
      let whole = from_source fuel w.0 (a ∷ rest) (omega (arith, fewer_above law w.0 a w.1)) (w.1, on) in
      (whole.0, whole.1, omega (arith, whole.2), λ cores. omega (arith, whole.3 cores, numerator_before t cores w.0 (a ∷ rest))))
      (λ none.
      let parts = onward_parts t (a ∷ rest) on in
      (a ∷ rest, record { linked = parts.0; first = none; last = parts.1 }, omega arith, λ cores. omega arith))
      (next_or t.pieces (λ b c. t.edge c b) (λ b c e. (law.ends c b e).0) a)

  pub completed : (path : List ℕ) → Linked t path → Within t path
  completed [] l = absurd l
  completed (a ∷ rest) l =
      let on = to_sink a rest l in
      let whole = from_source (suc (above t a)) a (rest ++ on.0) (omega arith) on.1 in
      let longer = length-append t (a ∷ rest) on.0 in
      (whole.0, whole.1, omega (arith, whole.2), λ cores. omega (arith, whole.3 cores, numerator-append t cores (a ∷ rest) on.0))
