-- The largest numerator of all, from what each piece has alone and with the walks that end at it. Assumes nothing.
use Rattle.std.proofs.Common.{◌≡◌, ℕ, ◌<◌, ◌≤◌, max, true, false, ltb, ◌⊎◌, sym, ◌∙◌, inl, inr, ⊎_elim, arith}
use Rattle.std.proofs.lemmas.Nat.{mul-le}
use Rattle.std.proofs.lemmas.Bool.{cases_Bool, cases_eq, cases_lt, lt-ltb, ltb-true}
use Rattle.sets.specs.Sets.{member, LargestWhere, SetOf}
use Rattle.sets.specs.Over.{LargestAnswer}
use Rattle.sets.proofs.Members.{first_below}
use Rattle.theory.specs.Tasks.{Task, Lawful}
use Rattle.theory.specs.Inner.{alone, Greatest}
use Rattle.theory.proofs.Ancestors.{ancestor_ends}

module _ {t : Task} (law : Lawful t) (cores : ℕ) (some : 1 ≤ cores) (M : ℕ → ℕ → ℕ) (none : (u w : ℕ) → t.ancestor u w ≡ false → M u w ≡ 0) where
  -- r is the larger of what w has alone and of the walks that end there
  abbrev pub Peak : ℕ → ℕ → Type 0
  Peak w r = (walk : ℕ) × LargestWhere (λ u. t.ancestor u w) (λ u. M u w) walk × (r ≡ max (alone t cores w) walk)

  -- where the largest of all comes from
  abbrev Way : ℕ → Type 0
  Way top = ((t.pieces ≡ 0) × (top ≡ 0)) ⊎ (((v : ℕ) × (v < t.pieces) × (alone t cores v ≡ top))
      ⊎ ((u : ℕ) × (w : ℕ) × (u < t.pieces) × (w < t.pieces) × (1 ≤ M u w) × (M u w ≡ top)))

  -- the largest of those is the largest of all
  pub greatest_of : {answer : ℕ → ℕ → Type 0} (pieces top : ℕ) → SetOf 64 (λ k. ltb k t.pieces) pieces → ((w r : ℕ) → w < t.pieces → answer w r → Peak w r)
      → LargestAnswer (member pieces) answer top → Greatest t cores M top
  greatest_of {answer} pieces top first peak l = record { over_pieces = over_pieces; over_walks = over_walks; reached = ⊎_elim empty filled (cases_eq t.pieces 0) }
    where
      all : (k : ℕ) → member pieces k ≡ ltb k t.pieces
      all = first_below t.pieces pieces law.few first

      on_task : (w : ℕ) → member pieces w ≡ true → w < t.pieces
      on_task w h = ltb-true w t.pieces (sym (all w) ∙ h)

      at : (w : ℕ) → w < t.pieces → (r : ℕ) × Peak w r × (r ≤ top)
      at w h = let b = l.bounds w (all w ∙ lt-ltb w t.pieces h) in (b.0, peak w b.0 h b.1, b.2)

      over_pieces : (v : ℕ) → v < t.pieces → alone t cores v ≤ top
      over_pieces v h = let a = at v h in omega (arith, a.1.2, a.2)

      over_walks : (u w : ℕ) → u < t.pieces → w < t.pieces → M u w ≤ top
      over_walks u w hu hw =
          let a = at w hw in
          ⊎_elim (λ h. omega (arith, a.1.1.bounds u h, a.1.2, a.2)) (λ h. omega (arith, none u w h)) (cases_Bool (t.ancestor u w))

      empty : t.pieces ≡ 0 → Way top
      empty e = inl (e, ⊎_elim (λ z. z) (λ r. absurd (omega (arith, e, on_task r.0 r.1))) l.reached)

      positive : (t.pieces ≡ 0 → ⊥) → 1 ≤ top
      positive d =
          let h : 0 < t.pieces = omega arith in
          omega (arith, over_pieces 0 h, mul-le 1 1 cores (t.worst 0) some (law.at_least 0 h))

      walked : (w walk : ℕ) → w < t.pieces → LargestWhere (λ u. t.ancestor u w) (λ u. M u w) walk → top ≡ walk → 1 ≤ top → Way top
      walked w walk h most e some_top =
          ⊎_elim (λ z. absurd (omega arith)) (λ r. inr (inr (r.0, w, (ancestor_ends law r.0 w r.1).0, h, omega (arith, r.2), omega (arith, r.2)))) most.reached

      filled : (t.pieces ≡ 0 → ⊥) → Way top
      filled d =
          ⊎_elim (λ z. absurd (omega (arith, positive d)))
          (λ r.
          let h = on_task r.0 r.1 in
          let p = peak r.0 top h r.2 in
          ⊎_elim (λ less. walked r.0 p.0 h p.1 (omega (arith, p.2)) (positive d)) (λ more. inr (inl (r.0, h, omega (arith, p.2)))) (cases_lt (alone t cores r.0) p.0))
          l.reached
