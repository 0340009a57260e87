-- The table of the largest numerators of walks: as it begins, and as one more piece is allowed. Assumes nothing.
use Rattle.std.proofs.Common.{◌≡◌, ℕ, ◌+◌, ◌-◌, ◌<◌, ◌≤◌, max, true, cond, ◌||◌, eqb, ◌⊎◌, List, [], ◌∷◌, ◌++◌, sym, ap, ◌∙◌, inl, inr, arith}
use Rattle.std.proofs.lemmas.Bool.{cases_lt, cases_Bool, eqb-false, cond-true, cond-false, or_parts}
use Rattle.std.proofs.lemmas.Bool.Decides.{nat_tests}
use Rattle.theory.specs.Tasks.{Task, Lawful}
use Rattle.theory.specs.Inner.{Via, weight, twice, straight, Best, stepped}
use Rattle.theory.proofs.Walking.{via_wider, via_join, via_within}
use Rattle.theory.proofs.Splitting.{Parts, weight_join, weight_pos, splits}

-- an entry never shrinks, is at least what leads through the piece where something does, and is one of the two
step_less : (a b m c : ℕ) → m ≤ cond (eqb a 0 || eqb b 0) m (max m ((a + b) - c))
step_less a b m c = grind (arith, nat_tests)

step_through : (a b m c : ℕ) → 1 ≤ a → 1 ≤ b → (a + b) - c ≤ cond (eqb a 0 || eqb b 0) m (max m ((a + b) - c))
step_through a b m c p q = grind (arith, nat_tests)

step_cases : (a b m c : ℕ)
    → (cond (eqb a 0 || eqb b 0) m (max m ((a + b) - c)) ≡ m) ⊎ ((1 ≤ a) × (1 ≤ b) × (cond (eqb a 0 || eqb b 0) m (max m ((a + b) - c)) ≡ (a + b) - c))
step_cases a b m c =
    elim (cases_Bool (eqb a 0 || eqb b 0)) [
      | inl h ↦ inl (cond-true (eqb a 0 || eqb b 0) m (max m ((a + b) - c)) h)
      | inr h ↦
          let e = cond-false (eqb a 0 || eqb b 0) m (max m ((a + b) - c)) h in
          let z = or_parts (eqb a 0) (eqb b 0) h in
          let p = eqb-false a 0 z.0 in
          let q = eqb-false b 0 z.1 in
          elim (cases_lt m ((a + b) - c)) [ inl l ↦ inr (omega arith, omega arith, omega (arith, e)) | inr l ↦ inl (omega (arith, e)) ]
    ]

-- the entry u w of a table is 0, or a walk reaches it
abbrev Reached : (t : Task) → ℕ → (ℕ → Type 0) → (ℕ → ℕ → ℕ) → ℕ → ℕ → Type 0
Reached t cores E M u w = (M u w ≡ 0) ⊎ ((l : List ℕ) × Via t E u l w × (weight t cores u l w ≡ M u w))

-- once v is allowed too, no allowed piece before being after v, each entry is the larger of what it was and what leads through v
module _ {t : Task} (law : Lawful t) (cores : ℕ) (some_core : 1 ≤ cores) (E F : ℕ → Type 0) (v : ℕ) (piece : v < t.pieces)
    (wider : (x : ℕ) → E x → F x) (it : F v) (narrow : (x : ℕ) → F x → (x ≡ v → ⊥) → E x)
    (ahead : (a : ℕ) → E a → t.not_after a v ≡ true) where
  pub eliminated : (M N : ℕ → ℕ → ℕ) → Best t cores E M
      → ((u w : ℕ) → u < t.pieces → w < t.pieces → N u w ≡ stepped t cores M v u w) → Best t cores F N
  eliminated M N best same = record { bounds = bounds'; reached = reached' }
    where
      bounds' : (u w : ℕ) (l : List ℕ) → Via t F u l w → weight t cores u l w ≤ N u w
      bounds' u w l p =
          let i = via_within law F u l w p in
          let e = same u w i.0 i.1 in
          elim (splits law E F v narrow u l w p) [
            | inl q ↦ omega (arith, e, best.bounds u w l q, step_less (M u v) (M v w) (M u w) (twice t cores u v w))
            | inr s ↦ through e s
          ]
        where
          through : N u w ≡ stepped t cores M v u w → Parts t E u v w l → weight t cores u l w ≤ N u w
          through e s =
              let a = best.bounds u v s.front s.first in
              let b = best.bounds v w s.back s.second in
              let a₁ = weight_pos law cores some_core E u s.front v s.first in
              let b₁ = weight_pos law cores some_core E v s.back w s.second in
              let j = weight_join law cores E u v w ahead s.front s.back s.first s.second in
              let k : weight t cores u l w ≡ weight t cores u (s.front ++ v ∷ s.back) w = ap (λ y. weight t cores u y w) s.whole in
              omega (arith, e, step_through (M u v) (M v w) (M u w) (twice t cores u v w) (omega arith) (omega arith))

      reached' : (u w : ℕ) → u < t.pieces → w < t.pieces → Reached t cores F N u w
      reached' u w hu hw =
          elim (step_cases (M u v) (M v w) (M u w) (twice t cores u v w)) [
            | inl e ↦ old e (best.reached u w hu hw)
            | inr d ↦ new d (best.reached u v hu piece) (best.reached v w piece hw)
          ]
        where
          n : N u w ≡ stepped t cores M v u w
          n = same u w hu hw

          old : stepped t cores M v u w ≡ M u w → Reached t cores E M u w → Reached t cores F N u w
          old e (inl z) = inl (n ∙ e ∙ z)
          old e (inr r) = inr (r.0, via_wider t E F wider u r.0 w r.1, r.2 ∙ sym (n ∙ e))

          new : (1 ≤ M u v) × (1 ≤ M v w) × (stepped t cores M v u w ≡ (M u v + M v w) - twice t cores u v w)
              → Reached t cores E M u v → Reached t cores E M v w → Reached t cores F N u w
          new d (inl z) s = absurd (omega (arith, d.0))
          new d (inr r) (inl z) = absurd (omega (arith, d.1))
          new d (inr r) (inr s) =
              let j = weight_join law cores E u v w ahead r.0 s.0 r.1 s.1 in
              inr (r.0 ++ v ∷ s.0, via_join t E F wider u r.0 v s.0 w r.1 it s.1, omega (arith, n, d.2, j, r.2, s.2))

module _ {t : Task} (law : Lawful t) (cores : ℕ) where
  -- where no piece is allowed yet, a single edge is the only walk
  pub begun : (E : ℕ → Type 0) (M : ℕ → ℕ → ℕ) → ((x : ℕ) → E x → ⊥)
      → ((u w : ℕ) → u < t.pieces → w < t.pieces → M u w ≡ straight t cores u w) → Best t cores E M
  begun E M none same = record { bounds = bounds'; reached = reached' }
    where
      bounds' : (u w : ℕ) (l : List ℕ) → Via t E u l w → weight t cores u l w ≤ M u w
      bounds' u w [] p =
          let i = law.ends u w p in
          omega (arith, same u w i.0 i.1, cond-true (t.edge u w) (weight t cores u [] w) 0 p)
      bounds' u w (x ∷ l) p = absurd (none x p.1)

      reached' : (u w : ℕ) → u < t.pieces → w < t.pieces → Reached t cores E M u w
      reached' u w hu hw =
          elim (cases_Bool (t.edge u w)) [
            | inl e ↦ inr ([], e, sym (same u w hu hw ∙ cond-true (t.edge u w) (weight t cores u [] w) 0 e))
            | inr e ↦ inl (same u w hu hw ∙ cond-false (t.edge u w) (weight t cores u [] w) 0 e)
          ]

  -- the table depends on which pieces are allowed, and not on how that is said
  pub best_same : (E F : ℕ → Type 0) (M : ℕ → ℕ → ℕ) → ((x : ℕ) → E x → F x) → ((x : ℕ) → F x → E x) → Best t cores E M → Best t cores F M
  best_same E F M there back best = record {
    bounds = λ u w l p. best.bounds u w l (via_wider t F E back u l w p);
    reached = λ u w hu hw. elim (best.reached u w hu hw) [ inl z ↦ inl z | inr r ↦ inr (r.0, via_wider t E F there u r.0 w r.1, r.2) ];
  }
