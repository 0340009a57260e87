-- Platforms at work: what runs, and that working keeps a platform sound. Assumes nothing.
use Rattle.std.proofs.Common.{◌≡◌, ℕ, ◌+◌, ◌<◌, true, false, cond, not, ◌&&◌, ltb, sym, ap, ◌∙◌, ⊎_elim, arith}
use native.Mathlib.Bridge.{le_prop}
use native.Mathlib.Nat.{ℕ_set}
use mathlib.Core.Logic.{∥∥₁_elim}
use mathlib.Core.Bool.{Bool-set}
use Rattle.std.proofs.lemmas.Bool.{and_parts, both_ways, cases_Bool, or_cases, or_left, or_right, ltb-true, not-true}
use Rattle.sets.specs.Sets.{member}
use Rattle.theory.specs.Platforms.{Platform, Sound, runs, Works}

-- a platform is sound in one way at most, so that the fact comes out of a truncation
sound_prop : (p : Platform) → IsProp (Sound p)
sound_prop p x y =
    λ i. record {
      beyond = λ k h. ℕ_set (p.worst k) 0 (x.beyond k h) (y.beyond k h) i;
      within = λ k. le_prop (x.within k) (y.within k) i;
      begun = λ k h. le_prop (x.begun k h) (y.begun k h) i;
      finished = λ k g h. Bool-set (p.ended k) true (x.finished k g h) (y.finished k g h) i;
    }

pub sound_of : {p : Platform} → ∥ Sound p ∥₁ → Sound p
sound_of {p} s = ∥∥₁_elim s (sound_prop p) (λ x. x)

-- what runs is in the set, held, and has not ended
pub runs_parts : (p : Platform) (set k : ℕ) → runs p set k ≡ true → (member set k ≡ true) × (0 < p.worst k) × (p.ended k ≡ false)
runs_parts p set k h =
    let outer = and_parts (member set k) (ltb 0 (p.worst k) && not (p.ended k)) h in
    let inner = and_parts (ltb 0 (p.worst k)) (not (p.ended k)) outer.1 in
    (outer.0, ltb-true 0 (p.worst k) inner.0, not-true (p.ended k) inner.1)

-- and has a tick left to run
pub room : {p : Platform} → Sound p → (set k : ℕ) → runs p set k ≡ true → p.ran k < p.worst k
room {p} sound set k h =
    let parts = runs_parts p set k h in
    let most = sound.within k in
    let short : p.ran k ≡ p.worst k → ⊥ = λ e. both_ways (p.ended k) parts.2 (sound.finished k parts.1 e) in
    omega arith

module _ {p q : Platform} {set answer : ℕ} (work : Works p set answer q) where
  pub ran_on : (k : ℕ) → runs p set k ≡ true → q.ran k ≡ p.ran k + 1
  ran_on k h = work.ran k ∙ ap (λ b. p.ran k + cond b 1 0) h

  pub ran_as_before : (k : ℕ) → runs p set k ≡ false → q.ran k ≡ p.ran k
  ran_as_before k h = work.ran k ∙ ap (λ b. p.ran k + cond b 1 0) h ∙ omega arith

  -- a platform whose pieces end with their last tick at the latest stays sound
  pub works_sound : Sound p → ((k : ℕ) → runs p set k ≡ true → p.ran k + 1 ≡ p.worst k → member answer k ≡ true) → Sound q
  works_sound sound last = record {
    beyond = λ k l. work.worst k ∙ sound.beyond k l;
    within = λ k. ⊎_elim
        (λ h. omega (arith, ran_on k h, work.worst k, room sound set k h))
        (λ h. omega (arith, ran_as_before k h, work.worst k, sound.within k))
        (cases_Bool (runs p set k));
    begun = λ k e. ⊎_elim
        (λ before. omega (arith, work.ran k, sound.begun k before))
        (λ now. omega (arith, ran_on k (work.only k now)))
        (or_cases (p.ended k) (member answer k) (sym (work.ended k) ∙ e));
    finished = λ k held all. work.ended k ∙ ⊎_elim
        (λ h. or_right (p.ended k) (member answer k) (last k h (omega (arith, ran_on k h, work.worst k))))
        (λ h. or_left (p.ended k) (member answer k) (sound.finished k (omega (arith, work.worst k)) (omega (arith, ran_as_before k h, work.worst k))))
        (cases_Bool (runs p set k));
  }
