-- The pieces held at work: what runs and what ends, as masks, and what it leaves. Assumes nothing.
use Rattle.std.proofs.Common.{◌≡◌, ℕ, ◌+◌, ◌-◌, ◌^◌, ◌<◌, cond, not, ◌&&◌, ◌||◌, eqb, ltb, List, get_or, sym, refl, ap, ◌∙◌, ap₂}
use mathlib.Core.Bool.{and-or_distrib_left}
use lib.Bits.{bit_and, bit_or}
use Rattle.std.proofs.lemmas.Bool.{and_parts, and_from, or_right, eq-eqb}
use Rattle.sets.specs.Sets.{member}
use Rattle.sets.proofs.Members.{member-and, member-or, member-minus}
use Rattle.theory.specs.Platforms.{Platform, Sound, runs, Works}
use Rattle.theory.proofs.Platforms.{works_sound}
use Rattle.platform.specs.Tables.{platform_from}
use Rattle.platform.specs.Holding.{EndsAlso}

-- what runs: of the set, what is held and has not ended
pub running_is : (worst ran : List ℕ) (held ended pieces : ℕ) → held < 2 ^ 64 → ended < 2 ^ 64 → ((k : ℕ) → member held k ≡ ltb 0 (get_or worst k 0))
    → (k : ℕ) → member (bit_and pieces (bit_and held (2 ^ 64 - 1 - ended))) k ≡ runs (platform_from worst ran ended) pieces k
running_is worst ran held ended pieces h e holds k =
    member-and pieces (bit_and held (2 ^ 64 - 1 - ended)) k
    ∙ ap (λ b. member pieces k && b) (member-minus held ended 64 k h e ∙ ap (λ b. b && not (member ended k)) (holds k))

module _ (worst ran : List ℕ) (ended pieces early running short : ℕ) (more : List ℕ)
    (run : (k : ℕ) → member running k ≡ runs (platform_from worst ran ended) pieces k)
    (reach : (k : ℕ) → member short k ≡ (member running k && eqb (get_or ran k 0 + 1) (get_or worst k 0)))
    (tick : (k : ℕ) → get_or more k 0 ≡ get_or ran k 0 + cond (member running k) 1 0) where
  abbrev p : Platform
  p = platform_from worst ran ended

  abbrev answer : ℕ
  answer = bit_or (bit_and running early) short

  -- what ends is early or runs its last tick
  pub ends_also : EndsAlso p pieces early answer
  ends_also k =
      member-or (bit_and running early) short k ∙ ap₂ (λ a b. a || b) (member-and running early k) (reach k)
      ∙ sym (and-or_distrib_left (member running k) (member early k) (eqb (get_or ran k 0 + 1) (get_or worst k 0)))
      ∙ ap (λ b. b && (member early k || eqb (get_or ran k 0 + 1) (get_or worst k 0))) (run k)

  pub held_works : Works p pieces answer (platform_from worst more (bit_or ended answer))
  held_works = record {
    worst = λ k. refl;
    ran = λ k. tick k ∙ ap (λ b. get_or ran k 0 + cond b 1 0) (run k);
    ended = λ k. member-or ended answer k;
    only = λ k h. (and_parts (runs p pieces k) (member early k || eqb (get_or ran k 0 + 1) (get_or worst k 0)) (sym (ends_also k) ∙ h)).0;
  }

  pub held_works_also : Works p pieces answer (platform_from worst more (bit_or ended answer)) × EndsAlso p pieces early answer
  held_works_also = (held_works, ends_also)

  pub held_sound : Sound p → Sound (platform_from worst more (bit_or ended answer))
  held_sound sound = works_sound held_works sound (λ k h last. ends_also k ∙ and_from (runs p pieces k) (member early k || eqb (get_or ran k 0 + 1) (get_or worst k 0)) h
      (or_right (member early k) (eqb (get_or ran k 0 + 1) (get_or worst k 0)) (eq-eqb (get_or ran k 0 + 1) (get_or worst k 0) last)))
