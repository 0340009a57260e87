-- Pieces as they are held at first: by their worst times, and none has run. Assumes nothing.
use Rattle.std.proofs.Common.{◌≡◌, ℕ, ◌<◌, ◌≤◌, ◌&&◌, ltb, List, get_or, replicate, sym, ◌∙◌, ap₂, ⊎_elim, arith}
use Rattle.std.proofs.lemmas.Bool.{cases_lt, both_ways, and_right, lt-ltb, le-ltb}
use Rattle.sets.specs.Sets.{member, SetOf}
use Rattle.sets.proofs.Members.{member-zero}
use Rattle.sets.proofs.Tables.{zeros}
use Rattle.theory.specs.Tasks.{WorstFits}
use Rattle.theory.specs.Platforms.{Sound}
use Rattle.platform.specs.Tables.{platform_from}

module _ (worst : List ℕ) (pieces : ℕ) (few : pieces ≤ 64) (fit : (k : ℕ) → k < pieces → WorstFits (get_or worst k 0)) (no_other : (k : ℕ) → pieces ≤ k → get_or worst k 0 ≡ 0) where
  pub fresh_most : (k : ℕ) → get_or worst k 0 ≤ 65535
  fresh_most k = ⊎_elim (λ l. (fit k l).1) (λ l. omega (arith, no_other k l)) (cases_lt k pieces)

  -- the pieces below their number are those with a worst time
  pub fresh_holds : (held : ℕ) → SetOf 64 (λ k. ltb k pieces) held → (k : ℕ) → member held k ≡ ltb 0 (get_or worst k 0)
  fresh_holds held all k = all k ∙ ⊎_elim
      (λ l. ap₂ (λ a b. a && b) (lt-ltb k 64 (omega arith)) (lt-ltb k pieces l) ∙ sym (lt-ltb 0 (get_or worst k 0) (fit k l).0))
      (λ l. and_right (ltb k 64) (ltb k pieces) (le-ltb k pieces l) ∙ sym (le-ltb 0 (get_or worst k 0) (omega (arith, no_other k l))))
      (cases_lt k pieces)

  pub fresh_sound : Sound (platform_from worst (replicate 64 0) 0)
  fresh_sound = record {
    beyond = λ k l. no_other k (omega arith);
    within = λ k. omega (arith, zeros 64 k);
    begun = λ k e. absurd (both_ways (member 0 k) (member-zero k) e);
    finished = λ k held e. absurd (omega (arith, zeros 64 k));
  }
