-- The five numbers and the laws that they keep. Assumes nothing.
use Rattle.std.proofs.Common.{◌≡◌, ℕ, ◌-◌, ◌/◌, ◌^◌, ◌<◌, ◌≤◌, ap, ⊎_elim, arith}
use Rattle.std.proofs.lemmas.Nat.{mul-le}
use Rattle.std.proofs.lemmas.Bool.{cases_lt}
use Rattle.theory.specs.Tasks.{Task, Lawful}
use Rattle.theory.specs.Paths.{Numerator, volume}
use Rattle.theory.specs.Listing.{bound}
use Rattle.theory.proofs.Largest.{largest_once, is_numerator, is_chain, bound_is_the_largest}
use Rattle.theory.proofs.Between.{bound_between}
use Rattle.theory.proofs.Sustained.{bound_is_sustainable}
use Rattle.numerator.specs.Finding.{CoresFit}
use Rattle.bound.specs.Bounds.{Percent, Bounded}
use Rattle.bound.specs.Laws.{Lawfully}
use Rattle.bound.specs.declared.answers.Bound.{Bound}

module _ {t : Task} (law : Lawful t) where
  -- the numerator has a name, and so has the bound
  pub bound_named : (cores n : ℕ) → Numerator t cores n → n / cores ≡ bound t cores
  unfolding bound
  bound_named cores n num = ap (λ x. x / cores) (largest_once num (is_numerator law cores))

  pub keeps_laws : (cores : ℕ) → CoresFit cores → (b : Bound) → Bounded t cores b → Lawfully t cores b
  keeps_laws cores fits b d =
      let between = bound_between t cores law fits.0 in
      let long = largest_once d.chain (is_chain law) in
      record {
        not_below = omega (arith, between.0, d.named);
        not_above = omega (arith, between.1, d.named, ap (λ x. (volume t - x) / cores) long, ap (λ x. (x - b.chain) / cores) d.volume);
        sustained = λ s more e laws easier l many other. omega (arith, bound_is_sustainable s t more cores laws law easier fits.0 l, d.named, other.named);
        largest = bound_is_the_largest t cores law;
      }

-- a share of so much at most, of 1 or more, is small
pub percent_small : (part whole p : ℕ) → part ≤ 4194240 → whole ≤ 67107840 → Percent part whole p → p < 2 ^ 32
percent_small part whole p few most h =
    ⊎_elim (λ some. omega (arith, h.at_least some, mul-le p 1 p whole (omega arith) some)) (λ zero. omega (arith, h.none (omega arith))) (cases_lt 0 whole)
