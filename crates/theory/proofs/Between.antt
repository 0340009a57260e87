-- The bound lies between the longest chain and that chain plus its share of the rest. Assumes nothing.
use Rattle.std.proofs.Common.{ℕ, ◌+◌, ◌-◌, ◌*◌, ◌/◌, ◌≤◌, sym, subst, le_of_eq, mul-le-mul_left, arith}
use native.Mathlib.Nat.{mul-add-div}
use native.Mathlib.Bridge.{le_prop}
use mathlib.Core.Logic.Or
use Rattle.std.proofs.lemmas.Nat.{le-div}
use Rattle.theory.specs.Tasks.{Task, Lawful}
use Rattle.theory.specs.Paths.{Numerator, Chain, length_of, interferes_with, volume_of, volume}
use Rattle.theory.specs.Listing.{numerator, bound, chain}
use Rattle.theory.specs.Laws.{BoundBetween}
use Rattle.theory.proofs.Quotients.{div_mono, share}
use Rattle.theory.proofs.Volumes.{within_volume}
use Rattle.theory.proofs.Largest.{is_numerator, is_chain}
use Rattle.theory.proofs.Sizes.{chain_small}

module _ {t : Task} (law : Lawful t) (cores n long : ℕ) (some : 1 ≤ cores) (num : Numerator t cores n) (is : Chain t long) where
  -- the numerator of the longest path is at least the cores times its length
  low : long ≤ n / cores
  low =
      Or.elim le_prop is.reached (λ none. omega arith)
      (λ p. le-div long n cores some (omega (arith, num.bounds p.0 p.1, mul-le-mul_left cores (le_of_eq (sym p.2)))))

  -- the interfering work of any path is what its length leaves of the volume at most
  high : n ≤ cores * long + (volume t - long)
  high =
      Or.elim le_prop num.reached (λ none. omega arith)
      (λ p.
      subst (λ x. x ≤ cores * long + (volume t - long)) p.2
      (share cores (length_of t p.0) long (volume_of t (interferes_with t p.0)) (volume t) some (is.bounds p.0 p.1) (chain_small law long is)
      (within_volume law p.0 p.1.linked)))

pub bound_between : BoundBetween
unfolding bound
bound_between t cores law some =
    let n = numerator t cores in
    let num = is_numerator law cores in
    let rest = volume t - chain t in
    let most = div_mono n (cores * chain t + rest) cores some (high law cores n (chain t) some num (is_chain law)) in
    (low law cores n (chain t) some num (is_chain law), omega (arith, most, mul-add-div some (chain t) rest))
