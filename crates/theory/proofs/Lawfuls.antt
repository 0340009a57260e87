-- A task is lawful in one way at most, so that the fact comes out of a truncation. Assumes nothing.
use mathlib.Core.Logic.{∥∥₁_elim, ∥∥₁_prop, ∨₁_prop, ↔_prop}
use mathlib.Core.HLevel.{×_prop}
use Rattle.std.proofs.Common.{true, false}
use mathlib.Core.Bool.{Bool-set}
use native.Mathlib.Bridge.{le_prop}
use Rattle.theory.specs.Tasks.{Task, Lawful}

lawful_prop : (t : Task) → IsProp (Lawful t)
lawful_prop t x y =
    λ i. record {
      few = le_prop x.few y.few i;
      at_least = λ k h. le_prop (x.at_least k h) (y.at_least k h) i;
      at_most = λ k h. le_prop (x.at_most k h) (y.at_most k h) i;
      ends = λ a b e. ×_prop le_prop le_prop (x.ends a b e) (y.ends a b e) i;
      exact = λ a b. ↔_prop (Bool-set (t.ancestor a b) true) ∥∥₁_prop (x.exact a b) (y.exact a b) i;
      acyclic = λ a. Bool-set (t.ancestor a a) false (x.acyclic a) (y.acyclic a) i;
      total = λ a b g h. ∨₁_prop (x.total a b g h) (y.total a b g h) i;
      transitive = λ a b c g h. Bool-set (t.not_after a c) true (x.transitive a b c g h) (y.transitive a b c g h) i;
    }

pub lawful_of : {t : Task} → ∥ Lawful t ∥₁ → Lawful t
lawful_of {t} l = ∥∥₁_elim l (lawful_prop t) (λ x. x)
