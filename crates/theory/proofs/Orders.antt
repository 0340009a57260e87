-- Interference part by part, and priorities compared both ways. Assumes nothing.
use Rattle.std.proofs.Common.{◌≡◌, ℕ, ◌<◌, true, false, not, ◌&&◌, eqb}
use mathlib.Core.Logic.Or
use mathlib.Core.Bool.{Bool-set}
use Rattle.std.proofs.lemmas.Bool.{both_ways, and_parts, and_from, not-true, not_from_false, eqb-false, ne_eqb}
use Rattle.theory.specs.Tasks.{Task, Lawful}
use Rattle.theory.specs.Paths.{parallel, interferes}

-- x is in the interference set of v, part by part
pub record Meets (t : Task) (v x : ℕ) : Type 0 where
  pub apart : x ≡ v → ⊥
  pub not_before : t.ancestor x v ≡ false
  pub not_behind : t.ancestor v x ≡ false
  pub ahead : t.not_after x v ≡ true

pub meets : (t : Task) (v x : ℕ) → interferes t v x ≡ true → Meets t v x
meets t v x h =
    let p = and_parts (parallel t x v) (t.not_after x v) h in
    let q = and_parts (not (eqb x v)) (not (t.ancestor x v) && not (t.ancestor v x)) p.0 in
    let r = and_parts (not (t.ancestor x v)) (not (t.ancestor v x)) q.1 in
    record {
      apart = eqb-false x v (not-true (eqb x v) q.0);
      not_before = not-true (t.ancestor x v) r.0;
      not_behind = not-true (t.ancestor v x) r.1;
      ahead = p.1;
    }

pub meets_so : (t : Task) (v x : ℕ) → Meets t v x → interferes t v x ≡ true
meets_so t v x m =
    and_from (parallel t x v) (t.not_after x v)
    (and_from (not (eqb x v)) (not (t.ancestor x v) && not (t.ancestor v x)) (not_from_false (eqb x v) (ne_eqb x v m.apart))
    (and_from (not (t.ancestor x v)) (not (t.ancestor v x)) (not_from_false (t.ancestor x v) m.not_before)
    (not_from_false (t.ancestor v x) m.not_behind)))
    m.ahead

-- a piece that is after another has the other not after it
pub other_way : {t : Task} → Lawful t → (a b : ℕ) → a < t.pieces → b < t.pieces → t.not_after a b ≡ false → t.not_after b a ≡ true
other_way {t} law a b la lb h =
    Or.elim (Bool-set (t.not_after b a) true) (law.total a b la lb) (λ p. absurd (both_ways (t.not_after a b) h p)) (λ q. q)
