-- Closed and ranked tasks are lawful. Assumes nothing.
use Rattle.std.proofs.Common.{◌≡◌, ℕ, ◌<◌, ◌≤◌, Bool, true, ◌&&◌, ◌||◌, ltb, List, [], ◌∷◌, length, get_or, replicate, sym, refl, ap, ◌∙◌, subst, ⊎_elim, arith}
use mathlib.Core.Logic.Or
use mathlib.Core.Logic.{∥∥₁_elim, ∥∥₁_map}
use mathlib.Core.Bool.{Bool-set}
use Rattle.std.proofs.lemmas.Bool.{both_ways, cases_lt, and_parts, and_from, and_right, or_cases, lt-ltb, le-ltb, ltb-true}
use Rattle.sets.specs.Sets.{member}
use Rattle.theory.specs.Tasks.{Task, Leads, Lawful}
use Rattle.task.specs.Tables.{task_from, Columns, EmptyFrom}
use Rattle.task.specs.Filing.{Ranked}
use Rattle.sets.proofs.Tables.{none_in_zeros}
use Rattle.theory.proofs.Ancestors.{leads_same}

-- pieces with no edges between them and all equal in priority
module _ (count : ℕ) (worst after : List ℕ) (few : count ≤ 64) (least : (k : ℕ) → k < count → 1 ≤ get_or worst k 0) (most : (k : ℕ) → k < count → get_or worst k 0 ≤ 65535)
    (sets : Columns count (λ _ _. true) count after) (rest : EmptyFrom count after) where
  pub all_equal_lem : (a b : ℕ) → member (get_or after b 0) a ≡ (ltb a count && ltb b count)
  all_equal_lem a b =
      ⊎_elim (λ l. sets b l a ∙ ap (λ c. ltb a count && c) (sym (lt-ltb b count l))) (λ l. rest b a l ∙ sym (and_right (ltb a count) (ltb b count) (le-ltb b count l)))
      (cases_lt b count)

  abbrev closed : Task
  closed = task_from count worst (replicate 64 0) (replicate 64 0) after

  no_leads : {a b : ℕ} → Leads closed a b → ⊥
  no_leads {a} {b} (Leads.one e) = both_ways (closed.edge a b) (none_in_zeros 64 b a) e
  no_leads {a} {b} (Leads.more {b = c} l e) = both_ways (closed.edge c b) (none_in_zeros 64 b c) e

  equal : (a b : ℕ) → a < count → b < count → closed.not_after a b ≡ true
  equal a b h k = all_equal_lem a b ∙ and_from (ltb a count) (ltb b count) (lt-ltb a count h) (lt-ltb b count k)

  on : (a b : ℕ) → closed.not_after a b ≡ true → (a < count) × (b < count)
  on a b h = let p = and_parts (ltb a count) (ltb b count) (sym (all_equal_lem a b) ∙ h) in (ltb-true a count p.0, ltb-true b count p.1)

  pub closed_lawful : Lawful (task_from count worst (replicate 64 0) (replicate 64 0) after)
  closed_lawful = record {
    few = few;
    at_least = least;
    at_most = most;
    ends = λ a b e. absurd (both_ways (closed.edge a b) (none_in_zeros 64 b a) e);
    exact = λ a b. (λ e. absurd (both_ways (closed.ancestor a b) (none_in_zeros 64 b a) e), λ h. ∥∥₁_elim h (Bool-set (closed.ancestor a b) true) (λ w. absurd (no_leads w)));
    acyclic = λ a. none_in_zeros 64 a a;
    total = λ a b h k. Or.inl (equal a b h k);
    transitive = λ a b c h k. equal a c (on a b h).0 (on b c k).1;
  }

some_of : {P : Type 0} (ps : List P) (k : ℕ) → k < length ps → P
some_of [] k h = absurd (omega arith)
some_of (p ∷ ps) k h = p

module _ {P : Type 0} (not_after : P → P → Bool) (whole : (a b : P) → (not_after a b || not_after b a) ≡ true)
    (follows : (a b c : P) → not_after a b ≡ true → not_after b c ≡ true → not_after a c ≡ true)
    (pieces : ℕ) (worst predecessors ancestors before after : List ℕ) (ps : List P) (each : length ps ≡ pieces)
    (sets : (p : P) → Columns (length ps) (λ x y. not_after (get_or ps x p) (get_or ps y p)) (length ps) after) (rest : EmptyFrom (length ps) after) where
  abbrev old : Task
  old = task_from pieces worst predecessors ancestors before

  abbrev new : Task
  new = task_from pieces worst predecessors ancestors after

  compares : (a b : ℕ) (p : P) → (a < pieces) × (b < pieces) → new.not_after a b ≡ not_after (get_or ps a p) (get_or ps b p)
  compares a b p h =
      let t : ltb a (length ps) ≡ true = lt-ltb a (length ps) (omega arith) in
      sets p b (omega arith) a ∙ ap (λ c. c && not_after (get_or ps a p) (get_or ps b p)) t

  on_ranked : (a b : ℕ) → new.not_after a b ≡ true → (a < pieces) × (b < pieces)
  on_ranked a b h =
      ⊎_elim (λ l.
      let q = and_parts (ltb a (length ps)) (not_after (get_or ps a (some_of ps b l)) (get_or ps b (some_of ps b l))) (sym (sets (some_of ps b l) b l a) ∙ h) in
      let m : a < length ps = ltb-true a (length ps) q.0 in
      (omega arith, omega arith))
      (λ l. absurd (both_ways (new.not_after a b) (rest b a l) h))
      (cases_lt b (length ps))

  pub ranked : Ranked not_after (task_from pieces worst predecessors ancestors before) ps (task_from pieces worst predecessors ancestors after)
  ranked = (refl, λ k. refl, λ a b. refl, compares, on_ranked)

  pub ranked_lawful : Lawful (task_from pieces worst predecessors ancestors before) → Lawful (task_from pieces worst predecessors ancestors after)
  ranked_lawful law = record {
    few = law.few;
    at_least = law.at_least;
    at_most = law.at_most;
    ends = law.ends;
    exact = λ a b. (λ h. ∥∥₁_map ((law.exact a b).0 h) (leads_same (λ x y e. e)), λ h. (law.exact a b).1 (∥∥₁_map h (leads_same (λ x y e. e))));
    acyclic = law.acyclic;
    total = λ a b h k.
        let p = some_of ps a (omega arith) in
        ⊎_elim (λ y. Or.inl (compares a b p (h, k) ∙ y)) (λ y. Or.inr (compares b a p (k, h) ∙ y))
        (or_cases (not_after (get_or ps a p) (get_or ps b p)) (not_after (get_or ps b p) (get_or ps a p)) (whole (get_or ps a p) (get_or ps b p)));
    transitive = λ a b c h k.
        let u = on_ranked a b h in
        let v = on_ranked b c k in
        let p = some_of ps a (subst (λ n. a < n) (sym each) u.0) in
        compares a c p (u.0, v.1) ∙ follows (get_or ps a p) (get_or ps b p) (get_or ps c p) (sym (compares a b p u) ∙ h) (sym (compares b c p v) ∙ k);
  }
