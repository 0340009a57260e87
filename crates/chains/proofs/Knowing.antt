-- Tables of remaining chains as they fill up. Assumes nothing.
use Rattle.std.proofs.Common.{◌≡◌, ℕ, ◌+◌, ◌<◌, ◌≤◌, Bool, true, false, cond, ◌||◌, eqb, ltb, List, length, get_or, replicate, sym, refl, ap, ◌∙◌, subst, ⊎_elim, arith, get_or-set_other, get_or-set_same}
use mathlib.Core.Bool.{or_assoc}
use lib.ListN as ListN
use Rattle.std.proofs.lemmas.Bool.{both_ways, cases_Bool, cases_eq, cases_lt, or_cases, or_left, or_right, or_parts, eqb-true, eq-eqb, cond-true, lt-ltb, le-leb, lt-leb}
use Rattle.sets.specs.Sets.{member, SetOf, Without, LargestWhere}
use Rattle.sets.specs.Levels.{level_of, ByKey}
use Rattle.sets.specs.declared.levels.Levelled.{Levelled}
use Rattle.sets.proofs.Tables.{zeros}
use Rattle.sets.proofs.Members.{set_true}
use Rattle.sets.proofs.Iterating.{passed, Within, passed_more}
use Rattle.sets.proofs.Bests.{largest_same}
use Rattle.sets.proofs.Levelling.{by_key_at}
use Rattle.theory.specs.Tasks.{Task, above, Lawful}
use Rattle.theory.specs.Paths.{Remaining}
use Rattle.theory.proofs.Ancestors.{fewer_above, above_few}
use Rattle.theory.proofs.Remaining.{remaining_step, remaining_small}
use Rattle.theory.proofs.Sizes.{volume_most}
use Rattle.task.specs.Filing.{Related}
use Rattle.task.proofs.Filed.{related_at}
use Rattle.chains.specs.Chains.{deep, Known}

module _ (t : Task) where
  -- nothing is known at first
  known_none : (p : ℕ → Bool) → ((v : ℕ) → v < t.pieces → p v ≡ false) → Known t p (replicate 64 0)
  known_none p none = record { exact = λ v l h. absurd (both_ways (p v) (none v l) h); open_yet = λ v _. zeros 64 v }

  -- one more entry is written
  known_more : (p q : ℕ → Bool) (old : List ℕ) (v n : ℕ) → v < length old → v < t.pieces → Known t p old
      → ((j : ℕ) → q j ≡ (p j || eqb v j)) → Remaining t v n → Known t q (ListN.set old v n)
  known_more p q old v n inside on_task k one here = record { exact = exact; open_yet = open_yet }
    where
      exact : (j : ℕ) → j < t.pieces → q j ≡ true → Remaining t j (get_or (ListN.set old v n) j 0)
      exact j l h =
          ⊎_elim (λ e. subst (λ x. Remaining t x (get_or (ListN.set old v n) x 0)) (sym e) (subst (Remaining t v) (sym (get_or-set_same old v n 0 inside)) here))
          (λ d. subst (Remaining t j) (sym (get_or-set_other old v j n 0 d))
          (k.exact j l (⊎_elim (λ was. was) (λ is. absurd (d (sym (eqb-true v j is)))) (or_cases (p j) (eqb v j) (sym (one j) ∙ h)))))
          (cases_eq j v)

      open_yet : (j : ℕ) → (j < t.pieces → q j ≡ false) → get_or (ListN.set old v n) j 0 ≡ 0
      open_yet j none =
          ⊎_elim (λ e. absurd (both_ways (q v) (subst (λ x. q x ≡ false) e (none (subst (λ x. x < t.pieces) (sym e) on_task))) (one v ∙ or_right (p v) (eqb v v) (eq-eqb v v refl))))
          (λ d. get_or-set_other old v j n 0 d ∙ k.open_yet j (λ l. (or_parts (p j) (eqb v j) (sym (one j) ∙ none l)).0))
          (cases_eq j v)

module _ {t : Task} (law : Lawful t) where
  -- what the table holds is small
  known_small : (p : ℕ → Bool) (lengths : List ℕ) → Known t p lengths → (v : ℕ) → get_or lengths v 0 ≤ 4194240
  known_small p lengths k v =
      ⊎_elim (λ l. ⊎_elim (λ h. omega (arith, remaining_small law v _ (k.exact v l h), volume_most law)) (λ h. omega (arith, k.open_yet v (λ _. h))) (cases_Bool (p v)))
      (λ l. omega (arith, k.open_yet v (λ m. absurd (omega arith))))
      (cases_lt v t.pieces)

  -- where all that follow v are known, the largest of theirs and its worst time are its own
  known_here : (p : ℕ → Bool) (lengths : List ℕ) (v after n : ℕ) → v < t.pieces → Known t p lengths
      → ((w : ℕ) → t.edge v w ≡ true → p w ≡ true) → Related t (λ x y. t.edge y x) v after
      → LargestWhere (member after) (λ w. get_or lengths w 0) n → Remaining t v (t.worst v + n)
  known_here p lengths v after n on_task k ready related most =
      remaining_step t (λ w. get_or lengths w 0) v n on_task
      (largest_same (member after) (t.edge v) _ n
      (λ w. sym (related_at t (λ x y. t.edge y x) v after on_task related w)) most)
      (λ w e. k.exact w (law.ends v w e).1 (ready w e))

-- a loop over the pieces of a level, of which the rest is to come
module _ {t : Task} (law : Lawful t) (levels : Levelled) (sorted : ByKey (above t) t.pieces levels) (level set : ℕ) (same : set ≡ level_of levels level) where
  at : SetOf t.pieces (λ j. eqb (above t j) level) set
  at = by_key_at (above t) t.pieces level set levels sorted same

  -- known are the deeper pieces, and those of the level that were passed
  abbrev reached : ℕ → ℕ → Bool
  reached rest v = deep t (level + 1) v || passed set rest v

  -- piece v is taken, with what comes after it
  module _ (rest next v : ℕ) (inside : Within rest set) (here : member rest v ≡ true) (without : Without rest v next) (lengths : List ℕ)
      (known : Known t (reached rest) lengths) (after n worst : ℕ) (most : LargestWhere (member after) (λ w. get_or lengths w 0) n)
      (time : worst ≡ cond (ltb v t.pieces) (t.worst v) 0) where
    piece : (v < t.pieces) × (eqb (above t v) level ≡ true)
    piece = set_true t.pieces set _ at v (inside v here)

    time_is : worst ≡ t.worst v
    time_is = time ∙ cond-true (ltb v t.pieces) (t.worst v) 0 (lt-ltb v t.pieces piece.0)

    -- what follows a piece of the level is deeper
    ready : (w : ℕ) → t.edge v w ≡ true → reached rest w ≡ true
    ready w e =
        let is = eqb-true (above t v) level piece.1 in
        or_left (deep t (level + 1) w) (passed set rest w) (le-leb (level + 1) (above t w) (omega (arith, fewer_above law v w e)))

    pub level_fits : worst + n ≤ 4259775
    level_fits =
        let longest : n ≤ 4194240 = ⊎_elim (λ none. omega arith) (λ w. omega (arith, w.2, known_small law (reached rest) lengths known w.0)) most.reached in
        omega (arith, time_is, law.at_most v piece.0)

    pub level_turn : v < length lengths → Related t (λ x y. t.edge y x) v after → Known t (reached next) (ListN.set lengths v (worst + n))
    level_turn fits related =
        known_more t (reached rest) (reached next) lengths v (worst + n) fits piece.0 known
        (λ j. ap (λ b. deep t (level + 1) j || b) (passed_more set rest next v inside here without j)
        ∙ sym (or_assoc (deep t (level + 1) j) (passed set rest j) (eqb v j)))
        (subst (λ x. Remaining t v (x + n)) (sym time_is) (known_here law (reached rest) lengths v after n piece.0 known ready related most))

-- no piece has 64 ancestors, and every one has 0 or more
module _ {t : Task} (law : Lawful t) where
  pub known_start : Known t (deep t 64) (replicate 64 0)
  known_start = known_none t (deep t 64) (λ v l. lt-leb 64 (above t v) (omega (arith, above_few law v l, law.few)))
