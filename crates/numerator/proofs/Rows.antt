-- The table as it is written: first the edges, then for each piece v that is taken the rows of what leads to it. What a step goes
-- by is not among the cells written. Assumes nothing.
use Rattle.std.proofs.Common.{◌≡◌, ℕ, ◌≤◌, ◌<◌, Bool, true, false, cond, not, ◌&&◌, eqb, ◌⊎◌, sym, refl, ap, ◌∙◌, subst, inl, inr, ⊎_elim, arith}
use mathlib.Core.Bool.{and-or_distrib_right}
use Rattle.std.proofs.lemmas.Bool.{both_ways, cases_Bool, and_parts, and_left, and_right, cond-true, cond-false, eqb-true, ne_eqb}
use Rattle.sets.specs.Sets.{member, Without}
use Rattle.sets.proofs.Iterating.{passed, Within, passed_more, passed_not}
use Rattle.theory.specs.Tasks.{Task, Lawful}
use Rattle.theory.specs.Inner.{straight, stepped, Best}
use Rattle.theory.proofs.Ancestors.{ancestor_one, ancestor_join, ancestor_apart}
use Rattle.theory.proofs.Eliminating.{begun}
use Rattle.task.proofs.Filed.{filed_lawful}
use Rattle.numerator.specs.Cells.{cell, Wrote, entry, Ready}
use Rattle.numerator.specs.Joints.{task_at, through, RowThrough}
use Rattle.numerator.specs.declared.setting.joining.Joint.{Joint}
use Rattle.numerator.specs.declared.table.Table.{Table}
use Rattle.numerator.proofs.Placing.{unwritten, wrote_still, wrote_join, cases_inside, cell_beyond}
use Rattle.numerator.proofs.Lines.{line_turn, at_pair}
use Rattle.numerator.proofs.Stepping.{entry_read, stepped_same, stepped_stays, cells_stay}

-- an entry whose cell was not written is as it was
same_entry : (t : Task) (old cur : Table) (a b : ℕ) → cell cur a b ≡ cell old a b → entry t cur a b ≡ entry t old a b
same_entry t old cur a b e = ap (λ x. cond (t.ancestor a b) x 0) e

-- the task of a joint
law_at : (j : Joint) → Lawful (task_at j)
law_at j = filed_lawful j.setting.now.task

-- the entries of cells that are read in any way: `entry` reads those of a table
abbrev pub held : Task → (ℕ → ℕ → ℕ) → ℕ → ℕ → ℕ
held t cells u w = cond (t.ancestor u w) (cells u w) 0

-- of the pairs that count, those that do not pass the test hold what they held, and neither row v nor column v passes it
module _ (t : Task) (cores v : ℕ) {old cur : ℕ → ℕ → ℕ} {p : ℕ → ℕ → Bool} (On : ℕ → Type 0) (here : On v)
    (kept : (a b : ℕ) → On a → On b → p a b ≡ false → cur a b ≡ old a b)
    (off_row : (b : ℕ) → p v b ≡ false) (off_column : (a : ℕ) → p a v ≡ false) where
  -- the entries to v and from v are as they were
  to_same : (a : ℕ) → On a → held t cur a v ≡ held t old a v
  to_same a on = ap (λ x. cond (t.ancestor a v) x 0) (kept a v on here (off_column a))

  from_same : (b : ℕ) → On b → held t cur v b ≡ held t old v b
  from_same b on = ap (λ x. cond (t.ancestor v b) x 0) (kept v b here on (off_row b))

  -- so a step at a pair that was not written gives the same
  still_steps : (u w : ℕ) → On u → On w → p u w ≡ false → stepped t cores (held t cur) v u w ≡ stepped t cores (held t old) v u w
  still_steps u w on_u on_w none =
      stepped_same t cores (held t cur) (held t old) v u w (to_same u on_u) (from_same w on_w) (ap (λ x. cond (t.ancestor u w) x 0) (kept u w on_u on_w none))

-- of a table every pair counts, since past its end there is 0 before and after
module _ (t : Task) (cores v : ℕ) {old cur : Table} {p : ℕ → ℕ → Bool} {f : ℕ → ℕ → ℕ} (wrote : Wrote p f old cur)
    (off_row : (b : ℕ) → p v b ≡ false) (off_column : (a : ℕ) → p a v ≡ false) where
  kept : (a b : ℕ) → Unit {0} → Unit {0} → p a b ≡ false → cell cur a b ≡ cell old a b
  kept a b _ _ none = unwritten wrote a b none

  still_ready : Ready t old v → Ready t cur v
  still_ready ready a ha = (
    omega (arith, to_same t cores v (λ _. Unit {0}) tt kept off_row off_column a tt, (ready a ha).0),
    omega (arith, from_same t cores v (λ _. Unit {0}) tt kept off_row off_column a tt, (ready a ha).1),
  )

  table_steps : (u w : ℕ) → p u w ≡ false → stepped t cores (entry t cur) v u w ≡ stepped t cores (entry t old) v u w
  table_steps u w none = still_steps t cores v (λ _. Unit {0}) tt kept off_row off_column u w tt tt none

-- row u, of which the cells with the pieces passed are written
module _ (j : Joint) (u : ℕ) (to : (task_at j).ancestor u j.v ≡ true) where
  -- where no walk leads from u to v, the row stays
  pub row_stays : (m : Table) → cell m u j.v ≡ 0 → RowThrough j u m m
  row_stays m none =
      wrote_still (λ a b h. let both = and_parts (eqb u a) ((task_at j).ancestor j.v b) h in
      subst (λ x. through j m x b ≡ cell m x b) (eqb-true u a both.0) (cells_stay (law_at j) j.setting.now.cores m u j.v b to both.1 (inl none)))

  module _ {old cur : Table} (rest : ℕ) (wrote : Wrote (λ a b. eqb u a && passed j.behind rest b) (through j old) old cur) where
    off_row : (b : ℕ) → (eqb u j.v && passed j.behind rest b) ≡ false
    off_row b = and_left (eqb u j.v) (passed j.behind rest b) (ne_eqb u j.v (ancestor_apart (law_at j) u j.v to))

    off_column : (a : ℕ) → (eqb u a && passed j.behind rest j.v) ≡ false
    off_column a = and_right (eqb u a) (passed j.behind rest j.v) (and_left (member j.behind j.v) (not (member rest j.v)) (j.led j.v ∙ (law_at j).acyclic j.v))

    pub row_to : cell cur u j.v ≡ cell old u j.v
    row_to = unwritten wrote u j.v (off_column u)

    pub row_ready : Ready (task_at j) old j.v → Ready (task_at j) cur j.v
    row_ready = still_ready (task_at j) j.setting.now.cores j.v wrote off_row off_column

    -- the next cell, written from what stands there now, is the cell written from what stood there at first
    pub row_turn : {new : Table} (next w value : ℕ) → Within rest j.behind → member rest w ≡ true → Without rest w next → value ≡ through j cur u w
        → Wrote (λ a b. eqb u a && eqb w b) (λ a b. value) cur new → Wrote (λ a b. eqb u a && passed j.behind next b) (through j old) old new
    row_turn next w value inside here without is =
        line_turn (λ a b. eqb u a) (λ a b. b) j.behind rest next w u w value inside here without
        (is ∙ table_steps (task_at j) j.setting.now.cores j.v wrote off_row off_column u w (and_right (eqb u u) (passed j.behind rest w) (passed_not j.behind rest w here)))
        (λ a b. refl) wrote

    -- and where no walk leads from v on it stays
    pub row_skips : (next w : ℕ) → Within rest j.behind → member rest w ≡ true → Without rest w next → cell cur j.v w ≡ 0
        → Wrote (λ a b. eqb u a && passed j.behind next b) (through j old) old cur
    row_skips next w inside here without none =
        row_turn next w (cell cur u w) inside here without
        (sym (cells_stay (law_at j) j.setting.now.cores cur u j.v w to (sym (j.led w) ∙ inside w here) (inr none)))
        (wrote_still (λ a b h. at_pair (λ x y. cell cur u w ≡ cell cur x y) u w a b refl h))

-- all rows of the pieces that lead to v, of which those passed are written
module _ (j : Joint) {old cur : Table} (rest : ℕ) (wrote : Wrote (λ a b. passed j.before rest a && (task_at j).ancestor j.v b) (through j old) old cur) where
  rows_off_row : (b : ℕ) → (passed j.before rest j.v && (task_at j).ancestor j.v b) ≡ false
  rows_off_row b =
      and_left (passed j.before rest j.v) ((task_at j).ancestor j.v b) (and_left (member j.before j.v) (not (member rest j.v)) (j.leading j.v ∙ (law_at j).acyclic j.v))

  rows_off_column : (a : ℕ) → (passed j.before rest a && (task_at j).ancestor j.v j.v) ≡ false
  rows_off_column a = and_right (passed j.before rest a) ((task_at j).ancestor j.v j.v) ((law_at j).acyclic j.v)

  pub rows_ready : Ready (task_at j) old j.v → Ready (task_at j) cur j.v
  rows_ready = still_ready (task_at j) j.setting.now.cores j.v wrote rows_off_row rows_off_column

  -- the next row, written from what stands there now, is the row written from what stood there at first
  pub rows_turn : {new : Table} (next u : ℕ) → Within rest j.before → member rest u ≡ true → Without rest u next
      → RowThrough j u cur new → Wrote (λ a b. passed j.before next a && (task_at j).ancestor j.v b) (through j old) old new
  rows_turn next u inside here without row =
      wrote_join wrote row
      (λ a b h. let is = eqb-true u a (and_parts (eqb u a) ((task_at j).ancestor j.v b) h).0 in
      subst (λ x. through j cur x b ≡ through j old x b) is
      (table_steps (task_at j) j.setting.now.cores j.v wrote rows_off_row rows_off_column u b (and_left (passed j.before rest u) ((task_at j).ancestor j.v b) (passed_not j.before rest u here))))
      (λ a b. ap (λ x. x && (task_at j).ancestor j.v b) (passed_more j.before rest next u inside here without a)
      ∙ and-or_distrib_right (passed j.before rest a) (eqb u a) ((task_at j).ancestor j.v b))

-- all cells written: each entry has made its step
pub all_stepped : {t : Task} → Lawful t → (cores v : ℕ) (old new : Table)
    → Wrote (λ a b. t.ancestor a v && t.ancestor v b) (stepped t cores (entry t old) v) old new
    → (u w : ℕ) → entry t new u w ≡ stepped t cores (entry t old) v u w
all_stepped {t} law cores v old new wrote u w = ⊎_elim joins (λ h. stays (unwritten wrote u w h) (apart h)) (cases_Bool (t.ancestor u v && t.ancestor v w))
  where
    stays : cell new u w ≡ cell old u w → (entry t old u v ≡ 0) ⊎ (entry t old v w ≡ 0) → entry t new u w ≡ stepped t cores (entry t old) v u w
    stays same none = same_entry t old new u w same ∙ sym (stepped_stays t cores (entry t old) v u w none)

    apart : t.ancestor u v && t.ancestor v w ≡ false → (entry t old u v ≡ 0) ⊎ (entry t old v w ≡ 0)
    apart h =
        ⊎_elim (λ to. inr (cond-false (t.ancestor v w) _ 0 (sym (ap (λ b. b && t.ancestor v w) to) ∙ h))) (λ off. inl (cond-false (t.ancestor u v) _ 0 off))
        (cases_Bool (t.ancestor u v))

    joins : t.ancestor u v && t.ancestor v w ≡ true → entry t new u w ≡ stepped t cores (entry t old) v u w
    joins h = ⊎_elim inside outside (cases_inside old u w)
      where
        both : (t.ancestor u v ≡ true) × (t.ancestor v w ≡ true)
        both = and_parts (t.ancestor u v) (t.ancestor v w) h

        inside : (u < old.pieces) × (w < old.pieces) → entry t new u w ≡ stepped t cores (entry t old) v u w
        inside on =
            entry_read t new u w (ancestor_join law u v w both.0 both.1) ∙ wrote.cells u w on.0 on.1
            ∙ cond-true (t.ancestor u v && t.ancestor v w) _ _ h

        -- past the table no entry is anything but 0
        outside : (old.pieces ≤ u) ⊎ (old.pieces ≤ w) → entry t new u w ≡ stepped t cores (entry t old) v u w
        outside past =
            stays (cell_beyond new u w (⊎_elim (λ l. inl (omega (arith, wrote.same))) (λ l. inr (omega (arith, wrote.same))) past) ∙ sym (cell_beyond old u w past))
            (⊎_elim (λ l. inl (entry_read t old u v both.0 ∙ cell_beyond old u v (inl l))) (λ l. inr (entry_read t old v w both.1 ∙ cell_beyond old v w (inr l))) past)

-- the edges written: no piece is taken yet, and a walk is a single edge
pub edges_best : {t : Task} → Lawful t → (cores : ℕ) (old new : Table) (E : ℕ → Type 0) → ((x : ℕ) → E x → ⊥) → t.pieces ≤ old.pieces → Wrote t.ancestor (straight t cores) old new
    → Best t cores E (entry t new)
edges_best {t} law cores old new E nobody large wrote = begun law cores E (entry t new) nobody (λ u w hu hw. ⊎_elim (there u w hu hw) (nowhere u w) (cases_Bool (t.ancestor u w)))
  where
    there : (u w : ℕ) → u < t.pieces → w < t.pieces → t.ancestor u w ≡ true → entry t new u w ≡ straight t cores u w
    there u w hu hw h = entry_read t new u w h ∙ wrote.cells u w (omega arith) (omega arith) ∙ cond-true (t.ancestor u w) _ _ h

    nowhere : (u w : ℕ) → t.ancestor u w ≡ false → entry t new u w ≡ straight t cores u w
    nowhere u w h =
        cond-false (t.ancestor u w) _ 0 h
        ∙ sym (cond-false (t.edge u w) _ 0 (⊎_elim (λ e. absurd (both_ways (t.ancestor u w) h (ancestor_one law u w e))) (λ e. e) (cases_Bool (t.edge u w))))
