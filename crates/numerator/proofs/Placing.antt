-- The cells of a table: no two lie in one place, and what writing one of them changes. Assumes nothing.
use Rattle.std.proofs.Common.{◌≡◌, ℕ, ◌+◌, ◌*◌, ◌/◌, ◌%◌, ◌<◌, ◌≤◌, Bool, true, false, cond, ◌&&◌, ◌||◌, eqb, ltb, ◌⊎◌, get_or, set, sym, refl, ap, ◌∙◌, inl, inr, ⊎_elim, arith, get_or-set_other, get_or-set_same}
use mathlib.Core.Bool.{or-false}
use Rattle.std.proofs.lemmas.Bool.{both_ways, cases_Bool, cases_lt, cond-true, cond-false, and_parts, and_from, and_left, and_right, or_right, eqb-true, eq-eqb, lt-ltb, le-ltb}
use Rattle.std.proofs.lemmas.Nat.{div-mul-add, mod-mul-add, mul-add-lt, mul-le}
use Rattle.numerator.specs.Places.{place_of, room_of}
use Rattle.numerator.specs.Cells.{Inside, cell, Wrote}
use Rattle.numerator.specs.declared.table.Table.{Table}

-- every cell lies within the room for all
pub place_within : (n u w : ℕ) → u < n → w < n → place_of n u w < room_of n
unfolding place_of room_of
place_within n u w hu hw = mul-add-lt u n w n hu hw

-- and there are few
pub place_few : (n u w : ℕ) → n ≤ 64 → u < n → w < n → place_of n u w < 4096
unfolding room_of
place_few n u w few hu hw = omega (arith, place_within n u w hu hw, mul-le n n 64 64 few few)

-- the scratch that a call takes has room for all
pub room_in : (n : ℕ) → room_of n ≤ (n + 2) * (n + 2)
unfolding room_of
room_in n = mul-le n n (n + 2) (n + 2) (omega arith) (omega arith)

-- two pairs with one place are one pair
place_once : (n a b u w : ℕ) → b < n → w < n → place_of n a b ≡ place_of n u w → (a ≡ u) × (b ≡ w)
unfolding place_of
place_once n a b u w hb hw e = (
  sym (div-mul-add a n b hb) ∙ ap (λ y. y / n) e ∙ div-mul-add u n w hw,
  sym (mod-mul-add a n b hb) ∙ ap (λ y. y % n) e ∙ mod-mul-add u n w hw,
)

-- ---- what a cell holds

module _ (m : Table) (u w : ℕ) where
  pub cell_at : (place : ℕ) → Inside m u w → place ≡ place_of m.pieces u w → get_or m.cells.now place 0 ≡ cell m u w
  cell_at place inside e =
      ap (λ i. get_or m.cells.now i 0) e
      ∙ sym (cond-true (ltb u m.pieces && ltb w m.pieces) _ 0 (and_from (ltb u m.pieces) (ltb w m.pieces) (lt-ltb u m.pieces inside.0) (lt-ltb w m.pieces inside.1)))

  pub cases_inside : Inside m u w ⊎ ((m.pieces ≤ u) ⊎ (m.pieces ≤ w))
  cases_inside = ⊎_elim (λ hu. ⊎_elim (λ hw. inl (hu, hw)) (λ l. inr (inr l)) (cases_lt w m.pieces)) (λ l. inr (inl l)) (cases_lt u m.pieces)

  pub cell_beyond : (m.pieces ≤ u) ⊎ (m.pieces ≤ w) → cell m u w ≡ 0
  cell_beyond past =
      cond-false (ltb u m.pieces && ltb w m.pieces) _ 0
      (⊎_elim (λ l. and_left (ltb u m.pieces) (ltb w m.pieces) (le-ltb u m.pieces l)) (λ l. and_right (ltb u m.pieces) (ltb w m.pieces) (le-ltb w m.pieces l)) past)

-- a table of the same size, of which the cells of the table are the same, has the same cells
pub cell_same : (old cur : Table) (a b : ℕ) → cur.pieces ≡ old.pieces → (Inside old a b → cell cur a b ≡ cell old a b) → cell cur a b ≡ cell old a b
cell_same old cur a b same on =
    ⊎_elim on (λ past. cell_beyond cur a b (⊎_elim (λ l. inl (omega arith)) (λ l. inr (omega arith)) past) ∙ sym (cell_beyond old a b past)) (cases_inside old a b)

-- ---- writing

-- one cell is written
pub wrote_one : (old new : Table) (u w place value : ℕ) → Inside old u w → place ≡ place_of old.pieces u w → new.pieces ≡ old.pieces → new.cells.now ≡ set old.cells.now place value
    → Wrote (λ a b. eqb u a && eqb w b) (λ a b. value) old new
wrote_one old new u w place value inside e same is = record { same = same; cells = λ a b ha hb. here_or_away a b ha hb }
  where
    reads : (a b : ℕ) → a < old.pieces → b < old.pieces → cell new a b ≡ get_or (set old.cells.now place value) (place_of old.pieces a b) 0
    reads a b ha hb =
        sym (cell_at new a b (place_of old.pieces a b) (omega arith, omega arith) (ap (λ n. place_of n a b) (sym same)))
        ∙ ap (λ l. get_or l (place_of old.pieces a b) 0) is

    here_or_away : (a b : ℕ) → a < old.pieces → b < old.pieces → cell new a b ≡ cond (eqb u a && eqb w b) value (cell old a b)
    here_or_away a b ha hb = reads a b ha hb ∙ ⊎_elim here away (cases_Bool (eqb u a && eqb w b))
      where
        here : eqb u a && eqb w b ≡ true → get_or (set old.cells.now place value) (place_of old.pieces a b) 0 ≡ cond (eqb u a && eqb w b) value (cell old a b)
        here h =
            let both = and_parts (eqb u a) (eqb w b) h in
            ap (λ i. get_or (set old.cells.now place value) i 0)
            (ap (λ x. place_of old.pieces x b) (sym (eqb-true u a both.0)) ∙ ap (λ x. place_of old.pieces u x) (sym (eqb-true w b both.1)) ∙ sym e)
            ∙ get_or-set_same old.cells.now place value 0 (omega (arith, old.room, place_within old.pieces u w inside.0 inside.1))
            ∙ sym (cond-true (eqb u a && eqb w b) value (cell old a b) h)

        away : eqb u a && eqb w b ≡ false → get_or (set old.cells.now place value) (place_of old.pieces a b) 0 ≡ cond (eqb u a && eqb w b) value (cell old a b)
        away h =
            get_or-set_other old.cells.now place (place_of old.pieces a b) value 0 apart ∙ cell_at old a b (place_of old.pieces a b) (ha, hb) refl
            ∙ sym (cond-false (eqb u a && eqb w b) value (cell old a b) h)
          where
            apart : place_of old.pieces a b ≡ place → ⊥
            apart at =
                let pair = place_once old.pieces a b u w hb inside.1 (at ∙ e) in
                both_ways (eqb u a && eqb w b) h (and_from (eqb u a) (eqb w b) (eq-eqb u a (sym pair.0)) (eq-eqb w b (sym pair.1)))

module _ {p : ℕ → ℕ → Bool} {f : ℕ → ℕ → ℕ} where
  -- tests that agree on all pairs write the same
  pub wrote_same : {q : ℕ → ℕ → Bool} {old new : Table} → ((a b : ℕ) → p a b ≡ q a b) → Wrote p f old new → Wrote q f old new
  wrote_same {q} {old} {new} same w = record { same = w.same; cells = λ a b ha hb. w.cells a b ha hb ∙ ap (λ x. cond x (f a b) (cell old a b)) (same a b) }

  -- a cell that was not written is as it was
  pub unwritten : {old cur : Table} → Wrote p f old cur → (a b : ℕ) → p a b ≡ false → cell cur a b ≡ cell old a b
  unwritten {old} {cur} w a b none = cell_same old cur a b w.same (λ on. w.cells a b on.0 on.1 ∙ cond-false (p a b) (f a b) (cell old a b) none)

  -- cells that hold their values already need not be written
  pub wrote_still : {m : Table} → ((a b : ℕ) → p a b ≡ true → f a b ≡ cell m a b) → Wrote p f m m
  wrote_still {m} same = record { same = refl; cells = λ a b _ _. holds a b }
    where
      holds : (a b : ℕ) → cell m a b ≡ cond (p a b) (f a b) (cell m a b)
      holds a b =
          ⊎_elim (λ h. sym (cond-true (p a b) (f a b) (cell m a b) h ∙ same a b h)) (λ h. sym (cond-false (p a b) (f a b) (cell m a b) h)) (cases_Bool (p a b))

  -- some cells after others, with values that are the same there
  pub wrote_join : {r q : ℕ → ℕ → Bool} {g : ℕ → ℕ → ℕ} {old cur next : Table} → Wrote p f old cur → Wrote r g cur next
      → ((a b : ℕ) → r a b ≡ true → g a b ≡ f a b) → ((a b : ℕ) → q a b ≡ (p a b || r a b)) → Wrote q f old next
  wrote_join {r} {q} {g} {old} {cur} {next} first second same either =
      record { same = second.same ∙ first.same; cells = λ a b ha hb. second.cells a b (omega (arith, first.same)) (omega (arith, first.same)) ∙ ⊎_elim (new a b) (before a b ha hb) (cases_Bool (r a b)) }
    where
      new : (a b : ℕ) → r a b ≡ true → cond (r a b) (g a b) (cell cur a b) ≡ cond (q a b) (f a b) (cell old a b)
      new a b h =
          cond-true (r a b) (g a b) (cell cur a b) h ∙ same a b h
          ∙ sym (cond-true (q a b) (f a b) (cell old a b) (either a b ∙ or_right (p a b) (r a b) h))

      before : (a b : ℕ) → a < old.pieces → b < old.pieces → r a b ≡ false → cond (r a b) (g a b) (cell cur a b) ≡ cond (q a b) (f a b) (cell old a b)
      before a b ha hb h =
          cond-false (r a b) (g a b) (cell cur a b) h ∙ first.cells a b ha hb
          ∙ sym (ap (λ x. cond x (f a b) (cell old a b)) (either a b ∙ ap (λ x. p a b || x) h ∙ or-false (p a b)))
