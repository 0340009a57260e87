-- Tables of sets as filing writes them, set by set. Assumes nothing.
use Rattle.std.proofs.Common.{◌≡◌, ℕ, ◌<◌, ◌≤◌, Bool, true, false, cond, ◌&&◌, ◌||◌, eqb, ltb, List, length, get_or, set, sym, refl, ap, ◌∙◌, ap₂, ⊎_elim, arith, get_or-set_other, get_or-set_same}
use mathlib.Core.Bool.{or-false}
use lib.Bits.{bit_or}
use Rattle.std.proofs.lemmas.List.{get_or_past}
use Rattle.std.proofs.lemmas.Bool.{cases_lt, cases_eq, eq-eqb, ne_eqb, lt-ltb, le-ltb, and_right, or_from, and_left}
use Rattle.sets.specs.Sets.{member, SetOf}
use Rattle.sets.proofs.Members.{member-or, member-zero}
use Rattle.task.specs.Tables.{leads_on, Reached, Columns}

-- one more edge
pub edges_more : (l : List ℕ) (a b new : ℕ) → b < length l → ((j : ℕ) → member new j ≡ (member (get_or l b 0) j || (eqb a j && true)))
    → (x y : ℕ) → member (get_or (set l b new) y 0) x ≡ (member (get_or l y 0) x || (eqb a x && eqb b y))
edges_more l a b new h w x y =
    ⊎_elim (λ e.
    ap (λ n. member (get_or (set l b new) n 0) x) e ∙ ap (λ n. member n x) (get_or-set_same l b new 0 h) ∙ w x
    ∙ ap₂ (λ n c. member (get_or l n 0) x || (eqb a x && c)) (sym e) (sym (eq-eqb b y (sym e))))
    (λ d.
    ap (λ n. member n x) (get_or-set_other l b y new 0 d) ∙ sym (or-false (member (get_or l y 0) x))
    ∙ ap (λ c. member (get_or l y 0) x || c) (sym (and_right (eqb a x) (eqb b y) (ne_eqb b y (λ e. d (sym e))))))
    (cases_eq y b)

-- ---- a table of sets that a loop writes one by one

pub columns_none : (n : ℕ) (p : ℕ → ℕ → Bool) (l : List ℕ) → Columns n p 0 l
columns_none n p l y h = absurd (omega arith)

-- the set of all pieces, written for each
pub all_below : (n set : ℕ) → n ≤ 64 → SetOf 64 (λ k. ltb k n) set → SetOf n (λ _. true) set
all_below n set few all k =
    all k ∙ ⊎_elim (λ l. ap₂ ◌&&◌ (lt-ltb k 64 (omega arith)) (lt-ltb k n l) ∙ sym (ap (λ b. b && true) (lt-ltb k n l)))
    (λ l. and_right (ltb k 64) (ltb k n) (le-ltb k n l) ∙ sym (ap (λ b. b && true) (le-ltb k n l)))
    (cases_lt k n)

-- ---- the ancestors with one more edge

-- a set, with another where the test says so
pub member_joined : (b : Bool) (s more x : ℕ) → member (cond b (bit_or s more) s) x ≡ (member s x || (b && member more x))
member_joined true s more x = member-or s more x
member_joined false s more x = sym (or-false (member s x))

pub swapped : (m e : Bool) → (m || (e && true)) ≡ (e || m)
swapped true true = refl
swapped true false = refl
swapped false true = refl
swapped false false = refl

past : (l : List ℕ) → length l ≡ 64 → (y x : ℕ) → 64 ≤ y → member (get_or l y 0) x ≡ false
past l e y x h = ap (λ n. member n x) (get_or_past l y 0 (omega arith)) ∙ member-zero x

-- all of them, past the table too
pub reached_all : (old new : List ℕ) (a b : ℕ) → length old ≡ 64 → length new ≡ 64 → b < 64 → Reached old a b 64 new → (x y : ℕ) → member (get_or new y 0) x ≡ leads_on old a b x y
reached_all old new a b e f h r x y =
    ⊎_elim (λ l. r y l x)
    (λ l. past new f y x l ∙ sym (or_from (member (get_or old y 0) x) ((eqb y b || member (get_or old y 0) b) && (eqb a x || member (get_or old a 0) x)) (past old e y x l)
    (and_left (eqb y b || member (get_or old y 0) b) (eqb a x || member (get_or old a 0) x) (or_from (eqb y b) (member (get_or old y 0) b) (ne_eqb y b (λ q. omega arith)) (past old e y b l)))))
    (cases_lt y 64)
