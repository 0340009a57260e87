-- For whoever is handed a filed task: it is lawful, its worst times, how its edges are counted, and its relations turned round and as sets. Assumes nothing.
use Rattle.std.proofs.Common.{◌≡◌, ℕ, ◌+◌, ◌*◌, ◌<◌, ◌≤◌, Bool, true, false, cond, ◌&&◌, ◌↔◌, ltb, get_or, sym, refl, ap, ◌∙◌, ⊎_elim, arith}
use mathlib.Core.Bool.{and-true, and-false}
use Rattle.std.proofs.lemmas.Bool.{cases_Bool, cond_both, cond-true, and_parts, and_from, lt-ltb}
use Rattle.sets.specs.Sets.{member, sum, count, size_of}
use Rattle.sets.proofs.Sums.{sum_more, sum_cut, sum_small}
use Rattle.sets.proofs.Counts.{count_same}
use Rattle.theory.specs.Tasks.{Task, Leads, Lawful}
use Rattle.theory.proofs.Lawfuls.{lawful_of}
use Rattle.theory.proofs.Ancestors.{ancestor_ends}
use Rattle.task.specs.Filing.{filed_task, Related}
use Rattle.task.specs.declared.stages.Filed.{Filed}

pub filed_lawful : (f : Filed) → Lawful (filed_task f)
filed_lawful f = lawful_of f.tables.lawful

-- what it answers for the worst time of one of its pieces
pub worst_is : (f : Filed) (k r : ℕ) → k < (filed_task f).pieces → r ≡ cond (ltb k (filed_task f).pieces) ((filed_task f).worst k) 0 → r ≡ (filed_task f).worst k
worst_is f k r l e = e ∙ cond-true (ltb k (filed_task f).pieces) ((filed_task f).worst k) 0 (lt-ltb k (filed_task f).pieces l)

-- past the task nothing stands in a relation between pieces
pub past_none : (n : ℕ) (R : ℕ → ℕ → Bool) → ((a b : ℕ) → R a b ≡ true → (a < n) × (b < n)) → (b a : ℕ) → n ≤ a → cond {A = ℕ} (R a b) 1 0 ≡ 0
past_none n R ends b a l = ⊎_elim (λ e. let on = ends a b e in absurd (omega arith)) (λ e. ap (λ x. cond {A = ℕ} x 1 0) e) (cases_Bool (R a b))

-- the edges to the pieces below i
abbrev pub edges_below : Filed → ℕ → ℕ
edges_below f i = sum i (λ b. count (filed_task f).pieces (λ a. (filed_task f).edge a b))

module _ (f : Filed) where
  abbrev t : Task
  t = filed_task f

  size_here : (b : ℕ) → size_of (get_or f.tables.predecessors b 0) ≡ count t.pieces (λ a. t.edge a b)
  unfolding size_of
  size_here b = sum_cut 64 t.pieces (λ a. cond (t.edge a b) 1 0) f.tables.few (past_none t.pieces t.edge (filed_lawful f).ends b)

  few_here : (b : ℕ) → count t.pieces (λ a. t.edge a b) ≤ t.pieces * 1
  few_here b = sum_small t.pieces 1 (λ a. cond (t.edge a b) 1 0) (λ a _. cond_both (t.edge a b) 1 0 (λ x. x ≤ 1) (λ _. omega arith) (λ _. omega arith))

  -- a turn of the loop that counts them
  pub edges_more : (i s : ℕ) → s ≡ size_of (get_or f.tables.predecessors i 0) → edges_below f (i + 1) ≡ edges_below f i + s
  edges_more i s e = sum_more i (λ b. count t.pieces (λ a. t.edge a b)) ∙ ap (λ x. edges_below f i + x) (sym (e ∙ size_here i))

  -- there are at most 64 to each
  pub edges_few : (i : ℕ) → edges_below f i ≤ i * 64
  edges_few i = sum_small i 64 (λ b. count t.pieces (λ a. t.edge a b)) (λ b _. omega (arith, few_here b, f.tables.few))

-- ---- relations turned round

-- a test that implies two others, with the one and with the other
either_end : (p q r : Bool) → (r ≡ true → p ≡ true) → (r ≡ true → q ≡ true) → (p && r) ≡ (q && r)
either_end p q true h g = and-true p ∙ h refl ∙ sym (g refl) ∙ sym (and-true q)
either_end p q false h g = and-false p ∙ sym (and-false q)

-- of a relation between pieces it is the same which end is asked to be a piece
pub other_end : (n : ℕ) (R : ℕ → ℕ → Bool) → ((a b : ℕ) → R a b ≡ true → (a < n) × (b < n)) → (k x : ℕ) → (ltb x n && R k x) ≡ (ltb k n && R k x)
other_end n R ends k x = either_end (ltb x n) (ltb k n) (R k x) (λ e. lt-ltb x n (ends k x e).1) (λ e. lt-ltb k n (ends k x e).0)

-- ---- relations as sets

-- the set of what stands in a relation to a piece, asked of one
pub related_at : (t : Task) (R : ℕ → ℕ → Bool) (k r : ℕ) → k < t.pieces → Related t R k r → (x : ℕ) → member r x ≡ R x k
related_at t R k r on_task related x = related x ∙ ap (λ b. b && R x k) (lt-ltb k t.pieces on_task)

-- the set of a piece's ancestors is exactly what leads to it, of which there is nothing past the task
pub related_leads : {t : Task} → Lawful t → (k r : ℕ) → Related t t.ancestor k r → (x : ℕ) → (member r x ≡ true) ↔ ∥ Leads t x k ∥₁
related_leads {t} law k r related x = (
  λ h. (law.exact x k).0 (and_parts (ltb k t.pieces) (t.ancestor x k) (sym (related x) ∙ h)).1,
  λ h.
      let is = (law.exact x k).1 h in
      related x ∙ and_from (ltb k t.pieces) (t.ancestor x k) (lt-ltb k t.pieces (ancestor_ends law x k is).1) is,
)

-- and how many it has
pub size_related : (t : Task) (R : ℕ → ℕ → Bool) (k r : ℕ) → k < t.pieces → Related t R k r → size_of r ≡ count 64 (λ a. R a k)
unfolding size_of
size_related t R k r on_task related = count_same 64 (member r) (λ a. R a k) (λ a _. related_at t R k r on_task related a)
