-- What each call of filing a task answers, and the task that it leaves. Assumes nothing.
use Rattle.std.specs.Prelude.{◌≡◌, ℕ, ◌<◌, Bool, true, false, ◌&&◌, ◌||◌, List, [], ◌∷◌, ◌++◌, length, take, Ok, Err, Result, ◌==◌, ◌≢◌, nat_lt, slice_index, slice_index_or}
use Rattle.std.proofs.Math.Logic.{◌∨₁◌}
use Rattle.sets.specs.Sets.{member, sum, count}
use Rattle.theory.specs.Tasks.{Task, Leads, WorstFits}
use Rattle.task.specs.Tables.{task_from}
use Rattle.task.specs.declared.stages.Entering.{Entering}
use Rattle.task.specs.declared.stages.Linking.{Linking}
use Rattle.task.specs.declared.stages.Tables.{Tables}
use Rattle.task.specs.declared.stages.Filed.{Filed}
use Rattle.task.specs.declared.refusals.PieceRefusal.{PieceRefusal}
use Rattle.task.specs.declared.refusals.PieceRefusal.TheVariants.{Full, Worst}
use Rattle.task.specs.declared.refusals.EdgeRefusal.{EdgeRefusal}
use Rattle.task.specs.declared.refusals.EdgeRefusal.TheVariants.{OffTask, There, Circular}
use Rattle.task.specs.declared.refusals.RankingRefusal.{RankingRefusal}
use Rattle.task.specs.declared.refusals.RankingRefusal.TheVariants.{Count}

-- ---- what each stage stands for

-- the worst times of the pieces entered so far, in order
abbrev pub entered : Entering → List ℕ
entered e = take e.count e.worst

-- the task that the tables stand for
abbrev pub task_of : Tables → Task
task_of s = task_from s.pieces s.worst s.predecessors s.ancestors s.not_after

-- the task whose edges are being entered, and the task that is filed
abbrev pub linking_task : Linking → Task
linking_task l = task_of l.tables

abbrev pub filed_task : Filed → Task
filed_task f = task_of f.tables

-- ---- pieces

-- what entering a piece answers, and the pieces that it leaves
abbrev pub EnterSays : Entering → ℕ → Result ℕ PieceRefusal → Entering → Type 0
EnterSays a w (Ok n) b = (length (entered a) < 64) × WorstFits w × (n ≡ length (entered a)) × (entered b ≡ entered a ++ (w ∷ []))
EnterSays a w (Err Full) b = (length (entered a) ≡ 64) × (b ≡ a)
EnterSays a w (Err Worst) b = (length (entered a) < 64) × (WorstFits w → ⊥) × (b ≡ a)

-- closing keeps the pieces: no edges, and all pieces equal in priority
abbrev pub Closes : List ℕ → Task → Type 0
Closes worsts t =
    (t.pieces ≡ length worsts) × ((k : ℕ) → k < t.pieces → t.worst k ≡ slice_index worsts k)
    × ((a b : ℕ) → t.edge a b ≡ false) × ((a b : ℕ) → t.not_after a b ≡ (nat_lt a t.pieces && nat_lt b t.pieces))

-- ---- edges

-- both ends of an edge are pieces of the task
abbrev pub OnTask : Task → ℕ → ℕ → Type 0
OnTask t a b = (a < t.pieces) × (b < t.pieces)

-- an edge from a to b would close a circle
abbrev pub Circle : Task → ℕ → ℕ → Type 0
Circle t a b = (a ≡ b) ∨₁ Leads t b a

-- the task has the edge from a to b besides those that it had, and all else is as it was
abbrev pub Linked : Task → ℕ → ℕ → Task → Type 0
Linked t a b s =
    (s.pieces ≡ t.pieces) × ((k : ℕ) → s.worst k ≡ t.worst k)
    × ((x y : ℕ) → s.edge x y ≡ (t.edge x y || (a == x && b == y)))
    × ((x y : ℕ) → s.not_after x y ≡ t.not_after x y)

-- what entering an edge answers, and the task that it leaves
abbrev pub LinkSays : Linking → ℕ → ℕ → Result (Unit {0}) EdgeRefusal → Linking → Type 0
LinkSays l a b (Ok x) m =
    OnTask (linking_task l) a b × ((linking_task l).edge a b ≡ false) × (Circle (linking_task l) a b → ⊥)
    × Linked (linking_task l) a b (linking_task m)
LinkSays l a b (Err OffTask) m = (OnTask (linking_task l) a b → ⊥) × (m ≡ l)
LinkSays l a b (Err There) m = OnTask (linking_task l) a b × ((linking_task l).edge a b ≡ true) × (m ≡ l)
LinkSays l a b (Err Circular) m =
    OnTask (linking_task l) a b × ((linking_task l).edge a b ≡ false) × Circle (linking_task l) a b × (m ≡ l)

-- ---- priorities

module _ {P : Type 0} (not_after : P → P → Bool) where
  -- the task's pieces compare as the priorities do, and all else is as it was
  abbrev pub Ranked : Task → List P → Task → Type 0
  Ranked t ps s =
      (s.pieces ≡ t.pieces) × ((k : ℕ) → s.worst k ≡ t.worst k) × ((a b : ℕ) → s.edge a b ≡ t.edge a b)
      × ((a b : ℕ) (p : P) → OnTask t a b → s.not_after a b ≡ not_after (slice_index_or ps a p) (slice_index_or ps b p))
      × ((a b : ℕ) → s.not_after a b ≡ true → OnTask t a b)

  -- what a ranking answers, and the task that it leaves
  abbrev pub RankSays : Linking → List P → Result (Unit {0}) RankingRefusal → Linking → Type 0
  RankSays l ps (Ok x) m = (length ps ≡ (linking_task l).pieces) × Ranked (linking_task l) ps (linking_task m)
  RankSays l ps (Err Count) m = (length ps ≢ (linking_task l).pieces) × (m ≡ l)

-- ---- questions

-- how many edges the task has: for each piece as many as it has predecessors
unfoldable pub edges_of : Task → ℕ
edges_of t = sum t.pieces (λ b. count t.pieces (λ a. t.edge a b))

-- r is the set of the pieces that stand in the relation to piece k, and empty where k is no piece of the task
abbrev pub Related : Task → (ℕ → ℕ → Bool) → ℕ → ℕ → Type 0
Related t relation k r = (x : ℕ) → member r x ≡ (nat_lt k t.pieces && relation x k)
