-- Tables of sets, one for each piece, and the task that they stand for. Assumes nothing.
use Rattle.std.specs.Prelude.{◌≡◌, ℕ, ◌<◌, ◌≤◌, Bool, false, ◌&&◌, ◌||◌, List, ◌==◌, slice_index}
use Rattle.sets.specs.Sets.{member, SetOf}
use Rattle.theory.specs.Tasks.{Task}

-- the task of so many pieces: bit a of predecessors at b is the edge from a to b, and so for the other two tables
abbrev pub task_from : ℕ → List ℕ → List ℕ → List ℕ → List ℕ → Task
task_from pieces worst predecessors ancestors after = record {
  pieces = pieces;
  worst = λ k. slice_index worst k;
  edge = λ a b. member (slice_index predecessors b) a;
  ancestor = λ a b. member (slice_index ancestors b) a;
  not_after = λ a b. member (slice_index after b) a;
}

-- x leads to y once there is an edge from a to b, where the sets hold what led to each piece before
abbrev pub leads_on : List ℕ → ℕ → ℕ → ℕ → ℕ → Bool
leads_on old a b x y = member (slice_index old y) x || ((y == b || member (slice_index old y) b) && (a == x || member (slice_index old a) x))

-- the sets below i hold what leads to each piece once there is an edge from a to b
abbrev pub Reached : List ℕ → ℕ → ℕ → ℕ → List ℕ → Type 0
Reached old a b i new = (y : ℕ) → y < i → (x : ℕ) → member (slice_index new y) x ≡ leads_on old a b x y

-- the sets below i hold the pieces below n that pass the test at each
abbrev pub Columns : ℕ → (ℕ → ℕ → Bool) → ℕ → List ℕ → Type 0
Columns n p i new = (y : ℕ) → y < i → SetOf n (λ x. p x y) (slice_index new y)

-- the sets from i on are empty
abbrev pub EmptyFrom : ℕ → List ℕ → Type 0
EmptyFrom i new = (y x : ℕ) → i ≤ y → member (slice_index new y) x ≡ false
