-- Tasks given by lists: a worst time for each piece, edges, and a priority for each piece. Assumes nothing.
use Rattle.std.specs.Prelude.{◌≡◌, ℕ, ◌<◌, Bool, false, ◌&&◌, ◌||◌, List, [], ◌∷◌, ◌++◌, length, replicate, Ok, Err, Result, ◌==◌, slice_index, slice_index_or}
use Rattle.theory.specs.Tasks.{Task}
use Rattle.task.specs.Filing.{entered, linking_task, filed_task, OnTask, Closes, EnterSays, LinkSays, RankSays}
use Rattle.task.specs.Refusals.{piece_number, edge_number, ranking_number}
use Rattle.task.specs.declared.stages.Entering.{Entering}
use Rattle.task.specs.declared.stages.Linking.{Linking}
use Rattle.task.specs.declared.stages.Filed.{Filed}
use Rattle.task.specs.declared.refusals.PieceRefusal.{PieceRefusal}
use Rattle.task.specs.declared.refusals.EdgeRefusal.{EdgeRefusal}
use Rattle.example.specs.declared.lists.Edge.{Edge}
use Rattle.example.specs.declared.lists.Refusal.{Refusal}
use Rattle.example.specs.declared.lists.Refusal.TheVariants.{Piece, Link, Ranking}

-- the number of the refusal that is passed on
abbrev pub refusal_number : Refusal → ℕ
refusal_number (Piece e) = piece_number e
refusal_number (Link e) = edge_number e
refusal_number (Ranking e) = ranking_number e

-- an edge of the list leads from a to b
abbrev pub joins : List Edge → ℕ → ℕ → Bool
joins [] a b = false
joins (e ∷ rest) a b = (e.0 == a && e.1 == b) || joins rest a b

-- the edges of the list besides those of the task, and all else as it was
pub record Joined (t : Task) (edges : List Edge) (s : Task) : Type 0 where
  pub pieces : s.pieces ≡ t.pieces
  pub worst : (k : ℕ) → s.worst k ≡ t.worst k
  pub edge : (a b : ℕ) → s.edge a b ≡ (t.edge a b || joins edges a b)
  pub not_after : (a b : ℕ) → s.not_after a b ≡ t.not_after a b

-- the task has a piece for each worst time, and the edges of the list
pub record Listed (worsts : List ℕ) (edges : List Edge) (t : Task) : Type 0 where
  pub pieces : t.pieces ≡ length worsts
  pub worst : (k : ℕ) → k < length worsts → t.worst k ≡ slice_index worsts k
  pub edge : (a b : ℕ) → t.edge a b ≡ joins edges a b

-- all pieces are entered, or with those in front entered the next is refused
abbrev pub EnterAllSays : List ℕ → Result Entering PieceRefusal → Type 0
EnterAllSays worsts (Ok e) = entered e ≡ worsts
EnterAllSays worsts (Err refusal) =
    (front : List ℕ) × (w : ℕ) × (rest : List ℕ) × (worsts ≡ front ++ (w ∷ rest))
    × (a : Entering) × (entered a ≡ front) × EnterSays a w (Err refusal) a

-- so many pieces of one worst time are closed, or with those in front entered the next is refused
abbrev pub AlikeSays : ℕ → ℕ → Result Linking PieceRefusal → Type 0
AlikeSays n worst (Ok l) = Closes (replicate n worst) (linking_task l)
AlikeSays n worst (Err refusal) = EnterAllSays (replicate n worst) (Err refusal)

-- all edges are there, or with those in front there the next is refused
abbrev pub LinkAllSays : Linking → List Edge → Result (Unit {0}) EdgeRefusal → Linking → Type 0
LinkAllSays l edges (Ok x) m = Joined (linking_task l) edges (linking_task m)
LinkAllSays l edges (Err refusal) m =
    (front : List Edge) × (e : Edge) × (rest : List Edge) × (edges ≡ front ++ (e ∷ rest))
    × Joined (linking_task l) front (linking_task m) × LinkSays m e.0 e.1 (Err refusal) m

module _ {P : Type 0} (not_after : P → P → Bool) where
  -- the task of the lists is filed, or the first call of filing that is refused refuses it: a piece, an edge, or the ranking
  abbrev pub FileSays : List ℕ → List Edge → List P → Result Filed Refusal → Type 0
  FileSays worsts edges ps (Ok f) =
      Listed worsts edges (filed_task f) × (length ps ≡ length worsts)
      × ((a b : ℕ) (p : P) → OnTask (filed_task f) a b → (filed_task f).not_after a b ≡ not_after (slice_index_or ps a p) (slice_index_or ps b p))
  FileSays worsts edges ps (Err (Piece refusal)) = EnterAllSays worsts (Err refusal)
  FileSays worsts edges ps (Err (Link refusal)) =
      (front : List Edge) × (e : Edge) × (rest : List Edge) × (edges ≡ front ++ (e ∷ rest))
      × (l : Linking) × Listed worsts front (linking_task l) × LinkSays l e.0 e.1 (Err refusal) l
  FileSays worsts edges ps (Err (Ranking refusal)) =
      (l : Linking) × Listed worsts edges (linking_task l) × RankSays not_after l ps (Err refusal) l
