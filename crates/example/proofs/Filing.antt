-- Pieces and edges of a list entered one after the other. Assumes nothing.
use Rattle.std.proofs.Common.{◌≡◌, ℕ, ◌+◌, ◌<◌, Bool, ◌&&◌, ◌||◌, eqb, List, [], ◌∷◌, ◌++◌, length, get_or, take, drop, Ok, Err, sym, ap, ◌∙◌, subst}
use mathlib.Core.Bool.{or-false, or_assoc}
use Rattle.std.proofs.lemmas.List.{take-append-drop, drop_more, take_more}
use Rattle.theory.specs.Tasks.{Task}
use Rattle.task.specs.Filing.{entered, linking_task, filed_task, OnTask, Linked, Closes, EnterSays, LinkSays, RankSays}
use Rattle.task.specs.declared.stages.Entering.{Entering}
use Rattle.task.specs.declared.stages.Linking.{Linking}
use Rattle.task.specs.declared.stages.Filed.{Filed}
use Rattle.task.specs.declared.refusals.PieceRefusal.{PieceRefusal}
use Rattle.task.specs.declared.refusals.PieceRefusal.TheVariants.{Full, Worst}
use Rattle.task.specs.declared.refusals.EdgeRefusal.{EdgeRefusal}
use Rattle.task.specs.declared.refusals.EdgeRefusal.TheVariants.{OffTask, There, Circular}
use Rattle.task.specs.declared.refusals.RankingRefusal.{RankingRefusal}
use Rattle.task.specs.declared.refusals.RankingRefusal.TheVariants.{Count}
use Rattle.example.specs.declared.lists.Edge.{Edge}
use Rattle.example.specs.declared.lists.Refusal.TheVariants.{Link, Ranking}
use Rattle.example.specs.Lists.{joins, Joined, Listed, EnterAllSays, LinkAllSays, FileSays}

-- a list at one of its elements
pub split_at : {X : Type 0} (xs : List X) (i : ℕ) (d : X) → i < length xs → xs ≡ take i xs ++ (get_or xs i d ∷ drop (i + 1) xs)
split_at xs i d h = sym (take-append-drop i xs) ∙ ap (λ rest. take i xs ++ rest) (drop_more xs i d h)

-- ---- a refused call alters nothing

pub enter_kept : (a b : Entering) (w : ℕ) (e : PieceRefusal) → EnterSays a w (Err e) b → b ≡ a
enter_kept a b w Full h = h.1
enter_kept a b w Worst h = h.2

pub link_kept : (l m : Linking) (x y : ℕ) (e : EdgeRefusal) → LinkSays l x y (Err e) m → m ≡ l
link_kept l m x y OffTask h = h.1
link_kept l m x y There h = h.2
link_kept l m x y Circular h = h.3

pub rank_kept : {P : Type 0} (not_after : P → P → Bool) (l m : Linking) (ps : List P) (e : RankingRefusal) → RankSays not_after l ps (Err e) m → m ≡ l
rank_kept not_after l m ps Count h = h.1

-- the next of the pieces is refused
pub enter_refused : (worsts : List ℕ) (a b : Entering) (i w : ℕ) (e : PieceRefusal) → i < length worsts → get_or worsts i 0 ≡ w → entered a ≡ take i worsts
    → EnterSays a w (Err e) b → EnterAllSays worsts (Err e)
enter_refused worsts a b i w e l is front said = (
  take i worsts,
  w,
  drop (i + 1) worsts,
  subst (λ x. worsts ≡ take i worsts ++ (x ∷ drop (i + 1) worsts)) is (split_at worsts i 0 l),
  a,
  front,
  subst (λ x. EnterSays a w (Err e) x) (enter_kept a b w e said) said,
)

-- ---- one more edge of the list

joins_push : (front : List Edge) (e : Edge) (a b : ℕ) → joins (front ++ (e ∷ [])) a b ≡ (joins front a b || (eqb e.0 a && eqb e.1 b))
joins_push [] e a b = or-false (eqb e.0 a && eqb e.1 b)
joins_push (x ∷ rest) e a b =
    ap (λ c. (eqb x.0 a && eqb x.1 b) || c) (joins_push rest e a b)
    ∙ sym (or_assoc (eqb x.0 a && eqb x.1 b) (joins rest a b) (eqb e.0 a && eqb e.1 b))

joined_push : {t s r : Task} (front : List Edge) (e : Edge) → Joined t front s → Linked s e.0 e.1 r → Joined t (front ++ (e ∷ [])) r
joined_push {t} front e j link = record {
  pieces = link.0 ∙ j.pieces;
  worst = λ k. link.1 k ∙ j.worst k;
  edge = λ a b.
      link.2 a b ∙ ap (λ c. c || (eqb e.0 a && eqb e.1 b)) (j.edge a b) ∙ or_assoc (t.edge a b) (joins front a b) (eqb e.0 a && eqb e.1 b)
      ∙ ap (λ c. t.edge a b || c) (sym (joins_push front e a b));
  not_after = λ a b. link.3 a b ∙ j.not_after a b;
}

pub joined_more : {t s r : Task} (edges : List Edge) (i : ℕ) (d : Edge) → i < length edges → Joined t (take i edges) s
    → Linked s (get_or edges i d).0 (get_or edges i d).1 r → Joined t (take (i + 1) edges) r
joined_more {t} {s} {r} edges i d l j link = subst (λ front. Joined t front r) (sym (take_more edges i d l)) (joined_push (take i edges) (get_or edges i d) j link)

-- pieces that are closed, and then their edges
pub listed_of : {t s : Task} (worsts : List ℕ) (edges : List Edge) → Closes worsts t → Joined t edges s → Listed worsts edges s
listed_of {t} {s} worsts edges close j = record {
  pieces = j.pieces ∙ close.0;
  worst = λ k l. j.worst k ∙ close.1 k (subst (λ n. k < n) (sym close.0) l);
  edge = λ a b. j.edge a b ∙ ap (λ c. c || joins edges a b) (close.2 a b);
}

-- ---- all of it

module _ {P : Type 0} (not_after : P → P → Bool) (worsts : List ℕ) (edges : List Edge) (ps : List P) where
  pub filed_of : (e : Entering) (l m r : Linking) (f : Filed) → entered e ≡ worsts → Closes (entered e) (linking_task l) → Joined (linking_task l) edges (linking_task m)
      → RankSays not_after m ps (Ok tt) r → filed_task f ≡ linking_task r → FileSays not_after worsts edges ps (Ok f)
  filed_of e l m r f all close join rank same =
      let listed : Listed worsts edges (linking_task m) = listed_of worsts edges (subst (λ ws. Closes ws (linking_task l)) all close) join in
      let many : length ps ≡ length worsts = rank.0 ∙ listed.pieces in
      subst (λ t. Listed worsts edges t × (length ps ≡ length worsts) × ((a b : ℕ) (p : P) → OnTask t a b → t.not_after a b ≡ not_after (get_or ps a p) (get_or ps b p))) (sym same) (
        record {
          pieces = rank.1.0 ∙ listed.pieces;
          worst = λ k h. rank.1.1 k ∙ listed.worst k h;
          edge = λ a b. rank.1.2 a b ∙ listed.edge a b;
        },
        many,
        λ a b p on. rank.1.3 a b p (subst (λ n. a < n) rank.1.0 on.0, subst (λ n. b < n) rank.1.0 on.1),
      )

  pub link_refused : (e : Entering) (l m : Linking) (refusal : EdgeRefusal) → entered e ≡ worsts → Closes (entered e) (linking_task l) → LinkAllSays l edges (Err refusal) m
      → FileSays not_after worsts edges ps (Err (Link refusal))
  link_refused e l m refusal all close said = (
    said.0,
    said.1,
    said.2,
    said.3,
    m,
    listed_of worsts said.0 (subst (λ ws. Closes ws (linking_task l)) all close) said.4,
    said.5,
  )

  pub rank_refused : (e : Entering) (l m r : Linking) (refusal : RankingRefusal) → entered e ≡ worsts → Closes (entered e) (linking_task l)
      → Joined (linking_task l) edges (linking_task m) → RankSays not_after m ps (Err refusal) r → FileSays not_after worsts edges ps (Err (Ranking refusal))
  rank_refused e l m r refusal all close join said = (
    m,
    listed_of worsts edges (subst (λ ws. Closes ws (linking_task l)) all close) join,
    subst (λ x. RankSays not_after m ps (Err refusal) x) (rank_kept not_after m r ps refusal said) said,
  )
