-- Walks from one piece to another whose inner pieces are all allowed, and a table of their largest numerators, as allowing
-- one more piece changes it. Assumes nothing.
use Rattle.std.specs.Prelude.{◌≡◌, ℕ, ◌+◌, ◌-◌, ◌*◌, ◌<◌, ◌≤◌, max, Bool, true, cond, ◌&&◌, ◌||◌, ◌⊎◌, List, [], ◌∷◌, ◌==◌}
use Rattle.theory.specs.Tasks.{Task}
use Rattle.theory.specs.Paths.{interferes, interferes_with, length_of, volume_of}

module _ (t : Task) where
  -- edges lead from u through the pieces of the list, all of which are allowed, to w
  abbrev pub Via : (ℕ → Type 0) → ℕ → List ℕ → ℕ → Type 0
  Via E u [] w = t.edge u w ≡ true
  Via E u (x ∷ l) w = (t.edge u x ≡ true) × E x × Via E x l w

  -- x is in the interference set of a piece of the walk
  abbrev pub touches : ℕ → List ℕ → ℕ → ℕ → Bool
  touches u l w x = interferes t u x || (interferes_with t l x || interferes t w x)

  -- the numerator of the walk
  abbrev pub weight : ℕ → ℕ → List ℕ → ℕ → ℕ
  weight cores u l w = cores * (t.worst u + (length_of t l + t.worst w)) + volume_of t (touches u l w)

  -- x is in the interference set of v, or in those of both u and w
  abbrev pub shares : ℕ → ℕ → ℕ → ℕ → Bool
  shares u v w x = interferes t v x || (interferes t u x && interferes t w x)

  -- what a walk from u to v and a walk from v to w count twice
  abbrev pub twice : ℕ → ℕ → ℕ → ℕ → ℕ
  twice cores u v w = cores * t.worst v + volume_of t (shares u v w)

  -- the numerator of a piece alone
  abbrev pub alone : ℕ → ℕ → ℕ
  alone cores v = cores * t.worst v + volume_of t (interferes t v)

  -- the numerator of the walk straight from u to w, and 0 where no edge leads there
  abbrev pub straight : ℕ → ℕ → ℕ → ℕ
  straight cores u w = cond (t.edge u w) (weight cores u [] w) 0

  -- M u w is the largest numerator of a walk from u to w through allowed pieces, and 0 where there is none
  pub record Best (cores : ℕ) (E : ℕ → Type 0) (M : ℕ → ℕ → ℕ) : Type 0 where
    pub bounds : (u w : ℕ) (l : List ℕ) → Via E u l w → weight cores u l w ≤ M u w
    pub reached : (u w : ℕ) → u < t.pieces → w < t.pieces → (M u w ≡ 0) ⊎ ((l : List ℕ) × Via E u l w × (weight cores u l w ≡ M u w))

  -- the entry u w once v is allowed too
  abbrev pub stepped : ℕ → (ℕ → ℕ → ℕ) → ℕ → ℕ → ℕ → ℕ
  stepped cores M v u w =
      cond (M u v == 0 || M v w == 0) (M u w) (max (M u w) ((M u v + M v w) - twice cores u v w))

  -- n is the largest numerator of a piece alone or of a walk in the table, and 0 without pieces
  pub record Greatest (cores : ℕ) (M : ℕ → ℕ → ℕ) (n : ℕ) : Type 0 where
    pub over_pieces : (v : ℕ) → v < t.pieces → alone cores v ≤ n
    pub over_walks : (u w : ℕ) → u < t.pieces → w < t.pieces → M u w ≤ n
    pub reached : ((t.pieces ≡ 0) × (n ≡ 0)) ⊎ (((v : ℕ) × (v < t.pieces) × (alone cores v ≡ n))
        ⊎ ((u : ℕ) × (w : ℕ) × (u < t.pieces) × (w < t.pieces) × (1 ≤ M u w) × (M u w ≡ n)))
