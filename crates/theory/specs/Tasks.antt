-- A task: pieces of work with worst times, edges between them, and an order of priority. Assumes nothing.
use Rattle.std.specs.Prelude.{◌≡◌, ℕ, ◌<◌, ◌≤◌, Bool, true, false, ◌↔◌}
use Rattle.std.proofs.Math.Logic.{◌∨₁◌}
use Rattle.sets.specs.Sets.{count}

pub record Task : Type 0 where
  -- how many pieces there are: they are numbered from 0
  pub pieces : ℕ
  -- a piece's worst time, in ticks
  pub worst : ℕ → ℕ
  -- edge a b: piece b starts only after a has ended
  pub edge : ℕ → ℕ → Bool
  -- ancestor a b: one or more edges lead from a to b
  pub ancestor : ℕ → ℕ → Bool
  -- not_after a b: the priority of a is not after that of b
  pub not_after : ℕ → ℕ → Bool

-- one or more edges lead from a to b
pub data Leads (t : Task) : ℕ → ℕ → Type 0 where
  one : {a b : ℕ} → t.edge a b ≡ true → Leads t a b
  more : {a b c : ℕ} → Leads t a b → t.edge b c ≡ true → Leads t a c

-- how many pieces are above v, its ancestors, and how many below it; shut, so that no goal spells out their terms
unfoldable pub above : Task → ℕ → ℕ
above t v = count t.pieces (λ a. t.ancestor a v)

unfoldable pub below : Task → ℕ → ℕ
below t v = count t.pieces (t.ancestor v)

-- a worst time that a piece may have
abbrev pub WorstFits : ℕ → Type 0
WorstFits w = (1 ≤ w) × (w ≤ 65535)

-- what holds of every task that filing gives
pub record Lawful (t : Task) : Type 0 where
  pub few : t.pieces ≤ 64
  pub at_least : (k : ℕ) → k < t.pieces → 1 ≤ t.worst k
  pub at_most : (k : ℕ) → k < t.pieces → t.worst k ≤ 65535
  -- both ends of an edge are pieces
  pub ends : (a b : ℕ) → t.edge a b ≡ true → (a < t.pieces) × (b < t.pieces)
  -- the ancestors are exactly what edges lead from, and no piece is its own
  pub exact : (a b : ℕ) → (t.ancestor a b ≡ true) ↔ ∥ Leads t a b ∥₁
  pub acyclic : (a : ℕ) → t.ancestor a a ≡ false
  -- any two pieces compare, and in order
  pub total : (a b : ℕ) → a < t.pieces → b < t.pieces → (t.not_after a b ≡ true) ∨₁ (t.not_after b a ≡ true)
  pub transitive : (a b c : ℕ) → t.not_after a b ≡ true → t.not_after b c ≡ true → t.not_after a c ≡ true
