-- What a platform means: for each piece a worst time, the ticks that it has run, and whether it has ended. Assumes nothing.
use Rattle.std.specs.Prelude.{◌≡◌, ℕ, ◌+◌, ◌<◌, ◌≤◌, Bool, true, cond, not, ◌&&◌, ◌||◌, nat_lt}
use Rattle.sets.specs.Sets.{member}

pub record Platform : Type 0 where
  -- a piece's worst time, in ticks; 0 says that the piece is not held
  pub worst : ℕ → ℕ
  -- the ticks that it has run
  pub ran : ℕ → ℕ
  pub ended : ℕ → Bool

-- what holds of every platform
pub record Sound (p : Platform) : Type 0 where
  -- no piece above 63 is held
  pub beyond : (k : ℕ) → 64 ≤ k → p.worst k ≡ 0
  -- none has run longer than its worst time, so that a piece that is not held never runs
  pub within : (k : ℕ) → p.ran k ≤ p.worst k
  -- an ended piece has run, and a piece held that has run its worst time has ended
  pub begun : (k : ℕ) → p.ended k ≡ true → 1 ≤ p.ran k
  pub finished : (k : ℕ) → 0 < p.worst k → p.ran k ≡ p.worst k → p.ended k ≡ true

-- no piece has run
abbrev pub Fresh : Platform → Type 0
Fresh p = (k : ℕ) → p.ran k ≡ 0

-- piece k runs a tick where the set is worked: it is in the set, held, and has not ended
abbrev pub runs : Platform → ℕ → ℕ → Bool
runs p set k = member set k && (nat_lt 0 (p.worst k) && not (p.ended k))

-- the set was worked, and the answer is the set of the pieces that ended by it; that a piece ends with its last tick is part of Sound
pub record Works (p : Platform) (set answer : ℕ) (q : Platform) : Type 0 where
  pub worst : (k : ℕ) → q.worst k ≡ p.worst k
  pub ran : (k : ℕ) → q.ran k ≡ p.ran k + cond (runs p set k) 1 0
  -- ended is what had ended before and what is answered, and only what runs is answered
  pub ended : (k : ℕ) → q.ended k ≡ (p.ended k || member answer k)
  pub only : (k : ℕ) → member answer k ≡ true → runs p set k ≡ true
