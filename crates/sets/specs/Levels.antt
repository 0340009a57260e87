-- Sets of pieces by level. Assumes nothing.
use Rattle.std.specs.Prelude.{◌≡◌, ℕ, Bool, true, false, nat_eq, slice_index}
use Rattle.sets.specs.Sets.{member, size_of, SetOf}
use Rattle.sets.specs.declared.levels.Levelled.{Levelled}

-- the set of the pieces of a level
abbrev pub level_of : Levelled → ℕ → ℕ
level_of levels l = slice_index levels.sets l

-- each of the pieces below n stands at the level of its key, and no other piece anywhere
abbrev pub ByKey : (ℕ → ℕ) → ℕ → Levelled → Type 0
ByKey key n levels = (l : ℕ) → SetOf n (λ j. nat_eq (key j) l) (level_of levels l)

-- each of the pieces that pass the test stands at the level of the size of the set that is answered of it, and at no other; no other
-- piece stands anywhere
pub record BySize (p : ℕ → Bool) (answer : ℕ → ℕ → Type 0) (levels : Levelled) : Type 0 where
  pub asked : (k : ℕ) → p k ≡ true → (set : ℕ) × answer k set × ((l : ℕ) → member (level_of levels l) k ≡ nat_eq (size_of set) l)
  pub others : (k : ℕ) → p k ≡ false → (l : ℕ) → member (level_of levels l) k ≡ false
