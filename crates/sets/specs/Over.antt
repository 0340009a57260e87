-- What comes of asking pieces one by one, those that pass a test or those of a set, where answer k r says that r may be answered of
-- piece k. Assumes nothing.
use Rattle.std.specs.Prelude.{◌≡◌, ℕ, ◌≤◌, Bool, true, false, ◌⊎◌}
use Rattle.sets.specs.Sets.{member, sum_over}

module _ (p : ℕ → Bool) where
  -- r has each of the pieces as is answered of it, and no other piece
  pub record FilterAnswer (answer : ℕ → Bool → Type 0) (r : ℕ) : Type 0 where
    pub asked : (k : ℕ) → p k ≡ true → answer k (member r k)
    pub others : (k : ℕ) → p k ≡ false → member r k ≡ false

  -- n is the largest of the numbers that are answered, and 0 where no piece passes: none is larger, and one is as large
  pub record LargestAnswer (answer : ℕ → ℕ → Type 0) (n : ℕ) : Type 0 where
    pub bounds : (k : ℕ) → p k ≡ true → (r : ℕ) × answer k r × (r ≤ n)
    pub reached : (n ≡ 0) ⊎ ((k : ℕ) × (p k ≡ true) × answer k n)

-- n is the sum of the numbers that are answered, one of each piece of the set
pub record SumAnswer (set : ℕ) (answer : ℕ → ℕ → Type 0) (n : ℕ) : Type 0 where
  pub value : ℕ → ℕ
  pub asked : (k : ℕ) → member set k ≡ true → answer k (value k)
  pub adds : n ≡ sum_over set value
