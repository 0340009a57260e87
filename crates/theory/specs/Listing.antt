-- Every complete path of a task, listed, and with that the numerator, the bound and the chain as numbers. Assumes nothing.
use Rattle.std.specs.Prelude.{◌≡◌, ℕ, zero, suc, ◌/◌, max, Bool, true, false, not, ◌||◌, ◌⊎◌, List, [], ◌∷◌, ◌++◌}
use Rattle.theory.specs.Tasks.{Task}
use Rattle.theory.specs.Paths.{length_of, numerator_of}

-- the path is one of the list's
abbrev pub In : List ℕ → List (List ℕ) → Type 0
In path [] = ⊥
In path (first ∷ rest) = (path ≡ first) ⊎ In path rest

-- some number below n passes the test
abbrev pub any : ℕ → (ℕ → Bool) → Bool
any zero p = false
any (suc n) p = p n || any n p

-- what f lists at k where a test has passed, and nothing where it has not: f k is then never computed
abbrev pub pick : Bool → (ℕ → List (List ℕ)) → ℕ → List (List ℕ)
pick true f k = f k
pick false f k = []

-- what f lists at each number below n that passes the test
abbrev pub each : ℕ → (ℕ → Bool) → (ℕ → List (List ℕ)) → List (List ℕ)
each zero p f = []
each (suc n) p f = each n p f ++ pick (p n) f n

abbrev pub alone : ℕ → List (List ℕ)
alone v = (v ∷ []) ∷ []

-- v in front of each
abbrev pub before : ℕ → List (List ℕ) → List (List ℕ)
before v [] = []
before v (path ∷ rest) = (v ∷ path) ∷ before v rest

-- the lists of at most so many numbers below n that go on from v, each to one that is next to it, until none is
abbrev pub trails : ℕ → (ℕ → ℕ → Bool) → ℕ → ℕ → List (List ℕ)
trails n next zero v = []
trails n next (suc fuel) v = pick (not (any n (next v))) alone v ++ before v (each n (next v) (trails n next fuel))

-- the largest value of f on the list, and 0 on none
abbrev pub largest : (List ℕ → ℕ) → List (List ℕ) → ℕ
largest f [] = 0
largest f (path ∷ rest) = max (f path) (largest f rest)

module _ (t : Task) where
  -- along the edges, from each piece without predecessors
  unfoldable pub walk : List (List ℕ)
  walk = each t.pieces (λ v. not (any t.pieces (λ a. t.edge a v))) (trails t.pieces t.edge t.pieces)

  unfoldable pub numerator : ℕ → ℕ
  numerator cores = largest (numerator_of t cores) walk

  -- the ticks within which a task is done on so many cores
  unfoldable pub bound : ℕ → ℕ
  bound cores = numerator cores / cores

  unfoldable pub chain : ℕ
  chain = largest (length_of t) walk
