-- The worked example: its worst times, edges and priorities. Assumes nothing.
use Rattle.std.specs.Prelude.{ℕ, List, [], ◌∷◌}
use Rattle.task.specs.declared.priorities.Plain.{Plain}
use Rattle.example.specs.declared.lists.Edge.{Edge}

abbrev pub worked_worsts : List ℕ
worked_worsts = 3 ∷ 2 ∷ 5 ∷ 1 ∷ 2 ∷ 2 ∷ []

-- pieces 4 and 5 wait for piece 0, and piece 3 for piece 1
abbrev pub worked_edges : List Edge
worked_edges = (0, 4) ∷ (0, 5) ∷ (1, 3) ∷ []

-- the smaller is ahead
abbrev pub worked_priorities : List Plain
worked_priorities = plain 1 ∷ plain 4 ∷ plain 3 ∷ plain 2 ∷ plain 1 ∷ plain 1 ∷ []
  where
    plain : ℕ → Plain
    plain n = record { 0 = n }
