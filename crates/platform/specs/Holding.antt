-- What is held of the pieces, and how they work. Assumes nothing.
use Rattle.std.specs.Prelude.{◌≡◌, ℕ, ◌+◌, ◌&&◌, ◌||◌, ◌==◌}
use Rattle.sets.specs.Sets.{member}
use Rattle.theory.specs.Platforms.{Platform, runs}
use Rattle.platform.specs.Tables.{platform_from}
use Rattle.platform.specs.declared.held.Holding.{Holding}

-- the platform that is held
abbrev pub held_means : Holding → Platform
held_means h = platform_from h.worst h.ran h.ended

-- what ends where the set is worked: what runs, and is to end early or reaches its worst time
abbrev pub EndsAlso : Platform → ℕ → ℕ → ℕ → Type 0
EndsAlso p set early answer = (k : ℕ) → member answer k ≡ (runs p set k && (member early k || p.ran k + 1 == p.worst k))
