-- Worst times added up over a set of pieces: the volume of the set, and of the task. Assumes nothing.
use Rattle.std.proofs.Common.{◌≡◌, ℕ, ◌≤◌, Bool, true, false, cond, ltb, refl, ap, ◌∙◌, arith}
use Rattle.std.proofs.lemmas.Bool.{lt-ltb, le-ltb}
use Rattle.sets.specs.Sets.{member, sum_over, SetOf}
use Rattle.sets.proofs.Members.{true_set}
use Rattle.sets.proofs.Sums.{sum_cut, sum_same}
use Rattle.theory.specs.Tasks.{Task, Lawful}
use Rattle.theory.specs.Paths.{volume_of, volume}
use Rattle.theory.proofs.Sizes.{volume_small}

-- a piece's worst time, and 0 past the task
abbrev pub time : Task → ℕ → ℕ
time t k = cond (ltb k t.pieces) (t.worst k) 0

nothing : (b : Bool) (x : ℕ) → x ≡ 0 → cond b x 0 ≡ 0
nothing true x e = e
nothing false x e = refl

module _ {t : Task} (law : Lawful t) where
  pub volume_over : (set : ℕ) → sum_over set (time t) ≡ volume_of t (member set)
  unfolding sum_over
  volume_over set =
      sum_cut 64 t.pieces (λ k. cond (member set k) (time t k) 0) law.few
      (λ k l. nothing (member set k) (time t k) (ap (λ b. cond b (t.worst k) 0) (le-ltb k t.pieces l)))
      ∙ sum_same t.pieces (λ k. cond (member set k) (time t k) 0) (λ k. cond (member set k) (t.worst k) 0)
      (λ k l. ap (λ b. cond (member set k) (cond b (t.worst k) 0) 0) (lt-ltb k t.pieces l))

  pub over_small : (set : ℕ) → sum_over set (time t) ≤ 4194240
  over_small set = omega (arith, volume_over set, volume_small law (member set))

  -- the set of all pieces has the volume of the task
  pub volume_whole : (n set : ℕ) → n ≡ t.pieces → SetOf 64 (λ k. ltb k n) set → volume_of t (member set) ≡ volume t
  volume_whole n set e whole =
      sum_same t.pieces (λ k. cond (member set k) (t.worst k) 0) t.worst
      (λ k l. ap (λ b. cond b (t.worst k) 0) (true_set 64 set (λ j. ltb j n) whole k (omega (arith, law.few)) (lt-ltb k n (omega (arith, e)))))
