-- Each turn takes one more piece of the level; all that were taken are not after it.
use Rattle.std.proofs.Common.{◌≡◌, ℕ, ◌&&◌, sym, ap, ◌∙◌, subst}
use Rattle.sets.proofs.Iterating.{within_none, within_more}
use Rattle.sets.proofs.Levelling.{by_key_at}
use Rattle.task.proofs.Filed.{filed_lawful}
use Rattle.numerator.specs.Cells.{Ready, Wrote, entry}
use Rattle.numerator.specs.Settings.{task_in, rank}
use Rattle.numerator.specs.declared.setting.Setting.{Setting}
use Rattle.numerator.specs.declared.table.Table.{Table}
use Rattle.theory.specs.Inner.{stepped}
use Rattle.numerator.proofs.Taking.{taking_start, taking_end, taking_ready, taking_turn}
use Rattle.numerator.proofs.setting.Setting.eliminate_level.Goals as goal

pub loop-v-init : goal.loop-v-init
loop-v-init c =
    let s = c.args.self.now in
    let at = by_key_at (rank (task_in s)) (task_in s).pieces c.args.level c.at-set.result c.args.levels.now c.requires.sorted c.at-set.ensures in
    let start : c.into_iter-v-iterator.result.rest ≡ c.at-set.result = ap (λ p. p.rest) c.into_iter-v-iterator.ensures.into_iter_gives ∙ c.pieces_of-v-items.ensures in
    record {
      inside = within_none c.at-set.result _ start;
      best = taking_start (filed_lawful s.task) s.cores c.args.level c.at-set.result at (entry (task_in s) c.args.table.now) _ start c.requires.ahead;
    }

-- the joint is that of the setting at the piece
module _ {r s : Setting} {x v : ℕ} (setting : r ≡ s) (piece : x ≡ v) (old new : Table) where
  ready_there : Ready (task_in s) old v → Ready (task_in r) old x
  ready_there h = subst (λ r. Ready (task_in r) old x) (sym setting) (subst (λ x. Ready (task_in s) old x) (sym piece) h)

  abbrev Through : Setting → ℕ → Type 0
  Through s v = Wrote (λ a b. (task_in s).ancestor a v && (task_in s).ancestor v b) (stepped (task_in s) s.cores (entry (task_in s) old) v) old new

  through_here : Through r x → Through s v
  through_here h = subst (Through s) piece (subst (λ r. Through r x) setting h)

pub all-requires : goal.all-requires
all-requires c =
    let s = c.args.self.now in
    let at = by_key_at (rank (task_in s)) (task_in s).pieces c.args.level c.at-set.result c.args.levels.now c.requires.sorted c.at-set.ensures in
    let taken = c.in-Some.ensures.steps in
    ready_there c.new.ensures.setting c.new.ensures.v c.loop-v.table c.loop-v.table
    (taking_ready (filed_lawful s.task) s.cores c.args.level c.at-set.result at c.loop-v.v-iterator.rest c.next.new.self.rest
    c.in-Some.v c.loop-v.invariant.inside taken.1.0 taken.2 s.most c.loop-v.table c.loop-v.invariant.best)

pub loop-v-preserved : goal.loop-v-preserved
loop-v-preserved c =
    let s = c.args.self.now in
    let at = by_key_at (rank (task_in s)) (task_in s).pieces c.args.level c.at-set.result c.args.levels.now c.requires.sorted c.at-set.ensures in
    let taken = c.in-Some.ensures.steps in
    let rest = c.loop-v.v-iterator.rest in
    let next = c.next.new.self.rest in
    record {
      inside = within_more c.at-set.result rest next c.in-Some.v c.loop-v.invariant.inside taken.1.0 taken.2;
      best = taking_turn (filed_lawful s.task) s.cores c.args.level c.at-set.result at rest next c.in-Some.v c.loop-v.invariant.inside taken.1.0 taken.2
          s.some c.loop-v.table c.all.new.table c.loop-v.invariant.best
          (through_here c.new.ensures.setting c.new.ensures.v c.loop-v.table c.all.new.table c.all.ensures);
    }

pub returns : goal.returns
returns c =
    let s = c.args.self.now in
    let at = by_key_at (rank (task_in s)) (task_in s).pieces c.args.level c.at-set.result c.args.levels.now c.requires.sorted c.at-set.ensures in
    taking_end (filed_lawful s.task) s.cores c.args.level c.at-set.result at (entry (task_in s) c.loop-v.table)
    c.loop-v.v-iterator.rest c.in-None.ensures.steps.0 c.loop-v.invariant.best
