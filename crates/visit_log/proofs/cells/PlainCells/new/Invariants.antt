use Rattle.std.proofs.Common.{◌≡◌}
use Rattle.std.specs.Prelude.{nat_lt, if◌then◌else◌}
use Rattle.entry_word.specs.declared.visit.Key.{Key}
use Rattle.directory.specs.Keys.{key_sub, opening}
use Rattle.region_plan.specs.Settings.{setting_of}
use Rattle.region_plan.specs.Cells.{IsCell}
use Rattle.visit_log.specs.Cells.{GoWith, word_at}
use Rattle.visit_log.proofs.cells.PlainCells.new.Given as goal

abbrev pub invariant-loop-sub : goal.invariant-loop-sub
invariant-loop-sub l = record {
  goes : GoWith l.plan l.cells;
  subs : l.cells.subs ≡ l.subs;
  words : (key : Key) → IsCell l.plan l.subs key
      → word_at l.plan l.cells key ≡ if nat_lt (key_sub key) l.sub then opening
      (setting_of l.plan l.homes) key else 0;
}
