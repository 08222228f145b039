use Rattle.std.proofs.Common.{◌≡◌}
use Rattle.entry_word.specs.declared.visit.Key.{Key}
use Rattle.region_plan.specs.Cells.{IsCell}
use Rattle.visit_log.specs.Cells.{GoWith, open_word, word_at}
use Rattle.visit_log.proofs.cells.PlainCells.open.Given as goal

abbrev pub invariant-loop-level : goal.invariant-loop-level
invariant-loop-level l = record {
  goes : GoWith l.plan l.self;
  subs : l.self.subs ≡ l.fn.self.subs;
  words : (key : Key) → IsCell l.plan l.fn.self.subs key → word_at l.plan l.self key
      ≡ open_word l.plan l.sub l.home l.level key (word_at l.plan l.fn.self key);
}
