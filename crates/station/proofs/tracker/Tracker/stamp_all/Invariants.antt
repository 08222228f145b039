use Rattle.std.proofs.Common.{◌≡◌, ◌≤◌, ℕ, Some, take, length}
use Rattle.std.specs.Prelude.{slice_get, slice_index}
use Rattle.entry_word.specs.declared.visit.Visit.{Visit}
use Rattle.directory.specs.Histories.{own}
use Rattle.station.specs.Passes.{PassData, IsNoteOf, actor_of}
use Rattle.station.proofs.tracker.Tracker.stamp_all.Given as goal

abbrev pub invariant-loop-pass : goal.invariant-loop-pass
invariant-loop-pass l = record {
  left : l.passes.items ≡ take (length l.passes.items) l.initial.passes.items;
  of : IsNoteOf l.self l.longest;
  same : l.longest.view.seen ≡ l.initial.longest.view.seen;
  size : length l.order ≡ length l.initial.order;
  visits : (j : ℕ) (pass : PassData) → length l.passes.items ≤ j → slice_get l.initial.passes.items j ≡ Some pass
      → own (actor_of pass) l.initial.longest.view.seen ≡ own (actor_of pass) pass.view.seen;
  stamped : (i j : ℕ) (visit : Visit) (pass : PassData) → slice_get l.initial.longest.view.seen i ≡ Some visit
      → length l.passes.items ≤ j
      → slice_get l.initial.passes.items j ≡ Some pass → visit.actor ≡ actor_of pass
      → slice_index l.order i ≡ visit.actor;
}

abbrev pub decreases-loop-pass : goal.decreases-loop-pass
decreases-loop-pass l = length l.passes.items
