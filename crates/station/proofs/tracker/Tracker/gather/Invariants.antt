use Rattle.std.proofs.Common.{◌≡◌, ◌<◌, ◌≤◌, ℕ, Some, []}
use Rattle.std.specs.Prelude.{slice_get}
use Rattle.directory.specs.Histories.{IsFront, own}
use Rattle.directory.specs.Legal.{IsLegal}
use Rattle.station.specs.Setup.{setting_in, subs_in}
use Rattle.station.specs.Passes.{PassData, IsNoteOf}
use Rattle.station.proofs.tracker.Tracker.gather.Given as goal

abbrev pub invariant-loop-k : goal.invariant-loop-k
invariant-loop-k l = record {
  same : l.passes.items ≡ l.initial.passes.items;
  of : IsNoteOf l.self l.longest;
  seen : (j : ℕ) (pass : PassData) → j < l.k → slice_get l.initial.passes.items j ≡ Some pass
      → IsFront pass.view.seen l.longest.view.seen;
  known : 0 < l.k → (actor : ℕ) → l.self.setup.actors ≤ actor → own actor l.longest.view.seen ≡ [];
  legal : 0 < l.k → (sub : ℕ) → sub < subs_in l.self.setup → IsLegal (setting_in l.self.setup) sub l.longest.view.seen;
}
