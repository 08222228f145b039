use Rattle.std.proofs.Common.{◌≡◌, Some}
use Rattle.entry_word.specs.declared.visit.Visit.{Visit}
use Rattle.directory.specs.Keys.{act_node}
use Rattle.handset.specs.StepWrites.{due}
use Rattle.station.specs.Handsets.{IsHandsetOf}
use Rattle.station.specs.Setup.{setting_in}
use Rattle.tracker_calls.specs.Added.{HasTried}
use Rattle.tracker_calls.proofs.whole_moves.put_when_free.Given as goal

abbrev pub invariant-tries : goal.invariant-tries
invariant-tries g l = record {
  tried : (visit : Visit) × (due (setting_in l.fn.tracker.setup) l.handset ≡ Some visit)
      × HasTried (act_node (setting_in l.fn.tracker.setup) visit.act) l.fn.pass l.pass;
  handset : l.handset ≡ l.fn.handset;
  own : IsHandsetOf l.fn.tracker.setup l.pass.view l.handset;
}
