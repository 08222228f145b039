use Rattle.std.proofs.Common.{subst, sym, ◌∙◌}
use Rattle.directory.specs.Finds.{at_origin}
use Rattle.directory.specs.Looks.{AreLooks}
use Rattle.station.specs.Passes.{actor_of}
use Rattle.station.specs.Setup.{setting_in}
use Rattle.worked_examples.proofs.Held.{held-by}
use Rattle.worked_examples.proofs.Looks.{look-no}
use Rattle.worked_examples.proofs.calls.wrong_stops.Goals as goal

pub returns-clause-no_look : goal.returns-clause-no_look
unfolding AreLooks
returns-clause-no_look c = λ setup old new call held stopped one there.
    let looks = subst (λ t. AreLooks (setting_in setup) stopped.between.view.seen (actor_of old)
    call 0 at_origin t) one stopped.looks in
    look-no (actor_of old) looks.1.0 (sym looks.1.2 ∙ there)

pub returns-clause-alone : goal.returns-clause-alone
returns-clause-alone c = λ setup old new call count states stopped through first last known alone.
    held-by c.events_come_within_calls.ensures setup old new call (record { node = 2; by = 5 }) count states stopped
    through first last known alone
