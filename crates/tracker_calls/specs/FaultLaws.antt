-- That a handset goes on with its pass, and stands for the same steps, over a find that failed: one
-- that was refused, and one that lost a turn on its way. Key laws: `handset-stopped`,
-- `handset-unfound`.
use Rattle.std.proofs.Common.{refl, sym, ap, subst}
use Rattle.directory.specs.Finds.{FindCall}
use Rattle.directory.specs.Histories.{puts_to}
use Rattle.handset.specs.Condition.{HandsetData}
use Rattle.station.specs.Handsets.{HandsetStays}
use Rattle.station.specs.Passes.{PassData}
use Rattle.station.specs.Setup.{Setup}
use Rattle.station.specs.StayLaws.{handset-stays, handset-stays-on}
use Rattle.station.specs.declared.turns.Held.{Held}
use Rattle.tracker_calls.specs.declared.finds.FindFault.{FindFault}
use Rattle.tracker_calls.specs.declared.finds.FindFault.TheVariants.{NoNode, NoSubscriber, Unreserved, Held as HeldBy}
use Rattle.tracker_calls.specs.Finds.{HasStopped, IsFindFault}

-- over one that lost a turn
pub handset-stopped : (setup : Setup) (old new : PassData) (call : FindCall) (held : Held)
    (handset : HandsetData) → HasStopped setup old call held new
    → HandsetStays setup old.view new.view handset
handset-stopped setup old new call held handset stopped =
    let between = stopped.between in
    handset-stays-on (stopped.keeps handset)
    (handset-stays setup between.view new.view handset
    (ap (λ (q : PassData). q.view.low) stopped.turn.turn)
    (ap (λ (q : PassData). puts_to between.view.low q.view.seen) stopped.turn.turn))

-- over one that failed, for whatever cause
pub handset-unfound : (setup : Setup) (old new : PassData) (call : FindCall) (fault : FindFault)
    (handset : HandsetData) → IsFindFault setup old call fault new
    → HandsetStays setup old.view new.view handset
handset-unfound setup old new call NoNode handset is =
    subst (λ (q : PassData). HandsetStays setup old.view q.view handset) (sym is.1) (λ its. (its, refl))
handset-unfound setup old new call NoSubscriber handset is =
    subst (λ (q : PassData). HandsetStays setup old.view q.view handset) (sym is.1) (λ its. (its, refl))
handset-unfound setup old new call (Unreserved need) handset is =
    subst (λ (q : PassData). HandsetStays setup old.view q.view handset) (sym is.1) (λ its. (its, refl))
handset-unfound setup old new call (HeldBy node by) handset is =
    handset-stopped setup old new call (record { node = node; by = by }) handset is.1
