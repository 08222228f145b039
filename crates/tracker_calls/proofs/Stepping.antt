-- A step of a move: which visit is made.
use Rattle.std.proofs.Common.{◌≡◌, ℕ, ◌≤◌, true, [], refl, subst, ap, ◌∙◌, Option, arith}
use Rattle.std.specs.Prelude.{IfSome, Some, None}
use Rattle.std.specs.Option.{is_some}
use Rattle.entry_word.specs.declared.visit.Visit.{Visit}
use Rattle.directory.specs.Histories.{puts_to}
use Rattle.directory.specs.Keys.{act_node}
use Rattle.handset.specs.Condition.{HandsetData}
use Rattle.handset.specs.StepWrites.{after_write, due}
use Rattle.region_plan.specs.Plan.{PlanData}
use Rattle.region_plan.specs.Settings.{setting_of}
use Rattle.station.specs.Handsets.{HandsetGoesOn, HandsetStays, IsHandsetOf}
use Rattle.station.specs.Passes.{PassData}
use Rattle.station.specs.Setup.{Setup, setting_in}
use Rattle.station.specs.StayLaws.{handset-stays}
use Rattle.station.specs.Visits.{HasLost, HasVisited}
use Rattle.station.specs.declared.turns.Held.{Held}
use Rattle.tracker_calls.specs.Added.{HasTried}
use Rattle.tracker_calls.specs.Moves.{HasStepped}
use Rattle.tracker_calls.proofs.Adding.{tried-again}

some-left : (o : Option Visit) → is_some o ≡ true → (visit : Visit) × (o ≡ Some visit)
some-left None h = cc
some-left (Some visit) h = (visit, refl)

-- the visit that is left
pub next-visit : (setup : Setup) {plan : PlanData} (handset : HandsetData) {next : Option Visit} → plan ≡ setup.plan
    → next ≡ due (setting_of plan []) handset → is_some next ≡ true
    → (visit : Visit) × (due (setting_in setup) handset ≡ Some visit)
next-visit setup handset {next} same is left =
    grind (arith, some-left)

-- what holds of it
on-due : (setup : Setup) {plan : PlanData} (handset : HandsetData) {visit : Visit} (P : Visit → Type 0)
    → plan ≡ setup.plan → due (setting_in setup) handset ≡ Some visit → IfSome (due (setting_of plan []) handset) P
    → P visit
on-due setup handset P same next holds =
    subst (λ (o : Option Visit). IfSome o P) next (rw (← same) holds)

-- a step, behind turns that were lost at its node
pub stepped-tried : {setup : Setup} {plan : PlanData} {begun old : PassData} (new : PassData) (handset : HandsetData)
    {moved : HandsetData} (ticket : ℕ) → plan ≡ setup.plan
    → ((visit : Visit) × (due (setting_in setup) handset ≡ Some visit) × HasTried
    (act_node (setting_in setup) visit.act) begun old) → 1 ≤ old.spare
    → IfSome (due (setting_of plan []) handset) (λ visit. HasVisited old visit.act ticket new)
    → moved ≡ after_write (setting_of plan []) handset handset.stage → IsHandsetOf setup new.view moved
    → IfSome (due (setting_of plan []) handset) (λ visit. (own : IsHandsetOf setup old.view handset)
    → HandsetGoesOn setup old.view new.view moved own.steps visit)
    → (its : HasStepped setup old handset ticket new moved) × HasTried (act_node (setting_in setup) its.visit.act) begun
    old
stepped-tried {setup} {old} new handset {moved} ticket same at room visited made own goes_on = (
  record {
    visit = at.0;
    next = at.1;
    room = room;
    visited = on-due setup handset (λ visit. HasVisited old visit.act ticket new) same at.1 visited;
    made = made ∙ ap (λ p. after_write (setting_of p []) handset handset.stage) same;
    own = own;
    goes_on = on-due setup handset (λ visit. (own : IsHandsetOf setup old.view handset)
        → HandsetGoesOn setup old.view new.view moved own.steps visit) same at.1 goes_on;
  },
  at.2,
)

-- the turn at the node of the next put is lost once more
pub tried-put : (setup : Setup) {plan : PlanData} {begun pass : PassData} (new : PassData) (handset : HandsetData)
    (held : Held) {visit : Visit} → plan ≡ setup.plan → due (setting_in setup) handset ≡ Some visit
    → HasTried (act_node (setting_in setup) visit.act) begun pass
    → IfSome (due (setting_of plan []) handset) (λ visit. HasLost pass (act_node (setting_in setup) visit.act) held new)
    → HasTried (act_node (setting_in setup) visit.act) begun new
tried-put setup {pass} new handset held {visit} same next tried lost =
    grind (arith, tried-again, on-due)

-- turns that are lost leave a handset with its pass
pub own-tried : {setup : Setup} {node : ℕ} {begun tried : PassData} {handset : HandsetData} → HasTried node begun tried
    → HandsetStays setup begun.view tried.view handset
own-tried {setup} {begun} {tried} {handset} lost =
    handset-stays setup begun.view tried.view handset (ap (λ (q : PassData). q.view.low) lost.is)
    (ap (λ (q : PassData). puts_to begun.view.low q.view.seen) lost.is)
