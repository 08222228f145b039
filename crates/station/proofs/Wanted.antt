-- The next look of a walk: which nodes its word names.
use Rattle.std.proofs.Common.{◌≡◌, ℕ, ◌^◌, ◌<◌, ◌≤◌, subst, arith}
use Rattle.std.specs.Prelude.{Some}
use Rattle.entry_word.specs.declared.visit.Key.{Key}
use Rattle.directory.specs.Histories.{cell, before}
use Rattle.directory.specs.Legal.{IsLegal}
use Rattle.directory.specs.Finds.{key_of}
use Rattle.trail_laws.specs.Trail.{EntriesTell, MarksTell}
use Rattle.region_plan.specs.Plan.{PlanData, nodes_of}
use Rattle.region_plan.specs.Matched.{IsMatched}
use Rattle.walk.specs.Walks.{IsWalkOver, IsWordBelow, WalkData, call_of, pursuit_of}
use Rattle.station.specs.Passes.{PassData}
use Rattle.station.specs.Setup.{Setup, setting_in, subs_in}
use Rattle.station.specs.Visits.{HasVisited}
use Rattle.entry_word.specs.declared.visit.Act.{Act}
use Rattle.trail_laws.specs.Within.{HistoryFrontsAreLegal}
use Rattle.walk.specs.LookLaws.{word-wanted}
use Rattle.station.specs.TicketLaws.{legal-seen}

-- the word of a look names nodes of the plan
pub word-seen : MarksTell → EntriesTell → HistoryFrontsAreLegal → {setup : Setup} {plan : PlanData} {old new : PassData}
    {act : Act} {ticket word : ℕ} {walk : WalkData} {key : Key} → plan ≡ setup.plan → IsMatched plan
    → old.view.setup ≡ setup → HasVisited old act ticket new
    → word ≡ cell (setting_in setup) (before ticket new.view.seen) key → walk.sub < subs_in setup
    → IsWalkOver setup.plan walk → key_of (call_of walk) (pursuit_of setup.plan walk) ≡ Some key
    → IsWordBelow (nodes_of plan) walk.progress word
word-seen marks entries fronts {setup} {plan} {old} {new} {act} {ticket} {walk} {key} same matched told visited reads
    known goes
    wanted =
    let matched_there : IsMatched setup.plan = subst IsMatched same matched in
    let small : nodes_of setup.plan ≤ 2 ^ 16 = omega (arith, matched_there.metric.few) in
    let legal : IsLegal (setting_in setup) walk.sub (before ticket new.view.seen) =
    fronts (setting_in setup) walk.sub new.view.seen ticket small
    (legal-seen setup old new act ticket told visited walk.sub known) in
    rw (reads, same)
    (grind (arith, word-wanted))
