-- The report of a valid input over a plan, under any order, says what is right, and within the bound; and a machine
-- that has played an order stands for the history of its turns.
use Rattle.std.proofs.Common.{◌≡◌, ℕ, ◌≤◌, ◌+◌, ◌^◌, ◌++◌, ◌∷◌, [], true, false, ◌<◌, List, length, Option, Some, None, refl, sym, ap, subst, ◌∙◌, arith}
use Rattle.std.proofs.Math.ListN.{get_or-append}
use Rattle.std.proofs.Math.Seq.{get_or-append_seam}
use borrow.Author.Count.{below_more}
use Rattle.std.specs.Prelude.{◌==◌, ◌&&◌, not, if◌then◌else◌, slice_index, slice_index_or}
use Rattle.node_set.specs.Ascending.{sift}
use Rattle.node_set.specs.SetLaws.{passing_same}
use Rattle.track.specs.Places.{AreLastPlaces, node_if_on}
use Rattle.directory.specs.Census.{census}
use Rattle.region_plan.specs.Meanings.{PlansMean}
use Rattle.net_reader.specs.Input.{Contents}
use Rattle.net_reader.specs.Valid.{IsValid}
use Rattle.region_plan.specs.Matched.{BoundsFinds}
use Rattle.region_plan.specs.Plan.{PlanData, nodes_of}
use Rattle.directory.specs.Orders.{AreValid, steps_of, after_turns, history_of}
use Rattle.directory.specs.Places.{Place, place_at_end}
use Rattle.trail_laws.specs.Censuses.{CensusesEndByScripts, CensusesEndRight, is_on_at, who_ends_at}
use Rattle.trail_laws.specs.RightOutcomes.{NumbersRise, OutcomesAreRight, TellInTurn}
use Rattle.stretch_laws.specs.NearOutcomes.{PlanOutcomesAreNear}
use Rattle.scripts.specs.Scripts.{scripts_of}
use Rattle.census_text.specs.CensusText.{census_text_of, is_place, who_at}
use Rattle.census_text.specs.TextLaws.{texts-same}
use Rattle.report_text.specs.ReportText.{report_of}
use Rattle.own_reports.specs.Reports.{OwnReportsAreSound}
use Rattle.report_check.specs.declared.verdict.Verdict.TheVariants.{Sound}
use Rattle.track.specs.Results.{IsCensusText, IsReportOver, history_for, in_order, outcome_for, outcome_over, setting_for, verdict_for, plan_setting}
use Rattle.track.proofs.Answering.{plan-nodes}
use Rattle.scripts.specs.Laws.{ScriptsAreValid}
use Rattle.scripts.specs.ScriptLaws.{few-nodes}
use Rattle.stretch_laws.specs.Plans.{PlansTrack}
use Rattle.busy_finds.specs.PricedOutcomes.{PlanOutcomesArePriced}
use Rattle.directory.specs.Outcomes.{outcome_of}
use Rattle.net_reader.specs.declared.input.Input.{Input}
use Rattle.net_reader.specs.Seen.{seen_input}
use Rattle.region_plan.specs.Settings.{setting_of}
use Rattle.machine.specs.declared.machine.Machine.{Machine}
use Rattle.machine.specs.Machines.{IsSame, HasHistory, scripts_at, setting_at}
use Rattle.machine.specs.RestLaws.{of_same, same-back}
use Rattle.report_check.specs.Inputs.{plan_for}

-- the checker finds no flaw in the report of a valid input, under whatever order
pub sound-text : OwnReportsAreSound → {contents : Contents} (order : List ℕ) {text : List ℕ} → IsValid contents
    → text ≡ report_of (outcome_for (in_order contents order)) → verdict_for contents text ≡ Sound
sound-text own {contents} order valid text_is = ap (verdict_for contents) text_is ∙ own contents order valid

pub report-says : {plan : PlanData} {contents : Contents} (order : List ℕ)
    → TellInTurn (outcome_over plan (in_order contents order)).calls → OutcomesAreRight → NumbersRise → PlansTrack
    → PlanOutcomesAreNear → PlanOutcomesArePriced → ScriptsAreValid → {text : List ℕ} → IsValid contents → nodes_of plan ≡ contents.nodes
    → BoundsFinds plan → text ≡ report_of (outcome_over plan (in_order contents order))
    → IsReportOver plan (in_order contents order) text
report-says {plan} {contents} order turn right rise track near priced scripts valid nodes bounds text_is =
    let few : nodes_of plan ≤ 2 ^ 16 = omega (arith, nodes, few-nodes contents valid) in
    let valid_scripts = scripts contents (plan_setting plan contents) valid (record { nodes = nodes; starts = refl }) in
    record {
      text_is = text_is;
      right = right (plan_setting plan contents) (scripts_of contents) order few
          (track plan contents.homes bounds).whole valid_scripts;
      in_turn = turn;
      rising = rise (plan_setting plan contents) (scripts_of contents) order few valid_scripts;
      near = near plan contents.homes (scripts_of contents) order few bounds valid_scripts;
      priced = priced plan contents.homes (scripts_of contents) order few bounds valid_scripts;
    }

-- the census by the scripts of a valid input is that of its calls' history
pub census-says : CensusesEndByScripts → CensusesEndRight → ScriptsAreValid → PlansMean → {contents : Contents}
    → {text : List ℕ} → IsValid contents → text ≡ census_text_of (who_ends_at contents.homes (scripts_of contents))
    contents.nodes → IsCensusText contents text
census-says listed right scripts means {contents} valid text_is =
    let nodes : nodes_of (plan_for contents) ≡ contents.nodes = plan-nodes means valid in
    let few : nodes_of (plan_for contents) ≤ 2 ^ 16 = omega (arith, nodes, few-nodes contents valid) in
    let valid_scripts : AreValid (setting_for contents) (scripts_of contents) =
    scripts contents (setting_for contents) valid (record { nodes = nodes; starts = refl }) in
    let lists : (node : ℕ) → node < contents.nodes → census (setting_for contents) (history_for contents) node
    ≡ who_ends_at contents.homes (scripts_of contents) node =
    λ node below. listed (setting_for contents) (scripts_of contents) contents.order node few valid_scripts
    (omega (arith, below, nodes)) in
    record {
      text_is = text_is ∙ sym (texts-same (census (setting_for contents) (history_for contents))
          (who_ends_at contents.homes (scripts_of contents)) contents.nodes lists);
      by_scripts = lists;
      right = λ sub node known below. right (setting_for contents) (scripts_of contents) contents.order sub node few
          valid_scripts known (omega (arith, below, nodes));
    }

-- where each subscriber is after its script tells who is at each node
place-on : (node : ℕ) (place : Place) → is_place node (node_if_on place) ≡ is_on_at node place
place-on node place =
    elim place.is_off
    as (λ off. is_place node (if off then None else Some place.node) ≡ (not off && place.node == node))
    [ true ↦ refl | false ↦ refl ]

who-same : {contents : Contents} {places : List (Option ℕ)} → AreLastPlaces contents places → (node : ℕ)
    → who_at places node ≡ who_ends_at contents.homes (scripts_of contents) node
who-same {contents} {places} are node =
    ap (sift (λ sub. is_place node (slice_index_or places sub None)) 0) are.count
    ∙ passing_same _ _ 0 (length contents.homes) (λ sub from below.
    ap (is_place node) (are.each sub (omega (arith, below)))
    ∙ place-on node (place_at_end (slice_index contents.homes sub) (steps_of (scripts_of contents) sub)))

pub text-of_places : {contents : Contents} {places : List (Option ℕ)} → AreLastPlaces contents places
    → census_text_of (who_at places) contents.nodes ≡ census_text_of (who_ends_at contents.homes (scripts_of contents))
    contents.nodes
text-of_places {contents} {places} are =
    texts-same (who_at places) (who_ends_at contents.homes (scripts_of contents)) contents.nodes
    (λ node below. who-same are node)

-- one place more at the end of those that were told
pub place-more : (told : ℕ → Option ℕ) (places : List (Option ℕ)) {n : ℕ} {place : Option ℕ} → length places ≡ n
    → ((sub : ℕ) → sub < n → slice_index_or places sub None ≡ told sub) → place ≡ told n → (sub : ℕ) → sub < n + 1
    → slice_index_or (places ++ place ∷ []) sub None ≡ told sub
place-more told places {n} {place} long each here =
    below_more (λ sub. slice_index_or (places ++ place ∷ []) sub None ≡ told sub) n
    (λ sub below. get_or-append places (place ∷ []) None sub (omega (arith, long, below)) ∙ each sub below)
    (subst (λ k. slice_index_or (places ++ place ∷ []) k None ≡ place) long
    (get_or-append_seam places place [] None) ∙ here)

-- the same of the machine behind its turns
pub play-over : (old : Machine) {new : Machine} (order : List ℕ) → IsSame old new
    → HasHistory new (after_turns (setting_at old) (scripts_at old) [] order)
    → HasHistory new (after_turns (setting_at new) (scripts_at new) [] order)
play-over old {new} order same goes =
    of_same (λ setting scripts. HasHistory new (after_turns setting scripts [] order)) old new same goes

-- the end of an order
pub play-ended : (old : Machine) {new : Machine} (order : List ℕ) → IsSame old new
    → HasHistory new (history_of (setting_at old) (scripts_at old) order)
    → HasHistory new (history_of (setting_at new) (scripts_at new) order)
play-ended old {new} order same goes =
    of_same (λ setting scripts. HasHistory new (history_of setting scripts order)) old new same goes

-- what becomes of the calls, told by the input and the plan
pub play-outcome : (machine : Machine) {input : Input} {plan : PlanData} → machine.input.now ≡ input
    → machine.plan.now ≡ plan → outcome_of (setting_at machine) (scripts_at machine) input.order.items ≡ outcome_over
    plan (seen_input input)
play-outcome machine {input} same_input same_plan =
    ap (λ i. outcome_of (setting_of machine.plan.now (seen_input i).homes) (scripts_of (seen_input i))
    input.order.items)
    same_input
    ∙ ap (λ p. outcome_of (setting_of p (seen_input input).homes) (scripts_of (seen_input input)) input.order.items)
    same_plan

-- the same of the machine before
pub play-began : (old new : Machine) {last : Machine} (order : List ℕ) → IsSame old new
    → HasHistory last (history_of (setting_at new) (scripts_at new) order)
    → HasHistory last (history_of (setting_at old) (scripts_at old) order)
play-began old new {last} order same goes =
    of_same (λ setting scripts. HasHistory last (history_of setting scripts order)) new old
    (same-back old new same) goes
