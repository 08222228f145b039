-- What the directory reports of a valid input is a sound text.
use Rattle.std.proofs.Common.{◌≡◌, ℕ, ◌+◌, ◌-◌, ◌*◌, ◌^◌, ◌≤◌, ◌&&◌, true, cond, ltb, refl, ap, sym, ◌∙◌, arith, subst, get_or}
use Rattle.std.proofs.lemmas.Bool.{and_from}
use Rattle.directory.specs.Orders.{Scripts, history_of}
use Rattle.directory.specs.Outcomes.{Outcome}
use Rattle.directory.specs.Settings.{Setting}
use Rattle.directory.specs.Statements.{CallersCount, OrdersAreDone, OrdersArePlayed, ScriptsInOrder}
use Rattle.distances.specs.Table.{dist}
use Rattle.net_graph.specs.Walks.{IsLeastWeight, everywhere}
use Rattle.net_reader.specs.Input.{Contents}
use Rattle.net_reader.specs.Valid.{IsValid}
use Rattle.region_plan.specs.Matched.{HasFewReaders, PlansHaveFewReaders}
use Rattle.region_plan.specs.Meanings.{IsPlanOf, PlansMean}
use Rattle.region_plan.specs.Measures.{degree_of, stretch_of}
use Rattle.region_plan.specs.Plan.{PlanData, nodes_of}
use Rattle.report_check.specs.InputLaws.{network-valid}
use Rattle.report_check.specs.Inputs.{network_of, plan_for}
use Rattle.scripts.specs.Laws.{ScriptsAreValid}
use Rattle.scripts.specs.Scripts.{scripts_of}
use Rattle.soundness.specs.Sound.{AreDistances, stretch_for}
use Rattle.soundness.specs.Weights.{IsWeighed}
use Rattle.own_reports.specs.Reports.{PlacesAreTold, outcome_under}
use Rattle.own_reports.specs.SoundTexts.{OwnReportsAreSoundTexts}
use Rattle.own_reports.proofs.Cuts.{IsOver}
use Rattle.own_reports.proofs.Followed.{TurnLaws, followed}
use Rattle.own_reports.proofs.Inputs.{over-in, plan-means, setting_in}
use Rattle.own_reports.proofs.LinesTold.{outcome-lines}
use Rattle.own_reports.proofs.PlacesTold.{cause-told, place-told, weight-told}
use Rattle.own_reports.proofs.Signs.{lt-true}
use Rattle.own_reports.proofs.TurnsTold.{turns-told}

-- the distances of an input's plan are those of its network
distances-are : PlansMean → (contents : Contents) → IsValid contents
    → AreDistances contents (setting_in contents).distance
distances-are means contents valid u v u_low v_low =
    let plan : PlanData = plan_for contents in
    let is : IsPlanOf (network_of contents) contents.k plan = plan-means means contents valid in
    let nodes : nodes_of plan ≡ contents.nodes = is.distances.nodes in
    let both : (ltb u (nodes_of plan) && ltb v (nodes_of plan)) ≡ true =
    and_from (ltb u (nodes_of plan)) (ltb v (nodes_of plan))
    (lt-true u (nodes_of plan) (omega (arith, nodes, u_low))) (lt-true v (nodes_of plan) (omega (arith, nodes, v_low))) in
    subst (λ b. IsLeastWeight contents.edges everywhere u v (cond b (dist plan.distances u v) 0)) (sym both)
    (is.distances.each u v (omega (arith, nodes, u_low)) (omega (arith, nodes, v_low)))

-- its stretch is that of its degree and k
stretch-is : PlansMean → (contents : Contents) → IsValid contents
    → stretch_of (plan_for contents) ≡ stretch_for (degree_of (plan_for contents)) contents.k
stretch-is means contents valid =
    let plan : PlanData = plan_for contents in
    let is : IsPlanOf (network_of contents) contents.k plan = plan-means means contents valid in
    ap (λ r. 16 * degree_of plan * r + 12 * r + 12) is.reach
    ∙ grows (16 * degree_of plan * (2 * contents.k - 1)) contents.k valid.k_some
  where
    grows : (d k : ℕ) → 1 ≤ k → d + 12 * (2 * k - 1) + 12 ≡ d + 24 * k
    grows d k some = omega (arith, some)

few-are : PlansMean → PlansHaveFewReaders → (contents : Contents) → IsValid contents
    → degree_of (plan_for contents) ^ contents.k ≤ contents.k ^ contents.k * contents.nodes
few-are means sparse contents valid =
    let plan : PlanData = plan_for contents in
    let is : IsPlanOf (network_of contents) contents.k plan = plan-means means contents valid in
    let few : HasFewReaders plan = sparse (network_of contents) contents.k (network-valid valid) valid.k_some in
    subst (λ n. degree_of plan ^ contents.k ≤ contents.k ^ contents.k * n) is.distances.nodes
    (subst (λ k. degree_of plan ^ k ≤ k ^ k * nodes_of plan) is.trade_off few.degree)

pub sound-texts : PlansMean → PlansHaveFewReaders → ScriptsAreValid → OrdersArePlayed → OrdersAreDone → ScriptsInOrder
    → CallersCount → TurnLaws → PlacesAreTold → OwnReportsAreSoundTexts
sound-texts means sparse valid_scripts played done in_order count turns places contents order valid =
    let plan : PlanData = plan_for contents in
    let setting : Setting = setting_in contents in
    let scripts : Scripts = scripts_of contents in
    let outcome : Outcome = outcome_under contents order in
    let over : IsOver setting scripts (history_of setting scripts order) =
    over-in means valid_scripts played done contents order valid in
    let kept = places contents order valid in
    record {
      follows = followed turns setting scripts order;
      distance = setting.distance;
      distances = distances-are means contents valid;
      degree = degree_of plan;
      few = few-are means sparse contents valid;
      sound = record {
        lines_are = outcome-lines contents setting (history_of setting scripts order) valid refl over;
        tickets = turns-told in_order count contents setting (history_of setting scripts order) valid refl over.played
            over.done;
        places = λ i call low.
            place-told plan contents.homes outcome.calls outcome.order (get_or outcome.calls i call) (kept i call low);
        again = λ i call low.
            cause-told plan contents.homes outcome.calls outcome.order (get_or outcome.calls i call) (kept i call low);
        weights = λ i call low.
            subst (λ s. IsWeighed setting.distance s outcome.calls outcome.order (get_or outcome.calls i call))
            (stretch-is means contents valid)
            (weight-told plan contents.homes outcome.calls outcome.order (get_or outcome.calls i call) (kept i call low));
      };
    }
