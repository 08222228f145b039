use Rattle.std.proofs.Common.{◌≤◌, [], ◌∷◌, refl, arith}
use Rattle.std.proofs.lemmas.List.Elements.{All-nil}
use Rattle.busy_finds.specs.Altogether.{AreInTurn}
use Rattle.directory.specs.Courses.{highest}
use Rattle.directory.specs.Histories.{before, words_after}
use Rattle.directory.specs.Puts.{steps_from}
use Rattle.directory.specs.Writes.{writes}
use Rattle.move_cost.specs.Costs.{weight_of_steps}
use Rattle.plan_laws.specs.Examples.{line_setting}
use Rattle.whole_cost.specs.Examples.{find_at_rest, run_history}
use Rattle.whole_cost.proofs.LineRun.{alone-made, rest-legal, run-legal, run-made}
use Rattle.whole_cost.proofs.examples.line_run.Goals as goal

pub returns : goal.returns
unfolding words_after highest writes steps_from weight_of_steps
returns c = record {
  order = refl;
  legal = run-legal;
  made = run-made;
  finds = refl;
  distances = refl;
  passages = refl;
  way = refl;
  writes = refl;
  most = refl;
  unwritten = λ false_bound.
      let most : 12 ≤ 0 =
      false_bound run_history [] run-legal (All-nil (AreInTurn line_setting run_history 0 0)) in
      omega (arith, most);
  no_distance = λ false_bound.
      let most : 3 ≤ 0 = false_bound (before 4 run_history) ((find_at_rest ∷ []) ∷ []) rest-legal alone-made in
      omega (arith, most);
}
