use Rattle.std.proofs.Common.{◌∙◌, sym, ap}
use Rattle.runner_tests.proofs.Hands.{two-first}
use Rattle.runner_tests.proofs.hand_tests.first_two.Goals as goal

pub returns : goal.returns
returns c = λ input tracker are.
    let both = two-first c.args.workers.items _ _ c.in_ok-first.first c.in_ok-second.second
    (sym c.into_iter-rest.ensures.rest ∙ c.in_ok-first.ensures.items) c.in_ok-second.ensures.items in
    ((are.each 0 c.in_ok-first.first both.0).0, (are.each 1 c.in_ok-second.second both.1).0)
