use Rattle.std.proofs.Common.{◌∙◌, arith}
use Rattle.std.proofs.lemmas.Result.{IfOk-weaker}
use Rattle.net_reader.specs.Seen.{seen_input}
use Rattle.track.proofs.Answering.{covered_of_graph}
use Rattle.track.proofs.answer.cover.Goals as goal

pub returns : goal.returns
returns c =
    let contents = seen_input c.args.input.now in
    IfOk-weaker c.build_by.result _ _ (λ plan is. is ∙ covered_of_graph c.covered_plan_of_same_walks.ensures
    c.args.covering c.requires.valid c.requires.graph (omega (arith, c.requires.trade_off, c.requires.valid.k_some)))
    c.build_by.ensures.plan
