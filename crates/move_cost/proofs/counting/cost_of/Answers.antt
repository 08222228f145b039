use Rattle.std.proofs.Common.{ap, arith, length}
use Rattle.std.proofs.lemmas.List.{get_or_default}
use Rattle.net_reader.specs.Seen.{seen_input}
use Rattle.move_cost.proofs.Opening.{closed, opened, script-length}
use Rattle.move_cost.proofs.counting.cost_of.Goals as goal

pub calls-init : goal.calls-init
calls-init c =
    opened (seen_input c.args.input.now) c.args.sub c.index-2.result.now c.in_ok-handset.ensures.exact
    c.in_ok-handset.ensures.goes (grind (arith, get_or_default))

pub count_step-requires-clause-short : goal.count_step-requires-clause-short
count_step-requires-clause-short c = omega (
  arith,
  c.calls-test.true,
  ap length c.as_slice-script.ensures.value,
  script-length c.args.input.now c.args.sub c.requires.together.valid c.requires.known c.index.ensures,
)

pub returns : goal.returns
returns c =
    closed c.calls.invariant (grind (arith, script-length))
