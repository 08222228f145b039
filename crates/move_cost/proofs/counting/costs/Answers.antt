use Rattle.std.proofs.Common.{rules, ◌∙◌, List, ap, arith, refl, subst, sym}
use Rattle.net_reader.specs.Seen.{seen_input}
use Rattle.region_plan.specs.Settings.{setting_of}
use Rattle.scripts.specs.Scripts.{scripts_of}
use Rattle.move_cost.specs.declared.line.CostLine.{CostLine}
use Rattle.move_cost.specs.Plans.{AreWithinRate}
use Rattle.move_cost.proofs.Opening.{first_lines, line-pushed}
use Rattle.move_cost.proofs.counting.costs.Goals as goal

pub loop-sub-preserved : goal.loop-sub-preserved
loop-sub-preserved c =
    line-pushed (setting_of c.args.plan.now c.args.input.now.homes.items) (scripts_of (seen_input c.args.input.now))
    c.loop-sub.sub c.loop-sub.invariant c.in_ok-cost_of.ensures c.in_ok-push.ensures.items

pub returns-clause-lines : goal.returns-clause-lines
returns-clause-lines c =
    c.loop-sub.invariant
    ∙ ap (first_lines (setting_of c.args.plan.now c.args.input.now.homes.items)
    (scripts_of (seen_input c.args.input.now)))
    (omega (arith, c.loop-sub-test.false, c.loop-sub.auto.sub-end, c.len-sub-end.ensures))

pub returns-clause-bounded : goal.returns-clause-bounded
returns-clause-bounded c = λ bounds. subst (λ (ls : List CostLine). AreWithinRate c.args.plan.now ls)
    (sym (returns-clause-lines c))
    (c.lines_are_within_rate.ensures c.args.plan.now c.args.input.now.homes.items
    (scripts_of (seen_input c.args.input.now)) bounds
    (c.scripts_are_valid.ensures (seen_input c.args.input.now)
    (setting_of c.args.plan.now c.args.input.now.homes.items) c.requires.together.valid
    (record { nodes = c.requires.together.nodes; starts = refl })))

pub loop-sub-init : goal.loop-sub-init
loop-sub-init c = search rules
