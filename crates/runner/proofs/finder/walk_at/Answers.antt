use Rattle.std.proofs.Common.{sym, ◌∙◌}
use Rattle.machine.specs.WalkingLaws.{walk-at}
use Rattle.runner.proofs.finder.walk_at.Goals as goal

pub returns-in-Find : goal.returns-in-Find
returns-in-Find c = walk-at c.args.plan.now c.args.script.now c.args.place c.args.subs c.in-Find.from c.in-Find.sub
    c.new.result c.ok.result c.in_ok-from.ensures.lookup.3.0 (λ d. sym c.in-Find.is ∙ c.in_ok-from.ensures.lookup.3.1 d)
    c.requires.searches c.new.ensures.faults c.new.ensures.goes c.ok.ensures.value
