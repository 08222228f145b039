use Rattle.std.proofs.Common.{arith}
use Rattle.region_plan.specs.ReaderLaws.{reader-held, readers-few, way-light}
use Rattle.walk.proofs.climb.way_in.Goals as goal

pub returns-clause-light : goal.returns-clause-light
returns-clause-light c =
    let held = reader-held c.args.plan.now c.args.level c.args.from c.args.index c.plan_is_sound.ensures.matched
    c.requires.level c.requires.from c.requires.index in
    grind (arith, way-light)

pub returns-clause-few : goal.returns-clause-few
returns-clause-few c = readers-few c.args.plan.now c.args.level c.args.from c.plan_is_sound.ensures.matched
    c.plan_is_sound.ensures.sound c.requires.level c.requires.from
