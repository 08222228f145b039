use Rattle.std.proofs.Common.{◌<◌, ap, subst, sym, ◌∙◌, get_or}
use Rattle.node_set.specs.Ascending.{has}
use Rattle.region_plan.specs.Plan.{clusters_of, members_of}
use Rattle.region_plan.specs.ReaderLaws.{reader-held, readers-few}
use Rattle.walk.proofs.climb.reader_at.Goals as goal

pub returns-clause-few : goal.returns-clause-few
returns-clause-few c = readers-few c.args.plan.now c.args.level c.args.from c.plan_is_sound.ensures.matched
    c.plan_is_sound.ensures.sound c.requires.level c.requires.from

pub returns-clause-cluster : goal.returns-clause-cluster
returns-clause-cluster c =
    subst (λ rs. get_or rs c.args.index 0 < clusters_of c.args.plan.now c.args.level) (sym c.readers.ensures)
    (reader-held c.args.plan.now c.args.level c.args.from c.args.index c.plan_is_sound.ensures.matched c.requires.level
    c.requires.from c.requires.index).1

pub returns-clause-member : goal.returns-clause-member
returns-clause-member c =
    ap (λ rs. has c.args.from (members_of c.args.plan.now c.args.level (get_or rs c.args.index 0))) c.readers.ensures
    ∙ (reader-held c.args.plan.now c.args.level c.args.from c.args.index c.plan_is_sound.ensures.matched
    c.requires.level c.requires.from c.requires.index).0
