use Rattle.std.proofs.Common.{◌≡◌, ◌≤◌, ◌+◌, ◌*◌, ◌++◌, suc, length, arith, ap, sym, ◌∙◌, []}
use Rattle.directory.specs.Finds.{climb}
use Rattle.region_plan.specs.Plan.{inside, readers}
use Rattle.std.specs.Prelude.{get_or}
use Rattle.region_plan.specs.Settings.{setting_of}
use Rattle.walk.specs.Walks.{readers_above}
use Rattle.walk.proofs.Readers.{readers-spent}
use Rattle.walk.proofs.climb.past_entry.Goals as goal

pub returns-else-index-readers-clause-pursuit : goal.returns-else-index-readers-clause-pursuit
returns-else-index-readers-clause-pursuit c = λ sub.
    let spent : length (readers c.args.plan.now c.args.level c.args.from) ≤ suc c.args.index = grind arith in
    let next : c.args.level + 1 ≡ suc c.args.level = omega arith in
    c.climb_from.ensures.pursuit
    ∙ (ap (λ w. climb c.args.known (c.args.weight + 2 * w) (readers_above
    (setting_of c.args.plan.now []) c.args.from (c.args.level + 1))) c.way_in.ensures.way
    ∙ (ap (λ l. climb c.args.known (c.args.weight + 2 * inside c.args.plan.now c.args.level (get_or
    (readers c.args.plan.now c.args.level c.args.from) c.args.index 0) c.args.from) (readers_above
    (setting_of c.args.plan.now []) c.args.from l)) next
    ∙ ap (λ rs. climb c.args.known (c.args.weight + 2 * inside c.args.plan.now c.args.level (get_or
    (readers c.args.plan.now c.args.level c.args.from) c.args.index 0) c.args.from) (rs ++ readers_above
    (setting_of c.args.plan.now []) c.args.from (suc c.args.level)))
    (sym (readers-spent (setting_of c.args.plan.now []) c.args.from c.args.level (suc c.args.index) spent))))
