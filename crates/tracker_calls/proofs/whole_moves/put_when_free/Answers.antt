use Rattle.std.proofs.lemmas.Grind.{common_steps}
use Rattle.std.proofs.Common.{refl, ap, ◌∙◌, ◌≤◌, arith}
use Rattle.directory.specs.Keys.{act_node}
use Rattle.handset.specs.StepWrites.{due}
use Rattle.station.specs.Setup.{setting_in}
use Rattle.tracker_calls.proofs.Adding.{tried-none}
use Rattle.tracker_calls.proofs.Stepping.{next-visit, own-tried, stepped-tried, tried-put}
use Rattle.tracker_calls.proofs.whole_moves.put_when_free.Goals as goal

pub tries-init : goal.tries-init
tries-init g c =
    let setup = c.args.tracker.now.setup in
    let plan = c.args.plan.now in
    let handset = c.args.handset.now in
    let next = next-visit setup handset c.requires.plan refl c.requires.left in
    search tried-none

pub tries-preserved : goal.tries-preserved
tries-preserved g c =
    let setup = c.args.tracker.now.setup in
    let same = c.tries.invariant.handset in
    let lost = c.in_default.ensures.made in
    let next = c.tries.invariant.tried in
    let node = act_node (setting_in setup) next.0.act in
    let tried = tried-put setup c.visit_put.new.pass c.tries.handset c.in_default.field-0 c.requires.plan next.1 next.2
    lost.0 in record {
      tried = (next.0, ap (due (setting_in setup)) lost.1 ∙ next.1, tried);
      handset = lost.1 ∙ same;
      own = rw (lost.1 ∙ same) (own-tried tried c.requires.handset).0;
    }

pub returns-in-Ok : goal.returns-in-Ok
returns-in-Ok g c =
    let setup = c.args.tracker.now.setup in
    let plan = c.args.plan.now in
    let handset = c.tries.handset in
    let next = c.tries.invariant.tried in
    let made = c.in-Ok.ensures.made in
    let room : 1 ≤ c.tries.pass.spare = omega (arith, c.requires.spare, ap (λ q. q.spare) next.2.is) in
    let both = rw c.tries.invariant.handset at (stepped-tried c.visit_put.new.pass handset c.in-Ok.ticket
    c.requires.plan next room made.0 made.1 made.2 c.in-Ok.ensures.goes_on) in
    record { put = (c.tries.pass, both.0, both.1) }

pub tries-smaller : goal.tries-smaller
tries-smaller c = grind (arith, common_steps)
