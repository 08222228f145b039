use Rattle.std.proofs.lemmas.Grind.{common_steps}
use Rattle.std.proofs.Common.{ap, refl, ◌∙◌, arith}
use Rattle.directory.specs.Keys.{key_node}
use Rattle.station.specs.Setup.{setting_in}
use Rattle.station.specs.Passes.{PassData}
use Rattle.tracker_calls.proofs.Adding.{tried-none}
use Rattle.tracker_calls.proofs.Walked.{tried-look, walk-held}
use Rattle.tracker_calls.proofs.walking.look_when_free.Goals as goal

pub tries-init : goal.tries-init
tries-init g c = record {
  tried = λ key wanted. tried-none (key_node (setting_in c.args.tracker.now.setup) key) c.args.pass.now;
  way = c.requires.way;
  spare = c.requires.spare;
  walk = refl;
}

pub tries-preserved : goal.tries-preserved
tries-preserved g c =
    let lost = c.in_default.ensures.looked in record {
      tried = λ key wanted. tried-look wanted c.tries.invariant.walk (c.tries.invariant.tried key wanted) lost;
      way = walk-held c.tries.invariant.way lost;
      spare = omega (arith, c.tries.invariant.spare, ap (λ (p : PassData). p.spare) lost.lost.turn);
      walk = lost.same ∙ c.tries.invariant.walk;
    }

pub returns-in-Ok : goal.returns-in-Ok
returns-in-Ok g c =
    let looked = rw c.tries.invariant.walk at c.in-Ok.ensures.looked in
    record { looked = (c.tries.pass, c.in-Ok._ticket, looked, c.tries.invariant.tried looked.key looked.wanted) }

pub tries-smaller : goal.tries-smaller
tries-smaller c = grind (arith, common_steps)
