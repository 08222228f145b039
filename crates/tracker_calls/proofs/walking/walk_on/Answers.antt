use Rattle.std.proofs.Common.{refl, subst, sym, ◌∙◌, arith}
use Rattle.directory.specs.Keys.{key_node}
use Rattle.region_plan.specs.Matched.{IsMatched}
use Rattle.station.specs.Setup.{setting_in}
use Rattle.walk.specs.Walks.{pursuit_of}
use Rattle.tracker_calls.proofs.Adding.{tried-none}
use Rattle.tracker_calls.proofs.Walked.{walked-first, walked-on, walked-out}
use Rattle.tracker_calls.proofs.walking.walk_on.Goals as goal
use Rattle.directory.specs.LookLaws.{answer-ends}

pub looks-init : goal.looks-init
looks-init c = record {
  walked = grind (arith, walked-first);
  lost = refl;
}

pub looks-preserved : goal.looks-preserved
looks-preserved c =
    let looked = c.in_ok-visit_walk.ensures.looked in
    let at = c.looks.invariant.walked in record {
      walked = walked-on c.histories_begin.ensures.longer c.histories_begin.ensures.through c.looks_fall.ensures
          (at.added.same.setup ∙ c.requires.way.of.setup) at looked
          (tried-none (key_node (setting_in c.args.tracker.now.setup) looked.key) c.looks.pass);
      lost = looked.visited.lost ∙ c.looks.invariant.lost;
    }

pub returns : goal.returns
returns c =
    let setup = c.args.tracker.now.setup in
    let at = c.looks.invariant.walked in record {
      found = (
        walked-out c.answers_are_right.ensures c.again_has_its_cause.ensures.quiet c.plan_finds_are_near.ensures
            c.plan_finds_are_bounded.ensures.bounded c.in-Some.found
            (subst IsMatched c.requires.way.plan_is c.plan_is_sound.ensures.matched)
            c.requires.way.goes.from c.requires.way.known at
            (answer-ends (pursuit_of setup.plan c.looks.walk) c.in-Some.found
            (sym (c.answer-2.ensures setup.plan at.goes) ∙ c.in-Some.is)),
        c.looks.invariant.lost,
      );
    }
