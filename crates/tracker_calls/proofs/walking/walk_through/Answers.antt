use Rattle.std.proofs.lemmas.Grind.{common_steps}
use Rattle.std.proofs.Common.{subst, sym, ◌∙◌, arith}
use Rattle.region_plan.specs.Matched.{IsMatched}
use Rattle.walk.specs.Walks.{pursuit_of}
use Rattle.tracker_calls.proofs.Walked.{walked-first, walked-on, walked-out}
use Rattle.tracker_calls.proofs.walking.walk_through.Goals as goal
use Rattle.directory.specs.LookLaws.{answer-ends}

pub looks-init : goal.looks-init
looks-init g c = record {
  walked = grind (arith, walked-first);
}

pub looks-preserved : goal.looks-preserved
looks-preserved g c =
    let looked = c.look_when_free.ensures.looked in
    let at = c.looks.invariant.walked in record {
      walked = walked-on c.histories_begin.ensures.longer c.histories_begin.ensures.through c.looks_fall.ensures
          (at.added.same.setup ∙ c.requires.way.of.setup) at looked.2 looked.3;
    }

pub returns : goal.returns
returns g c =
    let setup = c.args.tracker.now.setup in
    let at = c.looks.invariant.walked in record {
      found = walked-out c.answers_are_right.ensures c.again_has_its_cause.ensures.quiet c.plan_finds_are_near.ensures
          c.plan_finds_are_bounded.ensures.bounded c.in-Some.found
          (subst IsMatched c.requires.way.plan_is c.plan_is_sound.ensures.matched)
          c.requires.way.goes.from c.requires.way.known at
          (answer-ends (pursuit_of setup.plan c.looks.walk) c.in-Some.found
          (sym (c.answer-2.ensures setup.plan at.goes) ∙ c.in-Some.is));
    }

pub looks-smaller : goal.looks-smaller
looks-smaller c = grind (arith, common_steps)
