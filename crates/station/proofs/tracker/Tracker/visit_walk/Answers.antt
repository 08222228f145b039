use Rattle.std.proofs.Common.{◌≡◌, subst, [], Option, arith}
use Rattle.std.specs.Prelude.{Some}
use Rattle.directory.specs.Finds.{after_word, key_of}
use Rattle.entry_word.specs.declared.visit.Key.{Key}
use Rattle.region_plan.specs.Plan.{PlanData}
use Rattle.region_plan.specs.Matched.{IsMatched}
use Rattle.region_plan.specs.Settings.{setting_of}
use Rattle.walk.specs.LookLaws.{cell-wanted}
use Rattle.walk.specs.Walks.{WalkData, call_of, pursuit_of}
use Rattle.station.specs.Setup.{setting_in, subs_in}
use Rattle.station.proofs.Wanted.{word-seen}
use Rattle.station.specs.TurnLaws.{held-passed}
use Rattle.station.proofs.tracker.Tracker.visit_walk.Goals as goal

-- the key that the walk names is the one that it wants of the tracker's plan
wanted : (walk : WalkData) {plan : PlanData} {key : Key} {named : Option Key} {its : PlanData} → plan ≡ its
    → named ≡ key_of (call_of walk) (pursuit_of plan walk) → named ≡ Some key
    → key_of (call_of walk) (pursuit_of its walk) ≡ Some key
wanted walk {key} same next is = grind arith

pub visit_look-requires-clause-cell : goal.visit_look-requires-clause-cell
visit_look-requires-clause-cell c =
    cell-wanted c.args.self.now.setup.plan c.args.walk.now (subs_in c.args.self.now.setup) c.in-Some.key
    (subst IsMatched c.requires.way.plan_is c.plan_is_sound.ensures.matched) c.requires.way.goes c.requires.way.known
    (wanted c.args.walk.now c.requires.way.plan_is c.next.ensures c.in-Some.is)

pub saw-requires-clause-word : goal.saw-requires-clause-word
saw-requires-clause-word c = grind (arith, wanted, word-seen)

pub returns-in_err-looked : goal.returns-in_err-looked
returns-in_err-looked c = record {
  looked = grind (arith, held-passed, wanted);
}

pub returns : goal.returns
returns c =
    let setup = c.args.self.now.setup in
    let looked = c.in_ok-looked.ensures.looked in
    let pursuit : pursuit_of setup.plan c.saw.new.self ≡ after_word (setting_in setup) (call_of c.args.walk.now)
    (pursuit_of setup.plan c.args.walk.now) c.in_ok-looked.looked.word =
    subst (λ p. pursuit_of p c.saw.new.self ≡ after_word (setting_of p []) (call_of c.args.walk.now)
    (pursuit_of p c.args.walk.now) c.in_ok-looked.looked.word) c.requires.way.plan_is c.saw.ensures.pursuit in record {
      looked = grind (arith, wanted);
    }
