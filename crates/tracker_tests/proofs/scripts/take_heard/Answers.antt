use Rattle.std.proofs.lemmas.Grind.{common_steps}
use Rattle.std.proofs.Common.{arith}
use Rattle.tracker_tests.proofs.scripts.take_heard.Goals as goal

pub returns-in-text : goal.returns-in-text
returns-in-text c = record {
  own_is = c.hear.ensures.free;
  caller_is = grind arith;
  other_is = c.requires.ready.other_is;
  handset_is = (c.hear.ensures.keeps c.args.parties.now.handset c.requires.ready.handset_is).0;
}

pub returns-in-text-2 : goal.returns-in-text-2
returns-in-text-2 c = grind (arith, common_steps)

pub returns-in-text-3 : goal.returns-in-text-3
returns-in-text-3 c = grind (arith, common_steps)
