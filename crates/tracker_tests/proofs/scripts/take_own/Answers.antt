use Rattle.tracker_tests.proofs.scripts.take_own.Goals as goal

pub returns-in-look-clause-own : goal.returns-in-look-clause-own
returns-in-look-clause-own g c = (c.look-looked.ensures.keeps c.args.handset.now c.requires.own).0

pub returns-in-census-clause-own : goal.returns-in-census-clause-own
returns-in-census-clause-own g c = (c.census.ensures.keeps c.args.handset.now c.requires.own).0

pub returns-in-text-clause-own : goal.returns-in-text-clause-own
returns-in-text-clause-own g c = (c.find_soon-found.ensures.keeps c.args.handset.now c.requires.own).0
