use Rattle.std.proofs.Common.{[], ◌∷◌, Some, ap, ◌∙◌, arith}
use Rattle.directory.specs.Finds.{FindCall, Pursuit, find, key_of}
use Rattle.plan_laws.specs.Examples.{line_of_four, line_setting}
use Rattle.region_plan.specs.Settings.{setting_of}
use Rattle.worked_examples.specs.Examples.{find_from}
use Rattle.worked_examples.proofs.nexts.worked_ways.Goals as goal

pub returns-clause-comings : goal.returns-clause-comings
returns-clause-comings c = λ law history legal number_there from mark one.
    law line_setting 0 history (omega arith) legal 2 number_there from (Some 1) (omega arith) mark (omega (arith, one))

pub returns-clause-walk : goal.returns-clause-walk
returns-clause-walk c = λ walk its stands. ap (λ (pursuit : Pursuit). key_of (find_from 0) pursuit)
    (stands ∙ ap (λ (call : FindCall). find (setting_of line_of_four []) call (0 ∷ [])) its)

pub returns-clause-json : goal.returns-clause-json
returns-clause-json c = λ law contents valid.
    let both = law contents valid in (_, both.0, both.1)
