use Rattle.std.proofs.Common.{◌<◌, refl, arith, true}
use Rattle.std.specs.Prelude.{[], ◌∷◌, None}
use Rattle.std.proofs.lemmas.List.Elements.{All-nil}
use Rattle.directory.specs.declared.answers.Done.TheVariants.{Found, Switched}
use Rattle.report_check.specs.Forms.{IsCallBelow}
use Rattle.report_check.proofs.Judged.{judged}
use Rattle.report_check.proofs.examples_of_parts.texts_of_reports.Goals as goal

pub returns-clause-text : goal.returns-clause-text
unfolding judged
returns-clause-text c = λ law text is.
    (law (record { nodes = 4; levels = 3 }) [] text (record { calls = []; order = 0 ∷ [] })
    (omega arith) (omega arith) is).1

pub returns-clause-own_slots : goal.returns-clause-own_slots
returns-clause-own_slots c = λ law slots text is.
    (law (record { nodes = 4; levels = 3 }) slots text (record { calls = Switched 0 true 3 1 6 ∷ []; order = [] })
    (omega arith) (omega arith) is).0.slots_are

pub returns-clause-in_bounds : goal.returns-clause-in_bounds
returns-clause-in_bounds c = λ law slots text is.
    let low : 4 < 4 = ((law (record { nodes = 4; levels = 3 }) slots text
    (record { calls = Found 3 1 0 4 1 None 0 0 0 ∷ []; order = [] })
    (omega arith) (omega arith) is).0.calls 0 (Found 3 1 0 4 1 None 0 0 0) (omega arith)).0.0 in omega (arith, low)

pub returns-clause-actors : goal.returns-clause-actors
returns-clause-actors c = λ law actor text is.
    (law (record { nodes = 4; levels = 3 }) [] text (record { calls = []; order = actor ∷ [] })
    (omega arith) (omega arith) is).0.order 0 actor (omega arith)

pub returns-clause-read : goal.returns-clause-read
returns-clause-read c = λ law order low few.
    law (record { nodes = 4; levels = 3 }) [] (record { calls = []; order = order }) (omega arith) (omega arith)
    (record {
      slots_are = refl;
      calls = All-nil (IsCallBelow (record { nodes = 4; levels = 3 }));
      order = low;
      visits = few;
    })
