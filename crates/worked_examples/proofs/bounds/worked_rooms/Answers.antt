use Rattle.std.proofs.Common.{ap, ◌∙◌, arith}
use Rattle.std.specs.Prelude.{vec_capacity}
use Rattle.worked_examples.proofs.bounds.worked_rooms.Goals as goal

pub returns-clause-order : goal.returns-clause-order
returns-clause-order c = λ machine history stands many. stands.room ∙ many

pub returns-clause-calls : goal.returns-clause-calls
returns-clause-calls c = λ machine history stands many. stands.total ∙ many

pub returns-clause-subscribers : goal.returns-clause-subscribers
returns-clause-subscribers c = λ machine history stands many. stands.subscribers_room ∙ many

pub returns-clause-callers : goal.returns-clause-callers
returns-clause-callers c = λ machine history stands many. stands.callers_room ∙ many

pub returns-clause-turns : goal.returns-clause-turns
returns-clause-turns c = λ old new same room. same.3 ∙ room

pub returns-clause-calls_stay : goal.returns-clause-calls_stay
returns-clause-calls_stay c = λ old new same room. ap vec_capacity same.6 ∙ room

pub returns-clause-homes : goal.returns-clause-homes
returns-clause-homes c = λ old new same levels. ap (λ homes. homes.levels) same.4 ∙ levels

pub returns-clause-routes : goal.returns-clause-routes
returns-clause-routes c = λ old new same levels. ap (λ routes. routes.levels) same.5 ∙ levels

pub returns-clause-finds : goal.returns-clause-finds
returns-clause-finds c = λ machine history stands one three d.
    (stands.callers 0 d (omega (arith, one))).room ∙ three

pub returns-clause-lines : goal.returns-clause-lines
returns-clause-lines c = λ machine history stands one two d.
    (stands.subscribers 0 d (omega (arith, one))).shown.room ∙ two

pub returns-clause-ahead : goal.returns-clause-ahead
returns-clause-ahead c = λ machine history stands one d. (stands.subscribers 0 d (omega (arith, one))).space
