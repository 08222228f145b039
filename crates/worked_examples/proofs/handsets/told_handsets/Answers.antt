use Rattle.std.proofs.Common.{List, [], ◌∷◌, ◌++◌, true, refl, ap, ◌∙◌}
use Rattle.directory.specs.Courses.{Step, move_to, switch_off}
use Rattle.entry_word.specs.declared.visit.Act.TheVariants.{Census, Look}
use Rattle.station.specs.HandsetLaws.{begun-handset, switched-handset}
use Rattle.station.specs.StayLaws.{handset-heard, handset-held, handset-inside, handset-outside, handset-visited}
use Rattle.tracker_calls.specs.FaultLaws.{handset-stopped, handset-unfound}
use Rattle.worked_examples.proofs.handsets.told_handsets.Goals as goal

pub returns-clause-steps : goal.returns-clause-steps
returns-clause-steps c = λ setup old new moved steps put on. on.steps_are

pub returns-clause-puts : goal.returns-clause-puts
returns-clause-puts c = λ setup old new moved steps put on. on.puts

pub returns-clause-heard : goal.returns-clause-heard
returns-clause-heard c = λ old new note handset its heard one.
    let next = handset-heard old note new handset heard its in (next.0, next.1 ∙ one)

pub returns-clause-looked : goal.returns-clause-looked
returns-clause-looked c = λ old new key ticket handset its visited one.
    let next = handset-visited old (Look key) ticket new handset refl visited its in (next.0, next.1 ∙ one)

pub returns-clause-counted : goal.returns-clause-counted
returns-clause-counted c = λ old new node ticket handset its visited one.
    let next = handset-visited old (Census node) ticket new handset refl visited its in (next.0, next.1 ∙ one)

pub returns-clause-held : goal.returns-clause-held
returns-clause-held c = λ old new place held handset its lost one.
    let next = handset-held old place held new handset lost its in (next.0, next.1 ∙ one)

pub returns-clause-entered : goal.returns-clause-entered
returns-clause-entered c = λ setup old node log handset its one.
    let next = handset-inside setup old node (Census node) log handset its in (next.0, next.1 ∙ one)

pub returns-clause-left : goal.returns-clause-left
returns-clause-left c = λ setup old log handset its one.
    let next = handset-outside setup old log handset its in (next.0, next.1 ∙ one)

pub returns-clause-found : goal.returns-clause-found
returns-clause-found c = λ setup old new call found handset its has one.
    let next = has.keeps handset its in (next.0, next.1 ∙ one)

pub returns-clause-stopped : goal.returns-clause-stopped
returns-clause-stopped c = λ setup old new call held handset its stopped one.
    let next = handset-stopped setup old new call held handset stopped its in (next.0, next.1 ∙ one)

pub returns-clause-unfound : goal.returns-clause-unfound
returns-clause-unfound c = λ setup old new call fault handset its failed one.
    let next = handset-unfound setup old new call fault handset failed its in (next.0, next.1 ∙ one)

pub returns-clause-begun : goal.returns-clause-begun
returns-clause-begun c = λ setup view handset begun its before begins is goes stands.
    let next = begun-handset setup view handset begun 2 its begins is goes stands in
    (next.0, next.1 ∙ ap (λ (steps : List Step). steps ++ move_to 2 ∷ []) before)

pub returns-clause-switched : goal.returns-clause-switched
returns-clause-switched c = λ setup view handset switched its before begins is goes stands.
    let next = switched-handset setup view handset switched true its begins is goes stands in
    (next.0, next.1 ∙ ap (λ (steps : List Step). steps ++ switch_off ∷ []) before)
