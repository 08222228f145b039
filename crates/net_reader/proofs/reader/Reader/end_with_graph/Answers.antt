use Rattle.std.proofs.Common.{ap, sym, ◌∙◌}
use Rattle.net_reader.specs.Reading.{ReaderValue}
use Rattle.net_reader.proofs.Ending.{going, sound, answered, refused, finished_is}
use Rattle.net_reader.proofs.reader.Reader.end_with_graph.Goals as goal

pub answer-requires-clause-sound : goal.answer-requires-clause-sound
answer-requires-clause-sound c =
    let scan = c.self.inside.scan in
    sound scan c.in-Ok.known c.in-Ok.lines (going scan c.self.invariant c.if-self.false)
    c.in-Ok.ensures.read

pub returns-in-Ok-clause-input : goal.returns-in-Ok-clause-input
returns-in-Ok-clause-input c = λ bytes stands.
    let scan = c.self.inside.scan in
    let is = finished_is (sym (ap (λ (r : ReaderValue). r.state) c.self.view_is)) stands in
    answered bytes c.answer.result (sym c.in-Ok.ensures.read.0 ∙ is) c.answer.ensures

pub returns-in-Err-clause-input : goal.returns-in-Err-clause-input
returns-in-Err-clause-input c = λ bytes stands.
    let scan = c.self.inside.scan in
    let is = finished_is (sym (ap (λ (r : ReaderValue). r.state) c.self.view_is)) stands in
    refused bytes c.in-Err.refusal is c.in-Err.ensures.read
