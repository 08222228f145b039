use Rattle.std.proofs.Common.{◌≡◌, length, ap, arith, sym, ◌∙◌}
use Rattle.net_reader.specs.Reading.{ReaderValue}
use Rattle.net_reader.proofs.Ending.{going, room, fed_sound, fed_stands}
use Rattle.net_reader.proofs.reader.Reader.feed.Goals as goal

pub read-read-requires-clause-room : goal.read-read-requires-clause-room
read-read-requires-clause-room c =
    let is = c.self.view_is in
    let lines : c.self.inside.scan.lines ≡ c.args.self.now.state.lines = ap (λ (r : ReaderValue). r.state.lines) is in
    let fits = room (length c.args.piece.now) c.requires
    (sym (ap (λ (r : ReaderValue). r.failed) is) ∙ c.if-self.false) in
    omega (arith, lines, fits)

pub invariant_of-self : goal.invariant_of-self
invariant_of-self c = grind (arith, going, fed_sound)

pub returns-clause-fed : goal.returns-clause-fed
returns-clause-fed c = grind (arith, fed_stands)
