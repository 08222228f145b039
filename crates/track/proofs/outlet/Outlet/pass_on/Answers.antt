use Rattle.std.proofs.Common.{◌++◌, List, ℕ, [], append_assoc, ap, refl, sym, ◌∙◌}
use Rattle.track.proofs.Passing.{long-moved, long-part, none-more}
use Rattle.track.proofs.outlet.Outlet.pass_on.Goals as goal

pub returns-then-piece-gt-ROOM-clause-moved : goal.returns-then-piece-gt-ROOM-clause-moved
returns-then-piece-gt-ROOM-clause-moved g c =
    long-moved c.write_all.result (g.K.Sink.written c.args.sink.now) (g.K.Sink.written c.write_all.new.sink)
    c.args.self.now c.args.piece.now c.in_ok-flush.ensures.all c.in_ok-flush.ensures.none c.write_all.ensures.all

pub returns-then-piece-gt-ROOM-clause-part : goal.returns-then-piece-gt-ROOM-clause-part
returns-then-piece-gt-ROOM-clause-part g c =
    long-part (g.K.Sink.written c.args.sink.now) c.args.self.now c.in_ok-flush.ensures.all c.write_all.ensures.part

pub returns-then-piece-len-clause-moved : goal.returns-then-piece-len-clause-moved
returns-then-piece-len-clause-moved g c =
    record { front = []; parts = sym c.hold.ensures; written = none-more (g.K.Sink.written c.args.sink.now) }

pub returns-then-piece-len-clause-part : goal.returns-then-piece-len-clause-part
returns-then-piece-len-clause-part g c = record {
  front = [];
  back = c.args.self.now ++ c.args.piece.now;
  parts = refl;
  written = none-more (g.K.Sink.written c.args.sink.now);
}

pub returns-in_err-flush-clause-part : goal.returns-in_err-flush-clause-part
returns-in_err-flush-clause-part g c =
    let part = c.flush.ensures.part in
    let piece = c.args.piece.now in
    record {
      front = part.front;
      back = part.back ++ piece;
      parts = ap (λ (t : List ℕ). t ++ piece) part.parts ∙ append_assoc part.front part.back piece;
      written = part.written;
    }

pub returns-clause-moved : goal.returns-clause-moved
returns-clause-moved g c =
    let old = c.args.self.now in
    let piece = c.args.piece.now in
    record {
      front = old;
      parts = ap (λ (t : List ℕ). old ++ t)
          (sym (c.hold-2.ensures ∙ ap (λ (w : List ℕ). w ++ piece) c.in_ok-flush.ensures.none));
      written = c.in_ok-flush.ensures.all;
    }

pub returns-clause-part : goal.returns-clause-part
returns-clause-part g c = record {
  front = c.args.self.now;
  back = c.args.piece.now;
  parts = refl;
  written = c.in_ok-flush.ensures.all;
}
