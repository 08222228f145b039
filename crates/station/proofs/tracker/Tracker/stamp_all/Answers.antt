use Rattle.std.proofs.Common.{arith, ap, sym, ◌∙◌, ◌≡◌, ◌<◌, List, length, refl, subst}
use Rattle.std.proofs.Math.Seq.{take-length}
use Rattle.std.proofs.lemmas.Option.{get_or_from_slice_get, slice_get_within}
use mathlib.Core.Logic.{dite}
use native.Mathlib.Decide.{dec_le}
use Rattle.directory.specs.Histories.{History, own}
use Rattle.station.specs.Passes.{PassData, IsNoteOf, IsPassOf, actor_of}
use Rattle.station.proofs.Ending.{find_pass, heard_whole, order_is, own_there, stamp_more, taken}
use Rattle.station.proofs.Ticketing.{tickets-has}
use Rattle.station.proofs.tracker.Tracker.stamp_all.Goals as goal
use Rattle.directory.specs.ListLaws.{same_some}

pub hear-requires-clause-of : goal.hear-requires-clause-of
hear-requires-clause-of c =
    let all : List PassData = c.args.passes.items in
    let left : List PassData = c.pop.new.self.items in
    let pass : PassData = c.in-Some.pass in
    let t = taken all left c.pop.result c.pop.ensures.items c.in-Some.is c.loop-pass.invariant.left in
    subst (IsPassOf c.args.self.now) (get_or_from_slice_get all (length left) pass pass t.1)
    (c.requires.of (length left) pass (slice_get_within all (length left) pass t.1))

pub stamp-requires : goal.stamp-requires
stamp-requires c =
    let all : List PassData = c.args.passes.items in
    let d = c.loop-pass.invariant in
    let left : List PassData = c.pop.new.self.items in
    let pass : PassData = c.in-Some.pass in
    let t = taken all left c.pop.result c.pop.ensures.items c.in-Some.is d.left in
    let seen = ap length (heard_whole c.hear.ensures.heard (c.copy-note.ensures.seen ∙ d.same)
    (c.requires.gathered.seen (length left) pass t.1)) in
    record { room = omega (arith, seen, d.size, c.requires.room) }

pub loop-pass-smaller : goal.loop-pass-smaller
loop-pass-smaller c = grind (arith, taken)

pub loop-pass-preserved : goal.loop-pass-preserved
loop-pass-preserved c =
    let all : List PassData = c.args.passes.items in
    let d = c.loop-pass.invariant in
    let whole : History = c.args.longest.now.view.seen in
    let left : List PassData = c.pop.new.self.items in
    let pass : PassData = c.in-Some.pass in
    let t = taken all left c.pop.result c.pop.ensures.items c.in-Some.is d.left in
    let count = t.2 in
    let heard = c.hear.ensures.heard in
    let seen : c.hear.new.pass.view.seen ≡ whole = grind (arith, heard_whole) in
    let mine : own (actor_of pass) whole ≡ own (actor_of pass) pass.view.seen = grind arith in
    record {
      left = t.0;
      of = subst (IsNoteOf c.args.self.now) (sym c.copy-note.ensures.same) d.of;
      same = ap (λ n. n.view.seen) c.copy-note.ensures.same ∙ d.same;
      size = c.stamp.ensures.size ∙ d.size;
      visits = grind (arith, same_some);
      stamped = λ i j visit p there h e is.
          stamp_more c.loop-pass.order c.stamp.new.order i visit (actor_of pass) whole
          (tickets-has (actor_of pass) i whole there)
          (rw (← heard.same.actor, ← seen) (c.stamp.ensures.stamped i))
          (λ ne. grind (arith, same_some));
    }

pub returns : goal.returns
returns c =
    let all : List PassData = c.args.passes.items in
    let d = c.loop-pass.invariant in
    let whole : History = c.args.longest.now.view.seen in
    let g = c.requires.gathered in
    let empty : length c.loop-pass.passes.items ≡ 0 = grind arith in record {
      order = record {
        history = whole;
        actors = order_is c.loop-pass.order whole (d.size ∙ c.requires.room) (λ i visit there.
            let known : visit.actor < c.args.self.now.setup.actors = dite
            (dec_le c.args.self.now.setup.actors visit.actor)
            (λ above. absurd (own_there whole i there (g.known visit.actor above))) (λ h. omega arith) in
            let f = find_pass all visit.actor (c.requires.present visit.actor known) in
            d.stamped i f.0 visit f.1 there (omega (arith, empty)) f.2 (sym f.3));
        seen = g.seen;
        visits = λ k pass e. d.visits k pass (omega (arith, empty)) e;
        known = g.known;
        legal = g.legal;
      };
    }

pub loop-pass-init : goal.loop-pass-init
loop-pass-init c =
    let all : List PassData = c.args.passes.items in
    record {
      left = sym (take-length all);
      of = c.requires.longest;
      same = refl;
      size = refl;
      visits = λ j pass h e. absurd (omega (arith, h, slice_get_within all j pass e));
      stamped = λ i j visit pass there h e is. absurd (omega (arith, h, slice_get_within all j pass e));
    }
