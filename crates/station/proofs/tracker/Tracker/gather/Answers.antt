use Rattle.std.proofs.Common.{arith, ap, ◌∙◌, ◌≡◌, ◌<◌, ◌≤◌, List, get_or, set, length}
use Rattle.std.proofs.lemmas.List.{set-get_or}
use Rattle.std.proofs.lemmas.Option.{get_or_from_slice_get, slice_get_within}
use native.Mathlib.Decide.{dec_le}
use Rattle.station.specs.Passes.{PassData}
use Rattle.station.proofs.tracker.Tracker.gather.Goals as goal
use Rattle.directory.specs.HistoryLaws.{front-through}

pub loop-k-preserved : goal.loop-k-preserved
loop-k-preserved c =
    let d = c.loop-k.invariant in
    let e = c.take_in.ensures in
    let f = c.note-note.ensures in
    let items : List PassData = c.loop-k.passes.items in
    let k = c.loop-k.k in
    let stored : List PassData = set c.args.passes.now.items 0 c.note-longest.new.pass in
    let found : PassData = c.index_mut-in-loop-k.result.now in
    let at : found ≡ get_or items k found = c.index_mut-in-loop-k.ensures.value in
    record {
      same = ap (set items k) (f.same ∙ at) ∙ (set-get_or items k found ∙ d.same);
      of = e.of;
      seen = grind (arith, dec_le, get_or_from_slice_get, front-through);
      known = λ _. e.known;
      legal = λ _. e.legal;
    }

pub returns-clause-gathered : goal.returns-clause-gathered
returns-clause-gathered c =
    let all : List PassData = c.args.passes.now.items in
    let d = c.loop-k.invariant in
    let first : PassData = c.index_mut.result.now in
    let back = ap (set all 0) (c.note-longest.ensures.same ∙ c.index_mut.ensures.value) ∙ set-get_or all 0 first in
    let count : length c.loop-k.passes.items ≡ length all = ap length (d.same ∙ back) in
    let actors = ap (λ t. t.setup.actors) c.self.view_is in
    let some : 0 < length all = grind (arith, dec_le, slice_get_within) in
    let done : length all ≤ c.loop-k.k = grind arith in
    record {
      seen = λ j pass e. d.seen j pass (omega (arith, slice_get_within all j pass e, done)) (grind arith);
      known = d.known (omega (arith, some, done));
      legal = d.legal (omega (arith, some, done));
    }
