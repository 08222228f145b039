use Rattle.std.proofs.Common.{arith, refl, not, ◌==◌}
use Rattle.std.proofs.lemmas.List.Filters.{length-filter_both}
use Rattle.entry_word.specs.declared.visit.Visit.{Visit}
use Rattle.station.specs.Passes.{actor_of}
use Rattle.track_c.proofs.callers.reserve_for.Goals as goal

pub reserve-requires : goal.reserve-requires
reserve-requires c =
    let pass = c.args.pass.now in
    let mine = λ (visit : Visit). visit.actor == actor_of pass in
    record {
      few = omega (
        arith,
        length-filter_both mine (λ visit. not (mine visit)) (λ visit. refl) pass.view.seen,
        c.seen-seen.ensures,
        c.if-visits-gt-MOST_VISITS.false,
        c.if-seen-visits.false,
      );
    }
