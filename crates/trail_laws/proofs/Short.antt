-- The laws of near levels and of short ways after every legal history.
use Rattle.std.proofs.Common.{inl, inr, Some, None, refl, arith}
use Rattle.std.proofs.lemmas.Bool.Decides.{nat_tests}
use Rattle.directory.specs.Standing.{number}
use Rattle.trail_laws.specs.Trail.{EntriesTell, EntryTells, MarksTell}
use Rattle.trail_laws.specs.Phases.{AddressesLeadByPhase, PhasesCover}
use Rattle.trail_laws.specs.Ways.{AddressesLeadShortly, ComingsLeadShortly, LevelsStayNear, PassagesAreOpen, StandsInside}
use Rattle.trail_laws.proofs.Stops.{view-inside}
use Rattle.trail_laws.proofs.Comings.{coming-leads_on}
use Rattle.trail_laws.proofs.Laws.{HistoryView, Laws, view}
use Rattle.trail_laws.proofs.Lazy.{legal-lazy}
use Rattle.trail_laws.proofs.Nearby.{level-has}
use Rattle.trail_laws.proofs.Passages.{coming-opens, PassageLaws}

pub stands-inside : Laws → StandsInside
unfolding HistoryView
stands-inside laws setting sub history low legal =
    view-inside (view laws history low legal)

pub levels-near : Laws → LevelsStayNear
unfolding HistoryView
levels-near laws setting sub history low metric some legal level below =
    let its = level-has level below (view laws history low legal) in
    (its.0, its.1, its.2, its.4 metric (legal-lazy history some legal), its.3)

pub passages-open : PassageLaws → PassagesAreOpen
passages-open laws setting sub history low legal node p from inside comes reached =
    coming-opens laws history node p from low inside legal comes reached

-- the way from an address is short in whichever phase it is
pub addresses-short : AddressesLeadByPhase → PhasesCover → EntriesTell → AddressesLeadShortly
addresses-short by_phase cover tell setting sub history low metric some legal level cluster address known pass below
    is_some knows opens =
    let there = by_phase setting sub history low metric some legal level cluster address known below is_some knows in
    let its : EntryTells setting sub history level cluster (Some address) =
    rw is_some at (tell setting sub history low legal level cluster below) in (
      there.0,
      there.1,
      there.2,
      there.3,
      elim (cover setting sub history low legal) [
        | inl before ↦ grind (arith, nat_tests)
        | inr after ↦ elim after [
          | inl passing ↦ omega (
            arith,
            there.4.passing passing.0 passing.1,
            opens (number sub history) passing.0 passing.1 refl,
            some level below,
          )
          | inr settled ↦ omega (arith, there.4.settled settled)
        ]
      ],
    )

pub comings-short : Laws → MarksTell → ComingsLeadShortly
unfolding HistoryView
comings-short laws marks setting sub history low metric legal node p u pass inside comes opens =
    let there = coming-leads_on node p u None inside (view laws history low legal) comes in
    grind (arith, stands-inside)
