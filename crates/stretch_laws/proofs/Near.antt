-- A quiet find travels at most the stretch times its distance, and twice the open passage.
use Rattle.std.proofs.Common.{◌≡◌, ◌≢◌, ℕ, zero, suc, ◌+◌, ◌*◌, ◌<◌, ◌≤◌, ◌^◌, true, Option, None, refl, sym, ap, ◌∙◌, subst, arith}
use Rattle.entry_word.specs.declared.mark.PresenceMark.{PresenceMark}
use Rattle.entry_word.specs.declared.mark.PresenceMark.TheVariants.{Empty, Here, Gone, Coming, Off}
use Rattle.directory.specs.Settings.{levels, Setting}
use Rattle.directory.specs.Histories.{before, History, through}
use Rattle.directory.specs.Legal.{IsLegal}
use Rattle.directory.specs.Finds.{all_readers, FindCall, found_weight}
use Rattle.directory.specs.Looks.{first_of, last_of}
use Rattle.directory.specs.Standing.{passage, standing}
use Rattle.directory.specs.Parts.{known_after}
use Rattle.trail_laws.specs.Trail.{answers, EntriesTell, IsLed, mark_seen}
use Rattle.trail_laws.specs.Rightness.{IsAnswered}
use Rattle.trail_laws.specs.Ways.{AddressesLeadShortly, ComingsLeadShortly, IsOpenAtMost, LevelsStayNear, PassagesAreOpen, StandsInside}
use Rattle.trail_laws.specs.Within.{Affords, Begins, HistoryFrontsAreLegal, WeighsAtMost, QuietFindsStandStill, QuietFindsStayWithin}
use Rattle.stretch_laws.specs.Tracking.{IsTracking, QuietFindsAreNear, stretch}
use Rattle.stretch_laws.proofs.Heights.{Ends, ends, scaled-more, within-one, within-stretch}
use Rattle.stretch_laws.proofs.Climbs.{climb-affords, HasAddress, Pays}
use Rattle.stretch_laws.proofs.CostLaws.{IsReached, met-at, reached}

-- what is used of the laws
pub record Used : Type 0 where
  pub fronts : HistoryFrontsAreLegal
  pub levels : LevelsStayNear
  pub inside : StandsInside
  pub entries : EntriesTell
  pub addresses : AddressesLeadShortly
  pub comings : ComingsLeadShortly
  pub stays : QuietFindsStayWithin
  pub still : QuietFindsStandStill
  pub opens : PassagesAreOpen

-- where marks lead there is an answer
led-end : (setting : Setting) (marks : ℕ → PresenceMark) (known : Option ℕ) (node last hops way : ℕ)
    → IsLed setting marks known node last hops way → (k : Option ℕ) × (answers k (marks last) ≡ true)
unfolding IsLed
led-end setting marks known node last zero way led = (known, ap (λ n. answers known (marks n)) (sym led.0) ∙ led.1)
led-end setting marks known node last (suc hops) way led =
    led-end setting marks (known_after known (marks node)) led.0 last hops led.1 led.4

-- what a find may travel, when so much is open
abbrev pub most : Setting → ℕ → ℕ → History → FindCall → ℕ → ℕ
most setting width readers seen call pass =
    stretch width readers * setting.distance call.from (standing setting call.sub seen) + 2 * pass

module _ (used : Used) (setting : Setting) (width readers : ℕ) (seen : History) (call : FindCall)
    (low : setting.nodes ≤ 2 ^ 16) (tracking : IsTracking setting width readers) (inside : call.from < setting.nodes)
    (legal : IsLegal setting call.sub seen) (pass : ℕ) (opens : IsOpenAtMost setting call.sub seen pass) where
  pub there_inside : standing setting call.sub seen < setting.nodes
  there_inside = used.inside setting call.sub seen low legal

  -- the mark where the subscriber stands is an answer
  stood : (k : Option ℕ) × (answers k (mark_seen setting call.sub seen (standing setting call.sub seen)) ≡ true)
  stood =
      let its = used.levels setting call.sub seen low tracking.metric tracking.gathers legal setting.top
      (omega arith) in
      let led = used.addresses setting call.sub seen low tracking.metric tracking.gathers legal setting.top
      (setting.home setting.top its.0) its.1 None pass (omega arith) its.4 tt opens in
      grind (arith, led-end)

  -- so a find that climbs isn't where the subscriber stands
  pub elsewhere : ((p from : ℕ) → mark_seen setting call.sub seen call.from ≢ Coming p from)
      → ((p : ℕ) → mark_seen setting call.sub seen call.from ≢ Here p)
      → ((p : ℕ) → mark_seen setting call.sub seen call.from ≢ Off p)
      → call.from ≢ standing setting call.sub seen
  elsewhere no_coming no_here no_off same = at_mark (mark_seen setting call.sub seen call.from) refl stood.0
      (ap (λ n. answers stood.0 (mark_seen setting call.sub seen n)) same ∙ stood.1)
    where
      at_mark : (mark : PresenceMark) → mark_seen setting call.sub seen call.from ≡ mark → (k : Option ℕ)
          → answers k mark ≡ true → ⊥
      at_mark Empty e k h = cc
      at_mark (Gone p to) e k h = cc
      at_mark (Here p) e k h = no_here p e
      at_mark (Off p) e k h = no_off p e
      at_mark (Coming p from) e k h = no_coming p from e

  -- each address that a reader of a level has leads on, over a way that the level bounds
  pays : (level last : ℕ) → level ≤ last → last ≤ setting.top
      → Pays setting call.sub seen (3 * (width * 2 ^ last) + 2 ^ last
      + setting.distance call.from (standing setting call.sub seen) + 2 * pass) level
      (setting.readers level call.from)
  pays level last under high c address known reads is_some knows =
      let led = used.addresses setting call.sub seen low tracking.metric tracking.gathers legal level c address known
      pass below is_some knows opens in (
        led.0,
        led.1,
        led.2,
        led.3,
        omega (
          arith,
          led.4,
          far.from_leader,
          far.to_standing,
          tracking.halves level below,
          scaled-more width level last under,
          scaled-more 1 level last under,
        ),
      )
    where
      below : level ≤ setting.top
      below = omega (arith, under, high)

      far : IsReached setting width call.sub seen call.from level c address
      far = reached used.entries used.inside (record {
        few = low;
        tracking = tracking;
        legal = legal;
        inside = inside;
        low = below;
        read = reads;
        held = is_some;
      })

  -- where the climb ends a reader has an address
  pub found-at : (end : Ends setting (setting.distance call.from (standing setting call.sub seen)))
      → HasAddress setting call.sub seen end.level (setting.readers end.level call.from)
  found-at end =
      let met = met-at used.levels used.inside call.sub seen call.from low tracking inside legal end in
      (met.0, met.1, met.2.read, met.2.held)

  climbs-near : 1 ≤ setting.distance call.from (standing setting call.sub seen)
      → Affords setting call.sub seen call (WeighsAtMost (most setting width readers seen call pass)) 0
      (all_readers setting call.from)
  climbs-near apart =
      let end = ends setting (setting.distance call.from (standing setting call.sub seen)) tracking.halves apart in
      climb-affords setting seen call (most setting width readers seen call pass)
      (4 * (readers * (width * 2 ^ end.level)))
      (3 * (width * 2 ^ end.level) + 2 ^ end.level + setting.distance call.from (standing setting call.sub seen)
      + 2 * pass)
      (omega (
        arith,
        within-stretch readers width (setting.distance call.from (standing setting call.sub seen)) (2 ^ end.level)
            end.small,
      ))
      width readers end.level
      (λ i h. tracking.few i call.from (omega (arith, h, end.low)) inside)
      (λ i c h g. tracking.wide i c call.from (omega (arith, h, end.low)) inside g)
      (λ i h. pays i end.level h end.low) (found-at end) (omega arith)
      end.level 0 (levels setting) 0 (omega arith) (omega (arith, end.low)) (omega arith)

  pub begins-near : Begins setting seen call (WeighsAtMost (most setting width readers seen call pass))
  begins-near = record {
    here = omega arith;
    climbing = λ c h o. climbs-near (tracking.apart call.from (standing setting call.sub seen) inside there_inside
        (elsewhere c h o));
    chasing = λ p from comes.
        let led = used.comings setting call.sub seen low tracking.metric legal call.from p from pass inside comes opens
        in (
          led.0,
          led.1,
          led.2,
          led.3,
          omega (
            arith,
            led.4,
            within-one readers width (setting.distance call.from (standing setting call.sub seen)),
          ),
        );
  }

pub near : Used → QuietFindsAreNear
near used setting width readers history actor call found tickets low tracking inside legal find quiet =
    (sure (passage setting call.sub seen) open_first, (at_last.0, ended_near))
  where
    seen : History
    seen = before (first_of tickets) history

    later : History
    later = through (last_of tickets) history

    legal_seen : IsLegal setting call.sub seen
    legal_seen = used.fronts setting call.sub history (first_of tickets) low legal

    open_first : IsOpenAtMost setting call.sub seen (passage setting call.sub seen)
    open_first p u comes same = omega (
      arith,
      used.opens setting call.sub seen low legal_seen (standing setting call.sub seen) p u
          (used.inside setting call.sub seen low legal_seen) comes same,
    )

    sure : (pass : ℕ) → IsOpenAtMost setting call.sub seen pass
        → IsAnswered found × (found_weight found ≤ most setting width readers seen call pass)
    sure pass opens = used.stays setting history actor call found tickets (most setting width readers seen call pass)
        low inside legal (begins-near used setting width readers seen call low tracking inside legal_seen pass opens)
        find quiet

    still : (standing setting call.sub later ≡ standing setting call.sub seen)
        × IsOpenAtMost setting call.sub seen (passage setting call.sub later)
    still = used.still setting history actor call found tickets low legal find quiet

    at_last : IsAnswered found
        × (found_weight found ≤ most setting width readers seen call (passage setting call.sub later))
    at_last = sure (passage setting call.sub later) still.1

    ended_near : found_weight found ≤ stretch width readers * setting.distance call.from
        (standing setting call.sub later) + 2 * passage setting call.sub later
    ended_near = subst (λ n. found_weight found ≤ stretch width readers * setting.distance call.from n
        + 2 * passage setting call.sub later) (sym still.0) at_last.1
