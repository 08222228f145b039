-- Where its subscriber rests a quiet find travels less.
use Rattle.std.proofs.lemmas.Bool.Decides.{nat_tests}
use Rattle.std.proofs.Common.{◌≡◌, ◌⊎◌, inl, inr, ℕ, suc, ◌+◌, ◌*◌, ◌<◌, ◌≤◌, ◌^◌, sym, ap, ◌∙◌, subst, arith}
use Rattle.std.proofs.Math.Nat.{mul-le-mul_left, mul_left_comm}
use Rattle.entry_word.specs.declared.mark.PresenceMark.TheVariants.{Gone, Coming}
use Rattle.directory.specs.Settings.{levels, Setting}
use Rattle.directory.specs.Histories.{before, History}
use Rattle.directory.specs.Legal.{IsLegal}
use Rattle.directory.specs.Finds.{all_readers, FindCall}
use Rattle.directory.specs.Looks.{first_of}
use Rattle.directory.specs.Standing.{number, standing}
use Rattle.trail_laws.specs.Phases.{AddressesLeadByPhase, IsAtRest, IsSettled, RestIsSettled}
use Rattle.trail_laws.specs.Trail.{mark_seen, MarksTell, MarkTells}
use Rattle.trail_laws.specs.Ways.{IsOpenAtMost}
use Rattle.trail_laws.specs.Within.{Affords, Begins, WeighsAtMost}
use Rattle.stretch_laws.specs.Tracking.{IsTracking, resting_stretch, RestingFindsAreNearer}
use Rattle.stretch_laws.proofs.Heights.{by_width, ends, scaled-more}
use Rattle.stretch_laws.proofs.Climbs.{climb-affords, Pays}
use Rattle.stretch_laws.proofs.CostLaws.{at-rest, CostUsed}
use Rattle.stretch_laws.proofs.Near.{elsewhere, found-at, Used}

rest-spread : (m w d : ℕ) → (16 * m * w + 4 * w + 4) * d ≡ 16 * (m * (w * d)) + 4 * (w * d) + 4 * d
rest-spread m w d = grind arith

within-resting : (m w d r : ℕ) → r < 4 * d → 4 * (m * (w * r)) + (w * r + r) ≤ resting_stretch w m * d
within-resting m w d r small =
    let wide = by_width w d r small in
    omega (arith, rest-spread m w d, wide, mul-le-mul_left m wide, mul_left_comm m 4 (w * d), small)

-- what is used beside
pub record RestUsed : Type 0 where
  pub used : Used
  pub marks : MarksTell
  pub ways : AddressesLeadByPhase
  pub rests : RestIsSettled

module _ (all : RestUsed) (setting : Setting) (width readers : ℕ) (seen : History) (call : FindCall)
    (low : setting.nodes ≤ 2 ^ 16) (tracking : IsTracking setting width readers) (inside : call.from < setting.nodes)
    (legal : IsLegal setting call.sub seen) (rest : IsAtRest setting call.sub seen) where
  settled : IsSettled setting call.sub seen
  settled = (all.rests setting call.sub seen low legal rest).0

  opens : IsOpenAtMost setting call.sub seen 0
  opens p u comes same = absurd (settled.1 u (comes ∙ ap (λ n. Coming n u) same))

  at_standing : standing setting call.sub seen < setting.nodes
  at_standing = all.used.inside setting call.sub seen low legal

  costs : CostUsed
  costs = record { entries = all.used.entries; ways = all.ways; inside = all.used.inside }

  -- each address that a reader of a level has costs the width and the radius
  pays : (level last : ℕ) → level ≤ last → last ≤ setting.top
      → Pays setting call.sub seen (width * 2 ^ last + 2 ^ last) level (setting.readers level call.from)
  pays level last under high c address known reads is_some knows =
      let cost = at-rest costs all.rests setting width readers call.sub seen call.from level c address (record {
        few = low;
        tracking = tracking;
        legal = legal;
        inside = inside;
        low = omega (arith, under, high);
        read = reads;
        held = is_some;
      }) rest known knows in grind (
        arith,
        nat_tests,
        scaled-more width level last under,
        scaled-more 1 level last under,
        cost.0,
        cost.1,
        cost.2,
        cost.3,
        cost.4,
      )

  climbs : 1 ≤ setting.distance call.from (standing setting call.sub seen)
      → Affords setting call.sub seen call (WeighsAtMost (resting_stretch width readers
      * setting.distance call.from (standing setting call.sub seen))) 0 (all_readers setting call.from)
  climbs apart =
      let end = ends setting (setting.distance call.from (standing setting call.sub seen)) tracking.halves apart in
      climb-affords setting seen call (resting_stretch width readers
      * setting.distance call.from (standing setting call.sub seen))
      (4 * (readers * (width * 2 ^ end.level))) (width * 2 ^ end.level + 2 ^ end.level)
      (omega (
        arith,
        within-resting readers width (setting.distance call.from (standing setting call.sub seen)) (2 ^ end.level)
            end.small,
      ))
      width readers end.level
      (λ i h. tracking.few i call.from (omega (arith, h, end.low)) inside)
      (λ i c h g. tracking.wide i c call.from (omega (arith, h, end.low)) inside g)
      (λ i h. pays i end.level h end.low)
      (found-at all.used setting width readers seen call low tracking inside legal 0 opens end) (omega arith)
      end.level 0 (levels setting) 0 (omega arith) (omega (arith, end.low)) (omega arith)

  -- at rest no Coming stands
  no-coming : (p u : ℕ) → mark_seen setting call.sub seen call.from ≡ Coming p u → ⊥
  no-coming p u comes = at_cases tells.3
    where
      tells : MarkTells setting call.sub seen call.from (Coming p u)
      tells = subst (MarkTells setting call.sub seen call.from) comes
          (all.marks setting call.sub seen low legal call.from inside)

      at_cases : (((p ≡ suc (number call.sub seen)) × (u ≡ standing setting call.sub seen))
          ⊎ ((p ≡ number call.sub seen) × (call.from ≡ standing setting call.sub seen)
          × (mark_seen setting call.sub seen u ≡ Gone p call.from))) → ⊥
      at_cases (inl early) = omega (arith, early.0, tells.0, settled.0)
      at_cases (inr late) = settled.1 u (ap (mark_seen setting call.sub seen) (sym late.1)
          ∙ (comes ∙ ap (λ n. Coming n u) late.0))

  pub begins-nearer : Begins setting seen call (WeighsAtMost (resting_stretch width readers
      * setting.distance call.from (standing setting call.sub seen)))
  begins-nearer = record {
    here = omega arith;
    climbing = λ c h o. climbs (tracking.apart call.from (standing setting call.sub seen) inside at_standing
        (elsewhere all.used setting width readers seen call low tracking inside legal 0 opens c h o));
    chasing = λ p from comes. absurd (no-coming p from comes);
  }

pub nearer : RestUsed → RestingFindsAreNearer
nearer all setting width readers history actor call found tickets low tracking inside legal find quiet rest =
    all.used.stays setting history actor call found tickets _ low inside legal
    (begins-nearer all setting width readers (before (first_of tickets) history) call low tracking inside
    (all.used.fronts setting call.sub history (first_of tickets) low legal) rest) find quiet
