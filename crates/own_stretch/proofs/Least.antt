-- The own stretches of a setting are the least numbers that bound what its finds pay.
use Rattle.std.proofs.Common.{◌≡◌, ◌≢◌, ℕ, zero, suc, ◌+◌, ◌*◌, ◌<◌, ◌≤◌, min, arith, inl, inr, refl, subst, sym}
use Rattle.std.proofs.Math.Nat.{mul-le-mul_right}
use Rattle.std.proofs.lemmas.Bool.{cases_eq, eq-eqb, ne_eqb}
use Rattle.directory.specs.Settings.{levels, Setting}
use Rattle.stretch_laws.specs.Tracking.{IsTracking}
use Rattle.busy_finds.specs.Levels.{cost_up_to, IsAnyStretch, IsOwnStretch, level_for}
use Rattle.own_stretch.specs.OwnStretch.{any_stretch_of, greatest_below, OwnStretchesAreLeast, own_stretch_of, stretch_between, stretch_past, units_of}
use Rattle.own_stretch.proofs.Greatest.{greatest-bounds, greatest-least}
use Rattle.own_stretch.proofs.Units.{units-least, units-reach}

module _ (setting : Setting) (width most_readers : ℕ) (tracking : IsTracking setting width most_readers) where
  -- what is paid from one node to another, with the distance
  abbrev paid : ℕ → ℕ → ℕ
  paid from to = cost_up_to setting from (level_for setting (setting.distance from to)) + setting.distance from to

  between-is : (from to : ℕ) → from ≢ to
      → stretch_between setting from to ≡ units_of (paid from to) (setting.distance from to)
  between-is from to apart = rw (ne_eqb from to apart) refl

  between-least : (own from to : ℕ) → IsOwnStretch setting own → from < setting.nodes → to < setting.nodes
      → stretch_between setting from to ≤ own
  between-least own from to bounds low high = elim (cases_eq from to) [
    | inl same ↦ let e : stretch_between setting from to ≡ 0 = rw (eq-eqb from to same) refl in
        omega (arith, e)
    | inr apart ↦ omega (
      arith,
      between-is from to apart,
      units-least (paid from to) (setting.distance from to) own (tracking.apart from to low high apart)
          (bounds from to low high apart),
    )
  ]

  -- any number from the own stretch on bounds what is paid
  pub own-holds : (most : ℕ) → own_stretch_of setting ≤ most → IsOwnStretch setting most
  own-holds most up from to low high apart =
      units-reach (paid from to) (setting.distance from to) most (tracking.apart from to low high apart) (omega (
        arith,
        up,
        between-is from to apart,
        greatest-bounds (stretch_between setting from) setting.nodes to high,
        greatest-bounds (λ other. greatest_below (stretch_between setting other) setting.nodes) setting.nodes from low,
      ))

  pub own-least : (own : ℕ) → IsOwnStretch setting own → own_stretch_of setting ≤ own
  own-least own bounds =
      greatest-least (λ from. greatest_below (stretch_between setting from) setting.nodes) setting.nodes own
      (λ from low. greatest-least (stretch_between setting from) setting.nodes own
      (λ to high. between-least own from to bounds low high))

  -- what is paid past a level
  abbrev past : ℕ → ℕ → ℕ
  past from level = cost_up_to setting from (min (suc level) setting.top)

  past-holds : (from level : ℕ) → from < setting.nodes → level ≤ setting.top
      → past from level + setting.threshold level ≤ any_stretch_of setting * setting.threshold level
  past-holds from level low under =
      let up : units_of (past from level) (setting.threshold level) + 1 ≤ any_stretch_of setting = omega (
        arith,
        greatest-bounds (stretch_past setting from) (levels setting) level (omega (arith, under)),
        greatest-bounds (λ other. greatest_below (stretch_past setting other) (levels setting)) setting.nodes from low,
      ) in
      let step : (units_of (past from level) (setting.threshold level) + 1) * setting.threshold level
      ≤ any_stretch_of setting * setting.threshold level = mul-le-mul_right (setting.threshold level) up in
      omega (
        arith,
        step,
        units-reach (past from level) (setting.threshold level) (units_of (past from level) (setting.threshold level))
            (tracking.gathers level under) (omega arith),
        (let e : (units_of (past from level) (setting.threshold level) + 1) * setting.threshold level
            ≡ units_of (past from level) (setting.threshold level) * setting.threshold level
            + setting.threshold level = grind arith in e),
      )

  past-least : (most from level : ℕ) → IsAnyStretch setting most → from < setting.nodes → level ≤ setting.top
      → stretch_past setting from level ≤ most
  past-least most from level bounds low under =
      less most (past from level) (setting.threshold level) (tracking.gathers level under) (elim (cases_eq level setting.top) [
        | inl top ↦
            let e : min (suc setting.top) setting.top ≡ setting.top = omega arith in
            subst (λ n. cost_up_to setting from (min (suc n) setting.top) + setting.threshold n
            ≤ most * setting.threshold n) (sym top) (rw e (bounds.top from low))
        | inr apart ↦
            let e : min (suc level) setting.top ≡ suc level = omega (arith, under, apart) in
            rw e (bounds.above from level low (omega (arith, under, apart)))
      ])
    where
      less : (most weight unit : ℕ) → 1 ≤ unit → weight + unit ≤ most * unit → units_of weight unit + 1 ≤ most
      less zero weight unit some room = absurd (omega (arith, some, room, (let e : 0 * unit ≡ 0 = grind arith in e)))
      less (suc most) weight unit some room = omega (
        arith,
        units-least weight unit most some (omega (
          arith,
          room,
          (let e : suc most * unit ≡ most * unit + unit = grind arith in e),
        )),
      )

  pub any-holds : IsAnyStretch setting (any_stretch_of setting)
  any-holds = record {
    own = own-holds (any_stretch_of setting) (omega arith);
    above = λ from level low under.
        let e : min (suc level) setting.top ≡ suc level = omega (arith, under) in
        rw e at (past-holds from level low (omega (arith, under)));
    top = λ from low.
        let e : min (suc setting.top) setting.top ≡ setting.top = omega arith in
        subst (λ n. cost_up_to setting from n + setting.threshold setting.top
        ≤ any_stretch_of setting * setting.threshold setting.top) e (past-holds from setting.top low (omega arith));
  }

  pub any-least : (most : ℕ) → IsAnyStretch setting most → any_stretch_of setting ≤ most
  any-least most bounds = omega (
    arith,
    own-least most bounds.own,
    greatest-least (λ from. greatest_below (stretch_past setting from) (levels setting)) setting.nodes most
        (λ from low. greatest-least (stretch_past setting from) (levels setting) most
        (λ level under. past-least most from level bounds low (omega (arith, under)))),
  )

pub stretches-least : OwnStretchesAreLeast
stretches-least setting width most_readers tracking = (
  record {
    holds = own-holds setting width most_readers tracking (own_stretch_of setting) (omega arith);
    least = own-least setting width most_readers tracking;
  },
  record {
    holds = any-holds setting width most_readers tracking;
    least = any-least setting width most_readers tracking;
  },
)
