-- The stretch from one node to another, computed.
use Rattle.std.proofs.Common.{◌≡◌, ◌≢◌, ℕ, ◌+◌, refl, ap, ap₂, sym, ◌∙◌}
use Rattle.std.proofs.lemmas.Bool.{eq-eqb, ne_eqb}
use Rattle.directory.specs.Settings.{Setting}
use Rattle.busy_finds.specs.Levels.{cost_up_to, level_for, reaching}
use Rattle.own_stretch.specs.OwnStretch.{stretch_between, units_of}

module _ (setting : Setting) (from to : ℕ) where
  pub between-apart : {distance level cost units : ℕ} → from ≢ to → distance ≡ setting.distance from to
      → level ≡ reaching distance 0 setting.top → cost ≡ cost_up_to setting from level
      → units ≡ units_of (cost + distance) distance → units ≡ stretch_between setting from to
  between-apart {distance} {level} {cost} {units} apart away reached paid reach =
      let its_cost : cost ≡ cost_up_to setting from (level_for setting (setting.distance from to)) =
      paid ∙ ap (cost_up_to setting from) (reached ∙ ap (λ d. reaching d 0 setting.top) away) in
      reach ∙ (ap₂ (λ c d. units_of (c + d) d) its_cost away ∙ sym (between-is apart))
    where
      between-is : from ≢ to → stretch_between setting from to
          ≡ units_of (cost_up_to setting from (level_for setting (setting.distance from to))
          + setting.distance from to) (setting.distance from to)
      between-is far = rw (ne_eqb from to far) refl

  pub between-same : from ≡ to → stretch_between setting from to ≡ 0
  between-same same = rw (eq-eqb from to same) refl
