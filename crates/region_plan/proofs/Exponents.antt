-- The exponents of distances, and levels whose balls are those of the level below.
use Rattle.std.proofs.Common.{rules, ◌≡◌, inl, inr, ℕ, zero, suc, ◌+◌, ◌-◌, ◌*◌, ◌^◌, ◌<◌, ◌≤◌, Bool, false, List, ◌++◌, ◌∷◌, [], length, get_or, ◌∙◌, ap, arith}
use Rattle.std.specs.Prelude.{nat_le}
use Rattle.std.proofs.Math.Nat.{pow-le-pow_right, pow-suc}
use Rattle.std.proofs.lemmas.Bool.{cases_lt, false≢true, le-leb, lt-leb}
use Rattle.net_graph.specs.Network.{Network}
use Rattle.node_set.specs.SetLaws.{passing_same}
use Rattle.distances.specs.Table.{DistanceTable, dist}
use Rattle.region_plan.specs.Plan.{Level, level_in, no_level}
use Rattle.region_plan.specs.Regions.{balls_of, threshold_of}
use Rattle.region_plan.specs.declared.covering.Covering.{Covering}
use Rattle.region_plan.specs.Meanings.{IsLevelOf}
use Rattle.region_plan.specs.Kept.{AreLevelsOf, IsSized, level_with}
use Rattle.region_plan.specs.Spread.{AreMarked, HasExponent}
use Rattle.region_plan.proofs.Levels.{levels_more}
use Rattle.region_plan.proofs.Lists.{map_same}

pub two : 1 ≤ 2
two = omega arith

-- two powers of which each just reaches the distance
one_exponent : (d e i : ℕ) → d ≤ 2 ^ e → 2 ^ e < 2 * d → 2 ^ i < d → d ≤ 2 ^ suc i → e ≡ suc i
one_exponent d e i reached just above within = elim (cases_lt e (suc i)) [
  | inl less ↦ absurd (let low : 2 ^ e ≤ 2 ^ i = pow-le-pow_right two (omega arith) in omega arith)
  | inr more ↦ grind (arith, pow-le-pow_right, two, cases_lt (suc i) e, pow-suc 2 (suc i))
]

-- where an exponent has no mark, no distance lies between its power and the one below
none_between : {marks : List Bool} {d : ℕ} (i : ℕ) → HasExponent marks d → get_or marks (suc i) false ≡ false
    → d ≤ 2 ^ suc i → d ≤ 2 ^ i
none_between {marks} {d} i mark none within = grind (arith, cases_lt, one_exponent, false≢true)

-- ---- balls and levels that are as those below

module _ (table : DistanceTable) (marks : List Bool) (marked : AreMarked table marks) (i : ℕ)
    (none : get_or marks (suc i) false ≡ false) where
  same_test : (v w : ℕ) → v < table.nodes → w < table.nodes → nat_le (dist table v w) (2 ^ suc i)
      ≡ nat_le (dist table v w) (2 ^ i)
  same_test v w hv hw = grind (arith, cases_lt, lt-leb, le-leb, pow-suc, none_between)

  same_balls : balls_of table (suc i) ≡ balls_of table i
  same_balls = grind (arith, same_test, passing_same, map_same)

  pub level_above : (network : Network) (covering : Covering) (level : Level)
      → IsLevelOf network table covering i level
      → IsLevelOf network table covering (suc i) (level_with (suc i) (threshold_of (suc i)) level)
  level_above network covering level is = search (rules, same_balls)

sized_above : {n : ℕ} (exponent threshold : ℕ) {level : Level} → exponent ≤ 30 → IsSized n level
    → IsSized n (level_with exponent threshold level)
sized_above exponent threshold few sized =
    record { homes = sized.homes; readers = sized.readers; clusters = sized.clusters; exponent = few }

-- a level that shares the table of the one below
pub levels_shared : {network : Network} {table : DistanceTable} {covering : Covering} (i : ℕ) {t : ℕ}
    (marks : List Bool) {old new : List Level} → AreMarked table marks → 0 < i → i ≤ 30 → get_or marks i false ≡ false
    → AreLevelsOf network table covering i old → t ≡ threshold_of i
    → new ≡ old ++ level_with i t (level_in old (length old - 1)) ∷ [] → AreLevelsOf network table covering (i + 1) new
levels_shared zero marks marked some few none before is now = absurd (omega arith)
levels_shared {network} {table} {covering} (suc i) marks {old} marked some few none before is now =
    let last : length old - 1 ≡ i = omega (arith, before.count_is) in
    levels_more before (level_above table marks marked i none network covering (level_in old i)
    (before.each i (omega arith))) (sized_above (suc i) (threshold_of (suc i)) few
    (before.sized i no_level (omega (arith, before.count_is))))
    (now ∙ ap (λ n. old ++ level_with (suc i) n (level_in old (length old - 1)) ∷ []) is
    ∙ ap (λ j. old ++ level_with (suc i) (threshold_of (suc i)) (level_in old j) ∷ []) last)
