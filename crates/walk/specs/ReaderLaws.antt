-- Laws of the readers of a node, for proofs. Key laws: `climb-here` (how the climb comes to each),
-- `reads-top` (over a matched plan each node reads the home of each at the top level).
use Rattle.std.proofs.Common.{◌≡◌, ℕ, suc, ◌<◌, List, ◌∷◌, ◌++◌, length, drop, ap, ◌∙◌, arith, drop-cons, Option}
use Rattle.std.specs.Prelude.{slice_index, slice_index_or}
use Rattle.std.proofs.lemmas.List.{get_or-map, length-map}
use Rattle.node_set.specs.Ascending.{has}
use Rattle.directory.specs.Settings.{Setting}
use Rattle.directory.specs.Finds.{Reader, climb, climbs}
use Rattle.region_plan.specs.Plan.{PlanData, level_at, cluster_in, clusters_of, inside, home, top_of}
use Rattle.region_plan.specs.Matched.{IsMatched}
use Rattle.walk.specs.Walks.{readers_at}
use Rattle.node_set.specs.SetLaws.{has-passing}
use Rattle.trail_laws.specs.Rightness.{ReadsTop}
use Rattle.region_plan.specs.Settings.{setting_of}

-- the climb at a reader
pub climb-here : (setting : Setting) (node : ℕ) (known : Option ℕ) (weight level index : ℕ)
    (later : List Reader)
    → index < length (setting.readers level node)
    → climb known weight (drop index (readers_at setting node level) ++ later)
    ≡ climbs known weight
    (record { level = level; cluster = slice_index (setting.readers level node) index })
    (drop (suc index) (readers_at setting node level) ++ later)
climb-here setting node known weight level index later inside =
    let count : length (readers_at setting node level) ≡ length (setting.readers level node) =
    length-map (setting.readers level node) (λ c. record { level = level; cluster = c }) in
    let short : index < length (readers_at setting node level) = omega (arith, inside, count) in
    let first : slice_index_or (readers_at setting node level) index
    (record { level = level; cluster = 0 })
    ≡ record { level = level; cluster = slice_index (setting.readers level node) index } =
    get_or-map (λ c. record { level = level; cluster = c }) (setting.readers level node) index 0
    (record { level = level; cluster = 0 }) inside in
    ap (λ rs. climb known weight (rs ++ later))
    (drop-cons (readers_at setting node level) index (record { level = level; cluster = 0 }) short
    ∙ ap (λ r. r ∷ drop (suc index) (readers_at setting node level)) first)

-- over a matched plan each node reads the home of each node at the top level
pub reads-top : (plan : PlanData) (starts : List ℕ) → IsMatched plan
    → ReadsTop (setting_of plan starts)
reads-top plan starts matched u v below_u below_v =
    rw (
      matched.read (top_of plan) v (omega (arith, matched.some)) below_v,
      has-passing (λ c. has v (cluster_in (level_at plan (top_of plan)).clusters c).members)
          (home plan (top_of plan) u) 0 (clusters_of plan (top_of plan)) (omega arith)
          (omega (arith, matched.homes (top_of plan) u (omega (arith, matched.some)) below_u)),
    )
    (matched.whole v u below_v below_u)
