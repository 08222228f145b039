-- The exponents of distances: of the powers of two that reach each, the least. The balls of a level
-- are the nodes whose exponent is at most the level's, and two levels have the same balls where no
-- distance has the exponent of the upper one. Only the private functions of this crate speak of
-- them.
-- Key law: `Spread::new` makes them of a table of distances (`IsSpreadOf`).
use Rattle.std.specs.Prelude.{◌≡◌, ℕ, Bool, true, false, ◌+◌, ◌*◌, ◌^◌, ◌≤◌, ◌<◌, List, All, slice_index_or, length, nat_le, slice_index}
use Rattle.distances.specs.Table.{DistanceTable, dist}
use Rattle.region_plan.specs.declared.spread.Spread.{Spread}

-- the powers of two that reach the distance are those from this exponent on
abbrev pub IsExponent : ℕ → ℕ → Type 0
IsExponent distance exponent = (i : ℕ) → nat_le exponent i ≡ nat_le distance (2 ^ i)

-- the exponents of the distances from the first so many nodes, laid out as the distances are
abbrev pub AreExponentsTo : DistanceTable → List ℕ → ℕ → Type 0
AreExponentsTo table exponents rows = (u v : ℕ) → u < rows → v < table.nodes
    → IsExponent (dist table u v) (slice_index exponents (u * table.nodes + v))

-- the exponents of all distances
pub record AreExponents (table : DistanceTable) (exponents : List ℕ) : Type 0 where
  pub count : length exponents ≡ table.nodes * table.nodes
  pub few : All (λ e. e ≤ 30) exponents
  pub each : AreExponentsTo table exponents table.nodes

-- the distance has the mark of the exponent whose power of two just reaches it
pub record HasExponent (marks : List Bool) (distance : ℕ) : Type 0 where
  pub exponent : ℕ
  pub marked : slice_index_or marks exponent false ≡ true
  pub reached : distance ≤ 2 ^ exponent
  pub just : 2 ^ exponent < 2 * distance

-- so has each distance between two nodes
abbrev pub AreMarked : DistanceTable → List Bool → Type 0
AreMarked table marks = (u v : ℕ) → u < table.nodes → v < table.nodes → 0 < dist table u v
    → HasExponent marks (dist table u v)

-- the exponents of all distances, and a mark for each of them
pub record IsSpreadOf (table : DistanceTable) (spread : Spread) : Type 0 where
  pub exponents : AreExponents table spread.exponents.items
  pub count : length spread.in_use.items ≡ 31
  pub marked : AreMarked table spread.in_use.items
