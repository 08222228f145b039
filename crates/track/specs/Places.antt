-- Where the code keeps subscribers at the ends of their scripts: a list of nodes, none for those
-- that are off there. Key law: `censuses_are_right` of trail_laws, by its clause that whatever the
-- order, the last census tells where the scripts lead.
use Rattle.std.specs.Prelude.{◌≡◌, ℕ, ◌<◌, if◌then◌else◌, List, length, Option, Some, None, slice_index, slice_index_or}
use Rattle.directory.specs.Orders.{steps_of}
use Rattle.directory.specs.Places.{Place, place_at_end}
use Rattle.scripts.specs.Scripts.{scripts_of}
use Rattle.net_reader.specs.Input.{Contents}

-- the node of a place, if the subscriber is on
abbrev pub node_if_on : Place → Option ℕ
node_if_on place = if place.is_off then None else Some place.node

-- where each subscriber of an input is after its steps
pub record AreLastPlaces (contents : Contents) (places : List (Option ℕ)) : Type 0 where
  pub count : length places ≡ length contents.homes
  pub each : (sub : ℕ) → sub < length contents.homes → slice_index_or places sub None
      ≡ node_if_on (place_at_end (slice_index contents.homes sub)
      (steps_of (scripts_of contents) sub))
