-- How far the marks of a subscriber lead, after every legal history: no level has gathered its
-- threshold, so that a node is near whose home has an address, and the way along the marks from
-- that address is short.
-- Key laws: `levels_stay_near`, `marks_lead_shortly`, `passage_is_open`.
use Rattle.std.specs.Prelude.{◌≡◌, ℕ, ◌+◌, ◌*◌, ◌<◌, ◌≤◌, ◌^◌, Option, Some, None}
use Rattle.entry_word.specs.declared.address.Address.{Address}
use Rattle.entry_word.specs.declared.mark.PresenceMark.TheVariants.{Coming}
use Rattle.directory.specs.Settings.{Setting}
use Rattle.directory.specs.Histories.{History}
use Rattle.directory.specs.Legal.{IsLegal}
use Rattle.directory.specs.Standing.{number, passage, standing}
use Rattle.trail_laws.specs.Trail.{entry_seen, IsLed, HasMetric, KnowsAtMost, mark_seen}

-- no level is renewed before it has gathered something
abbrev pub GathersSome : Setting → Type 0
GathersSome setting = (level : ℕ) → level ≤ setting.top → 1 ≤ setting.threshold level

-- a subscriber stands at a node of the network (`levels_stay_near`)
abbrev pub StandsInside : Type 0
StandsInside =
    (setting : Setting) (sub : ℕ) (history : History) → setting.nodes ≤ 2 ^ 16
    → IsLegal setting sub history → standing setting sub history < setting.nodes

-- each level has an address at the home of a node that is less than the level's threshold from
-- where the subscriber stands (`levels_stay_near`)
abbrev pub LevelsStayNear : Type 0
LevelsStayNear =
    (setting : Setting) (sub : ℕ) (history : History) → setting.nodes ≤ 2 ^ 16 → HasMetric setting
    → GathersSome setting → IsLegal setting sub history → (level : ℕ) → level ≤ setting.top
    → (node : ℕ) × (address : Address) × (node < setting.nodes)
    × (setting.distance node (standing setting sub history) < setting.threshold level)
    × (entry_seen setting sub history level (setting.home level node) ≡ Some address)

-- where the passage of the last commit is open, it weighs at most so much
abbrev pub IsOpenAtMost : Setting → ℕ → History → ℕ → Type 0
IsOpenAtMost setting sub history pass =
    (p from : ℕ)
    → mark_seen setting sub history (standing setting sub history) ≡ Coming p from
    → p ≡ number sub history → setting.distance from (standing setting sub history) ≤ pass

-- from the node of an address of a level the marks lead to where the subscriber stands, on a way of
-- less than twice the level's threshold, their distance and twice the open passage
-- (`marks_lead_shortly`)
abbrev pub AddressesLeadShortly : Type 0
AddressesLeadShortly =
    (setting : Setting) (sub : ℕ) (history : History) → setting.nodes ≤ 2 ^ 16 → HasMetric setting
    → GathersSome setting → IsLegal setting sub history
    → (level cluster : ℕ) (address : Address) (known : Option ℕ) (pass : ℕ) → level ≤ setting.top
    → entry_seen setting sub history level cluster ≡ Some address
    → KnowsAtMost (number sub history) known → IsOpenAtMost setting sub history pass
    → (hops : ℕ) × (way : ℕ) × (hops ≤ setting.nodes)
    × IsLed setting (mark_seen setting sub history) known address.node
    (standing setting sub history) hops way
    × (way + 2 ≤ 2 * setting.threshold level
    + setting.distance address.node (standing setting sub history) + 2 * pass)

-- from the node that a Coming names they do so too; the way there and on is at most the distance
-- and twice the open passage (`marks_lead_shortly`)
abbrev pub ComingsLeadShortly : Type 0
ComingsLeadShortly =
    (setting : Setting) (sub : ℕ) (history : History) → setting.nodes ≤ 2 ^ 16 → HasMetric setting
    → IsLegal setting sub history → (node p from pass : ℕ) → node < setting.nodes
    → mark_seen setting sub history node ≡ Coming p from → IsOpenAtMost setting sub history pass
    → (hops : ℕ) × (way : ℕ) × (hops ≤ setting.nodes)
    × IsLed setting (mark_seen setting sub history) None from (standing setting sub history) hops
    way
    × (setting.distance node from + way
    ≤ setting.distance node (standing setting sub history) + 2 * pass)

-- a Coming whose move is committed leaves its passage open (`passage_is_open`)
abbrev pub PassagesAreOpen : Type 0
PassagesAreOpen =
    (setting : Setting) (sub : ℕ) (history : History) → setting.nodes ≤ 2 ^ 16
    → IsLegal setting sub history → (node p from : ℕ) → node < setting.nodes
    → mark_seen setting sub history node ≡ Coming p from → p ≡ number sub history
    → passage setting sub history ≡ setting.distance from node
