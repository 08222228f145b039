-- What the examples of trails and of costs speak of. Key laws: `worked_costs`, `worked_meetings`,
-- `worked_climbs`, `worked_trails`, `line_tracks`, `line_costs`.
use Rattle.std.specs.Prelude.{ℕ, List, [], ◌∷◌, Some, None}
use Rattle.entry_word.specs.Addresses.{address_word}
use Rattle.entry_word.specs.Marks.{mark_word}
use Rattle.entry_word.specs.declared.address.Address.{Address}
use Rattle.entry_word.specs.declared.mark.PresenceMark.{PresenceMark}
use Rattle.entry_word.specs.declared.mark.PresenceMark.TheVariants.{Empty, Here}
use Rattle.directory.specs.Histories.{History}
use Rattle.directory.specs.Settings.{Setting}
use Rattle.plan_laws.specs.Examples.{line_setting}
use Rattle.stretch_laws.specs.Costs.{IsMet}
use Rattle.trail_laws.specs.Trail.{mark_seen}

-- the subscriber's mark at a node after a history
abbrev pub line_mark : History → ℕ → PresenceMark
line_mark history node = mark_seen line_setting 0 history node

-- after a history a find from a node meets an address at a cluster of a level, where clusters are 3
-- radii wide and a node reads at most 2 of a level
abbrev pub Meets : Setting → ℕ → History → ℕ → ℕ → ℕ → Address → Type 0
Meets setting sub history from level cluster address =
    IsMet setting 3 2 sub history from level cluster address

-- what a find from node 0 reads while the subscriber rests at node 3: nothing at its origin, nothing
-- at the cluster of level 0 that it reads, the address of node 3 at level 1, and there the
-- subscriber
abbrev pub end_words : List ℕ
end_words =
    mark_word Empty ∷ address_word None ∷ address_word (Some (record { number = 0; node = 3 }))
    ∷ mark_word (Here 0) ∷ []
