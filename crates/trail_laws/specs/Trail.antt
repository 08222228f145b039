-- What the cells of a subscriber tell, after every legal history and whoever made it: its marks,
-- its addresses, and where the marks lead. Key laws: `marks_tell`, `entries_tell` (what each mark
-- and each address tells), `marks_lead` (from each address the marks lead to where the subscriber
-- stands).
use Rattle.std.specs.Prelude.{◌≡◌, ◌≢◌, ◌⊎◌, ℕ, zero, suc, ◌+◌, ◌-◌, ◌<◌, ◌≤◌, ◌^◌, Bool, true, false, length, Option, Some, None, slice_get}
use Rattle.entry_word.specs.Marks.{mark_in}
use Rattle.entry_word.specs.Addresses.{address_in}
use Rattle.entry_word.specs.declared.address.Address.{Address}
use Rattle.entry_word.specs.declared.mark.PresenceMark.{PresenceMark}
use Rattle.entry_word.specs.declared.mark.PresenceMark.TheVariants.{Empty, Here, Gone, Coming, Off}
use Rattle.entry_word.specs.declared.visit.Key.TheVariants.{Presence, Entry}
use Rattle.directory.specs.Settings.{Setting}
use Rattle.directory.specs.Histories.{History, cell, puts_to}
use Rattle.directory.specs.Courses.{stop}
use Rattle.directory.specs.Puts.{course_in}
use Rattle.directory.specs.Legal.{IsLegal}
use Rattle.directory.specs.Standing.{commits, number, off, standing}
use Rattle.directory.specs.Finds.{is_known}
use Rattle.directory.specs.Parts.{known_after, lead}

-- the mark of a subscriber at a node after a history
abbrev pub mark_seen : Setting → ℕ → History → ℕ → PresenceMark
mark_seen setting sub history node = mark_in (cell setting history (Presence node sub))

-- the entry of a subscriber at a cluster of a level after a history
abbrev pub entry_seen : Setting → ℕ → History → ℕ → ℕ → Option Address
entry_seen setting sub history level cluster =
    address_in (cell setting history (Entry level cluster sub))

-- whether a mark is an answer for a chase that knows so much
abbrev pub answers : Option ℕ → PresenceMark → Bool
answers known Empty = false
answers known (Here number) = true
answers known (Gone number to) = false
answers known (Coming number from) = is_known number known
answers known (Off number) = true

-- marks lead a chase that knows so much from a node to another, where it is answered, in so many
-- hops over ways of this weight
unfoldable pub IsLed : Setting → (ℕ → PresenceMark) → Option ℕ → ℕ → ℕ → ℕ → ℕ → Type 0
IsLed setting marks known node last zero way =
    (node ≡ last) × (answers known (marks node) ≡ true) × (way ≡ 0)
IsLed setting marks known node last (suc hops) way =
    (to : ℕ) × (rest : ℕ) × (lead known (marks node) ≡ Some to)
    × (way ≡ setting.distance node to + rest)
    × IsLed setting marks (known_after known (marks node)) to last hops rest

-- all that is known is at most so much
abbrev pub KnowsAtMost : ℕ → Option ℕ → Type 0
KnowsAtMost most None = Unit {0}
KnowsAtMost most (Some number) = number ≤ most

-- what a mark at a node tells: a Here and an Off where the subscriber stands, its number and its
-- state; a Gone the move with its number, which is committed; a Coming the move under way, which
-- either isn't committed and comes from where the subscriber stands, or is, and was left so
abbrev pub MarkTells : Setting → ℕ → History → ℕ → PresenceMark → Type 0
MarkTells setting sub history node Empty = Unit {0}
MarkTells setting sub history node (Here p) =
    (node ≡ standing setting sub history) × (p ≡ number sub history) × (off sub history ≡ false)
MarkTells setting sub history node (Off p) =
    (node ≡ standing setting sub history) × (p ≡ number sub history) × (off sub history ≡ true)
MarkTells setting sub history node (Gone p to) =
    (1 ≤ p) × (slice_get (commits sub history) (p - 1)
    ≡ Some (record { number = p; from = node; to = to })) × (to < setting.nodes)
MarkTells setting sub history node (Coming p from) =
    (p ≡ length (course_in setting sub (puts_to sub history)).moves)
    × (from < setting.nodes) × (off sub history ≡ false)
    × (((p ≡ suc (number sub history)) × (from ≡ standing setting sub history))
    ⊎ ((p ≡ number sub history) × (node ≡ standing setting sub history)
    × (mark_seen setting sub history from ≡ Gone p node)))

-- what an entry tells: an address is that of a node of the course, at that node's home, and the
-- node has a mark
abbrev pub EntryTells : Setting → ℕ → History → ℕ → ℕ → Option Address → Type 0
EntryTells setting sub history level cluster None = Unit {0}
EntryTells setting sub history level cluster (Some address) =
    (address.node < setting.nodes) × (cluster ≡ setting.home level address.node)
    × (address.number ≤ length (course_in setting sub (puts_to sub history)).moves)
    × (address.node ≡ stop (course_in setting sub (puts_to sub history)) address.number)
    × (mark_seen setting sub history address.node ≢ Empty)

-- each mark tells what it says (`marks_tell`)
abbrev pub MarksTell : Type 0
MarksTell =
    (setting : Setting) (sub : ℕ) (history : History) → setting.nodes ≤ 2 ^ 16
    → IsLegal setting sub history → (node : ℕ) → node < setting.nodes
    → MarkTells setting sub history node (mark_seen setting sub history node)

-- a Coming stands at one node at most (`marks_tell`)
abbrev pub OneComing : Type 0
OneComing =
    (setting : Setting) (sub : ℕ) (history : History) → setting.nodes ≤ 2 ^ 16
    → IsLegal setting sub history → (one other p q u v : ℕ) → one < setting.nodes
    → other < setting.nodes → mark_seen setting sub history one ≡ Coming p u
    → mark_seen setting sub history other ≡ Coming q v → one ≡ other

-- each address tells what it says (`entries_tell`)
abbrev pub EntriesTell : Type 0
EntriesTell =
    (setting : Setting) (sub : ℕ) (history : History) → setting.nodes ≤ 2 ^ 16
    → IsLegal setting sub history → (level cluster : ℕ) → level ≤ setting.top
    → EntryTells setting sub history level cluster (entry_seen setting sub history level cluster)

-- at the top level the home of some node has an address (`entries_tell`)
abbrev pub TopHasEntry : Type 0
TopHasEntry =
    (setting : Setting) (sub : ℕ) (history : History) → setting.nodes ≤ 2 ^ 16
    → IsLegal setting sub history
    → (node : ℕ) × (address : Address) × (node < setting.nodes)
    × (entry_seen setting sub history setting.top (setting.home setting.top node) ≡ Some address)

-- from the node of an address the marks lead to where the subscriber stands, in at most as many
-- hops as there are nodes, when no more is known than its number (`marks_lead`)
abbrev pub AddressesLead : Type 0
AddressesLead =
    (setting : Setting) (sub : ℕ) (history : History) → setting.nodes ≤ 2 ^ 16
    → IsLegal setting sub history → (level cluster : ℕ) (address : Address) (known : Option ℕ)
    → level ≤ setting.top → entry_seen setting sub history level cluster ≡ Some address
    → KnowsAtMost (number sub history) known
    → (hops : ℕ) × (way : ℕ) × (hops ≤ setting.nodes)
    × IsLed setting (mark_seen setting sub history) known address.node
    (standing setting sub history) hops way

-- and so they do from the node that a Coming names (`marks_lead`)
abbrev pub ComingsLead : Type 0
ComingsLead =
    (setting : Setting) (sub : ℕ) (history : History) → setting.nodes ≤ 2 ^ 16
    → IsLegal setting sub history → (node p from : ℕ) (known : Option ℕ) → node < setting.nodes
    → mark_seen setting sub history node ≡ Coming p from → KnowsAtMost (number sub history) known
    → (hops : ℕ) × (way : ℕ) × (hops ≤ setting.nodes)
    × IsLed setting (mark_seen setting sub history) known from (standing setting sub history)
    hops way

-- a chase that follows a Gone with this number meets no lower one, and no Gone that isn't higher;
-- only a Coming, which leads back, may lead to a lower one
abbrev pub GoesUp : ℕ → PresenceMark → Type 0
GoesUp p Empty = Unit {0}
GoesUp p (Here number) = p ≤ number
GoesUp p (Gone number to) = p < number
GoesUp p (Coming number from) = p ≤ number
GoesUp p (Off number) = p ≤ number

-- where a Gone leads, the number goes up (`marks_lead`)
abbrev pub NumbersGoUp : Type 0
NumbersGoUp =
    (setting : Setting) (sub : ℕ) (history : History) → setting.nodes ≤ 2 ^ 16
    → IsLegal setting sub history → (node p to : ℕ) → node < setting.nodes
    → mark_seen setting sub history node ≡ Gone p to
    → GoesUp p (mark_seen setting sub history to)

-- the distances of a setting are those of a network: the same both ways, and no detour is shorter
pub record HasMetric (setting : Setting) : Type 0 where
  pub none : (u : ℕ) → u < setting.nodes → setting.distance u u ≡ 0
  pub both_ways : (u v : ℕ) → u < setting.nodes → v < setting.nodes
      → setting.distance u v ≡ setting.distance v u
  pub detour : (u v w : ℕ) → u < setting.nodes → v < setting.nodes → w < setting.nodes
      → setting.distance u w ≤ setting.distance u v + setting.distance v w
