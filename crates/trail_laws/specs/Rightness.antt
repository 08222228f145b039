-- What a find in a legal history answers: where its subscriber stands, and whether it is off, at
-- the find's last look. A find is made again only where a visit of its subscriber's moves fell
-- within it. Key laws: `answers_are_right`, `again_has_its_cause`, `numbers_never_fall`.
use Rattle.std.specs.Prelude.{◌≡◌, ℕ, ◌<◌, ◌≤◌, ◌^◌, true, false, List}
use Rattle.node_set.specs.Ascending.{has}
use Rattle.directory.specs.Settings.{Setting}
use Rattle.directory.specs.Histories.{History, through}
use Rattle.directory.specs.Legal.{IsLegal}
use Rattle.directory.specs.Finds.{FindCall}
use Rattle.directory.specs.Looks.{first_of, IsFind, IsQuiet, last_of, moves_at}
use Rattle.directory.specs.Standing.{number, off, standing}
use Rattle.directory.specs.declared.answers.Found.{Found}
use Rattle.directory.specs.declared.answers.Found.TheVariants.{At, Off as OffAt, Again}
use Rattle.directory.specs.declared.answers.Why.{Why}

-- an answer is right at a ticket: it names the node where the subscriber stands, its number, and
-- whether it is off
abbrev pub IsRight : Setting → History → ℕ → Found → ℕ → Type 0
IsRight setting history sub (At node q level weight) last =
    (node ≡ standing setting sub (through last history))
    × (q ≡ number sub (through last history)) × (off sub (through last history) ≡ false)
IsRight setting history sub (OffAt node q level weight) last =
    (node ≡ standing setting sub (through last history))
    × (q ≡ number sub (through last history)) × (off sub (through last history) ≡ true)
IsRight setting history sub (Again why weight) last = Unit {0}

-- the number of an answer
abbrev pub HasNumber : Found → ℕ → Type 0
HasNumber (At node q level weight) n = q ≡ n
HasNumber (OffAt node q level weight) n = q ≡ n
HasNumber (Again why weight) n = ⊥

-- a find has its answer, and isn't to be made again
abbrev pub IsAnswered : Found → Type 0
IsAnswered (At node q level weight) = Unit {0}
IsAnswered (OffAt node q level weight) = Unit {0}
IsAnswered (Again why weight) = ⊥

-- each node reads the home of each node at the top level
abbrev pub ReadsTop : Setting → Type 0
ReadsTop setting =
    (u v : ℕ) → u < setting.nodes → v < setting.nodes
    → has (setting.home setting.top u) (setting.readers setting.top v) ≡ true

-- the answers of finds are right (`answers_are_right`)
abbrev pub AnswersAreRight : Type 0
AnswersAreRight =
    (setting : Setting) (history : History) (actor : ℕ) (call : FindCall) (found : Found)
    (tickets : List ℕ) → setting.nodes ≤ 2 ^ 16 → call.from < setting.nodes
    → IsLegal setting call.sub history → IsFind setting history actor call found tickets
    → IsRight setting history call.sub found (last_of tickets)

-- of two finds of a subscriber, the one with the later last look has no lower number, whoever
-- makes them (`numbers_never_fall`)
abbrev pub NumbersNeverFall : Type 0
NumbersNeverFall =
    (setting : Setting) (history : History) (actor other sub from other_from p q : ℕ)
    (found other_found : Found) (tickets other_tickets : List ℕ) → setting.nodes ≤ 2 ^ 16
    → from < setting.nodes → other_from < setting.nodes → IsLegal setting sub history
    → IsFind setting history actor (record { from = from; sub = sub }) found tickets
    → IsFind setting history other (record { from = other_from; sub = sub }) other_found
    other_tickets
    → HasNumber found p → HasNumber other_found q → last_of tickets ≤ last_of other_tickets
    → p ≤ q

-- a quiet find has its answer (`again_has_its_cause`)
abbrev pub QuietFindsAnswer : Type 0
QuietFindsAnswer =
    (setting : Setting) (history : History) (actor : ℕ) (call : FindCall) (found : Found)
    (tickets : List ℕ) → setting.nodes ≤ 2 ^ 16 → ReadsTop setting → call.from < setting.nodes
    → IsLegal setting call.sub history → IsFind setting history actor call found tickets
    → IsQuiet history call.sub (first_of tickets) (last_of tickets) → IsAnswered found

-- where a find is to be made again, a visit of a move of its subscriber fell within it
-- (`again_has_its_cause`)
abbrev pub AgainHasItsCause : Type 0
AgainHasItsCause =
    (setting : Setting) (history : History) (actor : ℕ) (call : FindCall) (why : Why) (weight : ℕ)
    (tickets : List ℕ) → setting.nodes ≤ 2 ^ 16 → ReadsTop setting → call.from < setting.nodes
    → IsLegal setting call.sub history
    → IsFind setting history actor call (Again why weight) tickets
    → (ticket : ℕ) × (first_of tickets ≤ ticket) × (ticket ≤ last_of tickets)
    × (moves_at call.sub history ticket ≡ true)
