-- What the lines of an outcome say of the history that they come from. A find that answers names
-- the node where its subscriber stood at the find's last visit; a find that is to be made again had
-- a visit of a move of its subscriber within it. Key laws: `outcomes_are_right` (so it is for every
-- order of valid scripts), `lines_are_in_turn` (each of a caller's lines begins behind the one
-- before).
use Rattle.std.specs.Prelude.{◌≡◌, ℕ, ◌<◌, ◌≤◌, ◌^◌, true, All, IfSome, IsSomeAnd, List, Some, slice_get}
use Rattle.directory.specs.Settings.{Setting}
use Rattle.directory.specs.Histories.{History}
use Rattle.directory.specs.Looks.{moves_at}
use Rattle.directory.specs.Orders.{AreValid, IsPlayed, Scripts, history_of}
use Rattle.directory.specs.Outcomes.{outcome_in, outcome_of}
use Rattle.directory.specs.CallLines.{actor_of, find_of}
use Rattle.directory.specs.declared.answers.FindLine.{FindLine}
use Rattle.directory.specs.declared.answers.Found.{Found}
use Rattle.directory.specs.declared.answers.Found.TheVariants.{At, Off as OffAt, Again}
use Rattle.directory.specs.declared.answers.Done.{Done}
use Rattle.trail_laws.specs.Rightness.{HasNumber, IsRight, ReadsTop}

-- what was answered to a find with this first visit and this last is right: an answer at the last
-- visit; and where the find is to be made again, a visit of a move of its subscriber fell within it
abbrev pub IsRightFind : Setting → History → ℕ → Found → ℕ → ℕ → Type 0
IsRightFind setting history sub (At node n level weight) first last =
    IsRight setting history sub (At node n level weight) last
IsRightFind setting history sub (OffAt node n level weight) first last =
    IsRight setting history sub (OffAt node n level weight) last
IsRightFind setting history sub (Again why weight) first last =
    (ticket : ℕ) × (first ≤ ticket) × (ticket ≤ last) × (moves_at sub history ticket ≡ true)

-- what a line says of its find, if it tells of one, is right
abbrev pub IsRightLine : Setting → History → Done → Type 0
IsRightLine setting history line =
    IfSome (find_of line)
    (λ find. IsRightFind setting history find.sub find.found find.first find.last)

-- the lines of every order of valid scripts are right (`outcomes_are_right`)
abbrev pub OutcomesAreRight : Type 0
OutcomesAreRight =
    (setting : Setting) (scripts : Scripts) (order : List ℕ) → setting.nodes ≤ 2 ^ 16
    → ReadsTop setting → AreValid setting scripts
    → All (IsRightLine setting (history_of setting scripts order))
    (outcome_of setting scripts order).calls

-- a line tells a number of a subscriber, at a ticket: that of its find's last visit
abbrev pub TellsNumber : Done → ℕ → ℕ → ℕ → Type 0
TellsNumber line s q ticket =
    IsSomeAnd (find_of line)
    (λ find. (find.sub ≡ s) × HasNumber find.found q × (find.last ≡ ticket))

-- of two lines that tell a number of a subscriber, whoever looked for it, the one with the later
-- last visit tells no lower number
abbrev pub TellRisingNumbers : List Done → Type 0
TellRisingNumbers calls =
    (i j : ℕ) (one other : Done) → slice_get calls i ≡ Some one → slice_get calls j ≡ Some other
    → (sub p q earlier later : ℕ) → TellsNumber one sub p earlier
    → TellsNumber other sub q later → earlier ≤ later → p ≤ q

-- so they do under every order of valid scripts (`outcomes_are_right`)
abbrev pub NumbersRise : Type 0
NumbersRise =
    (setting : Setting) (scripts : Scripts) (order : List ℕ) → setting.nodes ≤ 2 ^ 16
    → AreValid setting scripts → TellRisingNumbers (outcome_of setting scripts order).calls

-- of two lines of an actor's finds, whatever they answer, the one that comes later begins behind
-- the last visit of the other, and doesn't end before it begins; so along one actor's finds of a
-- subscriber the numbers never fall
abbrev pub TellInTurn : List Done → Type 0
TellInTurn calls =
    (i j : ℕ) (one other : Done) → i < j → slice_get calls i ≡ Some one
    → slice_get calls j ≡ Some other → actor_of one ≡ actor_of other
    → (earlier later : FindLine) → find_of one ≡ Some earlier → find_of other ≡ Some later
    → (earlier.last < later.first) × (later.first ≤ later.last)

-- so they do in the outcome of every history of scripts (`lines_are_in_turn`)
abbrev pub LinesAreInTurn : Type 0
LinesAreInTurn =
    (setting : Setting) (scripts : Scripts) (history : History) → IsPlayed setting scripts history
    → TellInTurn (outcome_in setting scripts history).calls
