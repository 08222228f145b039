-- Which lines a report has: one for each call of the input, by actor and in the order of its
-- script. A move's line names its actor, its number, from where and to where it went; a switch's
-- whether it went off, where, and after how many moves; a find's its caller, its origin and whom it
-- looked for.
-- Key laws: `own_reports_are_sound_texts` of own_reports; `sound_reports` and `unsound_reports`
-- (computed).
use Rattle.std.specs.Prelude.{◌≡◌, ℕ, suc, true, false, List, [], ◌∷◌, ◌++◌, slice_index}
use Rattle.directory.specs.declared.answers.Done.{Done}
use Rattle.directory.specs.declared.answers.Done.TheVariants.{Moved, Switched, Found, Off, Again}
use Rattle.net_reader.specs.declared.said.Call.{Call}
use Rattle.net_reader.specs.declared.said.Call.TheVariants as calls

-- the line is that of a find of this caller, from a node and of a subscriber
abbrev pub IsFindBy : ℕ → ℕ → ℕ → Done → Type 0
IsFindBy caller from sub (Moved actor number left to weight first commit last) = ⊥
IsFindBy caller from sub (Switched actor off node number ticket) = ⊥
IsFindBy caller from sub (Found actor origin other node number level weight first last) =
    (actor ≡ caller) × (origin ≡ from) × (other ≡ sub)
IsFindBy caller from sub (Off actor origin other node number level weight first last) =
    (actor ≡ caller) × (origin ≡ from) × (other ≡ sub)
IsFindBy caller from sub (Again actor origin other why weight first last) =
    (actor ≡ caller) × (origin ≡ from) × (other ≡ sub)

-- the line is that of a call of an actor that stands at this node, after so many moves
abbrev pub IsLineOf : ℕ → ℕ → ℕ → Call → Done → Type 0
IsLineOf actor node number (calls.Move to) line =
    (weight first commit last : ℕ)
    × (line ≡ Moved actor (suc number) node to weight first commit last)
IsLineOf actor node number (calls.Find from sub) line = IsFindBy actor from sub line
IsLineOf actor node number calls.Off line =
    (ticket : ℕ) × (line ≡ Switched actor true node number ticket)
IsLineOf actor node number calls.On line =
    (ticket : ℕ) × (line ≡ Switched actor false node number ticket)

-- where an actor stands after a call
abbrev pub node_after : ℕ → Call → ℕ
node_after node (calls.Move to) = to
node_after node call = node

-- how many moves it has made after a call
abbrev pub number_after : ℕ → Call → ℕ
number_after number (calls.Move to) = suc number
number_after number call = number

-- these are the lines of an actor's calls, made from a node and after so many moves on
abbrev pub AreLinesOf : ℕ → ℕ → ℕ → List Call → List Done → Type 0
AreLinesOf actor node number [] lines = lines ≡ []
AreLinesOf actor node number (call ∷ script) lines =
    (line : Done) × (later : List Done) × (lines ≡ line ∷ later)
    × IsLineOf actor node number call line
    × AreLinesOf actor (node_after node call) (number_after number call) script later

-- these are the lines of scripts, one actor's after another's, the first of which is this one
abbrev pub AreLinesFrom : List ℕ → ℕ → List (List Call) → List Done → Type 0
AreLinesFrom homes actor [] lines = lines ≡ []
AreLinesFrom homes actor (script ∷ scripts) lines =
    (own : List Done) × (later : List Done) × (lines ≡ own ++ later)
    × AreLinesOf actor (slice_index homes actor) 0 script own
    × AreLinesFrom homes (suc actor) scripts later
