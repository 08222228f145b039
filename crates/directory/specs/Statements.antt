-- What the laws of the directory say, by name: each is proved by the public law that is named
-- beside it, and the crates above cite these names.
-- Key laws: `every_order_is_legal` (`PlayedIsLegal`: whatever the order, the history is legal for
-- each subscriber), `commits_are_moves` (`CommitsAreMoves`, `StandsAtStop`) and `read_of_legal`
-- (`MarksAreLeft`, `EntriesAreLeft`: what is read after a legal history).
use Rattle.std.specs.Prelude.{◌≡◌, ℕ, ◌<◌, ◌≤◌, ◌^◌, ◌==◌, All, List, [], ◌∷◌, ◌++◌, Some, length, map, take, fold, filter_map, option_map, option_to_list, replicate, slice_get, slice_index, false, ◌↔◌, true, cond}
use Rattle.entry_word.specs.Marks.{mark_in, says_here}
use Rattle.entry_word.specs.Addresses.{address_in}
use Rattle.entry_word.specs.declared.visit.Key.{Key}
use Rattle.entry_word.specs.declared.visit.Key.TheVariants.{Presence, Entry}
use Rattle.entry_word.specs.declared.visit.Visit.{Visit}
use Rattle.directory.specs.Settings.{Setting, subs}
use Rattle.directory.specs.Keys.{key_sub, opening, same_key}
use Rattle.directory.specs.Histories.{History, cell, own, puts_to, tickets, word_after, IsFront}
use Rattle.directory.specs.Courses.{Course, MayStep, Step, after_steps, stop, move_to}
use Rattle.directory.specs.Writes.{step_writes, visit_of, visits, writes, most_writes}
use Rattle.directory.specs.Finds.{FindCall, after_word, answer_of, Pursuit, key_of, looks_left}
use Rattle.directory.specs.Looks.{look_by}
use Rattle.directory.specs.Puts.{course_in, ends_off, mark_put, mark_step, node_put, puts_left, steps_in}
use Rattle.directory.specs.Amid.{IsAmid}
use Rattle.directory.specs.Legal.{ArePuts, IsLegal, IsScript}
use Rattle.directory.specs.States.{entry_left, mark_left, write_commit, write_off, writes_made}
use Rattle.directory.specs.Standing.{commit_by, commits, number, off, standing}
use Rattle.directory.specs.Orders.{after_read, after_turns, AreValid, caller_in, history_of, IsDone, IsPlayed, last_turns, most_turns, next, script_visits, Scripts, steps_of}
use Rattle.directory.specs.Outcomes.{caller_lines, FollowEachOther, found_line, IsMade, outcome_in, step_line, step_lines}
use Rattle.node_set.specs.Ascending.{IsAscending, has}
use Rattle.directory.specs.Census.{census}

-- a cell is told by the puts for its subscriber alone (`cell_of_puts`)
abbrev pub CellsOfPuts : Type 0
CellsOfPuts =
    (setting : Setting) (history : History) (key : Key)
    → cell setting history key ≡ cell setting (puts_to (key_sub key) history) key

-- two keys are the same just where the test says so (`same_key_means`)
abbrev pub SameKey : Type 0
SameKey = (one other : Key) → (same_key one other ≡ true) ↔ (one ≡ other)

-- a visit changes what a cell holds by its act alone (`cell_after`)
abbrev pub CellAfter : Type 0
CellAfter =
    (setting : Setting) (history : History) (visit : Visit) (key : Key)
    → cell setting (history ++ visit ∷ []) key
    ≡ word_after key (cell setting history key) visit.act

-- a visit adds to the visits of its own actor (`own_after`)
abbrev pub OwnGrow : Type 0
OwnGrow =
    (actor : ℕ) (history : History) (visit : Visit)
    → own actor (history ++ visit ∷ [])
    ≡ own actor history ++ cond (visit.actor == actor) (visit ∷ []) []

-- and its ticket to the tickets of that actor (`own_after`)
abbrev pub TicketsGrow : Type 0
TicketsGrow =
    (actor : ℕ) (history : History) (visit : Visit)
    → tickets actor (history ++ visit ∷ [])
    ≡ tickets actor history ++ cond (visit.actor == actor) (length history ∷ []) []

-- the tickets of an actor are those of all its visits (`tickets_tell`)
abbrev pub TicketsAreOwn : Type 0
TicketsAreOwn =
    (actor : ℕ) (history : History)
    → map (slice_get history) (tickets actor history) ≡ map Some (own actor history)

-- and they ascend (`tickets_tell`)
abbrev pub TicketsAscend : Type 0
TicketsAscend = (actor : ℕ) (history : History) → IsAscending (tickets actor history)

-- a history begins with itself (`histories_begin`)
abbrev pub BeginsWithItself : Type 0
BeginsWithItself = (history : History) → IsFront history history

-- a longer history begins with its front (`histories_begin`)
abbrev pub BeginsWithFront : Type 0
BeginsWithFront = (history more : History) → IsFront history (history ++ more)

-- and with what its front begins with (`histories_begin`)
abbrev pub BeginsThrough : Type 0
BeginsThrough =
    (one two three : History) → IsFront one two → IsFront two three → IsFront one three

-- no move has more writes than the most (`moves_are_short`)
abbrev pub MovesAreShort : Type 0
MovesAreShort =
    (setting : Setting) (course : Course) (node : ℕ)
    → length (step_writes setting course (move_to node)) ≤ most_writes setting

-- each look of a find leaves fewer (`looks_fall`)
abbrev pub LooksFall : Type 0
LooksFall =
    (setting : Setting) (call : FindCall) (pursuit : Pursuit) (word : ℕ) (key : Key)
    → key_of call pursuit ≡ Some key
    → looks_left setting call (after_word setting call pursuit word)
    < looks_left setting call pursuit

-- a census lists just the subscribers whose presence cell at the node says that they are here
-- (`census_members`)
abbrev pub CensusIsMark : Type 0
CensusIsMark =
    (setting : Setting) (history : History) (node sub : ℕ) → sub < subs setting
    → has sub (census setting history node)
    ≡ says_here (mark_in (cell setting history (Presence node sub)))

-- one more next visit keeps that each visit was the next one (`each_visit_is_next`)
abbrev pub MoreIsPlayed : Type 0
MoreIsPlayed =
    (setting : Setting) (scripts : Scripts) (history : History) (actor : ℕ) (visit : Visit)
    → next setting scripts history actor ≡ Some visit → IsPlayed setting scripts history
    → IsPlayed setting scripts (history ++ visit ∷ [])

-- a history that is played to its end is that of the order of its actors (`order_of_history`)
abbrev pub OrdersAreOwn : Type 0
OrdersAreOwn =
    (setting : Setting) (scripts : Scripts) (history : History) → IsPlayed setting scripts history
    → ((actor : ℕ) → IsDone setting scripts history actor)
    → history_of setting scripts (map (λ (visit : Visit). visit.actor) history) ≡ history

-- a front of legal puts is legal (`front_is_legal`)
abbrev pub FrontsAreLegal : Type 0
FrontsAreLegal =
    (setting : Setting) (sub : ℕ) (puts : List Visit) (k : ℕ) → setting.nodes ≤ 2 ^ 16
    → k ≤ length puts → ArePuts setting sub puts → ArePuts setting sub (take k puts)

-- the first visits of steps that may be made are legal, however many (`script_is_legal`)
abbrev pub ScriptsAreLegal : Type 0
ScriptsAreLegal =
    (setting : Setting) (sub : ℕ) (steps : List Step) (k : ℕ) → setting.nodes ≤ 2 ^ 16
    → IsScript setting sub steps → ArePuts setting sub (take k (visits setting sub steps))

-- the next put of a step under way keeps puts legal (`legal_next`)
abbrev pub DueIsLegal : Type 0
DueIsLegal =
    (setting : Setting) (sub : ℕ) (puts : List Visit) (visit : Visit) → setting.nodes ≤ 2 ^ 16
    → ArePuts setting sub puts
    → slice_get (visits setting sub (steps_in puts)) (length puts) ≡ Some visit
    → ArePuts setting sub (puts ++ visit ∷ [])

-- and so does, at rest, the first put of a step that may come (`legal_next`)
abbrev pub BeginningIsLegal : Type 0
BeginningIsLegal =
    (setting : Setting) (sub : ℕ) (puts : List Visit) (step : Step) (visit : Visit)
    → setting.nodes ≤ 2 ^ 16 → ArePuts setting sub puts
    → length puts ≡ length (visits setting sub (steps_in puts))
    → MayStep setting (course_in setting sub puts) step
    → slice_get (map (visit_of sub) (writes setting (course_in setting sub puts) (step ∷ []))) 0
    ≡ Some visit
    → ArePuts setting sub (puts ++ visit ∷ [])

-- while a step isn't done, the puts so far decide on the next one (`next_is_decided`)
abbrev pub NextIsDecided : Type 0
NextIsDecided =
    (setting : Setting) (sub : ℕ) (puts : List Visit) (visit : Visit)
    → length puts < length (visits setting sub (steps_in puts))
    → ArePuts setting sub (puts ++ visit ∷ [])
    → slice_get (visits setting sub (steps_in puts)) (length puts) ≡ Some visit

-- what is read in a cell after a legal history is what the writes that are made have left there,
-- and it fits into its word (`read_of_legal`)
abbrev pub MarksAreLeft : Type 0
MarksAreLeft =
    (setting : Setting) (sub : ℕ) (history : History) → setting.nodes ≤ 2 ^ 16
    → IsLegal setting sub history → (node : ℕ)
    → mark_in (cell setting history (Presence node sub))
    ≡ mark_left setting sub (writes_made setting sub (puts_to sub history)) node

-- and so it is of entries (`read_of_legal`)
abbrev pub EntriesAreLeft : Type 0
EntriesAreLeft =
    (setting : Setting) (sub : ℕ) (history : History) → setting.nodes ≤ 2 ^ 16
    → IsLegal setting sub history → (level cluster : ℕ)
    → address_in (cell setting history (Entry level cluster sub))
    ≡ entry_left setting sub (writes_made setting sub (puts_to sub history)) level cluster

-- the writes tell the commits (`told_by_writes`)
abbrev pub CommitsAreTold : Type 0
CommitsAreTold =
    (setting : Setting) (sub : ℕ) (history : History) → setting.nodes ≤ 2 ^ 16
    → IsLegal setting sub history
    → commits sub history
    ≡ filter_map write_commit (writes_made setting sub (puts_to sub history))

-- and whether the subscriber is off (`told_by_writes`)
abbrev pub OffIsTold : Type 0
OffIsTold =
    (setting : Setting) (sub : ℕ) (history : History) → setting.nodes ≤ 2 ^ 16
    → IsLegal setting sub history
    → off sub history
    ≡ fold (λ last write. write_off write) false
    (writes_made setting sub (puts_to sub history))

-- the commits of a legal history are the first moves of its course (`commits_are_moves`)
abbrev pub CommitsAreMoves : Type 0
CommitsAreMoves =
    (setting : Setting) (sub : ℕ) (history : History) → setting.nodes ≤ 2 ^ 16
    → IsLegal setting sub history
    → (number sub history ≤ length (course_in setting sub (puts_to sub history)).moves)
    × (commits sub history
    ≡ map commit_by (take (number sub history) (course_in setting sub (puts_to sub history)).moves))

-- so a subscriber stands at the stop of its course with its number (`commits_are_moves`)
abbrev pub StandsAtStop : Type 0
StandsAtStop =
    (setting : Setting) (sub : ℕ) (history : History) → setting.nodes ≤ 2 ^ 16
    → IsLegal setting sub history
    → standing setting sub history
    ≡ stop (course_in setting sub (puts_to sub history)) (number sub history)

-- each visit of the history of an order was its actor's next one (`each_visit_is_next`)
abbrev pub OrdersArePlayed : Type 0
OrdersArePlayed =
    (setting : Setting) (scripts : Scripts) (order : List ℕ)
    → IsPlayed setting scripts (history_of setting scripts order)

-- at the end of an order all scripts are done (`all_scripts_done`)
abbrev pub OrdersAreDone : Type 0
OrdersAreDone =
    (setting : Setting) (scripts : Scripts) (order : List ℕ) (actor : ℕ)
    → IsDone setting scripts (history_of setting scripts order) actor

-- a history in which each visit was its actor's next one is that of the order of its actors, once
-- the visits that are left are made (`order_of_history`)
abbrev pub HistoriesAreOrdered : Type 0
HistoriesAreOrdered =
    (setting : Setting) (scripts : Scripts) (history : History) → IsPlayed setting scripts history
    → history_of setting scripts (map (λ visit. visit.actor) history)
    ≡ after_turns setting scripts history (last_turns setting scripts)

-- what is put for a subscriber are its own visits (`scripts_in_order`)
abbrev pub OwnPutsAlone : Type 0
OwnPutsAlone =
    (setting : Setting) (scripts : Scripts) (history : History) (sub : ℕ) → sub < subs setting
    → IsPlayed setting scripts history → puts_to sub history ≡ own sub history

-- and these are the first of its script, in order (`scripts_in_order`)
abbrev pub ScriptsInOrder : Type 0
ScriptsInOrder =
    (setting : Setting) (scripts : Scripts) (history : History) (sub : ℕ) → sub < subs setting
    → IsPlayed setting scripts history
    → own sub history ≡ take (length (own sub history)) (script_visits setting scripts sub)

-- such a history is legal for each subscriber (`every_order_is_legal`)
abbrev pub PlayedIsLegal : Type 0
PlayedIsLegal =
    (setting : Setting) (scripts : Scripts) (history : History) (sub : ℕ)
    → setting.nodes ≤ 2 ^ 16 → AreValid setting scripts → sub < subs setting
    → IsPlayed setting scripts history → IsLegal setting sub history

-- a subscriber whose script is done has nothing left to put (`done_is_rest`)
abbrev pub DoneIsRest : Type 0
DoneIsRest =
    (setting : Setting) (scripts : Scripts) (history : History) (sub : ℕ)
    → setting.nodes ≤ 2 ^ 16 → AreValid setting scripts → sub < subs setting
    → IsPlayed setting scripts history → IsDone setting scripts history sub
    → puts_left setting sub (puts_to sub history) ≡ []

-- and its puts show all steps of its script (`done_is_rest`)
abbrev pub DoneShowsScript : Type 0
DoneShowsScript =
    (setting : Setting) (scripts : Scripts) (history : History) (sub : ℕ)
    → setting.nodes ≤ 2 ^ 16 → AreValid setting scripts → sub < subs setting
    → IsPlayed setting scripts history → IsDone setting scripts history sub
    → steps_in (puts_to sub history) ≡ steps_of scripts sub

-- where nobody moves or switches, each cell holds its opening word (`rest_keeps_opening`)
abbrev pub RestKeepsOpening : Type 0
RestKeepsOpening =
    (setting : Setting) (scripts : Scripts) (history : History) (key : Key)
    → ((sub : ℕ) → steps_of scripts sub ≡ []) → IsPlayed setting scripts history
    → cell setting history key ≡ opening setting key

-- each line of an outcome is tied to its visits (`lines_are_made`)
abbrev pub LinesAreMade : Type 0
LinesAreMade =
    (setting : Setting) (scripts : Scripts) (history : History) → IsPlayed setting scripts history
    → ((actor : ℕ) → IsDone setting scripts history actor)
    → All (IsMade setting scripts history) (outcome_in setting scripts history).calls

-- the finds of a caller lie one after another (`lines_are_made`)
abbrev pub FindsFollow : Type 0
FindsFollow =
    (setting : Setting) (scripts : Scripts) (history : History) (actor : ℕ)
    → subs setting ≤ actor → IsPlayed setting scripts history
    → FollowEachOther 0 (caller_in setting scripts history actor).answers

-- legal puts are so far with the steps that they begin (`legal_is_amid`)
abbrev pub LegalIsAmid : Type 0
LegalIsAmid =
    (setting : Setting) (sub : ℕ) (puts : List Visit) → setting.nodes ≤ 2 ^ 16
    → ArePuts setting sub puts → IsAmid setting sub puts

-- a put that begins a step comes where the steps before are done (`steps_begin_at_rest`)
abbrev pub StepsBeginAtRest : Type 0
StepsBeginAtRest =
    (setting : Setting) (sub : ℕ) (puts : List Visit) (visit : Visit) (step : Step)
    → setting.nodes ≤ 2 ^ 16 → ArePuts setting sub puts → ArePuts setting sub (puts ++ visit ∷ [])
    → mark_step (ends_off puts) (node_put visit.act) (mark_put visit.act) ≡ Some step
    → length puts ≡ length (visits setting sub (steps_in puts))

-- an actor that isn't done has made fewer visits than it may (`turns_are_few`)
abbrev pub TurnsAreFew : Type 0
TurnsAreFew =
    (setting : Setting) (scripts : Scripts) (history : History) (actor : ℕ) (visit : Visit)
    → IsPlayed setting scripts history → next setting scripts history actor ≡ Some visit
    → length (own actor history) < most_turns setting scripts actor

-- the turns of an actor until it is done make what all that it may have make (`turns_are_few`)
abbrev pub TurnsEndAlike : Type 0
TurnsEndAlike =
    (setting : Setting) (scripts : Scripts) (history : History) (actor k : ℕ)
    → IsPlayed setting scripts history
    → IsDone setting scripts (after_turns setting scripts history (replicate k actor)) actor
    → after_turns setting scripts history (replicate k actor)
    ≡ after_turns setting scripts history (replicate (most_turns setting scripts actor) actor)

-- a step of a subscriber adds its line, once all its visits have tickets (`lines_grow`)
abbrev pub StepLinesGrow : Type 0
StepLinesGrow =
    (setting : Setting) (sub : ℕ) (course : Course) (done : List Step) (step : Step)
    (seen more : List ℕ) → length seen ≡ length (writes setting course done)
    → length more ≡ length (step_writes setting (after_steps setting course done) step)
    → step_lines setting sub course (done ++ step ∷ []) (seen ++ more)
    ≡ step_lines setting sub course done seen
    ++ step_line setting sub (after_steps setting course done) step more ∷ []

-- a look of a caller takes it on by the word that it reads (`lines_grow`)
abbrev pub CallersRead : Type 0
CallersRead =
    (setting : Setting) (scripts : Scripts) (history : History) (actor : ℕ) (key : Key)
    → caller_in setting scripts (history ++ look_by actor key ∷ []) actor
    ≡ after_read setting (caller_in setting scripts history actor) (cell setting history key)

-- and adds a line where the find has its answer: with the ticket of its first look, and the
-- look's own (`lines_grow`)
abbrev pub CallerLinesGrow : Type 0
CallerLinesGrow =
    (setting : Setting) (scripts : Scripts) (history : History) (actor : ℕ) (key : Key)
    (call : FindCall) (later : List FindCall)
    → subs setting ≤ actor → IsPlayed setting scripts history
    → (caller_in setting scripts history actor).calls ≡ call ∷ later
    → caller_lines setting scripts (history ++ look_by actor key ∷ []) actor
    ≡ caller_lines setting scripts history actor
    ++ option_to_list (option_map (λ found. found_line actor call found
    (slice_index (tickets actor history ++ length history ∷ [])
    (caller_in setting scripts history actor).first) (length history))
    (answer_of (after_word setting call (caller_in setting scripts history actor).pursuit
    (cell setting history key))))

-- a visit of another changes nothing of a caller (`lines_grow`)
abbrev pub CallersKept : Type 0
CallersKept =
    (setting : Setting) (scripts : Scripts) (history : History) (actor : ℕ) (visit : Visit)
    → (visit.actor == actor) ≡ false
    → (caller_in setting scripts (history ++ visit ∷ []) actor
    ≡ caller_in setting scripts history actor)
    × (tickets actor (history ++ visit ∷ []) ≡ tickets actor history)

-- the place of a caller's next look is how many tickets it has, and a find's first look isn't
-- later (`lines_grow`)
abbrev pub CallersCount : Type 0
CallersCount =
    (setting : Setting) (scripts : Scripts) (history : History) (actor : ℕ)
    → subs setting ≤ actor → IsPlayed setting scripts history
    → ((caller_in setting scripts history actor).next ≡ length (tickets actor history))
    × ((caller_in setting scripts history actor).first
    ≤ (caller_in setting scripts history actor).next)
