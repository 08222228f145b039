-- Puts that are made again. Who doesn't know whether its last put arrived makes it again; no cell
-- is changed by that, so that all reads are those of the history without such puts, in which each
-- find has its looks and its answer.
-- Key laws: `repeats_change_nothing` (cells and reads stay), `finds_stay_without_repeats`.
use Rattle.std.specs.Prelude.{◌≡◌, ℕ, ◌==◌, ◌&&◌, Bool, false, if◌then◌else◌, List, [], ◌∷◌, ◌++◌, fold, length, map}
use Rattle.entry_word.specs.declared.visit.Key.{Key}
use Rattle.entry_word.specs.declared.visit.Act.{Act}
use Rattle.entry_word.specs.declared.visit.Act.TheVariants.{Look, Put, Census}
use Rattle.entry_word.specs.declared.visit.Visit.{Visit}
use Rattle.directory.specs.Settings.{Setting}
use Rattle.directory.specs.Keys.{key_sub, same_key}
use Rattle.directory.specs.Histories.{History, before, cell, puts_to, words_read}
use Rattle.directory.specs.Finds.{FindCall}
use Rattle.directory.specs.Looks.{IsFind}
use Rattle.directory.specs.declared.answers.Found.{Found}

-- whether an act puts this word into this cell
abbrev pub puts_it : Key → ℕ → Act → Bool
puts_it key word (Look other) = false
puts_it key word (Put other new) = same_key key other && word == new
puts_it key word (Census node) = false

-- whether the last of some puts puts this word into this cell
abbrev pub ends_with : Key → ℕ → List Visit → Bool
ends_with key word puts = fold (λ last visit. puts_it key word visit.act) false puts

-- whether an act makes the last put of its subscriber again
abbrev pub is_repeat : History → Act → Bool
is_repeat seen (Look key) = false
is_repeat seen (Put key word) = ends_with key word (puts_to (key_sub key) seen)
is_repeat seen (Census node) = false

-- what is kept of a history with one visit more
abbrev pub keep : History → Visit → History
keep kept visit = if is_repeat kept visit.act then kept else kept ++ visit ∷ []

-- a history without the puts that are made again
abbrev pub without_repeats : History → History
without_repeats history = fold keep [] history

-- the ticket there of a visit that is kept
abbrev pub ticket_there : History → ℕ → ℕ
ticket_there history ticket = length (without_repeats (before ticket history))

-- each cell holds the same after a history and without the repeats (`repeats_change_nothing`)
abbrev pub CellsStay : Type 0
CellsStay =
    (setting : Setting) (history : History) (key : Key)
    → cell setting (without_repeats history) key ≡ cell setting history key

-- and each actor reads the same (`repeats_change_nothing`)
abbrev pub ReadsStay : Type 0
ReadsStay =
    (setting : Setting) (history : History) (actor : ℕ)
    → words_read setting actor (without_repeats history) ≡ words_read setting actor history

-- a find of a history is one of the history without the repeats, with the same answer
-- (`finds_stay_without_repeats`)
abbrev pub FindsStay : Type 0
FindsStay =
    (setting : Setting) (history : History) (actor : ℕ) (call : FindCall) (found : Found)
    (tickets : List ℕ) → IsFind setting history actor call found tickets
    → IsFind setting (without_repeats history) actor call found
    (map (ticket_there history) tickets)
