-- The laws of the top calls, as named statements. Key laws: `bytes_have_one_text`
-- (`BytesHaveOneText`), `complete` (`IsComplete`, `IsCompleteAlone`) and `runs_are_replayed`
-- (`RunsAreReplayed`).
use Rattle.std.specs.Prelude.{◌≡◌, ◌⊎◌, ℕ, List, Some, Ok, true, false}
use Rattle.outside.specs.Calls.{HasFaulted}
use Rattle.net_reader.specs.Input.{Contents, IsInput}
use Rattle.report_text.specs.ReportText.{report_of}
use Rattle.word_line.specs.declared.command.Command.{Command}
use Rattle.word_line.specs.declared.command.Command.TheVariants.{Replay, Run}
use Rattle.track.specs.declared.status.Status.{Status}
use Rattle.track.specs.declared.status.Status.TheVariants.{Done, OutOfMemory}
use Rattle.track.specs.Results.{IsText, SaysInput, in_order, is_served, outcome_for, whole_status}
use Rattle.track.specs.Ends.{EndsAlone, EndsAs, IsShort, Streams}

-- to a command that is served without threads, bytes have one text, with one status
abbrev pub BytesHaveOneText : Type 0
BytesHaveOneText =
    (command : Command) (bytes : List ℕ) (s t : Status) (one other : List ℕ)
    → is_served false command ≡ true
    → IsText command bytes s one → IsText command bytes t other → (s ≡ t) × (one ≡ other)

-- where the bytes say an input and aren't too many, and neither the source nor the sink failed, the
-- whole text was written, with status 0, or of a check that of the verdict; or memory was wanting
abbrev pub IsComplete : Type 0
IsComplete =
    (command : Command) (status : Status) (before now : Streams) (bytes : List ℕ)
    (contents : Contents)
    → EndsAs command status before now → before.left ≡ Some bytes
    → IsShort command bytes → SaysInput command bytes contents
    → (HasFaulted before.read_faults now.read_faults → ⊥)
    → (HasFaulted before.write_faults now.write_faults → ⊥)
    → (status ≡ whole_status command bytes contents) ⊎ (status ≡ OutOfMemory)

-- and so it is to a command that reads nothing, where the sink didn't fail
abbrev pub IsCompleteAlone : Type 0
IsCompleteAlone =
    (text : List ℕ) (status : Status) (before now : Streams) → EndsAlone text status before now
    → (HasFaulted before.write_faults now.write_faults → ⊥)
    → (status ≡ Done) ⊎ (status ≡ OutOfMemory)

-- a run of the input that bytes say prints one order whole: its text is the report of what becomes
-- of the calls under that order, and whatever other bytes say the same input with that order, their
-- replay has the same text
abbrev pub RunsAreReplayed : Type 0
RunsAreReplayed =
    (bytes : List ℕ) (contents : Contents) (status : Status) (text : List ℕ)
    → IsInput bytes (Ok contents) → IsText Run bytes status text
    → (order : List ℕ) × (text ≡ report_of (outcome_for (in_order contents order)))
    × ((outcome_for (in_order contents order)).order ≡ order)
    × ((others : List ℕ) (other : Status) (replayed : List ℕ)
    → IsInput others (Ok (in_order contents order)) → IsText Replay others other replayed
    → replayed ≡ text)
