-- How a call ends: its status, and what that says of the words, of the source and of the sink. Key
-- laws: `complete`, and `bytes_have_one_text`, by which the text that was written is the only right
-- one.
use Rattle.std.specs.Prelude.{◌≡◌, ◌⊎◌, ℕ, ◌<◌, List, length, Option, Some, None, IfSome, Bool, true, false, ◌≤◌}
use Rattle.outside.specs.Bytes.{append_known, IsAtEnd}
use Rattle.net_reader.specs.Reading.{most_bytes}
use Rattle.report_check.specs.Cuts.{input_part}
use Rattle.report_check.specs.Verdicts.{most_bytes as most_text_bytes}
use Rattle.word_line.specs.declared.command.Command.{Command}
use Rattle.word_line.specs.declared.command.Command.TheVariants.{Check}
use Rattle.track.specs.declared.status.Status.{Status}
use Rattle.track.specs.declared.status.Status.TheVariants.{Done, Refused, BadWords, OutOfMemory, ReadFailed, WriteFailed, TooLong, Unsound}
use Rattle.track.specs.Results.{IsText, is_served, text_alone}
use Rattle.track.specs.Transfer.{HasFaultedOnce, IsReadWithin, IsWrittenPart}

-- what stands before and after a call: the bytes left, the source's count of faults, the bytes
-- written, the sink's
pub record Streams : Type 0 where
  pub left : Option (List ℕ)
  pub read_faults : ℕ
  pub written : Option (List ℕ)
  pub write_faults : ℕ

-- the source and the sink by these parts
abbrev pub streams : Option (List ℕ) → ℕ → Option (List ℕ) → ℕ → Streams
streams left read_faults written write_faults =
    record {
      left = left;
      read_faults = read_faults;
      written = written;
      write_faults = write_faults;
    }

-- a command may be given so many bytes
abbrev pub IsShort : Command → List ℕ → Type 0
IsShort Check bytes =
    (length bytes ≤ most_text_bytes) × (length (input_part bytes) ≤ most_bytes)
IsShort command bytes = length bytes ≤ most_bytes

-- so many bytes are read for it at most
abbrev pub most_read : Command → ℕ
most_read Check = most_text_bytes
most_read command = most_bytes

-- these are more than it may be given
abbrev pub IsLong : Command → List ℕ → Type 0
IsLong Check bytes =
    (most_text_bytes < length bytes) ⊎ (most_bytes < length (input_part bytes))
IsLong command bytes = most_bytes < length bytes

-- the text of the bytes that were left was written whole; they are no more than may be read
pub record IsTextWritten (command : Command) (status : Status) (bytes : List ℕ)
    (before now : Option (List ℕ)) : Type 0 where
  pub short : IsShort command bytes
  pub text : List ℕ
  pub right : IsText command bytes status text
  pub written : now ≡ append_known before text

-- a front of it was written
pub record IsBegun (command : Command) (bytes : List ℕ)
    (before now : Option (List ℕ)) : Type 0 where
  pub short : IsShort command bytes
  pub status : Status
  pub text : List ℕ
  pub right : IsText command bytes status text
  pub part : IsWrittenPart text before now

-- nothing was written, and the sink didn't fail
abbrev pub IsSilent : Streams → Streams → Type 0
IsSilent before now = (now.written ≡ before.written) × (now.write_faults ≡ before.write_faults)

-- the whole text was written, nothing is left, and nothing failed
abbrev pub EndsDone : Command → Status → Streams → Streams → Type 0
EndsDone command status before now =
    IfSome before.left (λ bytes. IsTextWritten command status bytes before.written now.written)
    × IsAtEnd now.left × (now.read_faults ≡ before.read_faults)
    × (now.write_faults ≡ before.write_faults)

-- what a status says, to a command that reads an input
abbrev pub EndsAs : Command → Status → Streams → Streams → Type 0
EndsAs command Done before now = EndsDone command Done before now
EndsAs command Refused before now = EndsDone command Refused before now
EndsAs command Unsound before now = EndsDone command Unsound before now
EndsAs command BadWords before now = ⊥
EndsAs command OutOfMemory before now =
    IsSilent before now × (now.read_faults ≡ before.read_faults)
EndsAs command ReadFailed before now =
    IsSilent before now × HasFaultedOnce before.read_faults now.read_faults
    × IsReadWithin (most_read command) before.left now.left
EndsAs command WriteFailed before now =
    HasFaultedOnce before.write_faults now.write_faults
    × IfSome before.left (λ bytes. IsBegun command bytes before.written now.written)
    × IsAtEnd now.left × (now.read_faults ≡ before.read_faults)
EndsAs command TooLong before now =
    IsSilent before now × (now.read_faults ≡ before.read_faults)
    × IfSome before.left (λ bytes. IsLong command bytes)

-- nothing was read
abbrev pub IsUnread : Streams → Streams → Type 0
IsUnread before now = (now.left ≡ before.left) × (now.read_faults ≡ before.read_faults)

-- what a status says, to a command that reads nothing and writes this text
abbrev pub EndsAlone : List ℕ → Status → Streams → Streams → Type 0
EndsAlone text Done before now =
    (now.written ≡ append_known before.written text) × (now.write_faults ≡ before.write_faults)
    × IsUnread before now
EndsAlone text Refused before now = ⊥
EndsAlone text Unsound before now = ⊥
EndsAlone text BadWords before now = ⊥
EndsAlone text OutOfMemory before now = IsSilent before now × IsUnread before now
EndsAlone text ReadFailed before now = ⊥
EndsAlone text WriteFailed before now =
    HasFaultedOnce before.write_faults now.write_faults
    × IsWrittenPart text before.written now.written × IsUnread before now
EndsAlone text TooLong before now = ⊥

-- what a status says, to a command by its own text, if it has one
abbrev pub EndsBy : Option (List ℕ) → Command → Status → Streams → Streams → Type 0
EndsBy None command status before now = EndsAs command status before now
EndsBy (Some text) command status before now = EndsAlone text status before now

-- words of no command, and those of a command that isn't served, change nothing
abbrev pub IsRefusedAtOnce : Status → Streams → Streams → Type 0
IsRefusedAtOnce status before now = (status ≡ BadWords) × (now ≡ before)

-- what a status says, to a command that is served or isn't
abbrev pub EndsIf : Bool → Command → Status → Streams → Streams → Type 0
EndsIf true command status before now = EndsBy (text_alone command) command status before now
EndsIf false command status before now = IsRefusedAtOnce status before now

-- what a status says, to words, where threads may be started or not
abbrev pub Ends : Bool → Option Command → Status → Streams → Streams → Type 0
Ends threads None status before now = IsRefusedAtOnce status before now
Ends threads (Some command) status before now =
    EndsIf (is_served threads command) command status before now

-- the number of a status
abbrev pub status_number : Status → ℕ
status_number Done = 0
status_number Refused = 1
status_number BadWords = 2
status_number OutOfMemory = 3
status_number ReadFailed = 4
status_number WriteFailed = 5
status_number TooLong = 6
status_number Unsound = 8

-- the number is that of a status that says so
pub record Tells (threads : Bool) (words : Option Command) (number : ℕ)
    (before now : Streams) : Type 0 where
  pub status : Status
  pub is : number ≡ status_number status
  pub ends : Ends threads words status before now
