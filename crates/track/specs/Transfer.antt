-- What stands after all bytes of a source were read, and after a text was written to a sink.
-- Key law: `command`, by its clauses `rest` (what is left is an end of what was left) and `told`.
use Rattle.std.specs.Prelude.{◌≡◌, ℕ, ◌<◌, ◌≤◌, List, ◌++◌, length, Option, IfSome}
use Rattle.outside.specs.Bytes.{prepend_known, append_known, IsAtEnd}
use Rattle.outside.specs.Calls.{HasFaulted, one_more}
use Rattle.net_reader.specs.Reading.{ReaderValue, StandsFor, most_bytes}
use Rattle.track.specs.declared.status.Status.{Status}
use Rattle.track.specs.declared.status.Status.TheVariants.{OutOfMemory, ReadFailed, WriteFailed, TooLong}
use Rattle.track.specs.declared.stop.ReadStop.{ReadStop}
use Rattle.track.specs.declared.stop.ReadStop.TheVariants as reading
use Rattle.track.specs.declared.stop.WriteStop.{WriteStop}
use Rattle.track.specs.declared.stop.WriteStop.TheVariants as writing

-- what is left is an end of what was left
pub record IsEndOf (before now : Option (List ℕ)) : Type 0 where
  pub front : List ℕ
  pub parts : before ≡ prepend_known front now

-- the reader stands for all that was left, nothing is left, and there was no fault
pub record IsAllRead (reader : ReaderValue) (before now : Option (List ℕ))
    (faults_before faults_now : ℕ) : Type 0 where
  pub bytes : List ℕ
  pub stands : StandsFor reader bytes
  pub parts : before ≡ prepend_known bytes now
  pub end : IsAtEnd now
  pub short : length bytes ≤ most_bytes
  pub no_fault : faults_now ≡ faults_before

-- these bytes are all that was left, at most so many; nothing is left, and there was no fault
pub record IsTextRead (limit : ℕ) (bytes : List ℕ) (before now : Option (List ℕ))
    (faults_before faults_now : ℕ) : Type 0 where
  pub parts : before ≡ prepend_known bytes now
  pub end : IsAtEnd now
  pub short : length bytes ≤ limit
  pub no_fault : faults_now ≡ faults_before

-- there was one fault: the count of faults rose by one, or stands at its type's end
abbrev pub HasFaultedOnce : ℕ → ℕ → Type 0
HasFaultedOnce before now = HasFaulted before now × (now ≡ one_more before)

-- what was read until now is at most so many bytes
pub record IsReadWithin (limit : ℕ) (before now : Option (List ℕ)) : Type 0 where
  pub bytes : List ℕ
  pub parts : before ≡ prepend_known bytes now
  pub short : length bytes ≤ limit

-- why not all was read, where so many bytes may be: of a fault and too many bytes, what came first
abbrev pub StopsReading : ℕ → ReadStop → Option (List ℕ) → Option (List ℕ) → ℕ → ℕ → Type 0
StopsReading limit reading.OutOfMemory before now faults_before faults_now =
    faults_now ≡ faults_before
StopsReading limit reading.Failed before now faults_before faults_now =
    HasFaultedOnce faults_before faults_now × IsReadWithin limit before now
StopsReading limit reading.TooLong before now faults_before faults_now =
    IfSome before (λ bytes. limit < length bytes) × (faults_now ≡ faults_before)

-- the status that it ends with
abbrev pub read_status : ReadStop → Status
read_status reading.OutOfMemory = OutOfMemory
read_status reading.Failed = ReadFailed
read_status reading.TooLong = TooLong

-- the text was written up to here
pub record IsWrittenPart (text : List ℕ) (before now : Option (List ℕ)) : Type 0 where
  pub front : List ℕ
  pub back : List ℕ
  pub parts : text ≡ front ++ back
  pub written : now ≡ append_known before front

-- of the text all was written but the bytes that wait
pub record IsOnItsWay (before now : Option (List ℕ)) (text waiting : List ℕ) : Type 0 where
  pub front : List ℕ
  pub parts : text ≡ front ++ waiting
  pub written : now ≡ append_known before front

-- why a text wasn't written whole
abbrev pub StopsWriting : WriteStop → List ℕ → Option (List ℕ) → Option (List ℕ) → ℕ → ℕ → Type 0
StopsWriting writing.OutOfMemory text before now faults_before faults_now =
    (now ≡ before) × (faults_now ≡ faults_before)
StopsWriting writing.Failed text before now faults_before faults_now =
    HasFaultedOnce faults_before faults_now × IsWrittenPart text before now

-- the status that it ends with
abbrev pub write_status : WriteStop → Status
write_status writing.OutOfMemory = OutOfMemory
write_status writing.Failed = WriteFailed
