-- How a call ends, by what its parts answered.
use Rattle.std.proofs.Common.{◌≡◌, ◌⊎◌, inl, inr, ℕ, ◌≤◌, true, List, length, Option, Some, None, Result, Ok, Err, append-nil}
use Rattle.std.proofs.lemmas.Result.{IfOk-weaker}
use Rattle.std.specs.Prelude.{IfOk, IfSome}
use Rattle.std.specs.declared.alloc.AllocError.{AllocError}
use Rattle.track.specs.Bodies.{IsEnded, text_of}
use Rattle.track.specs.declared.answer.Answer.{Answer}
use Rattle.outside.specs.Bytes.{append_known, prepend_known, IsAtEnd}
use Rattle.net_reader.specs.declared.fault.InputFault.{InputFault}
use Rattle.net_reader.specs.Input.{Contents}
use Rattle.net_reader.specs.Reading.{ReaderValue, StandsFor, most_bytes}
use Rattle.report_check.specs.declared.verdict.Verdict.{Verdict}
use Rattle.report_check.specs.declared.verdict.Verdict.TheVariants as verdicts
use Rattle.report_check.specs.Cuts.{input_part, report_part}
use Rattle.report_check.specs.Verdicts.{most_bytes as most_text_bytes}
use Rattle.input_text.specs.Listing.{listing_text}
use Rattle.word_line.specs.declared.command.Command.{Command}
use Rattle.word_line.specs.declared.command.Command.TheVariants as commands
use Rattle.track.specs.declared.status.Status.{Status}
use Rattle.track.specs.declared.status.Status.TheVariants as statuses
use Rattle.track.specs.Results.{IsInputText, IsJsonAnswer, IsJudged, IsMade, IsRightAnswer, IsRightVerdict, IsText, is_made_alike, verdict_for, verdict_status}
use Rattle.track.specs.Ends.{EndsAs, EndsDone, IsBegun, IsShort, IsTextWritten, Streams, streams}
use Rattle.track.specs.Transfer.{IsAllRead, IsTextRead, StopsWriting, write_status}
use Rattle.track.specs.declared.stop.WriteStop.{WriteStop}
use Rattle.track.specs.declared.stop.WriteStop.TheVariants as writing

-- what holds of all bytes that were read holds of what was left
of_left : (P : List ℕ → Type 0) {before : Option (List ℕ)} (now : Option (List ℕ)) {bytes : List ℕ}
    → before ≡ prepend_known bytes now → IsAtEnd now → P bytes → IfSome before P
of_left P None e end p = rw e tt
of_left P (Some rest) e end p = rw (e, end, append-nil) p

-- a status that comes with a whole text
abbrev IsTold : Status → Type 0
IsTold status = (status ≡ statuses.Done) ⊎ ((status ≡ statuses.Refused) ⊎ (status ≡ statuses.Unsound))

status_of_answer : (command : Command) (input : Result Contents InputFault) (status : Status) (text : List ℕ)
    → IsRightAnswer command input status text → IsTold status
status_of_answer command (Ok contents) status text h = inl h.0
status_of_answer command (Err fault) status text h = inr (inl h.0)

status_of_verdict : (verdict : Verdict) {status : Status} → status ≡ verdict_status verdict → IsTold status
status_of_verdict verdicts.Sound is = inl is
status_of_verdict (verdicts.Unsound line cause) is = inr (inr is)

status_of_judged : (report : List ℕ) (input : Result Contents InputFault) (status : Status) (text : List ℕ)
    → IsRightVerdict report input status text → IsTold status
status_of_judged report (Ok contents) status text h = status_of_verdict (verdict_for contents report) h.0
status_of_judged report (Err fault) status text h = inr (inl h.0)

status_of_made : (made : List ℕ) (input : Result Contents InputFault) (status : Status) (text : List ℕ)
    → IsMade made input status text → IsTold status
status_of_made made (Ok contents) status text h = inl h.0
status_of_made made (Err fault) status text h = inr (inl h.0)

status_of_json : (bytes : List ℕ) (status : Status) (text : List ℕ) → IsJsonAnswer bytes status text → IsTold status
status_of_json bytes status text (inl h) =
    status_of_made (listing_text h.listing) h.made.input status text h.made.answer
status_of_json bytes status text (inr (inl h)) = inr (inl h.1)
status_of_json bytes status text (inr (inr h)) = inr (inl h.1)

-- the status that goes with a text
status_of_text : (command : Command) (bytes : List ℕ) (status : Status) (text : List ℕ)
    → IsText command bytes status text → IsTold status
status_of_text commands.Check bytes status text is = status_of_judged (report_part bytes) is.input status text is.answer
status_of_text commands.FromJson bytes status text is = status_of_json bytes status text is
status_of_text command bytes status text is =
    status_of_answer command is.input status text is.answer

-- all bytes are an input to a command
pub record IsPlain (command : Command) : Type 0 where
  pub short : (bytes : List ℕ) → length bytes ≤ most_bytes → IsShort command bytes
  pub text : (bytes : List ℕ) (status : Status) (text : List ℕ) → IsInputText command bytes status text
      → IsText command bytes status text

-- they are to those that make always the same of one, and to a run
pub is_plain : (command : Command) → is_made_alike command ≡ true → IsPlain command
is_plain commands.Check alike = cc
is_plain commands.FromJson alike = cc
is_plain command alike = record { short = λ bytes is. is; text = λ bytes status text is. is }

pub is_plain_run : IsPlain commands.Run
is_plain_run = record { short = λ bytes is. is; text = λ bytes status text is. is }

told : (command : Command) {status : Status} (before now : Streams) → IsTold status → EndsDone command status before now
    → EndsAs command status before now
told command before now (inl e) h = rw e (rw e at h)
told command before now (inr (inl e)) h = rw e (rw e at h)
told command before now (inr (inr e)) h = rw e (rw e at h)

-- all bytes that were left were read, without a fault, and a command may be given them
module _ (command : Command) (bytes : List ℕ) {left : Option (List ℕ)} (left' : Option (List ℕ)) {rf rf' : ℕ}
    (written written' : Option (List ℕ)) (wf wf' : ℕ) (parts : left ≡ prepend_known bytes left')
    (end : IsAtEnd left') (calm : rf' ≡ rf) (short : IsShort command bytes) where
  -- their text was written
  done-bytes : (status : Status) (text : List ℕ) → IsText command bytes status text
      → written' ≡ append_known written text → wf' ≡ wf
      → EndsAs command status (streams left rf written wf) (streams left' rf' written' wf')
  done-bytes status text right w f =
      let whole : IsTextWritten command status bytes written written' =
      record { short = short; text = text; right = right; written = w } in
      told command (streams left rf written wf) (streams left' rf' written' wf')
      (status_of_text command bytes status text right) (
        of_left (λ bytes. IsTextWritten command status bytes written written') left' parts end whole,
        end,
        calm,
        f,
      )

  -- a front of it was written
  begun-bytes : (status : Status) (stop : WriteStop) (text : List ℕ) → IsText command bytes status text
      → StopsWriting stop text written written' wf wf'
      → EndsAs command (write_status stop) (streams left rf written wf) (streams left' rf' written' wf')
  begun-bytes status writing.OutOfMemory text right h = ((h.0, h.1), calm)
  begun-bytes status writing.Failed text right h =
      let is : IsBegun command bytes written written' =
      record { short = short; status = status; text = text; right = right; part = h.1 } in
      (h.0, of_left (λ bytes. IsBegun command bytes written written') left' parts end is, end, calm)

  -- an answer that is right for them was written, or not whole
  ended-bytes : (answer : Result Answer AllocError) (status : Status)
      → IfOk answer (λ answer. IsText command bytes answer.status (text_of answer.body))
      → IsEnded answer status written written' wf wf'
      → EndsAs command status (streams left rf written wf) (streams left' rf' written' wf')
  ended-bytes (Ok answer) status right (inl whole) =
      rw whole.0 (done-bytes answer.status (text_of answer.body) right whole.1 whole.2)
  ended-bytes (Ok answer) status right (inr begun) =
      rw begun.1 (begun-bytes answer.status begun.0 (text_of answer.body) right begun.2)
  ended-bytes (Err fault) status right h = rw h.0 ((h.1, h.2), calm)

-- an answer to the bytes that a reader stands for
pub ended : {command : Command} → IsPlain command → (answer : Result Answer AllocError) (status : Status)
    {reader : ReaderValue} {left left' : Option (List ℕ)} {rf rf' : ℕ} (written written' : Option (List ℕ)) (wf wf' : ℕ)
    → IsAllRead reader left left' rf rf' → IfOk answer (λ answer. (bytes : List ℕ) → StandsFor reader bytes
    → IsInputText command bytes answer.status (text_of answer.body)) → IsEnded answer status written written' wf wf'
    → EndsAs command status (streams left rf written wf) (streams left' rf' written' wf')
ended {command} plain answer status {reader} {left'} written written' wf wf' all right is =
    ended-bytes command all.bytes left' written written' wf wf' all.parts all.end all.no_fault
    (plain.short all.bytes all.short) answer status (IfOk-weaker answer _ _
    (λ answer right. plain.text all.bytes answer.status (text_of answer.body) (right all.bytes all.stands)) right) is

-- ---- a text that has a report

pub ended-check : (answer : Result Answer AllocError) (status : Status) {bytes part report : List ℕ}
    {left left' : Option (List ℕ)} {rf rf' : ℕ} (written written' : Option (List ℕ)) (wf wf' : ℕ)
    → IsTextRead most_text_bytes bytes left left' rf rf' → part ≡ input_part bytes → report ≡ report_part bytes
    → length part ≤ most_bytes → IfOk answer (λ answer. IsJudged part report answer.status (text_of answer.body))
    → IsEnded answer status written written' wf wf' → EndsAs commands.Check status (streams left rf written wf)
    (streams left' rf' written' wf')
ended-check answer status {bytes} {part} {report} {left'} written written' wf wf' all p r short right is =
    ended-bytes commands.Check bytes left' written written' wf wf' all.parts all.end all.no_fault
    (all.short, rw (← p) short) answer status (rw (p, r) at right) is

-- ---- JSON

pub ended-json : (answer : Result Answer AllocError) (status : Status) {bytes : List ℕ} {left left' : Option (List ℕ)}
    {rf rf' : ℕ} (written written' : Option (List ℕ)) (wf wf' : ℕ) → IsTextRead most_bytes bytes left left' rf rf'
    → IfOk answer (λ answer. IsJsonAnswer bytes answer.status (text_of answer.body))
    → IsEnded answer status written written' wf wf' → EndsAs commands.FromJson status (streams left rf written wf)
    (streams left' rf' written' wf')
ended-json answer status {bytes} {left'} written written' wf wf' all right is =
    ended-bytes commands.FromJson bytes left' written written' wf wf' all.parts all.end all.no_fault all.short answer
    status right is
