-- Bytes have one text, and what ends without a fault is whole.
use Rattle.std.proofs.Common.{◌≡◌, ◌⊎◌, inl, inr, ℕ, true, false, List, Some, Result, Ok, Err, refl, sym, subst, ◌∙◌, arith}
use Rattle.outside.specs.Calls.{HasFaulted}
use Rattle.net_reader.specs.declared.fault.InputFault.{InputFault}
use Rattle.input_text.specs.Listing.{ListingValue, listing_text}
use Rattle.json_form.specs.Laws.{NotRefused, OneCause, OneListing}
use Rattle.net_reader.specs.Input.{Contents, IsInput}
use Rattle.net_reader.specs.Laws.{TextSaysOne}
use Rattle.report_check.specs.Cuts.{input_part}
use Rattle.word_line.specs.declared.command.Command.{Command}
use Rattle.word_line.specs.declared.command.Command.TheVariants as commands
use Rattle.track.specs.declared.status.Status.{Status}
use Rattle.track.specs.declared.status.Status.TheVariants as statuses
use Rattle.track.specs.Results.{IsInputText, IsJsonAnswer, IsJudged, IsMade, IsMadeBy, SaysByJson, IsRightAnswer, IsRightVerdict, IsResult, IsText, SaysInput, in_order, is_served, whole_status}
use Rattle.track.specs.Ends.{EndsAs, EndsDone, IsLong, IsShort, Streams}
use Rattle.track.specs.Laws.{BytesHaveOneText, IsCompleteAlone, RunsAreReplayed}

same_result : (command : Command) (contents : Contents) (one other : List ℕ) → is_served false command ≡ true
    → IsResult command contents one → IsResult command contents other → one ≡ other
same_result commands.Replay contents one other served p q = p.over.text_is ∙ sym q.over.text_is
same_result commands.Check contents one other served p q = absurd p
same_result commands.ToJson contents one other served p q = p ∙ sym q
same_result commands.FromJson contents one other served p q = absurd p
same_result commands.Run contents one other served p q = cc
same_result (commands.Make load) contents one other served p q = absurd p
same_result (commands.Trial load) contents one other served p q = absurd p
same_result command contents one other served p q = p.text_is ∙ sym q.text_is

same_answer : (command : Command) (input : Result Contents InputFault) (s t : Status) (one other : List ℕ)
    → is_served false command ≡ true → IsRightAnswer command input s one → IsRightAnswer command input t other
    → (s ≡ t) × (one ≡ other)
same_answer command (Ok contents) s t one other served p q = (
  p.0 ∙ sym q.0,
  same_result command contents one other served p.1 q.1,
)
same_answer command (Err fault) s t one other served p q = (p.0 ∙ sym q.0, p.1 ∙ sym q.1)

one_input_text : TextSaysOne → {command : Command} {bytes : List ℕ} {s t : Status} {one other : List ℕ}
    → is_served false command ≡ true → IsInputText command bytes s one → IsInputText command bytes t other
    → (s ≡ t) × (one ≡ other)
one_input_text says {command} {bytes} {s} {t} {one} {other} served p q =
    let same = says bytes p.input q.input p.says q.says in
    same_answer command q.input s t one other served (rw same at p.answer) q.answer

-- an input part and a report have one verdict
same_verdict : (report : List ℕ) (input : Result Contents InputFault) (s t : Status) (one other : List ℕ)
    → IsRightVerdict report input s one → IsRightVerdict report input t other → (s ≡ t) × (one ≡ other)
same_verdict report (Ok contents) s t one other p q = (p.0 ∙ sym q.0, p.1 ∙ sym q.1)
same_verdict report (Err fault) s t one other p q = (p.0 ∙ sym q.0, p.1 ∙ sym q.1)

one_verdict : TextSaysOne → {part report : List ℕ} {s t : Status} {one other : List ℕ} → IsJudged part report s one
    → IsJudged part report t other → (s ≡ t) × (one ≡ other)
one_verdict says {part} {report} {s} {t} {one} {other} p q =
    same_verdict report q.input s t one other (rw (says part p.input q.input p.says q.says) at p.answer) q.answer

-- JSON is of one listing, and is refused for one cause, or for none
pub record JsonIsOne : Type 0 where
  pub listing : OneListing
  pub right : NotRefused
  pub cause : OneCause

same_made : (made : List ℕ) (input : Result Contents InputFault) (s t : Status) (one other : List ℕ)
    → IsMade made input s one → IsMade made input t other → (s ≡ t) × (one ≡ other)
same_made made (Ok contents) s t one other p q = (p.0 ∙ sym q.0, p.1 ∙ sym q.1)
same_made made (Err fault) s t one other p q = (p.0 ∙ sym q.0, p.1 ∙ sym q.1)

one_made : TextSaysOne → {made : List ℕ} {s t : Status} {one other : List ℕ} → IsMadeBy made s one
    → IsMadeBy made t other → (s ≡ t) × (one ≡ other)
one_made says {made} {s} {t} {one} {other} p q =
    same_made made q.input s t one other (rw (says made p.input q.input p.says q.says) at p.answer) q.answer

one_json : TextSaysOne → JsonIsOne → (bytes : List ℕ) (s t : Status) (one other : List ℕ)
    → IsJsonAnswer bytes s one → IsJsonAnswer bytes t other → (s ≡ t) × (one ≡ other)
one_json says json bytes s t one other (inl p) (inl q) =
    one_made says (rw (json.listing bytes p.listing q.listing p.listed q.listed) at p.made) q.made
one_json says json bytes s t one other (inl p) (inr (inl q)) = absurd ((json.right bytes p.listing p.listed).1 q.0)
one_json says json bytes s t one other (inl p) (inr (inr q)) = absurd ((json.right bytes p.listing p.listed).0 q.0)
one_json says json bytes s t one other (inr (inl p)) (inl q) = absurd ((json.right bytes q.listing q.listed).1 p.0)
one_json says json bytes s t one other (inr (inl p)) (inr (inl q)) = (p.1 ∙ sym q.1, p.2 ∙ sym q.2)
one_json says json bytes s t one other (inr (inl p)) (inr (inr q)) = absurd (json.cause bytes p.0 q.0)
one_json says json bytes s t one other (inr (inr p)) (inl q) = absurd ((json.right bytes q.listing q.listed).0 p.0)
one_json says json bytes s t one other (inr (inr p)) (inr (inl q)) = absurd (json.cause bytes q.0 p.0)
one_json says json bytes s t one other (inr (inr p)) (inr (inr q)) = (p.1 ∙ sym q.1, p.2 ∙ sym q.2)

pub one_text : TextSaysOne → JsonIsOne → BytesHaveOneText
one_text says json commands.Check bytes s t one other served p q =
    one_verdict says p q
one_text says json commands.FromJson bytes s t one other served p q = one_json says json bytes s t one other p q
one_text says json command bytes s t one other served p q =
    one_input_text says served p q

remade_input : TextSaysOne → JsonIsOne → {bytes : List ℕ} (status : Status) (text : List ℕ) {contents : Contents}
    → IsJsonAnswer bytes status text → SaysByJson bytes contents → status ≡ statuses.Done
remade_input says json {bytes} status text {contents} (inl h) input =
    let same = json.listing bytes input.listing h.listing input.listed h.listed in
    (rw (says (listing_text h.listing) h.made.input (Ok contents) h.made.says
    (subst (λ (l : ListingValue). IsInput (listing_text l) (Ok contents)) same input.says)) at h.made.answer).0
remade_input says json {bytes} status text (inr (inl h)) input =
    absurd ((json.right bytes input.listing input.listed).1 h.0)
remade_input says json {bytes} status text (inr (inr h)) input =
    absurd ((json.right bytes input.listing input.listed).0 h.0)

-- the status of bytes that say an input to a command
status_is : TextSaysOne → JsonIsOne → (command : Command) (bytes : List ℕ) (status : Status) (text : List ℕ)
    (contents : Contents)
    → IsText command bytes status text → SaysInput command bytes contents
    → status ≡ whole_status command bytes contents
status_is says json commands.Check bytes status text contents right input =
    (rw (says (input_part bytes) right.input (Ok contents) right.says input) at right.answer).0
status_is says json commands.FromJson bytes status text contents right input =
    remade_input says json status text right input
status_is says json command bytes status text contents right input =
    (rw (says bytes right.input (Ok contents) right.says input) at right.answer).0

-- what was written whole has that status
whole_is : TextSaysOne → JsonIsOne → (command : Command) (status : Status) (before now : Streams) {bytes : List ℕ}
    (contents : Contents) → EndsDone command status before now → before.left ≡ Some bytes
    → SaysInput command bytes contents → status ≡ whole_status command bytes contents
whole_is says json command status before now {bytes} contents h left input =
    let written = rw left at h.0 in
    status_is says json command bytes status written.text contents written.right input

-- the bytes of a command aren't both too many and not too many
short_or_long : (command : Command) (bytes : List ℕ) → IsShort command bytes → IsLong command bytes → ⊥
short_or_long commands.Check bytes short long = omega (arith, short.0, short.1, long)
short_or_long command bytes short long = omega (arith, short, long)

pub is_complete : TextSaysOne → JsonIsOne → (command : Command) (status : Status) (before now : Streams)
    (bytes : List ℕ) (contents
    : Contents)
    → EndsAs command status before now → before.left ≡ Some bytes → IsShort command bytes
    → SaysInput command bytes contents
    → (HasFaulted before.read_faults now.read_faults → ⊥) → (HasFaulted before.write_faults now.write_faults → ⊥)
    → (status ≡ whole_status command bytes contents) ⊎ (status ≡ statuses.OutOfMemory)
is_complete says json command statuses.BadWords before now bytes contents h left short input r w = absurd h
is_complete says json command statuses.OutOfMemory before now bytes contents h left short input r w = inr refl
is_complete says json command statuses.ReadFailed before now bytes contents h left short input r w = absurd (r h.1.0)
is_complete says json command statuses.WriteFailed before now bytes contents h left short input r w = absurd (w h.0.0)
is_complete says json command statuses.TooLong before now bytes contents h left short input r w =
    absurd (short_or_long command bytes short (rw left at h.2))
is_complete says json command status before now bytes contents h left short input r w =
    inl (whole_is says json command status before now contents h left input)

pub is_complete_alone : IsCompleteAlone
is_complete_alone text statuses.Done before now h w = inl refl
is_complete_alone text statuses.OutOfMemory before now h w = inr refl
is_complete_alone text statuses.WriteFailed before now h w = absurd (w h.0.0)
is_complete_alone text status before now h w = absurd h

pub replayed : TextSaysOne → RunsAreReplayed
replayed says bytes contents status text input right =
    let run = (rw (says bytes right.input (Ok contents) right.says input) at right.answer).1 in (
      run.order,
      run.report.over.text_is,
      run.printed,
      λ others other again same answer.
          (rw (says others answer.input (Ok (in_order contents run.order)) answer.says same) at
          answer.answer).1.over.text_is ∙ sym run.report.over.text_is,
    )
