-- What `replay` and `run` tell, in the words of soundness.
use Rattle.std.proofs.Common.{◌≡◌, ℕ, Bool, true, false, List, Option, Some, Result, Ok, Err, refl, sym, ◌∙◌, subst, arith}
use Rattle.std.proofs.lemmas.Option.{IfSome_then}
use Rattle.outside.specs.Bytes.{append_known}
use Rattle.net_reader.specs.Input.{Contents, IsInput}
use Rattle.net_reader.specs.Laws.{InputsAreValid}
use Rattle.net_reader.specs.declared.fault.InputFault.{InputFault}
use Rattle.own_reports.specs.Reports.{outcome_under}
use Rattle.own_reports.specs.SoundTexts.{OwnReportsAreSoundTexts}
use Rattle.soundness.specs.Sound.{IsSoundReport, IsSoundRun, IsSoundText}
use Rattle.word_line.specs.declared.command.Command.{Command}
use Rattle.word_line.specs.declared.command.Command.TheVariants as commands
use Rattle.track.specs.Ends.{Ends, Streams, Tells, status_number}
use Rattle.track.specs.Results.{IsRightAnswer}
use Rattle.track.specs.Sounds.{IsSoundlyWritten, WritesSoundly}
use Rattle.track.specs.declared.status.Status.{Status}
use Rattle.track.specs.declared.status.Status.TheVariants as statuses

-- the status with the number 0
done-is : (status : Status) → status_number status ≡ 0 → status ≡ statuses.Done
done-is statuses.Done e = refl
done-is statuses.Refused e = absurd (omega (arith, e))
done-is statuses.BadWords e = absurd (omega (arith, e))
done-is statuses.OutOfMemory e = absurd (omega (arith, e))
done-is statuses.ReadFailed e = absurd (omega (arith, e))
done-is statuses.WriteFailed e = absurd (omega (arith, e))
done-is statuses.TooLong e = absurd (omega (arith, e))
done-is statuses.Unsound e = absurd (omega (arith, e))

module _ (inputs : InputsAreValid) (own : OwnReportsAreSoundTexts) where
  -- a replay
  replay-text : (bytes : List ℕ) (input : Result Contents InputFault) (text : List ℕ) (before now : Option (List ℕ))
      → IsInput bytes input → IsRightAnswer commands.Replay input statuses.Done text
      → now ≡ append_known before text → IsSoundlyWritten IsSoundText bytes before now
  replay-text bytes (Ok contents) text before now says answer written =
      record {
        contents = contents;
        says = says;
        text = text;
        sound = record {
          outcome = outcome_under contents contents.order;
          text_is = answer.1.over.text_is;
          report = own contents contents.order (inputs bytes contents says);
        };
        written = written;
      }
  replay-text bytes (Err fault) text before now says answer written =
      let bad : statuses.Done ≡ statuses.Refused = answer.0 in absurd cc

  -- a run: its order is the one that it prints
  run-text : (bytes : List ℕ) (input : Result Contents InputFault) (text : List ℕ) (before now : Option (List ℕ))
      → IsInput bytes input → IsRightAnswer commands.Run input statuses.Done text
      → now ≡ append_known before text → IsSoundlyWritten IsSoundRun bytes before now
  run-text bytes (Ok contents) text before now says answer written =
      let order : List ℕ = answer.1.order in
      let printed : (outcome_under contents order).order ≡ order = answer.1.printed in
      record {
        contents = contents;
        says = says;
        text = text;
        sound = record {
          outcome = outcome_under contents order;
          text_is = answer.1.report.over.text_is;
          report = subst (λ (o : List ℕ). IsSoundReport (record contents { order = o }) (outcome_under contents order))
              (sym printed) (own contents order (inputs bytes contents says));
        };
        written = written;
      }
  run-text bytes (Err fault) text before now says answer written =
      let bad : statuses.Done ≡ statuses.Refused = answer.0 in absurd cc

  replay-ends : (threads : Bool) (before now : Streams) → Ends threads (Some commands.Replay) statuses.Done before now
      → WritesSoundly (Some commands.Replay) 0 before.left before.written now.written
  replay-ends threads before now ends = λ zero.
      IfSome_then before.left ends.0 (λ bytes whole.
      replay-text bytes whole.right.input whole.text before.written now.written whole.right.says whole.right.answer
      whole.written)

  run-ends : (threads : Bool) (before now : Streams) → Ends threads (Some commands.Run) statuses.Done before now
      → WritesSoundly (Some commands.Run) 0 before.left before.written now.written
  run-ends true before now ends = λ zero.
      IfSome_then before.left ends.0 (λ bytes whole.
      run-text bytes whole.right.input whole.text before.written now.written whole.right.says whole.right.answer
      whole.written)
  run-ends false before now ends = let bad : statuses.Done ≡ statuses.BadWords = ends.0 in absurd cc

  -- what a call tells says it
  pub soundly : (threads : Bool) (words : Option Command) (number : ℕ) (before now : Streams)
      → Tells threads words number before now → WritesSoundly words number before.left before.written now.written
  soundly threads (Some commands.Replay) number before now tells = λ zero.
      replay-ends threads before now
      (subst (λ (s : Status). Ends threads (Some commands.Replay) s before now)
      (done-is tells.status (sym tells.is ∙ zero)) tells.ends) refl
  soundly threads (Some commands.Run) number before now tells = λ zero.
      run-ends threads before now
      (subst (λ (s : Status). Ends threads (Some commands.Run) s before now)
      (done-is tells.status (sym tells.is ∙ zero)) tells.ends) refl
  soundly threads words number before now tells = tt
