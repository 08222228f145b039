use Rattle.std.specs.Prelude.{IsSome}
use Rattle.std.proofs.Common.{true}
use Rattle.word_line.specs.Forms.{bytes_of, command_of}
use Rattle.word_line.specs.declared.command.Command.{Command}
use Rattle.word_line.specs.declared.command.WordsFault.TheVariants as refusals
use Rattle.track.specs.Results.{text_alone}
use Rattle.track.proofs.Sounding.{soundly}
use Rattle.track.proofs.Words.{at_none, at_some, has_load, told_of}
use Rattle.track.proofs.top.command_with_threads.Goals as goal

pub returns-in-Ok-clause-told : goal.returns-in-Ok-clause-told
returns-in-Ok-clause-told g c =
    at_some true (command_of (bytes_of c.args.words.now)) refusals.Refused c.serve_by_threads-status.result _ _
    c.read_words.ensures c.in-Ok.is c.from.ensures c.serve_by_threads-status.ensures.ends

pub returns-in-Ok-clause-unread : goal.returns-in-Ok-clause-unread
returns-in-Ok-clause-unread g c = λ alone. c.serve_by_threads-status.ensures.unread
    (told_of (λ (command : Command). IsSome (text_alone command)) (command_of (bytes_of c.args.words.now))
    refusals.Refused c.read_words.ensures c.in-Ok.is alone)

pub returns-in-Err-clause-told : goal.returns-in-Err-clause-told
returns-in-Err-clause-told g c =
    at_none true (command_of (bytes_of c.args.words.now)) refusals.Refused _ c.read_words.ensures c.in-Err.is
    c.from-in-Err.ensures

pub serve_by_threads-status-requires-after_bounds : goal.serve_by_threads-status-requires-after_bounds
serve_by_threads-status-requires-after_bounds g c = λ bounds lives.
    has_load c.words_are_loads.ensures (bytes_of c.args.words.now) refusals.Refused c.in-Ok.command c.read_words.ensures
    c.in-Ok.is

pub returns-in-Ok-clause-sound : goal.returns-in-Ok-clause-sound
returns-in-Ok-clause-sound g c =
    soundly c.inputs_are_valid.ensures c.own_reports_are_sound_texts.ensures true
    (command_of (bytes_of c.args.words.now)) _ _ _ (returns-in-Ok-clause-told g c)

pub returns-in-Err-clause-sound : goal.returns-in-Err-clause-sound
returns-in-Err-clause-sound g c =
    soundly c.inputs_are_valid.ensures c.own_reports_are_sound_texts.ensures true
    (command_of (bytes_of c.args.words.now)) _ _ _ (returns-in-Err-clause-told g c)
