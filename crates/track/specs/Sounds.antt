-- What `replay` and `run` write, in the report's own words: a sound report of the input that the
-- bytes say, in its order, or in the one that the report of a run prints. It names nothing of the
-- directory. Key laws: `command` and `command_with_threads`, by their clause `sound`.
use Rattle.std.specs.Prelude.{◌≡◌, ℕ, List, Option, Some, IfSome, Ok}
use Rattle.outside.specs.Bytes.{append_known}
use Rattle.net_reader.specs.Input.{Contents, IsInput}
use Rattle.soundness.specs.Sound.{IsSoundRun, IsSoundText}
use Rattle.word_line.specs.declared.command.Command.{Command}
use Rattle.word_line.specs.declared.command.Command.TheVariants.{Replay, Run}

-- these bytes say an input, and such a text of it was written behind what stood before
pub record IsSoundlyWritten (IsSuch : Contents → List ℕ → Type 0) (bytes : List ℕ)
    (before now : Option (List ℕ)) : Type 0 where
  pub contents : Contents
  pub says : IsInput bytes (Ok contents)
  pub text : List ℕ
  pub sound : IsSuch contents text
  pub written : now ≡ append_known before text

-- with status 0 `replay` and `run` have written a sound report of the bytes that were left
abbrev pub WritesSoundly : Option Command → ℕ → Option (List ℕ) → Option (List ℕ)
    → Option (List ℕ) → Type 0
WritesSoundly (Some Replay) number left before now =
    number ≡ 0 → IfSome left (λ bytes. IsSoundlyWritten IsSoundText bytes before now)
WritesSoundly (Some Run) number left before now =
    number ≡ 0 → IfSome left (λ bytes. IsSoundlyWritten IsSoundRun bytes before now)
WritesSoundly words number left before now = Unit {0}
