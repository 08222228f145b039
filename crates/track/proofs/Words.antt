-- What a call tells to its words.
use Rattle.std.proofs.Common.{◌≡◌, inl, inr, ℕ, Bool, List, Option, Some, None, Result, Ok, Err, refl}
use Rattle.std.specs.Option.{ok_or}
use Rattle.std.specs.Prelude.{IfSome}
use Rattle.word_line.specs.declared.command.Command.{Command}
use Rattle.word_line.specs.declared.command.Command.TheVariants as commands
use Rattle.word_line.specs.Forms.{command_of}
use Rattle.make_load.specs.Laws.{WordsAreLoads}
use Rattle.word_line.specs.declared.command.WordsFault.{WordsFault}
use Rattle.track.specs.declared.status.Status.{Status}
use Rattle.track.specs.declared.status.Status.TheVariants as statuses
use Rattle.track.specs.Results.{HasLoad, is_served}
use Rattle.track.specs.Ends.{EndsIf, Streams, Tells, status_number}

none_of : (words : Option Command) {read : Result Command WordsFault} (other : WordsFault) {fault : WordsFault}
    → read ≡ ok_or words other → read ≡ Err fault → words ≡ None
none_of None other e is = refl
none_of (Some command) other e is = cc

some_of : (words : Option Command) {read : Result Command WordsFault} (other : WordsFault) {command : Command}
    → read ≡ ok_or words other → read ≡ Ok command → words ≡ Some command
some_of None other e is = cc
some_of (Some found) other e is = cc

-- words of no form
pub at_none : (threads : Bool) (words : Option Command) {read : Result Command WordsFault} (other : WordsFault)
    {fault : WordsFault} {number : ℕ} (before : Streams) → read ≡ ok_or words other → read ≡ Err fault
    → number ≡ status_number statuses.BadWords → Tells threads words number before before
at_none threads words other before e is n =
    rw (none_of words other e is) (record { status = statuses.BadWords; is = n; ends = (refl, refl) })

-- the words of a command
pub at_some : (threads : Bool) (words : Option Command) {read : Result Command WordsFault} (other : WordsFault)
    {command : Command} (status : Status) {number : ℕ} (before now : Streams) → read ≡ ok_or words other
    → read ≡ Ok command → number ≡ status_number status → EndsIf (is_served threads command) command status before now
    → Tells threads words number before now
at_some threads words other status before now e is n ends =
    rw (some_of words other e is) (record { status = status; is = n; ends = ends })

-- what holds of the words' command, if they are one, holds of the command that was read
pub told_of : (P : Command → Type 0) (words : Option Command) {read : Result Command WordsFault} (other : WordsFault)
    {command : Command} → read ≡ ok_or words other → read ≡ Ok command → IfSome words P → P command
told_of P words other e is = rw (some_of words other e is) (λ p. p)

-- the load of the words' command is within the limits
pub has_load : WordsAreLoads → (words : List (List ℕ)) {read : Result Command WordsFault} (other : WordsFault)
    (command : Command) → read ≡ ok_or (command_of words) other → read ≡ Ok command → HasLoad command
has_load loads words other (commands.Make load) e is =
    loads words load (inl (some_of (command_of words) other e is))
has_load loads words other (commands.Trial load) e is =
    loads words load (inr (some_of (command_of words) other e is))
has_load loads words other command e is = tt
