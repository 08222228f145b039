-- What holds of the scripts of a valid input, over any setting of its nodes and its subscribers.
-- Key laws: `scripts_are_valid` (`ScriptsAreValid`), `visits_are_few` (`VisitsAreFew`).
use Rattle.std.specs.Prelude.{◌≤◌, length}
use Rattle.directory.specs.Settings.{Setting}
use Rattle.directory.specs.Histories.{History}
use Rattle.directory.specs.Orders.{AreValid, IsPlayed}
use Rattle.net_reader.specs.Input.{Contents}
use Rattle.net_reader.specs.Valid.{IsValid}
use Rattle.scripts.specs.Scripts.{IsSettingOf, most_visits, scripts_of}

-- the scripts of a valid input are valid (`scripts_are_valid`)
abbrev pub ScriptsAreValid : Type 0
ScriptsAreValid =
    (input : Contents) (setting : Setting) → IsValid input → IsSettingOf input setting
    → AreValid setting (scripts_of input)

-- no history of them has more visits than they have at most (`visits_are_few`)
abbrev pub VisitsAreFew : Type 0
VisitsAreFew =
    (input : Contents) (setting : Setting) (history : History) → IsValid input
    → IsSettingOf input setting → IsPlayed setting (scripts_of input) history
    → length history ≤ most_visits setting input.scripts
