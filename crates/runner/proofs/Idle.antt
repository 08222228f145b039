-- A caller without calls has no visit that comes next.
use Rattle.std.proofs.Common.{◌≡◌, [], None, refl}
use Rattle.directory.specs.Histories.{words_after}
use Rattle.directory.specs.Orders.{next}
use Rattle.scripts.specs.Scripts.{scripts_of}
use Rattle.station.specs.Setup.{setting_in}
use Rattle.runner.specs.Examples.{idle_input, line_setup}

pub idle-next : next (setting_in line_setup) (scripts_of idle_input) [] 1 ≡ None
unfolding words_after
idle-next = refl
