use Rattle.std.proofs.Common.{◌≡◌, ◌++◌, drop}
use Rattle.net_reader.specs.Seen.{seen_input}
use Rattle.report_check.specs.Slots.{slots_for, slots_from}
use Rattle.report_check.proofs.slots.slots_of.Given as goal

abbrev pub invariant-actors : goal.invariant-actors
invariant-actors l =
    l.slots.items ++ slots_from l.input.homes.items l.actor (drop l.actor (seen_input l.input).scripts)
    ≡ slots_for (seen_input l.input)
