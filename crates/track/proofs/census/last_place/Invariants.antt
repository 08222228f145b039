use Rattle.std.proofs.Common.{◌≡◌, map, take}
use Rattle.scripts.specs.Scripts.{step_of}
use Rattle.directory.specs.Places.{place_at_end}
use Rattle.track.proofs.census.last_place.Given as goal

abbrev pub invariant-loop-call : goal.invariant-loop-call
invariant-loop-call l =
    record { node = l.node; is_off = l.is_off } ≡ place_at_end l.home (map step_of (take l.call-index l.script))
