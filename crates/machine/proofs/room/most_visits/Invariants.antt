use Rattle.std.proofs.Common.{◌≡◌, ℕ, List, take, map}
use Rattle.region_plan.specs.Settings.{setting_of}
use Rattle.scripts.specs.Scripts.{most_visits}
use Rattle.machine.proofs.room.most_visits.Given as goal

abbrev pub invariant-loop-script : goal.invariant-loop-script
invariant-loop-script l = (starts : List ℕ) → l.most
    ≡ most_visits (setting_of l.plan starts) (map (λ script. script.items) (take l.script-index l.scripts))
