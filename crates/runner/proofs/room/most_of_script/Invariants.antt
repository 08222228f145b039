use Rattle.std.proofs.Common.{◌≡◌, ℕ, List, take}
use Rattle.region_plan.specs.Settings.{setting_of}
use Rattle.scripts.specs.Scripts.{most_in}
use Rattle.runner.proofs.room.most_of_script.Given as goal

abbrev pub invariant-loop-call : goal.invariant-loop-call
invariant-loop-call l = (starts : List ℕ) → l.most ≡ most_in (setting_of l.plan starts) (take l.call-index l.script)
