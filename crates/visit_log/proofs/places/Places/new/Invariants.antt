use Rattle.std.proofs.Common.{◌≡◌, ◌<◌, ◌≤◌, ◌+◌, ◌*◌, ℕ, get_or}
use Rattle.std.specs.Prelude.{vec_capacity, vec_len}
use Rattle.region_plan.specs.Plan.{levels_of, nodes_of}
use Rattle.visit_log.specs.Numbers.{clusters_below}
use Rattle.visit_log.proofs.places.Places.new.Given as goal

abbrev pub invariant-loop-level : goal.invariant-loop-level
invariant-loop-level l = record {
  count : vec_len l.firsts ≡ l.level;
  firsts : (k : ℕ) → k < l.level → get_or l.firsts.items k 0 ≡ nodes_of l.plan + clusters_below l.plan k;
  first : l.first ≡ nodes_of l.plan + clusters_below l.plan l.level;
  few : l.first ≤ 1024 * (l.level + 1);
  room : vec_capacity l.firsts ≡ levels_of l.plan;
}
