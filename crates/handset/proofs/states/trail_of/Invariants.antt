use Rattle.std.proofs.Common.{◌≡◌, ◌<◌, ℕ, take}
use Rattle.node_set.specs.Ascending.{has}
use Rattle.handset.proofs.states.trail_of.Given as goal

abbrev pub invariant-loop-word : goal.invariant-loop-word
invariant-loop-word l = record {
  room : l.trail.room ≡ l.nodes;
  same : (x : ℕ) → x < l.nodes → has x l.trail.members ≡ has x (take l.word-index l.words);
}
