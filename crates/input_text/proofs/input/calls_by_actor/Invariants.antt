use Rattle.std.proofs.Common.{◌≡◌, ◌++◌, drop, map}
use Rattle.input_text.specs.Listing.{calls_from}
use Rattle.input_text.proofs.input.calls_by_actor.Given as goal

abbrev pub invariant-loop-script : goal.invariant-loop-script
invariant-loop-script l = record {
  at : l.actor ≡ l.script-index;
  calls : l.calls.items ++ calls_from l.actor (drop l.actor (map (λ script. script.items) l.scripts))
      ≡ calls_from 0 (map (λ script. script.items) l.scripts);
}
