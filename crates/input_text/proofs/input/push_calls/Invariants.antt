use Rattle.std.proofs.Common.{◌≡◌, ◌++◌, take}
use Rattle.input_text.specs.Listing.{calls_of}
use Rattle.input_text.proofs.input.push_calls.Given as goal

abbrev pub invariant-loop-call : goal.invariant-loop-call
invariant-loop-call l = l.calls.items ≡ l.fn.calls.items ++ calls_of l.actor (take l.call-index l.script)
