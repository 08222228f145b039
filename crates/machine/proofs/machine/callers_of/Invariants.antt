use Rattle.std.proofs.Common.{◌≡◌, ◌<◌, ◌+◌, ℕ, [], get_or, length}
use Rattle.std.specs.Prelude.{vec_capacity, vec_len}
use Rattle.net_reader.specs.Seen.{seen_input}
use Rattle.machine.specs.declared.caller.Caller.{Caller}
use Rattle.machine.specs.Callers.{IsCaller}
use Rattle.machine.proofs.machine.callers_of.Given as goal

abbrev pub invariant-loop-caller : goal.invariant-loop-caller
invariant-loop-caller l = record {
  count : vec_len l.callers ≡ l.caller;
  room : vec_capacity l.callers ≡ l.input.callers;
  each : (c : ℕ) (d : Caller) → c < l.caller
      → IsCaller (seen_input l.input) l.plan [] (length l.input.homes.items + c) (get_or l.callers.items c d);
}
