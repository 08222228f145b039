use Rattle.std.proofs.Common.{◌≡◌, ◌∷◌, ◌≤◌, ◌+◌, ◌*◌, ◌++◌, flat_map, length, take}
use Rattle.std.specs.Fmt.{decimal}
use Rattle.json_form.proofs.lists.write_others.Given as goal

abbrev pub invariant-loop-number : goal.invariant-loop-number
invariant-loop-number l = record {
  text : l.line ≡ l.fn.line ++ flat_map (λ n. 44 ∷ decimal n) (take l.number-index l.numbers);
  long : length l.line ≤ length l.fn.line + 41 * l.number-index;
}
