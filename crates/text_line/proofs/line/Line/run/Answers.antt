use Rattle.std.proofs.lemmas.Grind.{common_steps}
use Rattle.std.proofs.Common.{◌≡◌, ◌≤◌, ◌-◌, ◌++◌, ℕ, List, ◌∙◌, ap, drop, length, take, arith}
use Rattle.std.proofs.lemmas.List.{length-append, length-take}
use Rattle.outside.specs.Texts.{fields}
use Rattle.text_line.proofs.Runs.{behind_line}
use Rattle.text_line.proofs.line.Line.run.Goals as goal

pub keep-requires-clause-text : goal.keep-requires-clause-text
keep-requires-clause-text c =
    let before = c.self.inside in
    let now = c.self-else-is_of.inside in
    let text : List ℕ = fields c.args.actors.now in
    let long : length c.args.self.now ≡ before.end =
    omega (
      arith,
      ap length c.self.view_is,
      length-take before.end before.bytes.items,
      c.self.invariant.0,
      c.self.invariant.1,
    ) in
    let grown : take now.end now.bytes.items ≡ c.args.self.now ++ text =
    c.self-else-is_of.view_is ∙ c.numbers.ensures.text in
    let within : before.end ≤ now.end =
    omega (arith, long, ap length grown, length-append c.args.self.now text, length-take now.end now.bytes.items) in
    ap (λ (bs : List ℕ). take (now.end - before.end) (drop before.end bs)) c.deref.ensures.value
    ∙ behind_line c.args.self.now text now.bytes.items before.end now.end long within grown
    ∙ ap fields c.requires.alone

pub invariant_of-self : goal.invariant_of-self
invariant_of-self c = grind (arith, common_steps)

pub returns-then-is_of : goal.returns-then-is_of
returns-then-is_of c = grind (arith, common_steps)

pub slice_bounds-keep-count : goal.slice_bounds-keep-count
slice_bounds-keep-count c = grind (arith, common_steps)

pub slice_bounds-keep-start : goal.slice_bounds-keep-start
slice_bounds-keep-start c = grind (arith, common_steps)
