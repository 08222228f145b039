use Rattle.std.proofs.lemmas.Grind.{common_steps}
use Rattle.std.proofs.Common.{rules, ◌≡◌, ℕ, ◌-◌, ◌<◌, ◌≤◌, List, length, take, ap, sym, ◌∙◌, arith}
use Rattle.std.specs.Prelude.{slice_index, slice_index_or}
use Rattle.std.proofs.Math.Nat.{min-le_left}
use Rattle.std.proofs.lemmas.List.{get_or-take, get_or_default, length-take-le}
use Rattle.visit_log.specs.Cells.{word_beside}
use Rattle.machine.proofs.Passing.{climb-at, place-below}
use Rattle.machine.proofs.caller.count_ahead.Goals as goal

-- one of the first of some places
first-of : (xs : List ℕ) (n k d : ℕ) → n ≤ length xs → k < length (take n xs)
    → (k < length xs) × (slice_index_or (take n xs) k d ≡ slice_index xs k)
first-of xs n k d few low = grind (arith, length-take-le, get_or-take, get_or_default)

pub count_empty-requires-clause-inside : goal.count_empty-requires-clause-inside
count_empty-requires-clause-inside g c = λ k d low.
    let plan = c.args.plan.now in
    let at = climb-at c.requires.routes c.requires.over in
    let one = first-of c.ahead-ahead.result.now c.min.result k d
    (omega (arith, c.min.ensures, min-le_left (length c.ahead-ahead.result.now - 1) c.args.most)) low in
    omega (
      arith,
      one.1,
      c.ahead-ahead.ensures.places plan at k one.0,
      place-below c.cell_numbers.ensures.below c.plan_is_sound.ensures.matched c.requires.over.from
          (c.ahead-ahead.ensures.rungs plan at k one.0),
      c.requires.goes.width,
    )

pub returns-clause-empty : goal.returns-clause-empty
returns-clause-empty g c = λ i low.
    let plan = c.args.plan.now in
    let at = climb-at c.requires.routes c.requires.over in
    let one = first-of c.ahead-ahead.result.now c.min.result i 0
    (omega (arith, c.min.ensures, min-le_left (length c.ahead-ahead.result.now - 1) c.args.most))
    (omega (arith, low, c.count_empty.ensures.within)) in
    ap (word_beside c.args.cells.now c.args.sub) (sym (one.1 ∙ c.ahead-ahead.ensures.places plan at i one.0))
    ∙ c.count_empty.ensures.empty i low

pub returns-clause-rungs : goal.returns-clause-rungs
returns-clause-rungs c = search rules

pub count_empty-requires-clause-known : goal.count_empty-requires-clause-known
count_empty-requires-clause-known c = grind (arith, common_steps)
