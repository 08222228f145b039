use Rattle.std.proofs.Common.{ap, ◌∙◌, arith, map, Vec, Global, suc, take, ◌+◌, ◌≡◌, ℕ, List, [], ◌∷◌, zero, ◌<◌, get_or, length}
use Rattle.std.proofs.lemmas.List.{take_all}
use Rattle.net_reader.specs.declared.said.Call.{Call}
use Rattle.region_plan.specs.Settings.{setting_of}
use Rattle.scripts.specs.Scripts.{most_in, most_visits}
use Rattle.machine.proofs.room.most_visits.Goals as goal
use Rattle.directory.specs.ListLaws.{added}
use Rattle.std.specs.Prelude.{sum_by}
use Rattle.std.proofs.lemmas.List.Sums.{sum_by-cons}

-- what a sum over scripts comes to with one more
visits-more : (f : List Call → ℕ) (xs : List (Vec Call Global)) (i : ℕ) (d : Vec Call Global) → i < length xs
    → sum_by f (map (λ (s : Vec Call Global). s.items) (take (suc i) xs))
    ≡ sum_by f (map (λ (s : Vec Call Global). s.items) (take i xs)) + f (get_or xs i d).items
visits-more f [] i d h = absurd (omega (arith, h))
visits-more f (x ∷ xs) zero d h = omega (arith, sum_by-cons f x.items [])
visits-more f (x ∷ xs) (suc i) d h = grind (arith, visits-more f xs i d (omega (arith, h)), sum_by-cons)

pub loop-script-preserved : goal.loop-script-preserved
loop-script-preserved c = λ starts.
    let sum = added _ c.checked_add.result _ c.checked_add.ensures c.ok_or.ensures.value c.in_ok-most.was in
    let here = c.in_ok-more.ensures starts ∙ (ap (most_in (setting_of c.args.plan.now starts)) c.deref.ensures.value
    ∙ ap (λ (s : Vec Call Global). most_in (setting_of c.args.plan.now starts) s.items) c.script-item.is) in
    let step = visits-more
    (most_in (setting_of c.args.plan.now starts)) c.args.scripts.now c.loop-script.script-index c.script-item.result
    c.loop-script-test.true in
    let next : c.loop-script.script-index + 1 ≡ suc c.loop-script.script-index = omega arith in
    omega (
      arith,
      sum,
      c.loop-script.invariant starts,
      here,
      step,
      ap (λ i. most_visits (setting_of c.args.plan.now starts)
          (map (λ (s : Vec Call Global). s.items) (take i c.args.scripts.now))) next,
    )

pub returns : goal.returns
returns c = λ starts. c.loop-script.invariant starts
    ∙ ap (λ xs. most_visits (setting_of c.args.plan.now starts) (map (λ (s : Vec Call Global). s.items) xs))
    (take_all c.loop-script.script-index c.args.scripts.now c.loop-script-test.false)
