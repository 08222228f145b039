use Rattle.std.proofs.Common.{◌≡◌, ◌+◌, ◌-◌, ◌<◌, ℕ, List, suc, false, get_or, length, ap, arith, add-one}
use Rattle.std.proofs.Math.Nat.{min-le_right}
use Rattle.std.proofs.lemmas.List.{get_or_default}
use Rattle.machine.specs.declared.ahead.Ahead.{Ahead}
use Rattle.visit_log.specs.Cells.{CellData}
use Rattle.machine.proofs.Owing.{come-more, come-none}
use Rattle.machine.proofs.ahead.put_plain.Goals as goal

pub loop-place-init : goal.loop-place-init
loop-place-init c = grind (arith, come-none)

pub loop-place-preserved : goal.loop-place-preserved
loop-place-preserved c = λ plan old new may.
    let writes : List Ahead = c.args.ahead.now in
    let place : ℕ = c.loop-place.place in
    let write : Ahead = get_or writes place (record { place = 0; commits = false; word = 0 }) in
    let low : place < length writes = grind (arith, min-le_right) in
    let come = c.loop-place.invariant plan old new may in
    let one : place + 1 - c.args.made ≡ suc (place - c.args.made) = omega (arith, c.loop-place.auto.place) in
    rw (one, add-one place) (come-more place writes low
    (get_or_default writes place (record { place = 0; commits = false; word = 0 }) write low) c.if-write.false come
    (λ key its. c.put_at.ensures.history plan key come.may.over its) (c.put_at.ensures.goes plan come.may.over)
    (λ key its. ap (λ (k : CellData). k.subs) (c.put_at.ensures.words plan key come.may.over its)))
