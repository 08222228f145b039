use Rattle.std.proofs.lemmas.Grind.{common_steps}
use Rattle.std.proofs.Common.{[], rules, arith}
use Rattle.entry_word.specs.declared.visit.Key.TheVariants.{Presence}
use Rattle.station.specs.Opening.{setup_of}
use Rattle.station.specs.Setup.{IsCellOf}
use Rattle.station.proofs.Laying.{laid_cell}
use Rattle.station.proofs.opening.lay_presences.Goals as goal

-- src/opening.rt:95:9
pub loop-sub-preserved : goal.loop-sub-preserved
loop-sub-preserved c =
    let setup = setup_of c.args.plan.now c.args.homes.now 0 in
    let key = Presence c.loop-node.node c.loop-sub.sub in
    let was = c.loop-sub.invariant in
    let is_cell : IsCellOf setup key = record { place = search rules; known = search rules } in
    let laid = laid_cell c.cell_numbers.ensures.apart is_cell (omega (arith, was.1))
    (c.look-word.ensures.history c.args.homes.now [] c.requires.hold) c.in_ok-push.ensures.items was.0 in
    (laid.0, omega (arith, laid.1, was.1))

pub loop-node-preserved : goal.loop-node-preserved
loop-node-preserved c = grind (arith, common_steps)

pub returns-in_err-push : goal.returns-in_err-push
returns-in_err-push c = grind (arith, common_steps)
