use Rattle.std.proofs.lemmas.Grind.{common_steps}
use Rattle.std.proofs.Common.{◌<◌, arith, subst, sym}
use Rattle.region_plan.specs.Plan.{nodes_of}
use Rattle.move_cost.proofs.Stepping.{counted-more, left-of-step, ready-here, room-for-step}
use Rattle.move_cost.proofs.counting.count_step.Goals as goal

pub begin-node-requires-clause-may : goal.begin-node-requires-clause-may
begin-node-requires-clause-may c =
    (ready-here c.scripts_are_valid.ensures c.moves_are_short.ensures c.args.input.now c.plan_is_sound.ensures.sound
    c.plan_is_sound.ensures.matched c.requires.together c.requires.known c.requires.short c.index.ensures
    c.index-call.ensures c.requires.counted).may

pub begin-node-requires-clause-moved : goal.begin-node-requires-clause-moved
begin-node-requires-clause-moved c =
    let is = ready-here c.scripts_are_valid.ensures c.moves_are_short.ensures c.args.input.now
    c.plan_is_sound.ensures.sound c.plan_is_sound.ensures.matched c.requires.together c.requires.known c.requires.short
    c.index.ensures c.index-call.ensures c.requires.counted in
    omega (arith, is.short, c.requires.counted.small.moved)

pub finish-requires-clause-node : goal.finish-requires-clause-node
finish-requires-clause-node c =
    let is = ready-here c.scripts_are_valid.ensures c.moves_are_short.ensures c.args.input.now
    c.plan_is_sound.ensures.sound c.plan_is_sound.ensures.matched c.requires.together c.requires.known c.requires.short
    c.index.ensures c.index-call.ensures c.requires.counted in
    subst (λ n. n < nodes_of c.args.plan.now) (sym c.begin-node.ensures.node) is.node

pub finish-requires-clause-room : goal.finish-requires-clause-room
finish-requires-clause-room c =
    let is = ready-here c.scripts_are_valid.ensures c.moves_are_short.ensures c.args.input.now
    c.plan_is_sound.ensures.sound c.plan_is_sound.ensures.matched c.requires.together c.requires.known c.requires.short
    c.index.ensures c.index-call.ensures c.requires.counted in
    room-for-step c.begin-node.new.handset c.requires.counted is c.begin-node.ensures.line c.begin-node.ensures.its
    (c.begin-node.ensures.stands c.args.input.now.homes.items _ _ c.requires.counted.stands)

pub returns : goal.returns
returns c =
    let is = ready-here c.scripts_are_valid.ensures c.moves_are_short.ensures c.args.input.now
    c.plan_is_sound.ensures.sound c.plan_is_sound.ensures.matched c.requires.together c.requires.known c.requires.short
    c.index.ensures c.index-call.ensures c.requires.counted in
    let stands = c.begin-node.ensures.stands c.args.input.now.homes.items _ _ c.requires.counted.stands in
    let left = left-of-step c.begin-node.new.handset c.requires.counted is c.begin-node.ensures.its stands in
    counted-more c.begin-node.new.handset c.requires.counted is c.begin-node.ensures.node c.begin-node.ensures.line
    c.begin-node.ensures.small c.begin-node.ensures.its c.finish.ensures.its c.finish.ensures.goes
    c.finish.ensures.rests (c.finish.ensures.stands c.args.input.now.homes.items _ _ _ left)
    (c.finish.ensures.line c.args.input.now.homes.items _ _ _ left)
    (c.finish.ensures.small c.args.input.now.homes.items _ _ _ left)

pub index-call-requires : goal.index-call-requires
index-call-requires c = grind (arith, common_steps)

pub index-requires : goal.index-requires
index-requires c = grind (arith, common_steps)
