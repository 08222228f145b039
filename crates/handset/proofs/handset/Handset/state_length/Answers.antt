use Rattle.std.proofs.Common.{ap, arith, sym}
use Rattle.handset.proofs.Saved.{nodes-few, state-count}
use Rattle.handset.proofs.handset.Handset.state_length.Goals as goal

pub overflow_add-result-2 : goal.overflow_add-result-2
overflow_add-result-2 c =
    omega (arith, nodes-few _ c.set_is_sound.ensures, c.plan_is_sound.ensures.sound.few, c.levels.ensures, c.count.ensures)

pub returns : goal.returns
returns c =
    let count = state-count _ c.set_is_sound.ensures c.requires.goes (sym (ap (λ h. h.trail) c.self.view_is)) in
    omega (arith, count, c.levels.ensures, c.count.ensures)
