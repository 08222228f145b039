use Rattle.std.proofs.Common.{sym, ◌∙◌}
use Rattle.census_text.specs.Presence.{is_there}
use Rattle.census_text.proofs.Steps.{list-skips, list-takes}
use Rattle.census_text.proofs.lines.list_by_cells.Goals as goal
use Rattle.census_text.proofs.lines.list_by_cells.Goals.{then-is_there+in_ok-push, else-is_there}

-- src/lines.rt:51:5
pub loop-sub-preserved : goal.loop-sub-preserved
loop-sub-preserved c =
    elim c.if-is_there.branch [
      | then-is_there+in_ok-push w ↦
          rw w.who-is (list-takes (is_there c.args.plan.now c.args.cells.now c.args.node) c.loop-sub.sub
          c.loop-sub.who.items w.push.new.self.items (sym c.is_there.ensures ∙ w.if-is_there.true)
          c.loop-sub.invariant w.in_ok-push.ensures.items)
      | else-is_there w ↦
          rw w.who-is (list-skips (is_there c.args.plan.now c.args.cells.now c.args.node) c.loop-sub.sub
          c.loop-sub.who.items (sym c.is_there.ensures ∙ w.if-is_there.false) c.loop-sub.invariant)
    ]
