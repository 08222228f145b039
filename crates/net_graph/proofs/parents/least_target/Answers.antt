use Rattle.std.proofs.Common.{◌∙◌, sym}
use Rattle.std.proofs.lemmas.Bool.{false≢true}
use Rattle.net_graph.proofs.Parenting.{target_taken, target_left}
use Rattle.net_graph.proofs.parents.least_target.Goals as goal
use Rattle.net_graph.proofs.parents.least_target.Goals.{then-makes_up, else-makes_up}

pub loop-arc-preserved : goal.loop-arc-preserved
loop-arc-preserved c = elim c.if-makes_up.branch [
  | then-makes_up w ↦
      target_taken c.args.arcs.now c.loop-arc.arc-index (record { target = 0; weight = 0 }) c.loop-arc-test.true
      (c.makes_up.ensures.0 w.if-makes_up.true) (w.least-is ∙ w.lower.ensures) c.loop-arc.invariant
  | else-makes_up w ↦
      rw w.least-is (target_left c.args.arcs.now c.loop-arc.arc-index (record { target = 0; weight = 0 })
      c.loop-arc-test.true (λ makes. false≢true (sym w.if-makes_up.false ∙ c.makes_up.ensures.1 makes))
      c.loop-arc.invariant)
]
