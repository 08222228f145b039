use Rattle.std.proofs.Common.{sym, ◌∙◌, ap, arith, [], ◌∷◌, ◌++◌}
use Rattle.handset.proofs.Saved.{nodes-done, nodes-skips, nodes-takes}
use Rattle.handset.proofs.states.push_nodes.Goals as goal
use Rattle.handset.proofs.states.push_nodes.Goals.{then-has+in_ok-push, else-has}

pub loop-node-preserved : goal.loop-node-preserved
loop-node-preserved c =
    elim c.if-has.branch [
      | then-has+in_ok-push w ↦
          rw w.words-is (nodes-takes _ _ c.loop-node.words.items w.push.new.self.items c.loop-node.node
          (omega (arith, c.loop-node-test.true, c.room-node-end.ensures.value))
          (sym c.has.ensures ∙ w.if-has.true) c.loop-node.invariant (w.in_ok-push.ensures.items
          ∙ ap (λ n. c.loop-node.words.items ++ n ∷ []) w.from.ensures))
      | else-has w ↦
          rw w.words-is (nodes-skips _ _ c.loop-node.words.items c.loop-node.node
          (omega (arith, c.loop-node-test.true, c.room-node-end.ensures.value))
          (sym c.has.ensures ∙ w.if-has.false) c.loop-node.invariant)
    ]

pub returns : goal.returns
returns c =
    nodes-done _ _ c.loop-node.words.items c.loop-node.node
    (omega (arith, c.loop-node-test.false, c.loop-node.auto.node-end, c.room-node-end.ensures.value))
    c.loop-node.invariant
