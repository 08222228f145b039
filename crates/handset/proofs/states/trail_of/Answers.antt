use Rattle.std.proofs.Common.{refl, ◌∙◌, ap, arith, get_or}
use Rattle.std.proofs.lemmas.List.{take_all}
use Rattle.node_set.specs.Ascending.{has}
use Rattle.handset.proofs.Saved.{trail-done, trail-skips, trail-takes}
use Rattle.handset.proofs.states.trail_of.Goals as goal
use Rattle.handset.proofs.states.trail_of.Goals.{then-word-from, else-word-from}

pub loop-word-preserved : goal.loop-word-preserved
loop-word-preserved c =
    elim c.if-word-from.branch [
      | then-word-from w ↦ rw (w.trail-is, w.insert.ensures) (record {
        room = c.loop-word.invariant.room;
        same = λ x h. trail-takes c.loop-word.trail.members c.args.words.now c.loop-word.word-index x
            (get_or c.args.words.now c.loop-word.word-index 0) (omega arith) refl (c.loop-word.invariant.same x h);
      })
      | else-word-from w ↦ rw w.trail-is (record {
        room = c.loop-word.invariant.room;
        same = λ x h. trail-skips c.loop-word.trail.members c.args.words.now c.loop-word.word-index x
            (get_or c.args.words.now c.loop-word.word-index 0) c.args.nodes (omega arith) refl h
            (omega (arith, c.from.ensures, w.if-word-from.false)) (c.loop-word.invariant.same x h);
      })
    ]

pub returns : goal.returns
returns c =
    trail-done c.loop-word.trail c.args.nodes c.args.words.now c.loop-word.invariant.room
    (λ x h. c.loop-word.invariant.same x h ∙ ap (has x) (take_all c.loop-word.word-index c.args.words.now
    c.loop-word-test.false))
