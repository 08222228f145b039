use Rattle.std.proofs.Common.{◌∙◌, ◌<◌, ℕ, get_or, length, arith}
use Rattle.std.proofs.lemmas.List.{take_all}
use Rattle.region_plan.proofs.Rows.{length-containing}
use Rattle.region_plan.proofs.Filling.{its_weight, next_free, next_within, reader_written}
use Rattle.region_plan.proofs.Gathering.{cluster_counted, one_counted, one_skipped}
use Rattle.region_plan.proofs.readers.fill_cluster.Goals as goal
use Rattle.region_plan.proofs.readers.fill_cluster.Goals.{then-v-taken, else-v-taken}

pub bounds-readers-next : goal.bounds-readers-next
bounds-readers-next c = omega (
  arith,
  next_within c.args.clusters.now c.args.number c.loop-place.place c.nodes-members.ensures.members
      c.nodes-members.ensures.ascending c.requires.number c.loop-place-test.true
      (omega (arith, c.if-v-taken.true, c.loop-place.auto.taken)) c.requires.counts c.loop-place.invariant.counted
      c.args.starts.now c.requires.room,
  c.loop-place.auto.readers,
  c.requires.readers,
)

pub bounds-weights-next : goal.bounds-weights-next
bounds-weights-next c = omega (
  arith,
  next_within c.args.clusters.now c.args.number c.loop-place.place c.nodes-members.ensures.members
      c.nodes-members.ensures.ascending c.requires.number c.loop-place-test.true
      (omega (arith, c.if-v-taken.true, c.loop-place.auto.taken)) c.requires.counts c.loop-place.invariant.counted
      c.args.starts.now c.requires.room,
  c.loop-place.auto.weights,
  c.requires.weights,
)

pub overflow_add-taken : goal.overflow_add-taken
overflow_add-taken c = grind (arith, length-containing)

pub loop-place-preserved : goal.loop-place-preserved
loop-place-preserved c = elim c.if-v-taken.branch [
  | then-v-taken w ↦
      let m : ℕ = get_or c.nodes-members.result.now c.loop-place.place 0 in
      let node : m < length c.args.taken.now = omega (arith, w.if-v-taken.true, c.loop-place.auto.taken) in
      let free = next_free c.args.clusters.now c.args.number c.loop-place.place c.nodes-members.ensures.members
      c.nodes-members.ensures.ascending c.requires.number c.loop-place-test.true node c.requires.counts
      c.loop-place.invariant.counted in
      rw (w.taken-is, w.readers-is, w.weights-is) (record {
        counted = one_counted c.nodes-members.result.now c.args.taken.now c.loop-place.taken c.loop-place.place
            c.loop-place-test.true c.loop-place.invariant.counted
            (rw c.nodes-members.ensures.members c.nodes-members.ensures.ascending) node;
        filled = reader_written c.requires.room c.loop-place.auto.taken c.loop-place.invariant.filled
            (c.loop-place.auto.readers ∙ c.requires.readers) (c.loop-place.auto.weights ∙ c.requires.weights) m node
            free.0 c.args.number (get_or c.weights-inside.result.now c.loop-place.place 0) free.1
            (its_weight c.args.clusters.now c.args.number c.loop-place.place c.nodes-members.ensures.members
            c.loop-place-test.true c.nodes-members.ensures.ascending c.weights-inside.ensures.weights
            c.weights-inside.ensures.count);
      })
  | else-v-taken w ↦
      rw (w.taken-is, w.readers-is, w.weights-is) (record {
        counted = one_skipped c.nodes-members.result.now c.args.taken.now c.loop-place.taken c.loop-place.place
            c.loop-place-test.true c.loop-place.invariant.counted
            (omega (arith, w.if-v-taken.false, c.loop-place.auto.taken));
        filled = c.loop-place.invariant.filled;
      })
]

pub returns-clause-counts : goal.returns-clause-counts
returns-clause-counts c =
    cluster_counted c.args.clusters.now c.args.number c.nodes-members.ensures.members c.requires.counts
    (rw (take_all c.loop-place.place c.nodes-members.result.now (omega (arith, c.loop-place-test.false)))
    at c.loop-place.invariant.counted)
