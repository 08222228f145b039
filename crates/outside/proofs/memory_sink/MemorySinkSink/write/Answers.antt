use Rattle.std.proofs.Common.{Some, ◌++◌, length, take, rules, inl, inr, refl, ap, ◌∙◌, arith}
use Rattle.outside.specs.Calls.{one_more}
use Rattle.outside.specs.Memory.{SinkState}
use Rattle.outside.proofs.Faults.{fault-rises}
use Rattle.outside.proofs.memory_sink.MemorySinkSink.write.Goals as goal
use Rattle.outside.proofs.memory_sink.MemorySinkSink.write.Goals.{then-count-eq0-via-then-count-eq0, then-count-eq0-via-else-count-eq0+then-contains}

pub returns-then-count-eq0-clause-count : goal.returns-then-count-eq0-clause-count
returns-then-count-eq0-clause-count c =
    let faults = ap (λ (s : SinkState). s.faults) c.self.view_is in
    fault-rises c.args.self.now.faults _ (omega (arith, faults))
    (c.saturating_add-self-inside-then-count-eq0.ensures ∙ ap one_more faults)

pub returns-then-count-eq0-clause-fails : goal.returns-then-count-eq0-clause-fails
returns-then-count-eq0-clause-fails c =
    let long = ap (λ (s : SinkState). length s.written) c.self.view_is in
    let room = ap (λ (s : SinkState). s.room) c.self.view_is in
    elim c.then-count-eq0.branch [
      | then-count-eq0-via-then-count-eq0 w ↦ ((λ _. inr (omega arith)), (λ _. refl))
      | then-count-eq0-via-else-count-eq0+then-contains w ↦ ((λ _. inl (search rules)), (λ _. refl))
    ]

pub returns-clause-bytes : goal.returns-clause-bytes
returns-clause-bytes c =
    ap Some (c.in-Ok.ensures.items
    ∙ ap (λ (s : SinkState). s.written ++ take c.min-count.result c.args.piece.now) c.self.view_is)

pub returns-clause-gives : goal.returns-clause-gives
returns-clause-gives c = λ _.
    let long = ap (λ (s : SinkState). length s.written) c.self.view_is in
    let room = ap (λ (s : SinkState). s.room) c.self.view_is in
    let most = ap (λ (s : SinkState). s.most) c.self.view_is in
    omega (arith, long, room, most)
