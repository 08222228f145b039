use Rattle.std.proofs.lemmas.Grind.{common_steps}
use Rattle.std.proofs.Common.{◌≡◌, ◌≤◌, drop, length, Some, ap, arith, rules, ◌∙◌, sym}
use Rattle.outside.specs.Calls.{one_more}
use Rattle.outside.specs.Memory.{SourceState}
use Rattle.outside.proofs.Faults.{fault-rises}
use Rattle.outside.proofs.Pieces.{drop-moved}
use Rattle.outside.proofs.memory_source.MemorySourceSource.read.Goals as goal

pub returns-then-contains-clause-count : goal.returns-then-contains-clause-count
returns-then-contains-clause-count c =
    let faults = ap (λ (s : SourceState). s.faults) c.self.view_is in
    fault-rises c.args.self.now.faults _ (omega (arith, faults))
    (c.saturating_add-self-inside-then-contains.ensures ∙ ap one_more faults)

pub returns-clause-bytes : goal.returns-clause-bytes
returns-clause-bytes c =
    let left = ap (λ (s : SourceState). s.left) c.self.view_is in
    let rest : drop c.self.inside.at c.self.inside.bytes.items ≡ c.split_at.result.1.now = search rules in
    let within : c.min-count.result ≤ length c.split_at.result.1.now = omega arith in
    ap Some (sym left ∙ rest ∙ rw c.copy_front.ensures (drop-moved c.self.inside.bytes.items c.split_at.result.1.now
    (drop c.min-count.result c.args.into.now) c.self.inside.at c.min-count.result rest within))

pub returns-clause-rest : goal.returns-clause-rest
returns-clause-rest c = grind (arith, common_steps)

pub returns-then-count-eq0 : goal.returns-then-count-eq0
returns-then-count-eq0 c = grind (arith, common_steps)
