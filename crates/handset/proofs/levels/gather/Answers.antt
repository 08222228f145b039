use Rattle.std.proofs.Common.{◌<◌, length, arith, ◌∙◌, sym, get_or}
use Rattle.std.proofs.lemmas.List.{ext_get_or, length-map}
use Rattle.directory.specs.Writes.{numbers_from}
use Rattle.handset.specs.Beginning.{gathered_then}
use Rattle.handset.proofs.Lists.{numbers-from-zero}
use Rattle.handset.proofs.levels.gather.Goals as goal
use Rattle.node_set.specs.SetLaws.{length-passing_all}

pub returns : goal.returns
returns c =
    ext_get_or 0 _ _
    (c.loop-level.auto.gathered
    ∙ sym (length-map (numbers_from 0 (length c.args.gathered.now)) (λ k. gathered_then
    (get_or c.args.gathered.now k 0) c.args.renewed c.args.weight k)
    ∙ length-passing_all 0 (length c.args.gathered.now)))
    (λ k h. let low : k < c.loop-level.level = omega arith in let small : k < length c.args.gathered.now =
    omega arith in
    grind (arith, numbers-from-zero))
