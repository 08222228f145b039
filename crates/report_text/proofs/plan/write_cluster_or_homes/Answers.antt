use Rattle.std.proofs.Common.{◌++◌, length, codes, ap, ◌∙◌, arith}
use Rattle.report_text.proofs.Parts.{cluster-part, clusters-end}
use Rattle.report_text.proofs.plan.write_cluster_or_homes.Goals as goal

pub returns-then-cluster-clusters : goal.returns-then-cluster-clusters
returns-then-cluster-clusters c =
    let plan = c.args.plan.now in
    let i = c.args.level in
    let n = c.args.cluster in
    record {
      text = grind (arith, cluster-part);
      some = omega (arith, ap length c.write_cluster.ensures);
      sound = grind arith;
    }

pub returns-else-cluster-clusters : goal.returns-else-cluster-clusters
returns-else-cluster-clusters c =
    let plan = c.args.plan.now in
    let i = c.args.level in
    let text = c.word.ensures.text ∙ ap (λ line. line ++ codes "homes") c.requires.empty in
    record {
      text = grind (arith, clusters-end);
      some = omega (arith, ap length text);
      sound = (c.requires.level, omega arith);
    }
