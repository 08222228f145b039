use Rattle.std.proofs.Common.{◌++◌, ◌∷◌, [], subst, sym}
use Rattle.entry_word.specs.declared.visit.Act.TheVariants.{Put}
use Rattle.visit_log.specs.Cells.{Hold}
use Rattle.visit_log.proofs.Opening.{hold-after}
use Rattle.visit_log.proofs.cells.PlainCells.put.Goals as goal

pub returns-clause-history : goal.returns-clause-history
returns-clause-history c = λ starts history actor hold.
    subst (λ cells. Hold c.args.plan.now starts cells (history ++ record {
      actor = actor;
      act = Put c.args.key c.args.word;
    } ∷ [])) (sym c.set.ensures.words)
    (hold-after c.same_key_means.ensures c.cell_after.ensures actor c.args.word c.requires.goes c.requires.cell hold)
