use Rattle.std.proofs.Common.{◌<◌, length, get_or, ap, sym, ◌∙◌, arith}
use Rattle.std.proofs.lemmas.Grind.{common_steps}
use Rattle.net_reader.proofs.Standing.{Stands-switch, switch}
use Rattle.net_reader.proofs.known.Known.switch.Goals as goal
use Rattle.net_reader.proofs.known.Known.switch.Goals.{then-off, else-off}

pub returns : goal.returns
returns c =
    let sub = get_or c.args.numbers.now 0 0 in
    let below : sub < length c.args.self.now.homes.items = omega arith in
    let stands = c.requires.stands in
    let is_off = stands.is_off sub below in
    elim c.if-off.branch [
      | then-off w ↦ (
        grind (arith, common_steps, is_off, w.if-off, w.call-is),
        record {
          few = c.requires.few;
          few_callers = c.requires.few_callers;
          stands = Stands-switch sub c.args.off (w.call-is ∙ ap switch (sym w.if-off.true)) c.in_ok-push.ensures.items
              stands below;
        },
      )
      | else-off w ↦ (
        grind (arith, common_steps, is_off, w.if-off, w.call-is),
        record {
          few = c.requires.few;
          few_callers = c.requires.few_callers;
          stands = Stands-switch sub c.args.off (w.call-is ∙ ap switch (sym w.if-off.false)) c.in_ok-push.ensures.items
              stands below;
        },
      )
    ]
