use Rattle.std.proofs.Common.{◌+◌, IfSome, Result, subst, ap, sym, ◌∙◌, arith}
use Rattle.net_reader.specs.declared.fault.InputFault.{InputFault}
use Rattle.net_reader.specs.declared.scan.Scan.{Scan}
use Rattle.net_reader.specs.Said.{Said}
use Rattle.net_reader.specs.Seen.{said_or_fault, seen_known, seen_line, seen_scan}
use Rattle.net_reader.specs.Steps.{fault_at}
use Rattle.net_reader.specs.Whole.{HearsOrder}
use Rattle.net_reader.proofs.WholeLine.{heard-whole, still-rests, whole-shorter}
use Rattle.net_reader.proofs.scan.Scan.whole_order.Goals as goal

pub returns-in-Some : goal.returns-in-Some
returns-in-Some c =
    let self = c.args.self.now in
    let known = c.order_line.new.self in
    let piece = c.args.piece.now in
    let after = c.args.after.now in
    let rest = c.in-Some.rest.now in
    let going = c.requires.rests.going in
    let heard : HearsOrder self.known known after rest =
    subst (λ o. IfSome o (λ rest. HearsOrder self.known known after rest.now)) c.in-Some.is c.in_ok-rest.ensures.heard
    in
    let shorter = whole-shorter heard.numbers rest c.requires.opens heard.ends in
    let one_more = ap (λ (s : Scan). s.lines) c.count.ensures in
    record {
      read = heard-whole self.lines (seen_known self.known) heard.numbers rest c.requires.rests.seen
          (ap (λ (s : Scan). seen_scan s) c.count.ensures ∙ ap (λ (said : Result Said InputFault). record {
            said = said;
            lines = self.lines + 1;
            begun = self.begun;
            held = self.held;
            line = seen_line self.line;
          }) (ap (λ f. said_or_fault f (seen_known known)) going
          ∙ ap (λ j. fault_at (self.lines + 1) j) (sym heard.heard))) c.requires.opens heard.ends;
      shorter = omega (arith, shorter);
      lines = omega (arith, shorter, one_more);
      well = grind arith;
      rests = grind (arith, still-rests);
    }
