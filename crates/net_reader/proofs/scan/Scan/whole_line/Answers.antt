use Rattle.std.proofs.Common.{[], ◌∷◌, ap, subst, sym, arith}
use Rattle.net_reader.specs.declared.scan.Scan.{Scan}
use Rattle.net_reader.specs.Seen.{IsWell, seen_known, seen_scan}
use Rattle.net_reader.proofs.WholeLine.{comment-shorter, heard-comment, line-heard, still-rests}
use Rattle.net_reader.proofs.scan.Scan.whole_line.Goals as goal

pub returns-in_default : goal.returns-in_default
returns-in_default c =
    let self = c.args.self.now in
    let found = c.in-Some-past_comment in
    let shorter = comment-shorter c.args.piece.now found.rest.now found.ensures in
    record {
      read = heard-comment self.lines (seen_known self.known) c.args.piece.now found.rest.now c.requires.rests.seen
          (ap (λ (s : Scan). seen_scan s) c.count.ensures) found.ensures;
      shorter = omega (arith, shorter);
      lines = omega (arith, shorter, ap (λ (s : Scan). s.lines) c.count.ensures);
      well = subst (λ (s : Scan). IsWell s.fault s.known) (sym c.count.ensures) c.requires.well;
      rests = λ some. grind (arith, still-rests);
    }

pub returns-in-Move : goal.returns-in-Move
returns-in-Move c =
    let found = c.in-Some-two_numbers in
    let left = c.in_ok-left in
    line-heard c.args.self.now c.hear.new.self (found.first ∷ found.second ∷ []) found.rest.now left.left.now
    c.requires.rests c.in-Some.ensures found.ensures left.ensures

pub returns-in-Find : goal.returns-in-Find
returns-in-Find c =
    let found = c.in-Some-three_numbers in
    let left = c.in_ok-left-2 in
    line-heard c.args.self.now c.hear-in-Find.new.self (found.first ∷ found.second ∷ found.third ∷ []) found.rest.now
    left.left.now c.requires.rests c.in-Some.ensures found.ensures left.ensures

pub returns : goal.returns
returns c =
    let found = c.in-Some-edge_numbers in
    let left = c.in_ok-left-3 in
    line-heard c.args.self.now c.hear-2.new.self (found.first ∷ found.second ∷ found.weight ∷ []) found.rest.now
    left.left.now c.requires.rests c.in-Some.ensures found.ensures left.ensures
