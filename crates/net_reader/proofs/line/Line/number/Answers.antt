use Rattle.std.proofs.Common.{◌≡◌, ◌-◌, ◌<◌, ◌∷◌, length, get_or, take, drop, subst, sym, ◌∙◌, arith}
use Rattle.std.proofs.lemmas.Bool.Decides.{nat_tests}
use Rattle.net_reader.specs.Seen.{seen_line}
use Rattle.net_reader.specs.Steps.{IsRun}
use Rattle.net_reader.proofs.Running.{first-byte, run-number, run-number-blank}
use Rattle.net_reader.proofs.line.Line.number.Goals as goal

pub returns-then-is_blank : goal.returns-then-is_blank
returns-then-is_blank c =
    let line = seen_line c.args.self.now in
    let piece = c.args.piece.now in
    let run = c.leading_number-value in
    let behind = c.split_at.result.1.now in
    let b = get_or behind 0 0 in
    let after = take (length behind - 1) (drop 1 behind) in
    let cut : behind ≡ b ∷ after = first-byte behind (omega (arith, c.in-len1-up.len_at_least)) in
    let some : 0 < run.result.1 = grind (arith, nat_tests, c.if-taken-eq0.false) in
    subst (λ l. IsRun line l piece after) (sym c.in_ok-keep.ensures)
    (run-number-blank line piece run.result.1 run.result.0 run.result.1 c.requires some run.ensures.within
    (sym cut ∙ c.split_at.ensures.back) run.ensures.plain run.ensures.read
    (sym c.is_blank.ensures ∙ c.if-is_blank.true))

pub returns : goal.returns
returns c =
    let run = c.leading_number-value in
    let some : 0 < run.result.1 = grind (arith, nat_tests, c.if-taken-eq0.false) in
    search run-number
