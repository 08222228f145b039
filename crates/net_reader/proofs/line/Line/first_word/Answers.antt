use Rattle.std.proofs.Common.{◌≡◌, ◌-◌, ◌∷◌, fold, length, get_or, take, drop, ap, sym, ◌∙◌, arith}
use Rattle.std.proofs.lemmas.Bool.{ne_eqb}
use Rattle.std.proofs.lemmas.Result.{IfOk-weaker}
use Rattle.net_reader.specs.declared.line.Open.TheVariants.{Between, Word}
use Rattle.net_reader.specs.Seen.{seen_line}
use Rattle.net_reader.specs.Steps.{more, put}
use Rattle.net_reader.proofs.Running.{first-byte, run-join, run-word, run-word-blank}
use Rattle.net_reader.proofs.line.Line.first_word.Goals as goal

pub returns-then-is_blank : goal.returns-then-is_blank
returns-then-is_blank c =
    let line = seen_line c.args.self.now in
    let piece = c.args.after.now in
    let word = c.word_run-packed in
    let behind = c.split_at.result.1.now in
    let blank = get_or behind 0 0 in
    let rest = take (length behind - 1) (drop 1 behind) in
    let cut : behind ≡ blank ∷ rest = first-byte behind (omega (arith, c.in-len1-up.len_at_least)) in
    let middle = record line { open_field = Between; word = word.result.0 } in
    let first = put line c.args.byte in
    let run = run-word-blank line piece c.args.byte word.result.0 word.result.1 c.requires.fresh c.requires.begins
    (ne_eqb c.args.byte 35 c.requires.no_comment) (sym cut ∙ c.split_at.ensures.back) word.ensures.plain
    (word.ensures.read ∙ ap (λ p. fold more (Word p) (take word.result.1 piece)) c.pack.ensures)
    (sym c.is_blank.ensures ∙ c.if-is_blank.true) in
    grind (arith, IfOk-weaker, run-join)

pub returns : goal.returns
returns c =
    let line = seen_line c.args.self.now in
    let piece = c.args.after.now in
    let word = c.word_run-packed in
    run-word line piece c.args.byte word.result.0 word.result.1 c.requires.fresh c.requires.begins
    (ne_eqb c.args.byte 35 c.requires.no_comment) c.split_at.ensures.back word.ensures.plain
    (word.ensures.read ∙ ap (λ p. fold more (Word p) (take word.result.1 piece)) c.pack.ensures)
