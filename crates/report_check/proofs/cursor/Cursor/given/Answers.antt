use Rattle.std.proofs.Common.{◌≡◌, ◌∷◌, [], ◌∙◌, ap, sym}
use Rattle.std.specs.Prelude.{decimal}
use Rattle.outside.specs.Texts.{field}
use Rattle.report_check.specs.Reading.{word_in}
use Rattle.report_check.proofs.Steps.{pass-none, word-missing, word-then}
use Rattle.report_check.proofs.cursor.Cursor.given.Goals as goal

pub returns-in_err-word-clause-none : goal.returns-in_err-word-clause-none
returns-in_err-word-clause-none c =
    pass-none c.from_residual.result (word-missing (32 ∷ []) (decimal c.args.number) c.args.self.now.rest.now
    c.in_err-word.ensures.none)

pub returns-clause-some : goal.returns-clause-some
returns-clause-some c =
    let digits : c.as_bytes.result.now ≡ decimal c.args.number = c.as_bytes.ensures.value ∙ c.format.ensures.text in
    let same : word_in (field c.args.number) c.args.self.now.rest.now
    ≡ word_in c.as_bytes.result.now c.word.new.self.rest.now =
    word-then (32 ∷ []) (decimal c.args.number) c.args.self.now.rest.now c.in_ok-word.ensures.some
    ∙ ap (λ ds. word_in ds c.word.new.self.rest.now) (sym digits) in
    rw same c.bytes.ensures.some

pub returns-clause-none : goal.returns-clause-none
returns-clause-none c =
    let digits : c.as_bytes.result.now ≡ decimal c.args.number = c.as_bytes.ensures.value ∙ c.format.ensures.text in
    let same : word_in (field c.args.number) c.args.self.now.rest.now
    ≡ word_in c.as_bytes.result.now c.word.new.self.rest.now =
    word-then (32 ∷ []) (decimal c.args.number) c.args.self.now.rest.now c.in_ok-word.ensures.some
    ∙ ap (λ ds. word_in ds c.word.new.self.rest.now) (sym digits) in
    rw same c.bytes.ensures.none
