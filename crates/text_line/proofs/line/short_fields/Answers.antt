use Rattle.std.proofs.Common.{◌∙◌, ◌+◌, List, ℕ, length, ap, sym, subst}
use Rattle.std.proofs.lemmas.List.{length_push}
use Rattle.text_line.specs.Shorts.{AreShort, IsShort}
use Rattle.text_line.proofs.Fields.{short_more}
use Rattle.text_line.proofs.line.short_fields.Goals as goal

pub loop-number-preserved : goal.loop-number-preserved
loop-number-preserved c =
    let shorts = c.loop-number.shorts.items in
    let short = c.short_field.result in record {
      are = subst (λ (xs : List (List ℕ)). AreShort xs) (sym c.in_ok-push.ensures.items)
          (short_more shorts short c.loop-number.invariant.are
          (subst (λ n. IsShort n short) (sym c.loop-number.invariant.count) c.short_field.ensures));
      count = ap (length {A = List ℕ}) c.in_ok-push.ensures.items ∙ length_push shorts short
          ∙ ap (λ n. n + 1) c.loop-number.invariant.count;
    }
