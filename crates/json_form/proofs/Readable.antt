-- Values whose texts are read as they are.
use Rattle.std.proofs.Common.{◌≡◌, ℕ, suc, ◌<◌, ◌≤◌, ◌^◌, Bool, true, false, List, [], ◌∷◌, ◌++◌, Some, IsUtf8, option_map, option_and_then, append-nil, refl, sym, ap, ◌∙◌, arith}
use Rattle.std.proofs.lemmas.Fmt.{IsAscii-decimal}
use Rattle.std.proofs.lemmas.Str.{IsUtf8-append, IsUtf8-from_ascii, IsUtf8-nil}
use Rattle.json.specs.Lex.{tokens}
use Rattle.json.specs.Json as json
use Rattle.json.specs.Tree as tree
use Rattle.json.proofs.Printed.Decimals.{IsNumber-decimal}
use Rattle.json.proofs.Printed.Trees.{ArePrintable-json_tokens, value-json_tokens}
use Rattle.json.proofs.Printed.Utf8.{IsUtf8-are_ascii, IsUtf8-quoted}
use Rattle.serde_json.specs.Data.{Data, Items, array, item, no_items, number, string}
use Rattle.serde_json.specs.Read.{max_depth, of_items, of_json, read}
use Rattle.serde_json.specs.Written.{comma_if, compact_text, items_outline, items_text, outline}
use Rattle.serde_json.proofs.Numbers.{number_of-decimal}
use Rattle.serde_json.proofs.Texts.{print-outline}
use Rattle.json_form.specs.Values.{line_of_value, whole}
use Rattle.json_form.proofs.Fed.{tokens-fed}

-- a value whose text has its numbers, is UTF-8, nests so deep, and stands for the value
pub record IsReadable (k : ℕ) (d : Data) : Type 0 where
  pub numbers : tree.HasNumbers (outline d)
  pub same : of_json (outline d) ≡ Some d
  pub utf8 : IsUtf8 (compact_text d)
  pub shallow : tree.depth (outline d) ≤ k

-- the same of the items of a list
pub record AreReadable (k : ℕ) (ds : Items) : Type 0 where
  pub numbers : tree.ItemsHaveNumbers (items_outline ds)
  pub same : of_items (items_outline ds) ≡ Some ds
  pub utf8 : (later : Bool) → IsUtf8 (items_text later ds)
  pub shallow : tree.items_depth (items_outline ds) ≤ k

pub comma-utf8 : (later : Bool) → IsUtf8 (comma_if later)
comma-utf8 true = IsUtf8-are_ascii (44 ∷ []) refl
comma-utf8 false = IsUtf8-nil

pub whole-readable : (k n : ℕ) → n < 2 ^ 64 → IsReadable k (whole n)
whole-readable k n small = record {
  numbers = IsNumber-decimal n small;
  same = ap (option_map number) (number_of-decimal n small);
  utf8 = IsUtf8-from_ascii _ (IsAscii-decimal n small);
  shallow = omega arith;
}

pub word-readable : (k : ℕ) {s : List ℕ} → IsUtf8 s → IsReadable k (string s)
word-readable k {s} u = record { numbers = tt; same = refl; utf8 = IsUtf8-quoted s u; shallow = omega arith }

pub none-readable : (k : ℕ) → AreReadable k no_items
none-readable k = record {
  numbers = tt;
  same = refl;
  utf8 = λ later. IsUtf8-are_ascii (93 ∷ []) refl;
  shallow = omega arith;
}

pub more-readable : {k : ℕ} {d : Data} {ds : Items} → IsReadable k d → AreReadable k ds → AreReadable k (item d ds)
more-readable {d} {ds} one others = record {
  numbers = (one.numbers, others.numbers);
  same = rw (one.same, others.same) refl;
  utf8 = λ later. IsUtf8-append (comma_if later) (compact_text d ++ items_text true ds) (comma-utf8 later)
      (IsUtf8-append (compact_text d) (items_text true ds) one.utf8 (others.utf8 true));
  shallow = omega (arith, one.shallow, others.shallow);
}

pub array-readable : {k : ℕ} {ds : Items} → AreReadable k ds → IsReadable (suc k) (array ds)
array-readable {ds} all = record {
  numbers = all.numbers;
  same = rw all.same refl;
  utf8 = IsUtf8-append (91 ∷ []) (items_text false ds) (IsUtf8-are_ascii (91 ∷ []) refl) (all.utf8 false);
  shallow = omega (arith, all.shallow);
}

-- the line of such a value is read as the value
pub line-read : {k : ℕ} {d : Data} → IsReadable k d → k ≤ 127 → read (line_of_value d) ≡ Some d
line-read {d} is shallow =
    let ts = tree.json_tokens (outline d) in
    let same : tokens (line_of_value d) ≡ ts ++ [] =
    ap (λ (t : List ℕ). tokens (t ++ 10 ∷ [])) (sym (print-outline d))
    ∙ tokens-fed (ArePrintable-json_tokens (outline d) is.numbers) ∙ sym (append-nil ts) in
    ap (λ o. option_and_then of_json (option_and_then (λ p. json.if_last p.0 p.1) o))
    (ap (json.value max_depth) same ∙ value-json_tokens (outline d) max_depth [] (omega (arith, is.shallow, shallow)))
    ∙ is.same

pub line-utf8 : {k : ℕ} {d : Data} → IsReadable k d → IsUtf8 (line_of_value d)
line-utf8 {d} is = IsUtf8-append (compact_text d) (10 ∷ []) is.utf8 (IsUtf8-are_ascii (10 ∷ []) refl)
