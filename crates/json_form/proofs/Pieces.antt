-- Texts that grow at their end, and lists that are written item by item.
use Rattle.std.proofs.Common.{◌≡◌, ℕ, ◌<◌, Bool, true, false, List, [], ◌∷◌, ◌++◌, codes, flat_map, get_or, length, take, drop, take-append-drop, append_assoc, append-nil, arith, refl, sym, ap, ◌∙◌}
use Rattle.std.specs.Fmt.{decimal}
use Rattle.std.specs.List.{concat}
use Rattle.serde_json.specs.Data.{Data}
use Rattle.serde_json.specs.Written.{compact_text}
use Rattle.json_form.specs.Left.{list_left, opening}
use Rattle.json_form.specs.Values.{whole}

-- a text that pieces were put after, one after another
abbrev pub grown : List ℕ → List (List ℕ) → List ℕ
grown text [] = text
grown text (piece ∷ pieces) = grown (text ++ piece) pieces

pub grown-is : (text : List ℕ) (pieces : List (List ℕ)) → grown text pieces ≡ text ++ concat pieces
grown-is text [] = sym (append-nil text)
grown-is text (piece ∷ pieces) = grown-is (text ++ piece) pieces ∙ append_assoc text piece (concat pieces)

-- the first item of what is left
pub list-more : {A : Type 0} (begun : Bool) (value : A → Data) (x : A) (xs : List A)
    → list_left begun value (x ∷ xs) ≡ opening begun ++ (compact_text (value x) ++ list_left true value xs)
list-more true value x xs = refl
list-more false value x xs = refl

-- numbers, each after a comma
pub numbers-more : (xs ys : List ℕ)
    → list_left true whole (xs ++ ys) ≡ flat_map (λ n. 44 ∷ decimal n) xs ++ list_left true whole ys
numbers-more [] ys = refl
numbers-more (x ∷ xs) ys =
    ap (λ (t : List ℕ). 44 ∷ (decimal x ++ t)) (numbers-more xs ys)
    ∙ ap (λ (t : List ℕ). 44 ∷ t)
    (sym (append_assoc (decimal x) (flat_map (λ n. 44 ∷ decimal n) xs) (list_left true whole ys)))

-- some numbers of a list
pub numbers-step : (begun : Bool) (numbers : List ℕ) {front others now later empty line last : List ℕ} {n byte : ℕ}
    (m : ℕ) → 0 < length numbers → front ≡ take 1 numbers → others ≡ drop 1 numbers → n ≡ get_or front 0 0
    → opening begun ≡ byte ∷ [] → empty ≡ [] → line ≡ empty ++ byte ∷ decimal n → now ≡ take m others
    → later ≡ drop m others → last ≡ line ++ flat_map (λ n. 44 ∷ decimal n) now
    → list_left begun whole numbers ≡ last ++ list_left true whole later
numbers-step begun [] m some fronts rests is opens none first some_now after
    all = absurd (omega arith)
numbers-step begun (x ∷ xs) {others} {now} {later} {last} {n} {byte} m some fronts rests is opens none first some_now
    after
    all =
    let commas = flat_map (λ n. 44 ∷ decimal n) now in
    let tail = list_left true whole later in
    let same : n ≡ x = is ∙ ap (λ (l : List ℕ). get_or l 0 0) fronts in
    let parts : xs ≡ now ++ later =
    sym rests ∙ sym (take-append-drop m others) ∙ ap (λ (l : List ℕ). l ++ drop m others) (sym some_now) ∙ ap (λ (l :
    List ℕ). now ++ l) (sym after) in
    let written : last ≡ (opening begun ++ decimal x) ++ commas =
    all
    ∙ ap (λ (l : List ℕ). l ++ commas)
    (first ∙ ap (λ (l : List ℕ). l ++ byte ∷ decimal n) none ∙ ap (λ (l : List ℕ). l ++ decimal n) (sym opens)
    ∙ ap (λ (k : ℕ). opening begun ++ decimal k) same) in
    list-more begun whole x xs
    ∙ ap (λ (l : List ℕ). opening begun ++ (decimal x ++ list_left true whole l)) parts
    ∙ ap (λ (l : List ℕ). opening begun ++ (decimal x ++ l)) (numbers-more now later)
    ∙ sym (append_assoc (opening begun) (decimal x) (commas ++ tail))
    ∙ sym (append_assoc (opening begun ++ decimal x) commas tail)
    ∙ ap (λ (l : List ℕ). l ++ tail) (sym written)

-- the numbers of a row, and its last bracket
pub row-end : (ns line : List ℕ) {with_numbers last : List ℕ} → with_numbers ≡ line ++ flat_map (λ n. 44 ∷ decimal n) ns
    → last ≡ with_numbers ++ codes "]" → last ≡ line ++ list_left true whole ns
row-end ns line numbers end =
    end
    ∙ ap (λ (l : List ℕ). l ++ codes "]") numbers
    ∙ append_assoc line (flat_map (λ n. 44 ∷ decimal n) ns) (codes "]")
    ∙ ap (λ (l : List ℕ). line ++ l) (sym (numbers-more ns [])
    ∙ ap (λ (l : List ℕ). list_left true whole l) (append-nil ns))
