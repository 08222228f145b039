-- Lists of values that are read item by item.
use Rattle.std.proofs.Common.{◌≡◌, ℕ, zero, suc, ◌+◌, ◌<◌, List, [], ◌∷◌, ◌++◌, Option, Some, None, option_map, map, length, take, drop, get_or, take-append-drop, append_assoc, append-nil, arith, refl, sym, ap, ◌∙◌}
use Rattle.std.proofs.Math.Seq.{drop-cons}
use Rattle.std.specs.List.{concat}
use Rattle.outside.specs.Texts.{field, fields}
use Rattle.serde_json.specs.Data.{Data, Items, item, no_items}
use Rattle.serde_json.specs.View.{items_view, view}
use Rattle.serde_json.specs.declared.value.Value.{Value}
use Rattle.word_line.specs.Forms.{◌>>=◌}
use Rattle.json_form.specs.Taking.{each_in}
use Rattle.directory.specs.ListLaws.{same_some, none_there}

-- two lists, where both are read
abbrev pub both : {A : Type 0} → Option (List A) → Option (List A) → Option (List A)
both None ys = None
both (Some xs) None = None
both (Some xs) (Some ys) = Some (xs ++ ys)

-- a list with one element more, where both are read
abbrev pub cons : {A : Type 0} → Option A → Option (List A) → Option (List A)
cons None ys = None
cons (Some x) None = None
cons (Some x) (Some ys) = Some (x ∷ ys)

pub cons-is : {A : Type 0} (x : Option A) (ys : Option (List A))
    → (x >>= (λ one. ys >>= (λ others. Some (one ∷ others)))) ≡ cons x ys
cons-is None ys = refl
cons-is (Some x) None = refl
cons-is (Some x) (Some ys) = refl

both-none : {A : Type 0} (ys : Option (List A)) → ys ≡ both (Some []) ys
both-none None = refl
both-none (Some ys) = refl

cons-both : {A : Type 0} (x : Option A) (ys zs : Option (List A)) → cons x (both ys zs) ≡ both (cons x ys) zs
cons-both None ys zs = refl
cons-both (Some x) None zs = refl
cons-both (Some x) (Some ys) None = refl
cons-both (Some x) (Some ys) (Some zs) = refl

cons-length : {A : Type 0} (x : Option A) (ys : Option (List A)) {xs : List A} {n : ℕ}
    → ((zs : List A) → ys ≡ Some zs → length zs ≡ n) → cons x ys ≡ Some xs → length xs ≡ suc n
cons-length None ys count e = absurd cc
cons-length (Some x) None count e = absurd cc
cons-length (Some x) (Some ys) count e = ap length (sym (same_some e)) ∙ ap suc (count ys refl)

take-more : (vs : List Value) (i : ℕ) (d : Value) → i < length vs
    → take (suc i) vs ≡ take i vs ++ get_or vs i d ∷ []
take-more [] i d below = absurd (omega arith)
take-more (v ∷ vs) zero d below = refl
take-more (v ∷ vs) (suc i) d below = ap (λ l. v ∷ l) (take-more vs i d (omega arith))

module _ {A : Type 0} (read : Data → Option A) where
  -- two parts of a list
  pub each-append : (vs ws : List Value)
      → each_in read (items_view (vs ++ ws)) ≡ both (each_in read (items_view vs)) (each_in read (items_view ws))
  each-append [] ws = both-none (each_in read (items_view ws))
  each-append (v ∷ vs) ws =
      cons-is (read (view v)) (each_in read (items_view (vs ++ ws)))
      ∙ ap (cons (read (view v))) (each-append vs ws)
      ∙ cons-both (read (view v)) (each_in read (items_view vs)) (each_in read (items_view ws))
      ∙ ap (λ o. both o (each_in read (items_view ws))) (sym (cons-is (read (view v)) (each_in read (items_view vs))))

  -- one item more
  pub each-more : (vs : List Value) (i : ℕ) (d : Value) (xs : List A) (x : A) → i < length vs
      → each_in read (items_view (take i vs)) ≡ Some xs → read (view (get_or vs i d)) ≡ Some x
      → each_in read (items_view (take (i + 1) vs)) ≡ Some (xs ++ x ∷ [])
  each-more vs i d xs x below before here =
      let next : i + 1 ≡ suc i = omega arith in
      ap (λ (k : ℕ). each_in read (items_view (take k vs))) next
      ∙ ap (λ (l : List Value). each_in read (items_view l)) (take-more vs i d below)
      ∙ each-append (take i vs) (get_or vs i d ∷ [])
      ∙ rw (before, here)

  -- an item that isn't read
  pub each-stuck : (vs : List Value) (i : ℕ) (d : Value) (xs : List A) → i < length vs
      → each_in read (items_view (take i vs)) ≡ Some xs → read (view (get_or vs i d)) ≡ None
      → each_in read (items_view vs) ≡ None
  each-stuck vs i d xs below before here =
      let cut : vs ≡ take i vs ++ get_or vs i d ∷ drop (suc i) vs =
      sym (take-append-drop i vs) ∙ ap (λ (l : List Value). take i vs ++ l) (drop-cons vs i d below) in
      ap (λ (l : List Value). each_in read (items_view l)) cut
      ∙ each-append (take i vs) (get_or vs i d ∷ drop (suc i) vs)
      ∙ rw (before, here)

  -- as many are read as there are items
  pub each-length : (vs : List Value) (xs : List A) → each_in read (items_view vs) ≡ Some xs → length xs ≡ length vs
  each-length [] xs is = ap length (sym (same_some is))
  each-length (v ∷ vs) xs is =
      cons-length (read (view v)) (each_in read (items_view vs)) (λ ys e. each-length vs ys e)
      (sym (cons-is (read (view v)) (each_in read (items_view vs))) ∙ is)

  -- items of which no list is read
  pub none-by-count : (vs : List Value)
      → ((xs : List A) → each_in read (items_view vs) ≡ Some xs → length xs ≡ length vs → ⊥)
      → each_in read (items_view vs) ≡ None
  none-by-count vs differs = none_there (each_in read (items_view vs)) (λ xs e. differs xs e (each-length vs xs e))

-- what was read, written: how many lines, and which
pub option-map-some : {A B : Type 0} (f : A → B) (o : Option A) {b : B} → option_map f o ≡ Some b
    → (a : A) × (o ≡ Some a) × (f a ≡ b)
option-map-some f None e = absurd cc
option-map-some f (Some a) e = (a, refl, same_some e)

map-cons : {A B : Type 0} (f : A → B) (x : Option A) (ys : Option (List A))
    → cons (option_map f x) (option_map (map f) ys) ≡ option_map (map f) (cons x ys)
map-cons f None ys = refl
map-cons f (Some x) None = refl
map-cons f (Some x) (Some ys) = refl

-- items that are read and then written
pub each-map : {A B : Type 0} (read : Data → Option A) (f : A → B) (items : Items)
    → each_in (λ v. option_map f (read v)) items ≡ option_map (map f) (each_in read items)
each-map read f no_items = refl
each-map read f (item v items) =
    cons-is (option_map f (read v)) (each_in (λ w. option_map f (read w)) items)
    ∙ ap (cons (option_map f (read v))) (each-map read f items)
    ∙ map-cons f (read v) (each_in read items)
    ∙ ap (option_map (map f)) (sym (cons-is (read v) (each_in read items)))

pub concat-more : (pieces : List (List ℕ)) (piece : List ℕ)
    → concat (pieces ++ piece ∷ []) ≡ concat pieces ++ piece
concat-more [] piece = append-nil piece
concat-more (first ∷ pieces) piece =
    ap (λ (l : List ℕ). first ++ l) (concat-more pieces piece) ∙ sym (append_assoc first (concat pieces) piece)

pub fields-more : (ns : List ℕ) (n : ℕ) → fields (ns ++ n ∷ []) ≡ fields ns ++ field n
fields-more [] n = append-nil (field n)
fields-more (m ∷ ns) n =
    ap (λ (l : List ℕ). field m ++ l) (fields-more ns n) ∙ sym (append_assoc (field m) (fields ns) (field n))
