-- Short laws of the puts to a subscriber in a history that goes on, for the crates above.
-- Key law: `puts-seen` (a front of a legal history that has all visits of a subscriber has all puts
-- to it).
use Rattle.std.proofs.Common.{◌≡◌, ℕ, zero, suc, ◌≤◌, ◌==◌, eq-eqb, ne_eqb, Bool, true, false, cond, List, [], ◌∷◌, ◌++◌, length, map, take, drop, sym, ap, ◌∙◌, arith, refl}
use Rattle.std.proofs.lemmas.List.{append-nil}
use Rattle.std.proofs.lemmas.List.Elements.{filter-append}
use Rattle.entry_word.specs.declared.visit.Visit.{Visit}
use Rattle.directory.specs.Settings.{Setting, start}
use Rattle.directory.specs.Courses.{course_at}
use Rattle.directory.specs.Writes.{Write, visit_of, writes}
use Rattle.directory.specs.Puts.{steps_in}
use Rattle.directory.specs.Histories.{History, IsFront, is_put_for, own, puts_to}
use Rattle.directory.specs.Legal.{ArePuts, IsLegal}
use Rattle.station.specs.TicketLaws.{front-rest, own-beyond, own-nil}

-- the puts to a subscriber in two parts of a history
pub puts-append : (sub : ℕ) (xs ys : History) → puts_to sub (xs ++ ys) ≡ puts_to sub xs
    ++ puts_to sub ys
puts-append sub xs ys = filter-append (λ (v : Visit). is_put_for sub v.act) xs ys

-- all visits of a subscriber's steps are its own
own-visits : (sub k : ℕ) (ws : List Write)
    → own sub (take k (map (visit_of sub) ws)) ≡ take k (map (visit_of sub) ws)
own-visits sub zero ws = refl
own-visits sub (suc k) [] = refl
own-visits sub (suc k) (w ∷ ws) =
    ap (λ b. cond b (visit_of sub w ∷ own sub (take k (map (visit_of sub) ws)))
    (own sub (take k (map
    (visit_of sub) ws)))) (eq-eqb sub sub refl)
    ∙ ap (λ l. visit_of sub w ∷ l) (own-visits sub k ws)

own-puts : (setting : Setting) (sub : ℕ) (puts : List Visit) → ArePuts setting sub puts
    → own sub puts ≡ puts
own-puts setting sub puts legal =
    let front = legal.front in
    ap (own sub) front ∙ (own-visits sub (length puts)
    (writes setting (course_at (start setting sub))
    (steps_in puts)) ∙ sym front)

own-short : (sub : ℕ) (xs : List Visit) → length (own sub xs) ≤ length xs
own-short sub [] = omega arith
own-short sub (x ∷ xs) = go (x.actor == sub) (own-short sub xs)
  where
    go : (b : Bool) → length (own sub xs) ≤ length xs
        → length (cond b (x ∷ own sub xs) (own sub xs)) ≤ suc (length xs)
    go true h = omega arith
    go false h = omega arith

own-later : (sub : ℕ) (xs ys : List Visit) → own sub (xs ++ ys) ≡ xs ++ ys → own sub ys ≡ ys
own-later sub [] ys e = e
own-later sub (x ∷ xs) ys e = go (λ f. own-later sub xs ys f) (x.actor == sub)
    (own-short sub (xs ++ ys)) e
  where
    go : (own sub (xs ++ ys) ≡ xs ++ ys → own sub ys ≡ ys) → (b : Bool)
        → length (own sub (xs ++ ys)) ≤ length (xs ++ ys)
        → cond b (x ∷ own sub (xs ++ ys)) (own sub (xs ++ ys)) ≡ x ∷ (xs ++ ys) → own sub ys ≡ ys
    go later true short f = later (ap (drop 1) f)
    go later false short f = absurd (omega (arith, ap length f))

own-none : (sub : ℕ) (xs : List Visit) → own sub xs ≡ [] → own sub (puts_to sub xs) ≡ []
own-none sub [] e = refl
own-none sub (x ∷ xs) e =
    let t = own-nil sub x xs e in
    go (is_put_for sub x.act) (ne_eqb x.actor sub t.0) (own-none sub xs t.1)
  where
    go : (b : Bool) → (x.actor == sub) ≡ false → own sub (puts_to sub xs) ≡ []
        → own sub (cond b (x ∷ puts_to sub xs) (puts_to sub xs)) ≡ []
    go true other h = ap (λ c. cond c (x ∷ own sub (puts_to sub xs)) (own sub (puts_to sub xs)))
        other ∙ h
    go false other h = h

-- a front that has all visits of a subscriber has all puts to it
pub puts-seen : (setting : Setting) (sub : ℕ) (seen history : History) → IsFront seen history
    → own sub history ≡ own sub seen
    → IsLegal setting sub history → puts_to sub history ≡ puts_to sub seen
puts-seen setting sub seen history front same legal =
    let rest = drop (length seen) history in
    let whole : puts_to sub history ≡ puts_to sub seen ++ puts_to sub rest = ap (puts_to sub)
    (front-rest seen history front) ∙ puts-append sub seen rest in
    let mine : own sub (puts_to sub seen ++ puts_to sub rest) ≡ puts_to sub seen
    ++ puts_to sub rest =
    ap (own sub) (sym whole) ∙ (own-puts setting sub (puts_to sub history) legal ∙ whole) in
    let later : puts_to sub rest ≡ [] = sym (own-later sub (puts_to sub seen) (puts_to sub rest)
    mine)
    ∙ own-none sub rest (own-beyond sub seen history front same) in
    whole ∙ (ap (λ l. puts_to sub seen ++ l) later ∙ append-nil (puts_to sub seen))
