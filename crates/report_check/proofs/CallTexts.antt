-- The line of a call that is read is the text that report_text writes of it.
use Rattle.std.proofs.lemmas.Option.{same_Some}
use Rattle.std.proofs.Common.{◌≡◌, ℕ, ◌^◌, ◌≤◌, Bool, true, false, cond, List, [], ◌∷◌, ◌++◌, Option, Some, None, refl, ap, sym, ◌∙◌, codes, append_assoc, append-nil}
use Rattle.outside.specs.Texts.{field, fields}
use Rattle.directory.specs.declared.answers.Done.{Done}
use Rattle.directory.specs.declared.answers.Done.TheVariants.{Moved, Switched, Again}
use Rattle.directory.specs.declared.answers.Why.{Why}
use Rattle.directory.specs.declared.answers.Why.TheVariants.{Empty, NoEntry, Chased}
use Rattle.report_text.specs.ReportText.{call_line, level_field, place_fields, switch_field, visit_fields, why_field}
use Rattle.report_check.specs.declared.calls.Bounds.{Bounds}
use Rattle.report_check.specs.declared.calls.Place.{Place}
use Rattle.report_check.specs.declared.calls.Visits.{Visits}
use Rattle.report_check.specs.declared.slots.Slot.{Slot}
use Rattle.report_check.specs.declared.slots.Slot.TheVariants.{Move, Switch, Find}
use Rattle.report_check.specs.Reading.{again_in, answer, answer_in, call_in, closing_in, empty_or_other, found_or_other, given_in, labelled_in, level_in, level_or_dash, most, move_in, number_in, off_or_again, other_why, place_in, switch_in, visits_in, why_in, word_in}
use Rattle.report_check.proofs.Texts.{bind-elim, number-text, word-text}
use Rattle.report_check.proofs.ReadBack.{high}

-- words in front of what follows
word-front : (ws text : List ℕ) {mid : List ℕ} (more rest : List ℕ) → word_in ws text ≡ Some mid → mid ≡ more ++ rest
    → text ≡ (ws ++ more) ++ rest
word-front ws text more rest e later =
    word-text ws text e ∙ ap (λ (xs : List ℕ). ws ++ xs) later ∙ sym (append_assoc ws more rest)

-- a number in front of what follows
number-front : (limit n : ℕ) (text : List ℕ) {mid : List ℕ} (more rest : List ℕ) → limit ≤ 2 ^ 63
    → number_in limit text ≡ Some (n, mid) → mid ≡ more ++ rest → text ≡ (field n ++ more) ++ rest
number-front limit n text {mid} more rest high e later =
    number-text limit n text mid high e ∙ ap (λ (xs : List ℕ). field n ++ xs) later
    ∙ sym (append_assoc (field n) more rest)

-- a label and a number in front of what follows
label-front : (label : List ℕ) (limit : ℕ) (text : List ℕ) {found : ℕ × List ℕ} (more rest : List ℕ) → limit ≤ 2 ^ 63
    → labelled_in label limit text ≡ Some found → found.1 ≡ more ++ rest
    → text ≡ (label ++ (field found.0 ++ more)) ++ rest
label-front label limit text {found} more rest high e later =
    bind-elim (word_in label text) (number_in limit) e (λ mid em nm.
    word-front label text (field found.0 ++ more) rest em (number-front limit found.0 mid more rest high nm later))

-- the value and the rest of a reading
pub value-is : {A : Type 0} (x y : A) (text rest : List ℕ)
    → ◌≡◌ {A = Option (A × List ℕ)} (Some (x, text)) (Some (y, rest)) → x ≡ y
value-is {A} x y text rest e = ap (λ (p : A × List ℕ). p.0) (same_Some (x, text) (y, rest) e)

pub rest-is : {A : Type 0} (x y : A) (text rest : List ℕ)
    → ◌≡◌ {A = Option (A × List ℕ)} (Some (x, text)) (Some (y, rest)) → text ≡ rest
rest-is {A} x y text rest e = ap (λ (p : A × List ℕ). p.1) (same_Some (x, text) (y, rest) e)

-- a label and a number at the end of a line
pub closing-front : (label text : List ℕ) {found : ℕ × List ℕ} {rest : List ℕ} → closing_in label text ≡ Some found
    → found.1 ≡ rest → text ≡ (label ++ (field found.0 ++ 10 ∷ [])) ++ rest
closing-front label text {found} {rest} e later =
    bind-elim (labelled_in label most text) _ e (λ l el nl. bind-elim (word_in (10 ∷ []) l.1) _ nl
    (λ r er nr. label-front label most text (10 ∷ []) rest high el
    (word-text (10 ∷ []) l.1 er ∙ ap (λ (xs : List ℕ). 10 ∷ xs) (rest-is l.0 found.0 r found.1 nr ∙ later))
    ∙ ap (λ n. (label ++ (field n ++ 10 ∷ [])) ++ rest) (value-is l.0 found.0 r found.1 nr)))

-- a word and numbers in front of what follows
given-front : (word numbers text : List ℕ) {mid : List ℕ} (more rest : List ℕ) → given_in word numbers text ≡ Some mid
    → mid ≡ more ++ rest → text ≡ (word ++ (fields numbers ++ more)) ++ rest
given-front word numbers text more rest e later =
    bind-elim (word_in word text) (word_in (fields numbers)) e
    (λ r er nr. word-front word text (fields numbers ++ more) rest er
    (word-front (fields numbers) r more rest nr later))

-- the same of one number
one-front : (word : List ℕ) (n : ℕ) (text : List ℕ) {mid : List ℕ} (more rest : List ℕ)
    → given_in word (n ∷ []) text ≡ Some mid → mid ≡ more ++ rest → text ≡ (word ++ (field n ++ more)) ++ rest
one-front word n text more rest e later =
    given-front word (n ∷ []) text more rest e later
    ∙ ap (λ (xs : List ℕ). (word ++ (xs ++ more)) ++ rest) (append-nil (field n))

pub visits-text : (text rest : List ℕ) (v : Visits) → visits_in text ≡ Some (v, rest)
    → text ≡ visit_fields v.weight v.first v.last ++ rest
visits-text text rest v e =
    bind-elim (labelled_in (codes " weight") most text) _ e
    (λ w ew nw. bind-elim (labelled_in (codes " first") most w.1) _ nw
    (λ f ef nf. bind-elim (closing_in (codes " last") f.1) _ nf (λ l el nl.
    let made : Visits = record { weight = w.0; first = f.0; last = l.0 } in
    let lasts : List ℕ = codes " last" ++ (field l.0 ++ 10 ∷ []) in
    label-front (codes " weight") most text (codes " first" ++ (field f.0 ++ lasts)) rest high ew
    (label-front (codes " first") most w.1 lasts rest high ef
    (closing-front (codes " last") f.1 el (rest-is made v l.1 rest nl)))
    ∙ ap (λ (u : Visits). visit_fields u.weight u.first u.last ++ rest) (value-is made v l.1 rest nl))))

move-text : (actor number from to : ℕ) (text rest : List ℕ) (call : Done)
    → move_in actor number from to text ≡ Some (call, rest) → text ≡ call_line call ++ rest
move-text actor number from to text rest call e =
    bind-elim (given_in (codes "move") (actor ∷ number ∷ from ∷ to ∷ []) text) _ e
    (λ r er nr. bind-elim (labelled_in (codes " weight") most r) _ nr
    (λ w ew nw. bind-elim (labelled_in (codes " first") most w.1) _ nw
    (λ f ef nf. bind-elim (labelled_in (codes " commit") most f.1) _ nf
    (λ c ec nc. bind-elim (closing_in (codes " last") c.1) _ nc (λ l el nl.
    let made : Done = Moved actor number from to w.0 f.0 c.0 l.0 in
    let lasts : List ℕ = codes " last" ++ (field l.0 ++ 10 ∷ []) in
    let commits : List ℕ = codes " commit" ++ (field c.0 ++ lasts) in
    let firsts : List ℕ = codes " first" ++ (field f.0 ++ commits) in
    let weights : List ℕ = codes " weight" ++ (field w.0 ++ firsts) in
    given-front (codes "move") (actor ∷ number ∷ from ∷ to ∷ []) text weights rest er
    (label-front (codes " weight") most r firsts rest high ew
    (label-front (codes " first") most w.1 commits rest high ef
    (label-front (codes " commit") most f.1 lasts rest high ec
    (closing-front (codes " last") c.1 el (rest-is made call l.1 rest nl)))))
    ∙ ap (λ (d : Done). call_line d ++ rest) (value-is made call l.1 rest nl))))))

switch-text : (actor : ℕ) (off : Bool) (node number : ℕ) (text rest : List ℕ) (call : Done)
    → switch_in actor off node number text ≡ Some (call, rest) → text ≡ call_line call ++ rest
switch-text actor off node number text rest call e =
    bind-elim (given_in (codes "switch") (actor ∷ []) text) _ e
    (λ r0 e0 n0. bind-elim (given_in (switch_field off) (node ∷ []) r0) _ n0
    (λ r1 e1 n1. bind-elim (given_in (codes " number") (number ∷ []) r1) _ n1
    (λ r2 e2 n2. bind-elim (closing_in (codes " ticket") r2) _ n2 (λ t et nt.
    let made : Done = Switched actor off node number t.0 in
    let tickets : List ℕ = codes " ticket" ++ (field t.0 ++ 10 ∷ []) in
    let numbers : List ℕ = codes " number" ++ (field number ++ tickets) in
    let states : List ℕ = switch_field off ++ (field node ++ numbers) in
    one-front (codes "switch") actor text states rest e0
    (one-front (switch_field off) node r0 numbers rest e1
    (one-front (codes " number") number r1 tickets rest e2
    (closing-front (codes " ticket") r2 et (rest-is made call t.1 rest nt))))
    ∙ ap (λ (d : Done). call_line d ++ rest) (value-is made call t.1 rest nt)))))

level-cases : (levels : ℕ) (text rest : List ℕ) (level : Option ℕ) (o : Option (ℕ × List ℕ)) → levels ≤ 2 ^ 63
    → number_in levels text ≡ o → level_or_dash text o ≡ Some (level, rest) → text ≡ level_field level ++ rest
level-cases levels text rest level (Some found) few is e =
    number-text levels found.0 text found.1 few is
    ∙ ap (λ (xs : List ℕ). field found.0 ++ xs) (rest-is (Some found.0) level found.1 rest e)
    ∙ ap (λ l. level_field l ++ rest) (value-is (Some found.0) level found.1 rest e)
level-cases levels text rest level None few is e =
    bind-elim (word_in (codes " -") text) _ e (λ r er nr. word-text (codes " -") text er
    ∙ ap (λ (xs : List ℕ). codes " -" ++ xs) (rest-is None level r rest nr)
    ∙ ap (λ l. level_field l ++ rest) (value-is None level r rest nr))

place-text : (bounds : Bounds) (text rest : List ℕ) (place : Place) → bounds.nodes ≤ 2 ^ 63 → bounds.levels ≤ 2 ^ 63
    → place_in bounds text ≡ Some (place, rest)
    → text ≡ place_fields place.node place.number place.level ++ rest
place-text bounds text rest place few low e =
    bind-elim (labelled_in (codes " at") bounds.nodes text) _ e
    (λ n en nn. bind-elim (labelled_in (codes " number") most n.1) _ nn
    (λ q eq nq. bind-elim (word_in (codes " level") q.1) _ nq
    (λ r er nr. bind-elim (level_in bounds.levels r) _ nr (λ l el nl.
    let made : Place = record { node = n.0; number = q.0; level = l.0 } in
    let levels : List ℕ = codes " level" ++ level_field l.0 in
    label-front (codes " at") bounds.nodes text (codes " number" ++ (field q.0 ++ levels)) rest few en
    (label-front (codes " number") most n.1 levels rest high eq
    (word-front (codes " level") q.1 (level_field l.0) rest er
    (level-cases bounds.levels r l.1 l.0 (number_in bounds.levels r) low refl el
    ∙ ap (λ (xs : List ℕ). level_field l.0 ++ xs) (rest-is made place l.1 rest nl))))
    ∙ ap (λ (p : Place). place_fields p.node p.number p.level ++ rest) (value-is made place l.1 rest nl)))))

other-cases : (text rest : List ℕ) (why : Why) (o : Option (List ℕ)) → word_in (codes " none") text ≡ o
    → other_why text o ≡ Some (why, rest) → text ≡ why_field why ++ rest
other-cases text rest why (Some mid) is e =
    word-text (codes " none") text is
    ∙ ap (λ (xs : List ℕ). codes " none" ++ xs) (rest-is NoEntry why mid rest e)
    ∙ ap (λ w. why_field w ++ rest) (value-is NoEntry why mid rest e)
other-cases text rest why None is e =
    bind-elim (word_in (codes " chased") text) _ e (λ r er nr. word-text (codes " chased") text er
    ∙ ap (λ (xs : List ℕ). codes " chased" ++ xs) (rest-is Chased why r rest nr)
    ∙ ap (λ w. why_field w ++ rest) (value-is Chased why r rest nr))

why-cases : (bounds : Bounds) (text rest : List ℕ) (why : Why) (o : Option (List ℕ)) → bounds.nodes ≤ 2 ^ 63
    → word_in (codes " empty") text ≡ o → empty_or_other bounds text o ≡ Some (why, rest)
    → text ≡ why_field why ++ rest
why-cases bounds text rest why (Some mid) few is e =
    bind-elim (number_in bounds.nodes mid) _ e (λ n en nn. word-front (codes " empty") text (field n.0) rest is
    (number-text bounds.nodes n.0 mid n.1 few en ∙ ap (λ (xs : List ℕ). field n.0 ++ xs)
    (rest-is (Empty n.0) why n.1 rest nn)) ∙ ap (λ w. why_field w ++ rest) (value-is (Empty n.0) why n.1 rest nn))
why-cases bounds text rest why None few is e =
    other-cases text rest why (word_in (codes " none") text) refl e

-- the first word of an answer
abbrev first_word : Bool → List ℕ
first_word off = cond off (codes "off") (codes "find")

answer-line : (off : Bool) (actor from sub : ℕ) (place : Place) (visits : Visits) (rest : List ℕ)
    → first_word off ++ ((fields (actor ∷ from ∷ sub ∷ []) ++ (place_fields place.node place.number place.level
    ++ visit_fields visits.weight visits.first visits.last)) ++ rest)
    ≡ call_line (answer off actor from sub place visits) ++ rest
answer-line true actor from sub place visits rest = refl
answer-line false actor from sub place visits rest = refl

answer-text : (bounds : Bounds) (off : Bool) (actor from sub : ℕ) (text rest : List ℕ) (call : Done)
    → bounds.nodes ≤ 2 ^ 63 → bounds.levels ≤ 2 ^ 63
    → answer_in bounds off actor from sub text ≡ Some (call, rest)
    → first_word off ++ text ≡ call_line call ++ rest
answer-text bounds off actor from sub text rest call few low e =
    bind-elim (word_in (fields (actor ∷ from ∷ sub ∷ [])) text) _ e
    (λ r er nr. bind-elim (place_in bounds r) _ nr (λ p ep np. bind-elim (visits_in p.1) _ np (λ v ev nv.
    let made : Done = answer off actor from sub p.0 v.0 in
    let ended : p.1 ≡ visit_fields v.0.weight v.0.first v.0.last ++ rest =
    visits-text p.1 v.1 v.0 ev ∙ ap (λ (xs : List ℕ). visit_fields v.0.weight v.0.first v.0.last ++ xs)
    (rest-is made call v.1 rest nv) in
    let placed : r ≡ (place_fields p.0.node p.0.number p.0.level
    ++ visit_fields v.0.weight v.0.first v.0.last) ++ rest =
    place-text bounds r p.1 p.0 few low ep ∙ ap (λ (xs : List ℕ). place_fields p.0.node p.0.number p.0.level ++ xs)
    ended ∙ sym (append_assoc (place_fields p.0.node p.0.number p.0.level) (visit_fields v.0.weight v.0.first v.0.last)
    rest) in
    ap (λ (xs : List ℕ). first_word off ++ xs) (word-front (fields (actor ∷ from ∷ sub ∷ [])) text
    (place_fields p.0.node p.0.number p.0.level ++ visit_fields v.0.weight v.0.first v.0.last) rest er placed)
    ∙ answer-line off actor from sub p.0 v.0 rest ∙ ap (λ (d : Done). call_line d ++ rest)
    (value-is made call v.1 rest nv))))

again-text : (bounds : Bounds) (actor from sub : ℕ) (text rest : List ℕ) (call : Done) → bounds.nodes ≤ 2 ^ 63
    → again_in bounds actor from sub text ≡ Some (call, rest)
    → codes "again" ++ text ≡ call_line call ++ rest
again-text bounds actor from sub text rest call few e =
    bind-elim (word_in (fields (actor ∷ from ∷ sub ∷ [])) text) _ e
    (λ r er nr. bind-elim (why_in bounds r) _ nr (λ w ew nw. bind-elim (visits_in w.1) _ nw (λ v ev nv.
    let made : Done = Again actor from sub w.0 v.0.weight v.0.first v.0.last in
    let ended : w.1 ≡ visit_fields v.0.weight v.0.first v.0.last ++ rest =
    visits-text w.1 v.1 v.0 ev ∙ ap (λ (xs : List ℕ). visit_fields v.0.weight v.0.first v.0.last ++ xs)
    (rest-is made call v.1 rest nv) in
    let told : r ≡ (why_field w.0 ++ visit_fields v.0.weight v.0.first v.0.last) ++ rest =
    why-cases bounds r w.1 w.0 (word_in (codes " empty") r) few refl ew
    ∙ ap (λ (xs : List ℕ). why_field w.0 ++ xs) ended ∙ sym
    (append_assoc (why_field w.0) (visit_fields v.0.weight v.0.first v.0.last) rest) in
    ap (λ (xs : List ℕ). codes "again" ++ xs) (word-front (fields (actor ∷ from ∷ sub ∷ [])) text
    (why_field w.0 ++ visit_fields v.0.weight v.0.first v.0.last) rest er told)
    ∙ ap (λ (d : Done). call_line d ++ rest) (value-is made call v.1 rest nv))))

off-cases : (bounds : Bounds) (actor from sub : ℕ) (text rest : List ℕ) (call : Done) (o : Option (List ℕ))
    → bounds.nodes ≤ 2 ^ 63 → bounds.levels ≤ 2 ^ 63 → word_in (codes "off") text ≡ o
    → off_or_again bounds actor from sub text o ≡ Some (call, rest) → text ≡ call_line call ++ rest
off-cases bounds actor from sub text rest call (Some mid) few low is e =
    word-text (codes "off") text is ∙ answer-text bounds true actor from sub mid rest call few low e
off-cases bounds actor from sub text rest call None few low is e =
    bind-elim (word_in (codes "again") text) _ e (λ r er nr. word-text (codes "again") text er
    ∙ again-text bounds actor from sub r rest call few nr)

find-cases : (bounds : Bounds) (actor from sub : ℕ) (text rest : List ℕ) (call : Done) (o : Option (List ℕ))
    → bounds.nodes ≤ 2 ^ 63 → bounds.levels ≤ 2 ^ 63 → word_in (codes "find") text ≡ o
    → found_or_other bounds actor from sub text o ≡ Some (call, rest) → text ≡ call_line call ++ rest
find-cases bounds actor from sub text rest call (Some mid) few low is e =
    word-text (codes "find") text is ∙ answer-text bounds false actor from sub mid rest call few low e
find-cases bounds actor from sub text rest call None few low is e =
    off-cases bounds actor from sub text rest call (word_in (codes "off") text) few low refl e

pub call-text : (bounds : Bounds) (slot : Slot) (text rest : List ℕ) (call : Done) → bounds.nodes ≤ 2 ^ 63
    → bounds.levels ≤ 2 ^ 63 → call_in bounds slot text ≡ Some (call, rest) → text ≡ call_line call ++ rest
call-text bounds (Move actor number from to) text rest call few low e =
    move-text actor number from to text rest call e
call-text bounds (Switch actor off node number) text rest call few low e =
    switch-text actor off node number text rest call e
call-text bounds (Find actor from sub) text rest call few low e =
    find-cases bounds actor from sub text rest call (word_in (codes "find") text) few low refl e
