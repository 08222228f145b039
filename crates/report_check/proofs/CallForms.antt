-- A call that is read has the slot that was asked for, and its numbers can be written.
use Rattle.report_check.proofs.Texts.{bind-elim, number-low}
use Rattle.std.proofs.Common.{◌≡◌, ℕ, ◌<◌, Bool, true, false, List, [], ◌∷◌, Option, Some, None, refl, subst, codes}
use Rattle.outside.specs.Texts.{fields}
use Rattle.directory.specs.declared.answers.Done.{Done}
use Rattle.directory.specs.declared.answers.Done.TheVariants.{Moved, Switched, Again}
use Rattle.directory.specs.declared.answers.Why.{Why}
use Rattle.directory.specs.declared.answers.Why.TheVariants.{Empty, NoEntry, Chased}
use Rattle.report_text.specs.ReportText.{switch_field}
use Rattle.report_check.specs.declared.calls.Bounds.{Bounds}
use Rattle.report_check.specs.declared.calls.Place.{Place}
use Rattle.report_check.specs.declared.calls.Visits.{Visits}
use Rattle.report_check.specs.declared.slots.Slot.{Slot}
use Rattle.report_check.specs.declared.slots.Slot.TheVariants.{Move, Switch, Find}
use Rattle.report_check.specs.Forms.{AreVisitsBelow, IsCallBelow, IsLevelBelow, IsPlaceBelow, IsWhyBelow, slot_told}
use Rattle.report_check.specs.Reading.{again_in, answer, answer_in, call_in, closing_in, empty_or_other, found_or_other, given_in, labelled_in, level_in, level_or_dash, most, move_in, number_in, off_or_again, other_why, place_in, switch_in, visits_in, why_in, word_in}
use Rattle.report_check.proofs.CallTexts.{value-is}

-- a call has this slot, and its numbers can be written
abbrev pub IsFormed : Bounds → Slot → Done → Type 0
IsFormed bounds slot call = (slot_told call ≡ slot) × IsCallBelow bounds call

label-low : (label : List ℕ) (limit : ℕ) (text : List ℕ) {found : ℕ × List ℕ}
    → labelled_in label limit text ≡ Some found → found.0 < limit
label-low label limit text {found} e =
    bind-elim (word_in label text) (number_in limit) e (λ mid em nm. number-low limit found.0 mid found.1 nm)

pub closing-low : (label text : List ℕ) {found : ℕ × List ℕ} → closing_in label text ≡ Some found → found.0 < most
closing-low label text {found} e =
    bind-elim (labelled_in label most text) _ e (λ l el nl. bind-elim (word_in (10 ∷ []) l.1) _ nl
    (λ r er nr. rw (value-is l.0 found.0 r found.1 nr) at (label-low label most text el)))

move-formed : (bounds : Bounds) (actor number from to : ℕ) (text rest : List ℕ) (call : Done)
    → move_in actor number from to text ≡ Some (call, rest) → IsFormed bounds (Move actor number from to) call
move-formed bounds actor number from to text rest call e =
    bind-elim (given_in (codes "move") (actor ∷ number ∷ from ∷ to ∷ []) text) _ e
    (λ r er nr. bind-elim (labelled_in (codes " weight") most r) _ nr
    (λ w ew nw. bind-elim (labelled_in (codes " first") most w.1) _ nw
    (λ f ef nf. bind-elim (labelled_in (codes " commit") most f.1) _ nf
    (λ c ec nc. bind-elim (closing_in (codes " last") c.1) _ nc
    (λ l el nl. subst (IsFormed bounds (Move actor number from to))
    (value-is (Moved actor number from to w.0 f.0 c.0 l.0) call l.1 rest nl) (
      refl,
      (
        label-low (codes " weight") most r ew,
        label-low (codes " first") most w.1 ef,
        label-low (codes " commit") most f.1 ec,
        closing-low (codes " last") c.1 el,
      ),
    ))))))

switch-formed : (bounds : Bounds) (actor : ℕ) (off : Bool) (node number : ℕ) (text rest : List ℕ) (call : Done)
    → switch_in actor off node number text ≡ Some (call, rest) → IsFormed bounds (Switch actor off node number) call
switch-formed bounds actor off node number text rest call e =
    bind-elim (given_in (codes "switch") (actor ∷ []) text) _ e
    (λ r0 e0 n0. bind-elim (given_in (switch_field off) (node ∷ []) r0) _ n0
    (λ r1 e1 n1. bind-elim (given_in (codes " number") (number ∷ []) r1) _ n1
    (λ r2 e2 n2. bind-elim (closing_in (codes " ticket") r2) _ n2
    (λ t et nt. subst (IsFormed bounds (Switch actor off node number))
    (value-is (Switched actor off node number t.0) call t.1 rest nt) (refl, closing-low (codes " ticket") r2 et)))))

visits-low : (text rest : List ℕ) (v : Visits) → visits_in text ≡ Some (v, rest)
    → AreVisitsBelow v.weight v.first v.last
visits-low text rest v e =
    bind-elim (labelled_in (codes " weight") most text) _ e
    (λ w ew nw. bind-elim (labelled_in (codes " first") most w.1) _ nw
    (λ f ef nf. bind-elim (closing_in (codes " last") f.1) _ nf
    (λ l el nl. subst (λ (u : Visits). AreVisitsBelow u.weight u.first u.last)
    (value-is (record { weight = w.0; first = f.0; last = l.0 }) v l.1 rest nl) (
      label-low (codes " weight") most text ew,
      label-low (codes " first") most w.1 ef,
      closing-low (codes " last") f.1 el,
    ))))

level-low : (levels : ℕ) (text rest : List ℕ) (level : Option ℕ) (o : Option (ℕ × List ℕ)) → number_in levels text ≡ o
    → level_or_dash text o ≡ Some (level, rest) → IsLevelBelow levels level
level-low levels text rest level (Some found) is e =
    subst (IsLevelBelow levels) (value-is (Some found.0) level found.1 rest e)
    (number-low levels found.0 text found.1 is)
level-low levels text rest level None is e =
    bind-elim (word_in (codes " -") text) _ e (λ r er nr. subst (IsLevelBelow levels) (value-is None level r rest nr)
    tt)

place-low : (bounds : Bounds) (text rest : List ℕ) (place : Place) → place_in bounds text ≡ Some (place, rest)
    → IsPlaceBelow bounds place.node place.number place.level
place-low bounds text rest place e =
    bind-elim (labelled_in (codes " at") bounds.nodes text) _ e
    (λ n en nn. bind-elim (labelled_in (codes " number") most n.1) _ nn
    (λ q eq nq. bind-elim (word_in (codes " level") q.1) _ nq
    (λ r er nr. bind-elim (level_in bounds.levels r) _ nr
    (λ l el nl. subst (λ (p : Place). IsPlaceBelow bounds p.node p.number p.level)
    (value-is (record { node = n.0; number = q.0; level = l.0 }) place l.1 rest nl) (
      label-low (codes " at") bounds.nodes text en,
      label-low (codes " number") most n.1 eq,
      level-low bounds.levels r l.1 l.0 (number_in bounds.levels r) refl el,
    )))))

other-low : (nodes : ℕ) (text rest : List ℕ) (why : Why) (o : Option (List ℕ)) → other_why text o ≡ Some (why, rest)
    → IsWhyBelow nodes why
other-low nodes text rest why (Some mid) e = subst (IsWhyBelow nodes) (value-is NoEntry why mid rest e) tt
other-low nodes text rest why None e =
    bind-elim (word_in (codes " chased") text) _ e (λ r er nr. subst (IsWhyBelow nodes) (value-is Chased why r rest nr)
    tt)

why-low : (bounds : Bounds) (text rest : List ℕ) (why : Why) (o : Option (List ℕ))
    → empty_or_other bounds text o ≡ Some (why, rest) → IsWhyBelow bounds.nodes why
why-low bounds text rest why (Some mid) e =
    bind-elim (number_in bounds.nodes mid) _ e (λ n en nn. subst (IsWhyBelow bounds.nodes)
    (value-is (Empty n.0) why n.1 rest nn) (number-low bounds.nodes n.0 mid n.1 en))
why-low bounds text rest why None e = other-low bounds.nodes text rest why (word_in (codes " none") text) e

answer-is : (bounds : Bounds) (off : Bool) (actor from sub : ℕ) (place : Place) (visits : Visits)
    → IsPlaceBelow bounds place.node place.number place.level
    → AreVisitsBelow visits.weight visits.first visits.last
    → IsFormed bounds (Find actor from sub) (answer off actor from sub place visits)
answer-is bounds true actor from sub place visits at seen = (refl, (at, seen))
answer-is bounds false actor from sub place visits at seen = (refl, (at, seen))

answer-formed : (bounds : Bounds) (off : Bool) (actor from sub : ℕ) (text rest : List ℕ) (call : Done)
    → answer_in bounds off actor from sub text ≡ Some (call, rest) → IsFormed bounds (Find actor from sub) call
answer-formed bounds off actor from sub text rest call e =
    bind-elim (word_in (fields (actor ∷ from ∷ sub ∷ [])) text) _ e
    (λ r er nr. bind-elim (place_in bounds r) _ nr (λ p ep np. bind-elim (visits_in p.1) _ np
    (λ v ev nv. subst (IsFormed bounds (Find actor from sub))
    (value-is (answer off actor from sub p.0 v.0) call v.1 rest nv)
    (answer-is bounds off actor from sub p.0 v.0 (place-low bounds r p.1 p.0 ep) (visits-low p.1 v.1 v.0 ev)))))

again-formed : (bounds : Bounds) (actor from sub : ℕ) (text rest : List ℕ) (call : Done)
    → again_in bounds actor from sub text ≡ Some (call, rest) → IsFormed bounds (Find actor from sub) call
again-formed bounds actor from sub text rest call e =
    bind-elim (word_in (fields (actor ∷ from ∷ sub ∷ [])) text) _ e
    (λ r er nr. bind-elim (why_in bounds r) _ nr (λ w ew nw. bind-elim (visits_in w.1) _ nw
    (λ v ev nv. subst (IsFormed bounds (Find actor from sub))
    (value-is (Again actor from sub w.0 v.0.weight v.0.first v.0.last) call v.1 rest nv)
    (refl, (why-low bounds r w.1 w.0 (word_in (codes " empty") r) ew, visits-low w.1 v.1 v.0 ev)))))

off-formed : (bounds : Bounds) (actor from sub : ℕ) (text rest : List ℕ) (call : Done) (o : Option (List ℕ))
    → off_or_again bounds actor from sub text o ≡ Some (call, rest) → IsFormed bounds (Find actor from sub) call
off-formed bounds actor from sub text rest call (Some mid) e =
    answer-formed bounds true actor from sub mid rest call e
off-formed bounds actor from sub text rest call None e =
    bind-elim (word_in (codes "again") text) _ e (λ r er nr. again-formed bounds actor from sub r rest call nr)

find-formed : (bounds : Bounds) (actor from sub : ℕ) (text rest : List ℕ) (call : Done) (o : Option (List ℕ))
    → found_or_other bounds actor from sub text o ≡ Some (call, rest) → IsFormed bounds (Find actor from sub) call
find-formed bounds actor from sub text rest call (Some mid) e =
    answer-formed bounds false actor from sub mid rest call e
find-formed bounds actor from sub text rest call None e =
    off-formed bounds actor from sub text rest call (word_in (codes "off") text) e

pub call-formed : (bounds : Bounds) (slot : Slot) (text rest : List ℕ) (call : Done)
    → call_in bounds slot text ≡ Some (call, rest) → IsFormed bounds slot call
call-formed bounds (Move actor number from to) text rest call e =
    move-formed bounds actor number from to text rest call e
call-formed bounds (Switch actor off node number) text rest call e =
    switch-formed bounds actor off node number text rest call e
call-formed bounds (Find actor from sub) text rest call e =
    find-formed bounds actor from sub text rest call (word_in (codes "find") text) e
