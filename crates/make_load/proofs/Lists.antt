-- Lists that are drawn item by item.
use Rattle.std.proofs.Common.{◌≡◌, ℕ, zero, suc, ◌+◌, ◌-◌, ◌<◌, ◌≤◌, Bool, true, false, cond, get_or, List, [], ◌∷◌, ◌++◌, length, All, refl, sym, ap, ◌∙◌, append_assoc, arith}
use Rattle.std.proofs.Math.ListN.{length-set}
use Rattle.std.proofs.lemmas.List.Elements.{All-cons, All-nil}
use Rattle.rand_pcg.specs.Lcg.{Lcg}
use Rattle.word_line.specs.declared.load.Load.{Load}
use Rattle.input_text.specs.declared.listing.ActorCall.{ActorCall}
use Rattle.make_load.specs.Draws.{Drawn, draw, draw_list}
use Rattle.make_load.specs.Load.{drawn_call, drawn_calls, drawn_find, drawn_move, is_move, target_of}

-- one item less is left
left-over : (from n : ℕ) → from < n → n - from ≡ suc (n - (from + 1))
left-over from n below = omega arith

pub next-value : {A : Type 0} (item : ℕ → Lcg → Drawn A) (from n : ℕ) (g next : Lcg) (done now whole : List A)
    (made : A)
    → from < n → made ≡ (item from g).value → next ≡ (item from g).left → now ≡ done ++ made ∷ []
    → done ++ (draw_list item from (n - from) g).value ≡ whole
    → now ++ (draw_list item (from + 1) (n - (from + 1)) next).value ≡ whole
next-value {A = A} item from n g next done now whole made below is behind grown so_far =
    let rest : Lcg → List A = λ h. (draw_list item (from + 1) (n - (from + 1)) h).value in
    ap (λ l. l ++ rest next) grown
    ∙ append_assoc done (made ∷ []) (rest next)
    ∙ ap (λ x. done ++ x ∷ rest next) is
    ∙ ap (λ h. done ++ (item from g).value ∷ rest h) behind
    ∙ ap (λ k. done ++ (draw_list item from k g).value) (sym (left-over from n below))
    ∙ so_far

pub next-left : {A : Type 0} (item : ℕ → Lcg → Drawn A) (from n : ℕ) (g next whole : Lcg)
    → from < n → next ≡ (item from g).left → (draw_list item from (n - from) g).left ≡ whole
    → (draw_list item (from + 1) (n - (from + 1)) next).left ≡ whole
next-left item from n g next whole below behind so_far =
    ap (λ h. (draw_list item (from + 1) (n - (from + 1)) h).left) behind
    ∙ ap (λ k. (draw_list item from k g).left) (sym (left-over from n below))
    ∙ so_far

-- the same of calls
pub next-calls : (load : Load) (j n : ℕ) (places later : List ℕ) (g next : Lcg) (done now whole : List ActorCall)
    (made :
    ActorCall) → j < n → made ≡ (drawn_call load j places g).call → later ≡ (drawn_call load j places g).places
    → next ≡ (drawn_call load j places g).left → now ≡ done ++ made ∷ []
    → done ++ (drawn_calls load j (n - j) places g).value ≡ whole
    → now ++ (drawn_calls load (j + 1) (n - (j + 1)) later next).value ≡ whole
next-calls load j n places later g next done now whole made below is there behind grown so_far =
    let rest : List ℕ → Lcg → List ActorCall = λ ps h. (drawn_calls load (j + 1) (n - (j + 1)) ps h).value in
    ap (λ l. l ++ rest later next) grown
    ∙ append_assoc done (made ∷ []) (rest later next)
    ∙ ap (λ x. done ++ x ∷ rest later next) is
    ∙ ap (λ ps. done ++ (drawn_call load j places g).call ∷ rest ps next) there
    ∙ ap (λ h. done ++ (drawn_call load j places g).call ∷ rest (drawn_call load j places g).places h) behind
    ∙ ap (λ k. done ++ (drawn_calls load j k places g).value) (sym (left-over j n below))
    ∙ so_far

pub next-calls-left : (load : Load) (j n : ℕ) (places later : List ℕ) (g next whole : Lcg) → j < n
    → later ≡ (drawn_call load j places g).places → next ≡ (drawn_call load j places g).left
    → (drawn_calls load j (n - j) places g).left ≡ whole
    → (drawn_calls load (j + 1) (n - (j + 1)) later next).left ≡ whole
next-calls-left load j n places later g next whole below there behind so_far =
    ap (λ ps. (drawn_calls load (j + 1) (n - (j + 1)) ps next).left) there
    ∙ ap (λ h. (drawn_calls load (j + 1) (n - (j + 1)) (drawn_call load j places g).places h).left) behind
    ∙ ap (λ k. (drawn_calls load j k places g).left) (sym (left-over j n below))
    ∙ so_far

-- so many items were drawn, and what holds of each holds of all
pub count-drawn : {A : Type 0} (item : ℕ → Lcg → Drawn A) (from count : ℕ) (g : Lcg)
    → length (draw_list item from count g).value ≡ count
count-drawn item from zero g = refl
count-drawn item from (suc count) g = ap suc (count-drawn item (from + 1) count (item from g).left)

pub all-drawn : {A : Type 0} (P : A → Type 0) (item : ℕ → Lcg → Drawn A) (from count : ℕ) (g : Lcg)
    → ((i : ℕ) (h : Lcg) → from ≤ i → i < from + count → P (item i h).value) → All P (draw_list item from count g).value
all-drawn P item from zero g holds = All-nil P
all-drawn P item from (suc count) g holds =
    All-cons P (item from g).value (draw_list item (from + 1) count (item from g).left).value
    (holds from g (omega arith) (omega arith))
    (all-drawn P item (from + 1) count (item from g).left (λ i h above below. holds i h (omega arith) (omega arith)))

-- a call that isn't a move is a find
pub find-is : (load : Load) (j : ℕ) (places : List ℕ) (g : Lcg) → is_move load j ≡ false
    → drawn_find load places g ≡ drawn_call load j places g
find-is load j places g e = sym (ap (λ b. cond b (drawn_move load places g) (drawn_find load places g)) e)

-- a call leaves as many subscribers as there were
pub same-places : (load : Load) (j : ℕ) (places : List ℕ) (g : Lcg)
    → length (drawn_call load j places g).places ≡ length places
same-places load j places g = go (is_move load j)
  where
    go : (b : Bool) → length (cond b (drawn_move load places g) (drawn_find load places g)).places ≡ length places
    go true = length-set places (draw load.subs g).value (target_of load.nodes
        (get_or places (draw load.subs g).value 0)
        (draw (load.nodes - 1) (draw load.subs g).left).value)
    go false = refl
