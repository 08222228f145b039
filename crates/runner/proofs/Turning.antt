-- The turns of an actor at visits, and at more of them.
use Rattle.std.proofs.Common.{◌≡◌, ℕ, ◌==◌, Bool, true, false, eqb-true, List, [], ◌∷◌, ◌++◌, cond, length, map, take, drop, refl, sym, ap, ◌∙◌, subst, append_assoc}
use Rattle.std.specs.Prelude.{All, Option, Some, None, slice_get}
use Rattle.std.proofs.lemmas.List.{append-nil, append_cancel_left, map-append}
use Rattle.std.proofs.lemmas.List.Elements.{All-append, All-cons, All-nil}
use Rattle.entry_word.specs.declared.visit.Visit.{Visit}
use Rattle.directory.specs.Histories.{History, IsFront, own}
use Rattle.directory.specs.HistoryLaws.{front-append}
use Rattle.directory.specs.Keys.{act_node}
use Rattle.directory.specs.Orders.{Scripts, next}
use Rattle.directory.specs.Settings.{Setting}
use Rattle.directory.specs.Statements.{CallersKept}
use Rattle.station.specs.TicketLaws.{front-rest, own-append}
use Rattle.station.specs.Turns.{event_actor}
use Rattle.station.specs.declared.view.TurnEvent.{TurnEvent}
use Rattle.station.specs.declared.view.TurnEvent.TheVariants.{GivenBack, Lost, Won}
use Rattle.runner.specs.Playing.{IsPlayedBy}
use Rattle.runner.specs.PlayLaws.{next-in}
use Rattle.runner.specs.Workers.{AreLostAt, AreLostBefore, HaveTurns}
use Rattle.std.proofs.Math.Seq.{take-append_seam}

-- the visit that comes first, of these and then the next one
abbrev pub first_of : List Visit → Option Visit → Option Visit
first_of [] after = after
first_of (visit ∷ later) after = Some visit

-- turns that are lost at a node, and more
lost-more : (actor node : ℕ) (xs ys : List TurnEvent) → AreLostAt actor node xs → AreLostAt actor node ys
    → AreLostAt actor node (xs ++ ys)
lost-more actor node xs ys one two = (
  one.0 ++ two.0,
  rw (one.1, two.1, map-append),
)

-- turns that are lost before the first of some visits, and then those of these visits
before-turns : (setting : Setting) (actor : ℕ) (after : Option Visit) (visits : List Visit) (xs ys : List TurnEvent)
    → AreLostBefore setting actor (first_of visits after) xs → HaveTurns setting actor after visits ys
    → HaveTurns setting actor after visits (xs ++ ys)
before-turns setting actor None [] xs ys one two = ap (λ l. l ++ ys) one ∙ two
before-turns setting actor (Some visit) [] xs ys one two = lost-more actor (act_node setting visit.act) xs ys one two
before-turns setting actor after (visit ∷ later) xs ys one two =
    let node = act_node setting visit.act in (
      xs ++ two.0,
      two.1,
      lost-more actor node xs two.0 one two.2,
      ap (λ l. xs ++ l) two.3 ∙ sym (append_assoc xs two.0 (Won actor node ∷ GivenBack actor node ∷ two.1)),
      two.4,
    )

-- the turns of some visits, and then of more
pub turns-append : (setting : Setting) (actor : ℕ) (after : Option Visit) (visits more : List Visit)
    (xs ys : List TurnEvent) → HaveTurns setting actor (first_of more after) visits xs
    → HaveTurns setting actor after more ys → HaveTurns setting actor after (visits ++ more) (xs ++ ys)
turns-append setting actor after [] more xs ys one two = before-turns setting actor after more xs ys one two
turns-append setting actor after (visit ∷ later) more xs ys one two =
    let node = act_node setting visit.act in (
      one.0,
      one.1 ++ ys,
      one.2,
      ap (λ l. l ++ ys) one.3 ∙ append_assoc one.0 (Won actor node ∷ GivenBack actor node ∷ one.1) ys,
      turns-append setting actor after later more one.1 ys one.4 two,
    )

-- no turn is lost; and one is won for one visit
pub lost-none : (setting : Setting) (actor : ℕ) (after : Option Visit) → AreLostBefore setting actor after []
lost-none setting actor None = refl
lost-none setting actor (Some visit) = ([], refl)

pub turn-won : (setting : Setting) (actor : ℕ) (after : Option Visit) (visit : Visit)
    → HaveTurns setting actor after (visit ∷ [])
    (Won actor (act_node setting visit.act) ∷ GivenBack actor (act_node setting visit.act) ∷ [])
turn-won setting actor after visit = ([], [], ([], refl), refl, lost-none setting actor after)

-- they are all the actor's own
lost-mine : (actor node : ℕ) (words : List ℕ)
    → All (λ (event : TurnEvent). event_actor event ≡ actor) (map (λ word. Lost actor node word) words)
lost-mine actor node [] = All-nil (λ (event : TurnEvent). event_actor event ≡ actor)
lost-mine actor node (word ∷ words) =
    All-cons (λ (event : TurnEvent). event_actor event ≡ actor) (Lost actor node word)
    (map (λ word. Lost actor node word) words) refl (lost-mine actor node words)

pub turns-mine : (setting : Setting) (actor : ℕ) (after : Option Visit) (visits : List Visit) (events : List TurnEvent)
    → HaveTurns setting actor after visits events
    → All (λ (event : TurnEvent). event_actor event ≡ actor) events
turns-mine setting actor None [] events turns =
    rw turns (All-nil (λ (event : TurnEvent). event_actor event ≡ actor))
turns-mine setting actor (Some visit) [] events turns =
    rw turns.1 (lost-mine actor (act_node setting visit.act) turns.0)
turns-mine setting actor after (visit ∷ later) events turns =
    let mine = λ (event : TurnEvent). event_actor event ≡ actor in
    let node = act_node setting visit.act in
    rw turns.3
    (All-append mine turns.0 (Won actor node ∷ GivenBack actor node ∷ turns.1)
    (rw turns.2.1 (lost-mine actor node turns.2.0))
    (All-cons mine (Won actor node) (GivenBack actor node ∷ turns.1) refl
    (All-cons mine (GivenBack actor node) turns.1 refl
    (turns-mine setting actor after later turns.1 turns.4))))

-- where the first visit of an actor stands
own-first : (actor : ℕ) (history : History) {visit : Visit} {later : List Visit} → own actor history ≡ visit ∷ later
    → (front : History) × (back : History) × (history ≡ front ++ visit ∷ back) × (own actor front ≡ [])
    × (visit.actor ≡ actor)
own-first actor [] mine = cc
own-first actor (x ∷ xs) {visit} {later} mine = at (x.actor == actor) refl mine (own-first actor xs)
  where
    at : (b : Bool) → (x.actor == actor) ≡ b → cond b (x ∷ own actor xs) (own actor xs) ≡ visit ∷ later
        → (own actor xs ≡ visit ∷ later
        → (front : History) × (back : History) × (xs ≡ front ++ visit ∷ back) × (own actor front ≡ [])
        × (visit.actor ≡ actor))
        → (front : History) × (back : History) × (x ∷ xs ≡ front ++ visit ∷ back) × (own actor front ≡ [])
        × (visit.actor ≡ actor)
    at true is e below =
        let same : x ≡ visit = cc in (
          [],
          xs,
          ap (λ (v : Visit). v ∷ xs) same,
          refl,
          subst (λ (v : Visit). v.actor ≡ actor) same (eqb-true x.actor actor is),
        )
    at false is e below =
        let rest = below e in (
          x ∷ rest.0,
          rest.1,
          ap (λ h. x ∷ h) rest.2,
          ap (λ b. cond b (x ∷ own actor rest.0) (own actor rest.0)) is ∙ rest.3,
          rest.4,
        )

-- what stands between two parts of a list
pub get-seam : {A : Type 0} (before later : List A) (x : A) → slice_get (before ++ x ∷ later) (length before) ≡ Some x
get-seam [] later x = refl
get-seam (y ∷ before) later x = get-seam before later x

-- the next visit of an actor is the first that it has made since, or if none the one that is next now
pub next-first : CallersKept → (setting : Setting) (scripts : Scripts) (actor : ℕ) (seen new : History)
    (more : List Visit) → IsFront seen new → own actor new ≡ own actor seen ++ more
    → IsPlayedBy setting scripts actor new
    → next setting scripts seen actor ≡ first_of more (next setting scripts new actor)
next-first kept setting scripts actor seen new [] front made played =
    sym (next-in kept setting scripts actor seen new front (made ∙ append-nil (own actor seen)))
next-first kept setting scripts actor seen new (visit ∷ later) front made played =
    let rest : History = drop (length seen) new in
    let mine : own actor rest ≡ visit ∷ later =
    append_cancel_left (own actor seen) (own actor rest) (visit ∷ later)
    (sym (own-append actor seen rest) ∙ (ap (own actor) (sym (front-rest seen new front)) ∙ made)) in
    let first = own-first actor rest mine in
    let before : History = seen ++ first.0 in
    let whole : new ≡ before ++ visit ∷ first.1 =
    front-rest seen new front
    ∙ (ap (λ h. seen ++ h) first.2 ∙ sym (append_assoc seen first.0 (visit ∷ first.1))) in
    let none : own actor before ≡ own actor seen =
    own-append actor seen first.0 ∙ (ap (λ h. own actor seen ++ h) first.3 ∙ append-nil (own actor seen)) in
    let here = subst (λ (h : History). next setting scripts (take (length before) h) actor ≡ Some visit) whole
    (played (length before) visit
    (ap (λ (h : History). slice_get h (length before)) whole ∙ get-seam before first.1 visit)
    first.4) in
    sym (next-in kept setting scripts actor seen before (front-append seen first.0) none)
    ∙ (ap (λ (h : History). next setting scripts h actor)
    (sym (take-append_seam before (visit ∷ first.1))) ∙ here)
