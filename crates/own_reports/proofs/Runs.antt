-- The runs of an actor's calls: each has the tickets from behind the end of the call before to its
-- own end.
use Rattle.std.proofs.Common.{◌≡◌, inl, inr, ℕ, zero, suc, ◌+◌, ◌<◌, ◌≤◌, true, false, cond, ltb, leb, List, [], ◌∷◌, ◌++◌, length, append_assoc, Option, Some, None, refl, ap, sym, ◌∙◌, arith, subst}
use Rattle.std.specs.Prelude.{slice_get, slice_index, flat_map}
use Rattle.std.proofs.lemmas.Bool.{cases_lt, and_from}
use Rattle.std.proofs.lemmas.Bool.Decides.{nat_tests}
use Rattle.std.proofs.lemmas.Option.{slice_get-get_or, slice_get_past}
use Rattle.directory.specs.declared.answers.Done.{Done}
use Rattle.directory.specs.declared.answers.Done.TheVariants.{Moved, Switched, Found, Off, Again}
use Rattle.directory.specs.Writes.{numbers_from}
use Rattle.directory.specs.CallLines.{actor_of}
use Rattle.report_check.specs.Parts.{end_of, has_tickets, is_missing, is_number, is_ticket, next_ticket, none_left, tickets_hold}
use Rattle.report_check.specs.Verdicts.{is_last}
use Rattle.own_reports.specs.Reports.{HaveTickets}
use Rattle.own_reports.proofs.Signs.{lt-true}
use Rattle.own_reports.proofs.Order.{AreTickets}

-- a call's first ticket has this place among its actor's, and its last one this
abbrev pub HasEnds : List ℕ → ℕ → ℕ → ℕ → ℕ → Type 0
HasEnds seen p e first last = (p ≤ e) × (first ≡ slice_index seen p) × (last ≡ slice_index seen e)

-- a call has the tickets from this place to that, and a move's commit lies between
abbrev pub IsRun : List ℕ → ℕ → ℕ → Done → Type 0
IsRun seen p e (Moved actor number from to weight first commit last) =
    HasEnds seen p e first last
    × ((i : ℕ) × (p < i) × (i < e) × (commit ≡ slice_index seen i))
IsRun seen p e (Switched actor off node number ticket) = (p ≡ e) × (ticket ≡ slice_index seen p)
IsRun seen p e (Found actor from sub node number level weight first last) = HasEnds seen p e first last
IsRun seen p e (Off actor from sub node number level weight first last) = HasEnds seen p e first last
IsRun seen p e (Again actor from sub why weight first last) = HasEnds seen p e first last

-- calls of an actor have all its tickets from a place on, one after another
abbrev pub HaveRuns : ℕ → List ℕ → ℕ → List Done → Type 0
HaveRuns actor seen p [] = p ≡ length seen
HaveRuns actor seen p (call ∷ later) =
    (e : ℕ) × (e < length seen) × (actor_of call ≡ actor) × IsRun seen p e call
    × HaveRuns actor seen (suc e) later

is-self : (n m : ℕ) → n ≡ m → is_number n (Some m) ≡ true
is-self n m e = grind (arith, nat_tests)

le-true : (n m : ℕ) → n ≤ m → leb n m ≡ true
le-true n m e = grind (arith, nat_tests)

in-order : (seen : List ℕ) (p e : ℕ) → ((i j : ℕ) → i < j → j < length seen → slice_index seen i < slice_index seen j)
    → p ≤ e → e < length seen → slice_index seen p ≤ slice_index seen e
in-order seen p e rise le low = elim (cases_lt p e) [
  | inl less ↦ omega (arith, rise p e less low)
  | inr past ↦ let same : p ≡ e = omega (arith, le, past) in
      subst (λ k. slice_index seen p ≤ slice_index seen k) same (omega arith)
]

has-ends : (order seen : List ℕ) (actor a p e first last : ℕ) (before : Option ℕ) → AreTickets order actor seen
    → next_ticket order actor before ≡ slice_get seen p → e < length seen → a ≡ actor → HasEnds seen p e first last
    → has_tickets order before a first last ≡ true
has-ends order seen actor a p e first last before are next low same ends =
    rw same (and_from (is_number first (next_ticket order actor before)) _
    (ap (is_number first) (next ∙ slice_get-get_or seen p 0 (omega (arith, low, ends.0)))
    ∙ is-self first (slice_index seen p) ends.1)
    (and_from (is_ticket order actor last) _
    (ap (is_ticket order actor) ends.2 ∙ are.own e low)
    (le-true first last (omega (arith, ends.1, ends.2, in-order seen p e are.rise ends.0 low)))))

-- a call with its run has its tickets
run-holds : (order seen : List ℕ) (actor p e : ℕ) (before : Option ℕ) (call : Done) → AreTickets order actor seen
    → next_ticket order actor before ≡ slice_get seen p → e < length seen → actor_of call ≡ actor
    → IsRun seen p e call → (tickets_hold order before call ≡ true) × (end_of call ≡ slice_index seen e)
run-holds order seen actor p e before (Moved a n from to w first commit last) are next low same (ends, run) =
    let here : AreTickets order a seen = subst (λ k. AreTickets order k seen) (sym same) are in
    let commits : commit ≡ slice_index seen run.0 = run.3 in (
      and_from (has_tickets order before a first last) _
          (has-ends order seen actor a p e first last before are next low same ends)
          (and_from (is_ticket order a commit) _
          (ap (is_ticket order a) commits ∙ here.own run.0 (omega (arith, run.2, low)))
          (and_from (ltb first commit) (ltb commit last)
          (lt-true first commit (omega (arith, ends.1, commits, here.rise p run.0 run.1 (omega (arith, run.2, low)))))
          (lt-true commit last (omega (arith, ends.2, commits, here.rise run.0 e run.2 low))))),
      ends.2,
    )
run-holds order seen actor p e before (Switched a off node n ticket) are next low same run = (
  ap (is_number ticket) (ap (λ k. next_ticket order k before) same ∙ next
      ∙ slice_get-get_or seen p 0 (omega (arith, low, run.0)))
      ∙ is-self ticket (slice_index seen p) run.1,
  run.1 ∙ ap (slice_index seen) run.0,
)
run-holds order seen actor p e before (Found a from sub node n level w first last) are next low same ends =
    (has-ends order seen actor a p e first last before are next low same ends, ends.2)
run-holds order seen actor p e before (Off a from sub node n level w first last) are next low same ends =
    (has-ends order seen actor a p e first last before are next low same ends, ends.2)
run-holds order seen actor p e before (Again a from sub why w first last) are next low same ends =
    (has-ends order seen actor a p e first last before are next low same ends, ends.2)

-- the first of these calls, if there is one, is of no actor below this one
abbrev pub IsFrom : ℕ → List Done → Type 0
IsFrom actor [] = Unit {0}
IsFrom actor (call ∷ later) = actor ≤ actor_of call

other-last : (actor : ℕ) (call : Done) (rest : List Done) → actor_of call ≡ actor → IsFrom (suc actor) rest
    → is_last call rest ≡ true
other-last actor call [] same others = refl
other-last actor call (next ∷ rest) same others = grind (arith, nat_tests)

same-last : (actor : ℕ) (call next : Done) (rest : List Done) → actor_of call ≡ actor → actor_of next ≡ actor
    → is_last call (next ∷ rest) ≡ false
same-last actor call next rest one two = let e : actor_of next ≡ actor_of call = two
    ∙ sym one in grind (arith, nat_tests)

-- the calls of an actor have their tickets, in front of those of later actors
runs-hold : (order seen : List ℕ) (actor p : ℕ) (before : Option ℕ) (call : Done) (later rest : List Done)
    → AreTickets order actor seen → next_ticket order actor before ≡ slice_get seen p
    → HaveRuns actor seen p (call ∷ later) → IsFrom (suc actor) rest → HaveTickets order None rest
    → HaveTickets order before (call ∷ later ++ rest)
unfolding HaveTickets
runs-hold order seen actor p before call [] rest are next runs others held =
    let here = run-holds order seen actor p runs.0 before call are next runs.1 runs.2 runs.3 in
    let last : is_last call rest ≡ true = other-last actor call rest runs.2 others in
    let behind : next_ticket order (actor_of call) (Some (end_of call)) ≡ None =
    ap (λ k. next_ticket order k (Some (end_of call))) runs.2
    ∙ ap (λ k. next_ticket order actor (Some k)) here.1
    ∙ are.next runs.0 runs.1
    ∙ slice_get_past seen (suc runs.0) (omega (arith, runs.4)) in (
      and_from (tickets_hold order before call) _ here.0
          (ap (λ b. cond b (none_left order call) true) last ∙ ap is_missing behind),
      subst (λ o. HaveTickets order o rest) (sym (ap (λ b. cond b None (Some (end_of call))) last)) held,
    )
runs-hold order seen actor p before call (other ∷ later) rest are next runs others held =
    let here = run-holds order seen actor p runs.0 before call are next runs.1 runs.2 runs.3 in
    let last : is_last call (other ∷ later ++ rest) ≡ false =
    same-last actor call other (later ++ rest) runs.2 runs.4.2 in
    let deep = runs-hold order seen actor (suc runs.0) (Some (end_of call)) other later rest are
    (ap (λ k. next_ticket order actor (Some k)) here.1 ∙ are.next runs.0 runs.1) runs.4 others held in (
      and_from (tickets_hold order before call) _ here.0 (ap (λ b. cond b (none_left order call) true) last),
      subst (λ o. HaveTickets order o (other ∷ later ++ rest)) (sym (ap (λ b. cond b None (Some (end_of call))) last))
          deep,
    )

-- the same of an actor that may have no calls
runs-join : (order seen : List ℕ) (actor : ℕ) (calls rest : List Done) → AreTickets order actor seen
    → HaveRuns actor seen 0 calls → IsFrom (suc actor) rest → HaveTickets order None rest
    → HaveTickets order None (calls ++ rest) × IsFrom actor (calls ++ rest)
runs-join order seen actor [] rest are runs others held = (held, weaker rest others)
  where
    weaker : (rest : List Done) → IsFrom (suc actor) rest → IsFrom actor rest
    weaker [] h = tt
    weaker (call ∷ later) h = omega (arith, h)
runs-join order seen actor (call ∷ later) rest are runs others held =
    (runs-hold order seen actor 0 None call later rest are are.first runs others held, omega (arith, runs.2))

-- the calls of actors, by number
pub rows-hold : (order : List ℕ) (seen : ℕ → List ℕ) (lines : ℕ → List Done) (from count : ℕ) (rest : List Done)
    → ((actor : ℕ) → AreTickets order actor (seen actor))
    → ((actor : ℕ) → from ≤ actor → actor < from + count → HaveRuns actor (seen actor) 0 (lines actor))
    → IsFrom (from + count) rest → HaveTickets order None rest
    → HaveTickets order None (flat_map lines (numbers_from from count) ++ rest)
    × IsFrom from (flat_map lines (numbers_from from count) ++ rest)
rows-hold order seen lines from zero rest are runs others held = (held, subst (λ k. IsFrom k rest) (omega arith) others)
rows-hold order seen lines from (suc count) rest are runs others held =
    let back = rows-hold order seen lines (suc from) count rest are
    (λ actor low high. runs actor (omega (arith, low)) (omega (arith, high)))
    (subst (λ k. IsFrom k rest) (omega arith) others) held in
    let now = runs-join order (seen from) from (lines from) (flat_map lines (numbers_from (suc from) count) ++ rest)
    (are from) (runs from (omega arith) (omega arith)) back.1 back.0 in
    subst (λ calls. HaveTickets order None calls × IsFrom from calls)
    (sym (append_assoc (lines from) (flat_map lines (numbers_from (suc from) count)) rest)) now
