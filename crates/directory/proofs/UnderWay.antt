-- How far a caller is before a ticket: what it has looked at for its find, and that each find that was answered before
-- has its looks.
use Rattle.std.proofs.Common.{◌≡◌, ℕ, suc, ◌-◌, ◌<◌, ◌≤◌, Bool, true, false, ◌==◌, ◌+◌, List, [], ◌∷◌, ◌++◌, Option, Some, None, length, map, take, drop, refl, sym, ap, ◌∙◌, arith, append_assoc, length-append}
use Rattle.std.specs.Prelude.{slice_get, sum_by, All}
use Rattle.std.proofs.lemmas.Bool.{eqb-true}
use Rattle.std.proofs.lemmas.Grind.{flat_map-append}
use Rattle.std.proofs.lemmas.List.{append-nil, map-append, length_push, length-drop, length-take-le, take_all, take-append-le, drop-append-le}
use Rattle.std.proofs.lemmas.List.Sums.{fold-append}
use Rattle.std.proofs.Math.ListN.{drop_of_length-le}
use Rattle.std.proofs.lemmas.List.Elements.{All-append}
use Rattle.std.proofs.lemmas.Option.{slice_get_within}
use Rattle.entry_word.specs.declared.visit.Key.{Key}
use Rattle.entry_word.specs.declared.visit.Visit.{Visit}
use Rattle.directory.specs.Settings.{Setting, subs}
use Rattle.directory.specs.Histories.{History, before, cell, tickets_from, tickets, words_of, words_after, words_read}
use Rattle.directory.specs.Finds.{FindCall, Pursuit, at_origin, after_word, key_of, answer_of, most_looks}
use Rattle.directory.proofs.FindLaws.{looks-fall}
use Rattle.directory.specs.Looks.{look_by, AreLooks, IsFind}
use Rattle.directory.specs.Orders.{Scripts, finds_of, Answer, Caller, with_pursuit, read_by, caller_in, key_in, next_key, IsPlayed}
use Rattle.directory.specs.Outcomes.{FollowEachOther}
use Rattle.directory.specs.declared.answers.Found.{Found}
use Rattle.directory.proofs.HistoryLaws.{words-push, tickets-push}
use Rattle.directory.proofs.CallerLaws.{caller-look, caller-push, left_at_origin, left_of}
use Rattle.directory.specs.StepLaws.{by_fronts}
use Rattle.directory.specs.LookLaws.{pursuit_after, pursuit-step, answer-ends}

abbrev pub after_last : ℕ → List ℕ → ℕ
after_last earliest [] = earliest
after_last earliest (ticket ∷ later) = after_last (suc ticket) later

pursuit-push : (setting : Setting) (history : History) (actor : ℕ) (call : FindCall) (pursuit : Pursuit)
    (sofar : List ℕ) (ticket : ℕ) (key : Key) → slice_get history ticket ≡ Some (look_by actor key)
    → pursuit_after setting history call pursuit (sofar ++ ticket ∷ [])
    ≡ after_word setting call (pursuit_after setting history call pursuit sofar)
    (cell setting (before ticket history) key)
pursuit-push setting history actor call pursuit sofar ticket key h = grind (arith, flat_map-append, fold-append)

-- one look more
looks-push : (setting : Setting) (history : History) (actor : ℕ) (call : FindCall) (sofar : List ℕ) (earliest : ℕ)
    (pursuit : Pursuit) (ticket : ℕ) (key : Key)
    → AreLooks setting history actor call earliest pursuit sofar → after_last earliest sofar ≤ ticket
    → key_of call (pursuit_after setting history call pursuit sofar) ≡ Some key
    → slice_get history ticket ≡ Some (look_by actor key)
    → AreLooks setting history actor call earliest pursuit (sofar ++ ticket ∷ [])
unfolding AreLooks
looks-push setting history actor call [] earliest pursuit ticket key looks low wanted is_look = grind arith
looks-push setting history actor call (t ∷ sofar) earliest pursuit ticket key
    (first, (k, is_wanted, its_look, rest)) low wanted is_look = grind (
      arith,
      pursuit-step,
      looks-push setting history actor call sofar (suc t)
          (after_word setting call pursuit (cell setting (before t history) k)) ticket key rest low
          (rw (pursuit-step setting history actor call pursuit t k sofar its_look) at wanted) is_look,
    )

after_last-push : (earliest : ℕ) (sofar : List ℕ) (ticket : ℕ)
    → after_last earliest (sofar ++ ticket ∷ []) ≡ suc ticket
after_last-push earliest [] ticket = refl
after_last-push earliest (t ∷ sofar) ticket = after_last-push (suc t) sofar ticket

-- a find that is at a pursuit: these looks were made, before this ticket
pub record IsAt (setting : Setting) (history : History) (actor : ℕ) (call : FindCall) (now : ℕ) (pursuit : Pursuit)
    (seen : List ℕ) : Type 0 where
  pub looks : AreLooks setting history actor call 0 at_origin seen
  pub reads : pursuit_after setting history call at_origin seen ≡ pursuit
  pub low : after_last 0 seen ≤ now

-- a find that was answered: its looks have the tickets from its first place to its last
abbrev pub seen_of : List ℕ → Answer → List ℕ
seen_of ticketed answer = take (suc answer.last - answer.first) (drop answer.first ticketed)

pub record IsAnswered (setting : Setting) (history : History) (actor : ℕ) (ticketed : List ℕ)
    (answer : Answer) : Type 0 where
  pub within : answer.last < length ticketed
  pub order : answer.first ≤ answer.last
  pub find : IsFind setting history actor answer.call answer.found (seen_of ticketed answer)

-- where the last of some answers ends
abbrev pub end_place : ℕ → List Answer → ℕ
end_place place [] = place
end_place place (answer ∷ later) = end_place (suc answer.last) later

follow-push : (place : ℕ) (answers : List Answer) (answer : Answer) → FollowEachOther place answers
    → end_place place answers ≤ answer.first → answer.first ≤ answer.last
    → FollowEachOther place (answers ++ answer ∷ [])
unfolding FollowEachOther
follow-push place [] answer follow low order = (low, order, tt)
follow-push place (one ∷ answers) answer follow low order =
    (follow.0, follow.1, follow-push (suc one.last) answers answer follow.2 low order)

end_place-push : (place : ℕ) (answers : List Answer) (answer : Answer)
    → end_place place (answers ++ answer ∷ []) ≡ suc answer.last
end_place-push place [] answer = refl
end_place-push place (one ∷ answers) answer = end_place-push (suc one.last) answers answer

-- how far a caller is, with these tickets, before this ticket
pub record IsUnderWay (setting : Setting) (history : History) (actor : ℕ) (finds : List FindCall) (ticketed : List ℕ)
    (now : ℕ) (caller : Caller) : Type 0 where
  pub count : caller.next ≡ length ticketed
  pub low : caller.first ≤ caller.next
  pub few : length ticketed + left_of setting caller.calls caller.pursuit
      ≤ sum_by (λ (call : FindCall). most_looks setting call.from) finds
  pub done : All (IsAnswered setting history actor ticketed) caller.answers
  pub script : finds ≡ map (λ (answer : Answer). answer.call) caller.answers ++ caller.calls
  pub current : (call : FindCall) (later : List FindCall) → caller.calls ≡ call ∷ later
      → IsAt setting history actor call now caller.pursuit (drop caller.first ticketed)
  pub follow : FollowEachOther 0 caller.answers
  pub ends : end_place 0 caller.answers ≤ caller.first

later_than : {setting : Setting} {history : History} {actor : ℕ} {call : FindCall} {now more : ℕ} {pursuit : Pursuit}
    {seen : List ℕ} → now ≤ more → IsAt setting history actor call now pursuit seen
    → IsAt setting history actor call more pursuit seen
later_than h far = record { looks = far.looks; reads = far.reads; low = omega (arith, h, far.low) }

-- the tickets of a find that was answered stay
answered-more : (setting : Setting) (history : History) (actor : ℕ) (ticketed more : List ℕ) (answers : List Answer)
    → All (IsAnswered setting history actor ticketed) answers
    → All (IsAnswered setting history actor (ticketed ++ more)) answers
answered-more setting history actor ticketed more answers =
    grind (arith, length-append, drop-append-le, length-drop, take-append-le)

-- one look more of a caller
look_more : (setting : Setting) (history : History) (actor : ℕ) (finds : List FindCall) (ticketed : List ℕ) (now : ℕ)
    (caller : Caller) (call : FindCall) (later : List FindCall) (key : Key)
    → IsUnderWay setting history actor finds ticketed now caller → caller.calls ≡ call ∷ later
    → key_of call caller.pursuit ≡ Some key → slice_get history now ≡ Some (look_by actor key)
    → (o : Option Found) → answer_of (after_word setting call caller.pursuit (cell setting (before now history) key))
    ≡ o
    → IsUnderWay setting history actor finds (ticketed ++ now ∷ []) (suc now)
    (with_pursuit caller call later (after_word setting call caller.pursuit (cell setting (before now history) key))
    o)
unfolding AreLooks
look_more setting history actor finds ticketed now caller call later key far calls wanted is_look o answer = at_answer
    o answer
  where
    pursuit : Pursuit
    pursuit = after_word setting call caller.pursuit (cell setting (before now history) key)

    so_far : IsAt setting history actor call now caller.pursuit (drop caller.first ticketed)
    so_far = far.current call later calls

    longer : drop caller.first (ticketed ++ now ∷ []) ≡ drop caller.first ticketed ++ now ∷ []
    longer = drop-append-le caller.first ticketed (now ∷ []) (omega (arith, far.low, far.count))

    pushed : IsAt setting history actor call (suc now) pursuit (drop caller.first ticketed ++ now ∷ [])
    pushed = record {
      looks = grind (arith, looks-push);
      reads = pursuit-push setting history actor call at_origin (drop caller.first ticketed) now key is_look
          ∙ ap (λ s. after_word setting call s (cell setting (before now history) key)) so_far.reads;
      low = omega (arith, after_last-push 0 (drop caller.first ticketed) now);
    }

    counted : suc caller.next ≡ length (ticketed ++ now ∷ [])
    counted = omega (arith, far.count, length_push ticketed now)

    -- the look leaves fewer
    fewer : left_of setting (call ∷ later) caller.pursuit ≡ left_of setting caller.calls caller.pursuit
    fewer = ap (λ cs. left_of setting cs caller.pursuit) (sym calls)

    at_answer : (o : Option Found) → answer_of pursuit ≡ o
        → IsUnderWay setting history actor finds (ticketed ++ now ∷ []) (suc now)
        (with_pursuit caller call later pursuit o)
    at_answer None e = grind (
      arith,
      counted,
      fewer,
      length_push ticketed now,
      looks-fall setting call caller.pursuit (cell setting (before now history) key) key wanted,
      answered-more setting history actor ticketed (now ∷ []) caller.answers far.done,
      longer,
      pushed,
    )
    at_answer (Some found) e = record {
      count = counted;
      low = omega arith;
      few = grind (arith, fewer, length_push, left_at_origin, looks-fall);
      done = All-append (IsAnswered setting history actor (ticketed ++ now ∷ [])) caller.answers (mine ∷ [])
          (answered-more setting history actor ticketed (now ∷ []) caller.answers far.done)
          (grind (arith, is_mine));
      script = grind (arith, append_assoc, map-append);
      current = λ c l same. rw none_left (record { looks = tt; reads = refl; low = omega arith });
      follow = follow-push 0 caller.answers mine far.follow far.ends far.low;
      ends = omega (arith, end_place-push 0 caller.answers mine);
    }
      where
        mine : Answer
        mine = record { call = call; found = found; first = caller.first; last = caller.next }

        all_seen : seen_of (ticketed ++ now ∷ []) mine ≡ drop caller.first ticketed ++ now ∷ []
        all_seen = grind (arith, longer, take_all, length_push, length-drop)

        is_mine : IsAnswered setting history actor (ticketed ++ now ∷ []) mine
        is_mine = record {
          within = omega (arith, counted);
          order = far.low;
          find = rw all_seen (record { looks = pushed.looks; answer = pushed.reads ∙ answer-ends pursuit found e });
        }

        none_left : drop (suc caller.next) (ticketed ++ now ∷ []) ≡ []
        none_left = drop_of_length-le (ticketed ++ now ∷ []) {i = suc caller.next} (omega (arith, counted))

-- so it is for each caller in a history in which each visit was its actor's next one
pub under_way : (setting : Setting) (scripts : Scripts) (history : History) (actor : ℕ) → subs setting ≤ actor
    → IsPlayed setting scripts history
    → IsUnderWay setting history actor (finds_of setting scripts actor) (tickets actor history) (length history)
    (caller_in setting scripts history actor)
unfolding words_after tickets_from AreLooks FollowEachOther
under_way setting scripts history actor high played = by_fronts (λ front. Under front) history
    (grind (arith, left_at_origin)) (λ t visit h far. step t visit h far (visit.actor == actor) refl)
  where
    Under : History → Type 0
    Under front = IsUnderWay setting history actor (finds_of setting scripts actor) (tickets actor front)
        (length front) (caller_in setting scripts front actor)

    step : (t : ℕ) (visit : Visit) → slice_get history t ≡ Some visit → Under (take t history) → (b : Bool)
        → (visit.actor == actor) ≡ b → Under (take t history ++ visit ∷ [])
    step t visit h far false e =
        let more : length (take t history) ≤ length (take t history ++ visit ∷ []) = grind (arith, length_push) in
        rw (words-push setting actor (take t history) visit, tickets-push actor (take t history) visit, e)
        (rw (append-nil (words_read setting actor (take t history)), append-nil (tickets actor (take t history)))
        (search (later_than, far.current)))
    step t visit h far true e = grind (arith, at_look, caller-look, eqb-true)
      where
        here : length (take t history) ≡ t
        here = length-take-le t history (omega (arith, slice_get_within history t visit h))

        grown : length (take t history ++ visit ∷ []) ≡ suc t
        grown = omega (arith, here, length_push (take t history) visit)

        caller : Caller
        caller = caller_in setting scripts (take t history) actor

        at_look : (key : Key) × (next_key caller ≡ Some key) × (visit ≡ look_by actor key)
            → Under (take t history ++ visit ∷ [])
        at_look (key, wanted, is_look) =
            grind (arith, words-push, tickets-push, read, grown, here, caller-push, at_calls)
          where
            read : words_of setting (take t history) visit.act ≡ cell setting (take t history) key ∷ []
            read = ap (λ (v : Visit). words_of setting (take t history) v.act) is_look

            at_calls : (calls : List FindCall) → caller.calls ≡ calls → key_in calls caller.pursuit ≡ Some key
                → IsUnderWay setting history actor (finds_of setting scripts actor)
                (tickets actor (take t history) ++ t ∷ []) (suc t)
                (read_by setting caller calls (cell setting (take t history) key))
            at_calls [] same k = cc
            at_calls (call ∷ later) same k =
                look_more setting history actor (finds_of setting scripts actor)
                (tickets actor (take t history)) t caller call later key
                (rw here at far) same k (h ∙ ap Some is_look)
                (answer_of (after_word setting call caller.pursuit (cell setting (before t history) key))) refl
