-- The scripts of what was said are courses of subscribers and searches of callers, line by line.
use Rattle.std.proofs.Common.{◌≡◌, ℕ, ◌<◌, ◌≤◌, Bool, true, false, eqb, List, [], ◌∷◌, ◌++◌, length, length-append, All, Ok, get_or, refl, arith}
use Rattle.std.proofs.lemmas.List.Elements.{All-append, All-nil, All-push}
use Rattle.net_reader.specs.declared.said.Call.{Call}
use Rattle.net_reader.specs.declared.said.Call.TheVariants as acts
use Rattle.net_reader.specs.declared.word.Word.{Word}
use Rattle.net_reader.specs.declared.word.Word.TheVariants as words
use Rattle.net_reader.specs.Said.{Said, nothing, actors, script_of, place_after, off_after, place_of, is_off}
use Rattle.net_reader.specs.Table.{may_stand, most_calls}
use Rattle.net_reader.specs.Rows.{verdict, row_of, place_of_word}
use Rattle.net_reader.specs.Valid.{IsCourse, IsSearch}
use Rattle.net_reader.proofs.Heard.{Heard, heard, with_call as call_said}
use Rattle.net_reader.proofs.Standing.{make, script_of-push}
use Rattle.std.proofs.lemmas.Bool.{eqb-true}
use Rattle.std.proofs.lemmas.Bool.Decides.{nat_tests}

-- one call more of a course
pub course-push : (format n here : ℕ) (off : Bool) (script : List Call) (call : Call)
    → IsCourse format n here off script → IsCourse format n (place_after here script) (off_after off script) (call ∷
    []) → IsCourse format n here off (script ++ call ∷ [])
course-push format n here off [] call h last = last
course-push format n here off (acts.Move to ∷ script) call h last =
    (h.0, h.1, h.2, course-push format n to off script call h.3 last)
course-push format n here off (acts.Find from sub ∷ script) call h last = absurd h
course-push format n here off (acts.Off ∷ script) call h last =
    (h.0, h.1, course-push format n here true script call h.2 last)
course-push format n here off (acts.On ∷ script) call h last =
    (h.0, h.1, course-push format n here false script call h.2 last)

pub record IsCalling (said : Said) : Type 0 where
  pub no_calls : said.place ≤ 6 → said.calls ≡ []
  pub no_order : said.place ≤ 7 → said.order ≡ []
  pub few : length said.calls ≤ most_calls said.format
  pub courses : (s : ℕ) → s < length said.homes
      → IsCourse said.format said.nodes (get_or said.homes s 0) false (script_of s said.calls)
  pub searches : (a : ℕ) → length said.homes ≤ a
      → All (IsSearch said.nodes (length said.homes)) (script_of a said.calls)
  pub order : All (λ actor. actor < actors said) said.order

-- nobody has called yet
quiet : (said : Said) → said.calls ≡ [] → said.order ≡ [] → IsCalling said
quiet said none no_order = rw (none, no_order) (grind (arith, All-nil))

-- one call more: what it adds to a course where a subscriber makes it, and to a search where a caller does
call-kept : {said : Said} (actor : ℕ) (call : Call) → IsCalling said → said.place ≤ 7
    → length said.calls < most_calls said.format → ((s : ℕ) → s < length said.homes → eqb actor s ≡ true
    → IsCourse said.format said.nodes (place_after (get_or said.homes s 0) (script_of s said.calls))
    (off_after false (script_of s said.calls)) (call ∷ []))
    → ((a : ℕ) → length said.homes ≤ a → eqb actor a ≡ true → IsSearch said.nodes (length said.homes) call)
    → IsCalling (call_said said actor call)
call-kept {said} actor call m early few course search = record {
  no_calls = λ le. absurd (omega (arith, le));
  no_order = λ le. m.no_order early;
  few = omega (arith, few, length-append said.calls (make actor call ∷ []));
  courses = λ s below. grind (arith, script_of-push, make, course-push);
  searches = λ a above. rw (script_of-push a said.calls (make actor call)) (grind (
    arith,
    m.searches a above,
    search a above,
    All-push (IsSearch said.nodes (length said.homes)) (script_of a said.calls) call,
  ));
  order = m.order;
}

-- one of a subscriber, which is none of a caller's
sub-called : {said : Said} (sub : ℕ) (call : Call) → IsCalling said → said.place ≤ 7
    → length said.calls < most_calls said.format → sub < length said.homes
    → IsCourse said.format said.nodes (place_of said sub) (is_off said sub) (call ∷ [])
    → IsCalling (call_said said sub call)
sub-called {said} sub call m early few known course = grind (arith, eqb-true, call-kept)

calling-heard : {said : Said} (found : Said) (word : Word) → IsCalling said
    → may_stand said.place (place_of_word word) ≡ true → Heard said word found → IsCalling found
calling-heard found words.Track m p h = rw (← h.2) (grind (arith, nat_tests, quiet))
calling-heard found words.Nodes m p h = rw (← h.3) (grind (arith, nat_tests, quiet))
calling-heard found words.K m p h = rw (← h.2) (grind (arith, nat_tests, quiet))
calling-heard found words.Edge m p h = rw (← h.3) (grind (arith, nat_tests, quiet))
calling-heard found words.Sub m p h = rw (← h.3) (grind (arith, nat_tests, quiet))
calling-heard found words.Callers m p h = rw (← h.2) (grind (arith, nat_tests, quiet))
calling-heard {said} found words.Move m p h = grind (arith, sub-called)
calling-heard {said} found words.Find m p h = grind (arith, eqb-true, call-kept)
calling-heard {said} found words.Off m p h = grind (arith, sub-called)
calling-heard {said} found words.On m p h = grind (arith, sub-called)
calling-heard {said} found words.Order m p h =
    rw (← h.2) (grind (arith, nat_tests, All-append (λ actor. actor < actors said) said.order h.0))

pub begins-calling : IsCalling nothing
begins-calling = quiet nothing refl refl

pub keeps-calling : (said found : Said) (word : Word) (ns : List ℕ) → IsCalling said
    → may_stand said.place (place_of_word word) ≡ true → verdict (row_of said word ns) ≡ Ok found → IsCalling found
keeps-calling said found word ns m p e = calling-heard found word m p (heard said word ns e)
