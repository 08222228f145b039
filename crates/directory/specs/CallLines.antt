-- What the line of a call tells: whose call it is, and the find that it tells of, which answers, on
-- or off, or is to be made again. What is said of finds' lines is said of that find (`by_find`).
-- Key law: `Done::find` (it gives the line of a find, and none of a move or a switch).
use Rattle.std.specs.Prelude.{ℕ, Bool, true, false, Option, Some, None, option_map, unwrap_or}
use Rattle.directory.specs.Outcomes.{found_line}
use Rattle.directory.specs.declared.answers.FindLine.{FindLine}
use Rattle.directory.specs.declared.answers.Found.{Found}
use Rattle.directory.specs.declared.answers.Found.TheVariants.{At, Off as OffAt, Again}
use Rattle.directory.specs.declared.answers.Done.{Done}
use Rattle.directory.specs.declared.answers.Done.TheVariants.{Moved, Switched, Found as FoundBy, Off as OffBy, Again as AgainBy}

-- the actor of a line
abbrev pub actor_of : Done → ℕ
actor_of (Moved actor number from to weight first commit last) = actor
actor_of (Switched actor off node number ticket) = actor
actor_of (FoundBy actor from sub node number level weight first last) = actor
actor_of (OffBy actor from sub node number level weight first last) = actor
actor_of (AgainBy actor from sub why weight first last) = actor

-- the find that a line tells of
abbrev pub find_of : Done → Option FindLine
find_of (Moved actor number from to weight first commit last) = None
find_of (Switched actor off node number ticket) = None
find_of (FoundBy actor from sub node number level weight first last) = Some (record {
  actor = actor;
  from = from;
  sub = sub;
  found = At node number level weight;
  first = first;
  last = last;
})
find_of (OffBy actor from sub node number level weight first last) = Some (record {
  actor = actor;
  from = from;
  sub = sub;
  found = OffAt node number level weight;
  first = first;
  last = last;
})
find_of (AgainBy actor from sub why weight first last) = Some (record {
  actor = actor;
  from = from;
  sub = sub;
  found = Again why weight;
  first = first;
  last = last;
})

-- what is said of the find that a line tells of, or of a line that tells of none
abbrev pub by_find : {A : Type 0} → A → (FindLine → A) → Done → A
by_find other say line = unwrap_or (option_map say (find_of line)) other

-- whether a find has its answer, and isn't to be made again
abbrev pub is_answered : Found → Bool
is_answered (At node number level weight) = true
is_answered (OffAt node number level weight) = true
is_answered (Again why weight) = false

-- the line that tells of a find
abbrev pub line_of_find : FindLine → Done
line_of_find find =
    found_line find.actor (record { from = find.from; sub = find.sub }) find.found find.first
    find.last
