-- Chases on the line of four: the marks that a find reads while the subscriber moves from node 3 to
-- node 2. Caller 1 looks for it from node 1, and is led to node 2 by the new address of level 0.
-- Key laws: `worked_chases`, `wrong_chases`.
use Rattle.std.specs.Prelude.{◌≡◌, ℕ, ◌<◌, ◌≤◌, List, [], ◌∷◌, ◌++◌, drop, flat_map, take}
use Rattle.entry_word.specs.declared.mark.PresenceMark.{PresenceMark}
use Rattle.entry_word.specs.declared.visit.Key.TheVariants.{Presence, Entry}
use Rattle.entry_word.specs.declared.visit.Visit.{Visit}
use Rattle.directory.specs.Courses.{move_to}
use Rattle.directory.specs.Finds.{FindCall, at_origin}
use Rattle.directory.specs.Histories.{History, words_at}
use Rattle.directory.specs.Legal.{IsLegal}
use Rattle.directory.specs.Looks.{AreLooks, look_by}
use Rattle.directory.specs.Settings.{Setting}
use Rattle.directory.specs.Writes.{visits}
use Rattle.plan_laws.specs.Examples.{line_setting}
use Rattle.trail_laws.specs.Chased.{marks_chased}

-- in a legal history over up to 65,536 nodes an actor's find has looks with these tickets, and
-- reads these marks in its chase
abbrev pub ReadsInChase : Setting → History → ℕ → FindCall → List ℕ → List PresenceMark → Type 0
ReadsInChase setting history actor call tickets marks =
    (setting.nodes ≤ 65536) × (call.from < setting.nodes) × IsLegal setting call.sub history
    × AreLooks setting history actor call 0 at_origin tickets
    × (marks_chased setting call at_origin (flat_map (words_at setting history) tickets) ≡ marks)

-- the visits of the move
abbrev pub the_move : List Visit
the_move = visits line_setting 0 (move_to 2 ∷ [])

-- the caller's first looks, behind two puts of the move: at its origin, at the entry of level 0,
-- and at node 2
abbrev pub chase_begun : History
chase_begun =
    take 2 the_move
    ++ look_by 1 (Presence 1 0) ∷ look_by 1 (Entry 0 0 0) ∷ look_by 1 (Presence 2 0) ∷ []

-- it goes on to node 3 while the subscriber is still there
abbrev pub chase_before_commit : History
chase_before_commit = chase_begun ++ look_by 1 (Presence 3 0) ∷ []

-- or behind the commit, and then back to node 2
abbrev pub chase_over_commit : History
chase_over_commit =
    chase_begun
    ++ (take 2 (drop 2 the_move) ++ look_by 1 (Presence 3 0) ∷ look_by 1 (Presence 2 0) ∷ [])
