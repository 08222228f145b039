-- What marks tell.
use Rattle.std.proofs.lemmas.Bool.{cond_both, eqb-true, eq-eqb}
use Rattle.trail_laws.proofs.ClosedMarks.{from-inside, IsNext, rest_mark, mark_passing, mark_erasing, since_top, there, trail_mark}
use Rattle.std.proofs.Common.{◌≡◌, ◌⊎◌, inl, inr, ℕ, zero, suc, ◌+◌, ◌-◌, ◌<◌, ◌≤◌, true, false, ◌==◌, List, [], ◌∷◌, ◌++◌, Some, length, map, drop, fold, refl, sym, ap, ◌∙◌, arith}
use Rattle.std.specs.Prelude.{slice_get, option_map}
use Rattle.std.proofs.lemmas.List.{append-nil, length-map, map-append}
use Rattle.std.proofs.lemmas.List.Sums.{fold-append}
use Rattle.node_set.specs.Ascending.{has}
use Rattle.entry_word.specs.declared.mark.PresenceMark.{PresenceMark}
use Rattle.entry_word.specs.declared.mark.PresenceMark.TheVariants.{Empty, Here, Gone, Coming, Off}
use Rattle.directory.specs.Settings.{Setting}
use Rattle.directory.specs.Courses.{Move, Course, base, last_stop}
use Rattle.directory.specs.Standing.{Commit, commit_by}
use Rattle.trail_laws.proofs.Links.{AreLinked, IsSound, base-low, moves-count}
use Rattle.trail_laws.proofs.ClosedViews.{clearing, coming, IsMoving, passage, Phase, Shown, View}
use Rattle.trail_laws.proofs.LinkedStops.{last-left, stop_at}
use Rattle.directory.specs.ListLaws.{slice_get-left}
use Rattle.std.proofs.lemmas.Option.{slice_get-map}

-- where commits say that a subscriber stands
abbrev pub stands : ℕ → List Commit → ℕ
stands from commits = fold (λ node (commit : Commit). commit.to) from commits

pub stands-moves : (from : ℕ) (moves : List Move) → stands from (map commit_by moves)
    ≡ fold (λ node (move : Move). move.to) from moves
stands-moves from [] = refl
stands-moves from (move ∷ moves) = stands-moves move.to moves

abbrev pub standing_of : Shown → ℕ
standing_of shown = stands shown.from shown.commits

-- what a mark tells, of what the view has
abbrev pub MarkIs : ℕ → Shown → ℕ → PresenceMark → Type 0
MarkIs nodes shown node Empty = Unit {0}
MarkIs nodes shown node (Here p) = (node ≡ standing_of shown) × (p ≡ length shown.commits) × (shown.off ≡ false)
MarkIs nodes shown node (Off p) = (node ≡ standing_of shown) × (p ≡ length shown.commits) × (shown.off ≡ true)
MarkIs nodes shown node (Gone p to) =
    (1 ≤ p) × (slice_get shown.commits (p - 1) ≡ Some (record { number = p; from = node; to = to })) × (to < nodes)
MarkIs nodes shown node (Coming p u) =
    (p ≡ length shown.moves) × (u < nodes) × (shown.off ≡ false)
    × (((p ≡ suc (length shown.commits)) × (u ≡ standing_of shown))
    ⊎ ((p ≡ length shown.commits) × (node ≡ standing_of shown) × (shown.marks u ≡ Gone p node)))

slice_get-drop : (moves : List Move) (b i : ℕ) → slice_get (drop b moves) i ≡ slice_get moves (b + i)
slice_get-drop moves zero i = let e : 0 + i ≡ i = omega arith in rw e refl
slice_get-drop [] (suc b) i = refl
slice_get-drop (m ∷ moves) (suc b) i = grind (arith, slice_get-drop moves b i)

pub linked-drop : (setting : Setting) (from number : ℕ) (moves : List Move) (b : ℕ)
    → AreLinked setting from number moves → b ≤ length moves
    → AreLinked setting (stop_at from moves b) (number + b) (drop b moves)
linked-drop setting from number moves zero linked low = let e : number + 0 ≡ number = omega arith in rw e linked
linked-drop setting from number [] (suc b) linked low = absurd (omega arith)
linked-drop setting from number (m ∷ later) (suc b) linked low =
    grind (arith, linked-drop setting m.to (suc number) later b linked.1 (omega arith))

pub stop-drop : (from : ℕ) (moves : List Move) (b i : ℕ) → b ≤ length moves
    → stop_at (stop_at from moves b) (drop b moves) i ≡ stop_at from moves (b + i)
stop-drop from moves zero i low = let e : 0 + i ≡ i = omega arith in rw e refl
stop-drop from [] (suc b) i low = absurd (omega arith)
stop-drop from (m ∷ later) (suc b) i low = grind (arith, stop-drop m.to later b i (omega arith))

-- the Gone of a move at the node that it left
gone-is : {setting : Setting} (shown : Shown) {course : Course} (node : ℕ) (more : List Commit)
    → IsSound setting course → shown.commits ≡ map commit_by course.moves ++ more
    → MarkIs setting.nodes shown node (trail_mark (since_top setting course) node Empty)
gone-is {setting} shown {course} node more sound are =
    elim (last-left setting (stop_at course.start course.moves low) (0 + low) (since_top setting course) node Empty
    (linked-drop setting course.start 0 course.moves low sound.linked (base-low setting.top sound))) [
      | inl none ↦ rw none.0 tt
      | inr left ↦
          let placed : left.move.number - 1 ≡ low + left.place = omega (arith, left.link.its_number) in
          rw left.mark_is (
            omega (arith, left.link.its_number),
            rw (are, placed) (slice_get-left (map commit_by course.moves) more (low + left.place)
                (commit_by left.move) (grind (arith, slice_get-map, commit_by, low, option_map, slice_get-drop))
                ∙ ap (λ f. Some (record { number = left.move.number; from = f; to = left.move.to }))
                left.link.its_from),
            left.link.inside,
          )
    ]
  where
    low : ℕ
    low = base setting.top course.moves

-- where all moves are committed there are as many of one as of the other
pub count-told : {commits : List Commit} (moves : List Move) → commits ≡ map commit_by moves
    → length commits ≡ length moves
count-told moves are = ap length are ∙ length-map moves commit_by

-- at rest
pub rest-stands : (shown : Shown) (course : Course) → course.start ≡ shown.from
    → shown.commits ≡ map commit_by course.moves → standing_of shown ≡ last_stop course
rest-stands shown course begins are = rw (are, ← begins) (stands-moves course.start course.moves)

rest-is : {setting : Setting} (shown : Shown) {course : Course} (node : ℕ) → IsSound setting course
    → course.start ≡ shown.from → shown.commits ≡ map commit_by course.moves → shown.off ≡ course.is_off
    → MarkIs setting.nodes shown node (rest_mark setting course node)
rest-is {setting} shown {course} node sound begins are off =
    cond_both (node == last_stop course) (there course) (trail_mark (since_top setting course) node Empty)
    (MarkIs setting.nodes shown node)
    (grind (arith, eqb-true, rest-stands, cond_both, count-told))
    (λ e. gone-is shown node [] sound (are ∙ sym (append-nil (map commit_by course.moves))))

-- the Gone of the move itself
own-gone : {setting : Setting} {course : Course} {move : Move} → IsNext setting course move
    → slice_get (map commit_by (course.moves ++ move ∷ [])) (move.number - 1) ≡ Some (commit_by move)
own-gone {course} {move} next =
    let e : move.number - 1 ≡ length course.moves = omega (arith, next.number) in rw e (at_end course.moves)
  where
    at_end : (xs : List Move) → slice_get (map commit_by (xs ++ move ∷ [])) (length xs) ≡ Some (commit_by move)
    at_end [] = refl
    at_end (x ∷ xs) = at_end xs

-- a move under way is the last that is begun; once it is committed, it is the last commit
module _ {setting : Setting} {shown : Shown} {phase : Phase} (h : IsMoving setting shown phase) where
  pub begun-count : h.move.number ≡ length shown.moves
  begun-count = h.next.number ∙ sym (ap length h.moves_are ∙ moves-count h.course h.move)

  pub next-count : shown.commits ≡ map commit_by (h.course.moves ++ h.move ∷ [])
      → h.move.number ≡ length shown.commits
  next-count are = begun-count ∙ (ap length h.moves_are ∙ sym (count-told (h.course.moves ++ h.move ∷ []) are))

  pub next-stands : shown.commits ≡ map commit_by (h.course.moves ++ h.move ∷ []) → standing_of shown ≡ h.move.to
  next-stands are = grind (arith, stands-moves, fold-append)

  -- then all moves are committed
  pub all-committed : shown.commits ≡ map commit_by (h.course.moves ++ h.move ∷ [])
      → length shown.moves ≡ suc (length shown.commits) → ⊥
  all-committed are all = omega (arith, all, begun-count, next-count are)

-- what a mark tells once the move is committed
module _ {setting : Setting} {shown : Shown} {phase : Phase} (h : IsMoving setting shown phase)
    (are : shown.commits ≡ map commit_by (h.course.moves ++ h.move ∷ [])) (node : ℕ) where
  -- the marks of the trail, when the subscriber has left it
  trail-is : (node == h.move.from) ≡ false → MarkIs setting.nodes shown node (rest_mark setting h.course node)
  trail-is other = rw (← h.next.from, other)
      (gone-is shown node (commit_by h.move ∷ []) h.sound (are ∙ map-append commit_by h.course.moves (h.move ∷ [])))

  left-is : (node == h.move.from) ≡ true → MarkIs setting.nodes shown node (Gone h.move.number h.move.to)
  left-is e = grind (arith, own-gone, eqb-true)

  passing-is : shown.marks h.move.from ≡ Gone h.move.number h.move.to
      → MarkIs setting.nodes shown node (mark_passing setting h.course h.move node)
  passing-is gone = cond_both (node == h.move.from) _ _ (MarkIs setting.nodes shown node) left-is (λ off_from.
      cond_both (node == h.move.to) _ _ (MarkIs setting.nodes shown node) (λ at. (
        begun-count h,
        from-inside h.sound h.next,
        h.off_is,
        grind (arith, next-count h are, eqb-true node h.move.to, next-stands h are),
      )) (λ off_to. trail-is off_from))

  clearing-is : (purged : List ℕ) → MarkIs setting.nodes shown node (mark_erasing setting h.course h.move purged node)
  clearing-is purged = cond_both (has node purged) _ _ (MarkIs setting.nodes shown node) (λ gone. tt) (λ kept.
      cond_both (node == h.move.to) _ _ (MarkIs setting.nodes shown node)
      (λ at. (eqb-true node h.move.to at ∙ sym (next-stands h are), next-count h are, h.off_is))
      (λ off. rw off (cond_both (node == h.move.from) _ _ (MarkIs setting.nodes shown node) left-is trail-is)))

-- so a mark of a view tells it
pub mark-is : {setting : Setting} {shown : Shown} (node : ℕ) → node < setting.nodes → View setting shown
    → MarkIs setting.nodes shown node (shown.marks node)
mark-is {setting} {shown} node low (inl h) =
    rw (h.marks_are node low) (rest-is shown node h.sound h.begins h.commits_are h.off_is)
mark-is {setting} {shown} node low (inr (coming written, h)) = rw (h.marks_are node low)
    (cond_both (node == h.move.to) _ _ (MarkIs setting.nodes shown node)
    (grind (arith, begun-count h, from-inside h.sound h.next, count-told, rest-stands))
    (λ e. rest-is shown node h.sound h.begins h.commits_are (h.off_is ∙ sym h.next.is_on)))
mark-is node low (inr (passage, h)) = rw (h.marks_are node low) (passing-is h h.commits_are node
    (h.marks_are h.move.from (from-inside h.sound h.next) ∙ rw (eq-eqb h.move.from h.move.from refl)))
mark-is node low (inr (clearing erased purged, h)) =
    rw (h.marks_are node low) (clearing-is h h.commits_are node purged)
