-- Where the commits of a subscriber lead, and where each begins.
use Rattle.trail_laws.proofs.ClosedMarks.{sound-with}
use Rattle.std.proofs.Common.{◌⊎◌, true, false, ◌≡◌, inl, inr, ℕ, zero, suc, ◌-◌, ◌<◌, ◌≤◌, List, [], ◌∷◌, ◌++◌, Some, length, map, fold, refl, sym, ap, ◌∙◌, arith}
use Rattle.std.specs.Prelude.{slice_get, slice_index}
use Rattle.directory.specs.Settings.{Setting}
use Rattle.directory.specs.Courses.{Move}
use Rattle.directory.specs.Standing.{Commit, commit_by}
use Rattle.trail_laws.proofs.Links.{AreLinked, last-inside, moves-count}
use Rattle.trail_laws.proofs.Tells.{count-told, stands, stands-moves}
use Rattle.trail_laws.proofs.ClosedViews.{Shown, View, Phase, IsMoving, clearing, coming, passage}
use Rattle.trail_laws.proofs.LinkedStops.{stop_at}

-- where a subscriber is after so many of its commits
abbrev pub stop_after : ℕ → List Commit → ℕ → ℕ
stop_after begin commits j = slice_index (begin ∷ map (λ (c : Commit). c.to) commits) j

-- a commit leads to its node
stop-next : (begin : ℕ) (xs : List Commit) (i : ℕ) (c : Commit) → slice_get xs i ≡ Some c
    → stop_after begin xs (suc i) ≡ c.to
stop-next begin [] i c h = cc
stop-next begin (x ∷ xs) zero c h = let e : x ≡ c = cc in ap (λ (d : Commit). d.to) e
stop-next begin (x ∷ xs) (suc i) c h = stop-next x.to xs i c h

pub stop-listed : (begin : ℕ) (xs : List Commit) (p : ℕ) (c : Commit) → 1 ≤ p → slice_get xs (p - 1) ≡ Some c
    → stop_after begin xs p ≡ c.to
stop-listed begin xs p c some h = grind (arith, stop_after begin xs, stop-next begin xs (p - 1) c h)

-- after all of them it is where they say that it stands
pub stop-last : (begin : ℕ) (xs : List Commit) → stop_after begin xs (length xs)
    ≡ fold (λ node (c : Commit). c.to) begin xs
stop-last begin [] = refl
stop-last begin (x ∷ xs) = stop-last x.to xs

-- the stops of commits are those of their moves
tos-told : (moves : List Move) → map (λ (m : Move). m.to) moves ≡ map (λ (c : Commit). c.to) (map commit_by moves)
tos-told [] = refl
tos-told (m ∷ moves) = ap (λ ns. m.to ∷ ns) (tos-told moves)

pub stops-told : (begin from : ℕ) (commits : List Commit) (moves : List Move) (j : ℕ) → from ≡ begin
    → commits ≡ map commit_by moves → stop_at from moves j ≡ stop_after begin commits j
stops-told begin from commits moves j begins commits_are = grind (arith, tos-told moves, stop_at)

-- a commit begins where those before it lead
left-linked : (setting : Setting) (from number : ℕ) (moves : List Move) → AreLinked setting from number moves
    → (i : ℕ) (c : Commit) → slice_get (map commit_by moves) i ≡ Some c
    → stop_after from (map commit_by moves) i ≡ c.from
left-linked setting from number [] linked i c h = cc
left-linked setting from number (m ∷ moves) linked zero c h =
    let e : commit_by m ≡ c = cc in sym linked.0.its_from ∙ ap (λ (d : Commit). d.from) e
left-linked setting from number (m ∷ moves) linked (suc i) c h =
    left-linked setting m.to (suc number) moves linked.1 i c h

-- the moves of a view that are committed: all, or all but one
pub record IsCommitted (setting : Setting) (shown : Shown) : Type 0 where
  pub moves : List Move
  pub begins : shown.from < setting.nodes
  pub linked : AreLinked setting shown.from 0 moves
  pub are : shown.commits ≡ map commit_by moves
  pub count : length shown.commits ≡ length moves
  pub rest : (shown.moves ≡ moves) ⊎ ((length shown.moves ≡ suc (length moves)) × (shown.off ≡ false))

all-committed : {setting : Setting} {shown : Shown} {phase : Phase} (h : IsMoving setting shown phase)
    → shown.commits ≡ map commit_by (h.course.moves ++ h.move ∷ []) → IsCommitted setting shown
all-committed h are = grind (arith, sound-with, count-told)

pub committed : {setting : Setting} {shown : Shown} → View setting shown → IsCommitted setting shown
committed (inl h) = grind (arith, count-told)
committed (inr (coming written, h)) = grind (arith, count-told, moves-count)
committed (inr (passage, h)) = all-committed h h.commits_are
committed (inr (clearing erased purged, h)) = all-committed h h.commits_are

-- at most one move is begun that isn't committed, and none when the subscriber is off
pub view-counts : {setting : Setting} {shown : Shown} → View setting shown
    → (length shown.moves ≡ suc (length shown.commits)) ⊎ (length shown.moves ≡ length shown.commits)
view-counts {setting} {shown} view = grind (arith, committed view)

pub off-counts : {setting : Setting} {shown : Shown} → View setting shown → shown.off ≡ true
    → length shown.moves ≡ length shown.commits
off-counts {setting} {shown} view off = grind (arith, committed view)

-- it stands at a node of the network
pub view-inside : {setting : Setting} {shown : Shown} → View setting shown
    → stands shown.from shown.commits < setting.nodes
view-inside {setting} {shown} view = grind (arith, committed view, stands shown.from, stands-moves, last-inside)

pub stop-left : {setting : Setting} {shown : Shown} → View setting shown
    → (i : ℕ) (c : Commit) → slice_get shown.commits i ≡ Some c → stop_after shown.from shown.commits i ≡ c.from
stop-left {setting} {shown} view i c h = grind (arith, committed view, stop_after, left-linked)
