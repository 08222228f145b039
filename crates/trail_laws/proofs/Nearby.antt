-- Each level has an address at the home of a node that is near where the subscriber stands.
use Rattle.std.proofs.Math.Bool.{and-false}
use Rattle.std.proofs.lemmas.Bool.{cases_Bool, cond_both, eqb-true, eq-eqb}
use Rattle.trail_laws.proofs.ClosedMarks.{from-inside, base-with, IsNext}
use Rattle.std.proofs.Common.{◌≡◌, inl, inr, ℕ, suc, ◌<◌, ◌≤◌, Bool, true, false, not, ◌==◌, ◌&&◌, List, [], ◌∷◌, ◌++◌, Some, map, refl, sym, ap, ◌∙◌, arith}
use Rattle.std.specs.Prelude.{nat_le}
use Rattle.std.proofs.lemmas.Bool.Decides.{nat_tests}
use Rattle.node_set.specs.Ascending.{has}
use Rattle.node_set.specs.SetLaws.{has-passing, passing_over}
use Rattle.entry_word.specs.declared.address.Address.{Address}
use Rattle.directory.specs.Settings.{Setting}
use Rattle.directory.specs.Courses.{address_node, base, Course, Move}
use Rattle.directory.specs.Writes.{old_home}
use Rattle.directory.specs.Standing.{commit_by}
use Rattle.trail_laws.specs.Trail.{HasMetric}
use Rattle.trail_laws.proofs.Links.{base-low, IsSound}
use Rattle.trail_laws.proofs.ClosedEntries.{entry_written, new_entry, rest_entry}
use Rattle.trail_laws.proofs.ClosedViews.{clearing, coming, IsMoving, old_levels, passage, Phase, renewed_levels, Shown, View}
use Rattle.trail_laws.proofs.ClosedWrites.{in-levels}
use Rattle.trail_laws.proofs.LinkedStops.{old-inside}
use Rattle.trail_laws.proofs.Tells.{next-stands, rest-stands, standing_of}
use Rattle.trail_laws.proofs.Holders.{move_address}
use Rattle.trail_laws.proofs.Prices.{address-near, AreLazy, lazy-front, lazy-whole, weight-push}

-- at a level that a move doesn't renew the address stays near
near-kept : {setting : Setting} {course : Course} {move : Move} (level : ℕ) → HasMetric setting
    → IsSound setting course → IsNext setting course move → level ≤ setting.top
    → AreLazy setting (course.moves ++ move ∷ []) → nat_le level move.renewed ≡ false
    → setting.distance (address_node course level) move.to < setting.threshold level
near-kept {setting} {course} {move} level metric sound next below lazy e = grind (
  arith,
  metric.detour (address_node course level) move.from move.to,
  old-inside level sound,
  from-inside sound next,
  address-near level sound metric,
  weight-push course.moves move (base level course.moves) (base-low level sound),
  base-with,
  lazy-whole setting (course.moves ++ move ∷ []) level below lazy,
)

-- ---- each level has an address
rest-has : (setting : Setting) (course : Course) (level : ℕ)
    → rest_entry setting course level (setting.home level (address_node course level))
    ≡ Some (record { number = base level course.moves; node = address_node course level })
rest-has setting course level = grind (arith, eq-eqb)

written-has : (setting : Setting) (course : Course) (move : Move) (written : List ℕ) (level : ℕ)
    → (address : Address) × (entry_written setting course move written level
    (setting.home level (address_node course level)) ≡ Some address)
written-has setting course move written level =
    cond_both (has level written && setting.home level (address_node course level) == setting.home level move.to)
    (new_entry move) (rest_entry setting course level (setting.home level (address_node course level)))
    (λ entry. (address : Address) × (entry ≡ Some address)) (λ e. (_, refl)) (λ e. (_, rest-has setting course level))

-- the home of a node has an address, and while no level has gathered its threshold the node is near where the
-- subscriber stands
abbrev pub HasNear : Setting → Shown → ℕ → Type 0
HasNear setting shown level =
    (node : ℕ) × (address : Address) × (node < setting.nodes)
    × (shown.entries level (setting.home level node) ≡ Some address)
    × (HasMetric setting → AreLazy setting shown.moves
    → setting.distance node (standing_of shown) < setting.threshold level)

-- while a move is under way: the old address is there, or the new one
module _ {setting : Setting} {shown : Shown} {phase : Phase} (h : IsMoving setting shown phase) (level : ℕ)
    (below : level ≤ setting.top) where
  old-one : ((address : Address) × (shown.entries level (setting.home level (address_node h.course level))
      ≡ Some address)) → (HasMetric setting → AreLazy setting (h.course.moves ++ h.move ∷ [])
      → setting.distance (address_node h.course level) (standing_of shown) < setting.threshold level)
      → HasNear setting shown level
  old-one found near = grind (arith, old-inside)

  new-one : shown.commits ≡ map commit_by (h.course.moves ++ h.move ∷ [])
      → shown.entries level (setting.home level h.move.to) ≡ new_entry h.move → HasNear setting shown level
  new-one are e = (
    h.move.to,
    move_address h.move,
    h.next.inside,
    e,
    λ metric lazy. grind (
      arith,
      next-stands h are,
      lazy-front setting h.course.moves (h.move ∷ []) level below,
    ),
  )

  old-near : shown.commits ≡ map commit_by (h.course.moves ++ h.move ∷ []) → nat_le level h.move.renewed ≡ false
      → HasMetric setting → AreLazy setting (h.course.moves ++ h.move ∷ [])
      → setting.distance (address_node h.course level) (standing_of shown) < setting.threshold level
  old-near are t metric lazy = rw (next-stands h are) (near-kept level metric h.sound h.next below lazy t)

  new-written : nat_le level h.move.renewed ≡ true
      → entry_written setting h.course h.move (renewed_levels h.move) level (setting.home level h.move.to)
      ≡ new_entry h.move
  new-written t = grind (arith, in-levels, eq-eqb)

pub level-has : {setting : Setting} {shown : Shown} (level : ℕ) → level ≤ setting.top → View setting shown
    → HasNear setting shown level
level-has {setting} {shown} level below (inl h) = (
  address_node h.course level,
  _,
  old-inside level h.sound,
  h.entries_are level _ below ∙ rest-has setting h.course level,
  λ metric lazy. rw (rest-stands shown h.course h.begins h.commits_are) (grind (arith, address-near, lazy-whole)),
)
level-has {setting} {shown} level below (inr (coming written, h)) =
    let found = written-has setting h.course h.move written level in
    old-one h level below (found.0, h.entries_are level _ below ∙ found.1) (λ metric lazy. grind (
      arith,
      rest-stands shown h.course h.begins h.commits_are,
      address-near level h.sound metric,
      lazy-front setting h.course.moves (h.move ∷ []) level below,
    ))
level-has {setting} level below (inr (passage, h)) = elim (cases_Bool (nat_le level h.move.renewed)) [
  | inl t ↦ new-one h level below h.commits_are (h.entries_are level _ below ∙ new-written h level below t)
  | inr t ↦
      let found = written-has setting h.course h.move (renewed_levels h.move) level in
      grind (arith, old-one h level below, old-near h level below h.commits_are t)
]
level-has {setting} {shown} level below (inr (clearing erased purged, h)) =
    elim (cases_Bool (nat_le level h.move.renewed)) [
      | inl t ↦ new-one h level below h.commits_are (h.entries_are level _ below
          ∙ rw (kept t (new_home == its_old) refl) (new-written h level below t))
      | inr t ↦
          let found = written-has setting h.course h.move (renewed_levels h.move) level in
          old-one h level below (found.0, h.entries_are level _ below ∙ rw (h.is_phase.kept level (outside t)) found.1)
          (old-near h level below h.commits_are t)
    ]
  where
    new_home : ℕ
    new_home = setting.home level h.move.to

    its_old : ℕ
    its_old = old_home setting h.course level

    outside : nat_le level h.move.renewed ≡ false → has level (old_levels setting h.course h.move) ≡ false
    outside t = grind (arith, passing_over)

    kept : nat_le level h.move.renewed ≡ true → (b : Bool) → (new_home == its_old) ≡ b
        → (has level erased && b) ≡ false
    kept t false e = and-false (has level erased)
    kept t true e = rw (h.is_phase.kept level
        (has-passing (λ l. not (old_home setting h.course l == setting.home l h.move.to)) level 0 (suc h.move.renewed)
        (omega arith) (grind (arith, nat_tests, t))
        ∙ ap not (eq-eqb its_old new_home (sym (eqb-true new_home its_old e)))))
