-- What an address tells, and where the marks lead from its node: at rest, and in each phase of a move.
use Rattle.std.proofs.lemmas.Bool.{cases_Bool, and_parts, eqb-true}
use Rattle.trail_laws.proofs.ClosedEntries.{new_entry, entry_erased, entry_written, new-stop, old-stop}
use Rattle.trail_laws.proofs.ClosedMarks.{from-inside}
use Rattle.std.proofs.Common.{◌==◌, ◌≡◌, ◌⊎◌, inl, inr, ℕ, suc, ◌+◌, ◌<◌, ◌≤◌, true, List, [], ◌∷◌, ◌++◌, Option, length, map, refl, sym, ap, ◌∙◌, arith, length-append, ◌*◌, Some}
use Rattle.std.proofs.lemmas.List.{append-nil}
use Rattle.node_set.specs.SetLaws.{length-passing_all}
use Rattle.entry_word.specs.declared.mark.PresenceMark.{PresenceMark}
use Rattle.entry_word.specs.declared.mark.PresenceMark.TheVariants.{Coming}
use Rattle.entry_word.specs.declared.address.Address.{Address}
use Rattle.directory.specs.Settings.{Setting}
use Rattle.directory.specs.Courses.{Move, Course, address_node, base}
use Rattle.directory.specs.Standing.{commit_by}
use Rattle.trail_laws.specs.Trail.{KnowsAtMost}
use Rattle.trail_laws.proofs.Links.{IsSound, base-low, moves-count}
use Rattle.trail_laws.proofs.Holders.{IsNew, IsOld, erased-some, move_address, old_address, only-new, rest-some}
use Rattle.trail_laws.proofs.GoneCounts.{above, gone_above, passing-fewer, some-out}
use Rattle.trail_laws.proofs.Chases.{Arrival, arrived, longer}
use Rattle.trail_laws.proofs.LinkedStops.{stop_at, old-inside}
use Rattle.trail_laws.proofs.Tells.{begun-count, count-told, next-stands, rest-stands, standing_of}
use Rattle.trail_laws.proofs.Fine.{fine-clearing, fine-coming, fine-coming_new, fine-new, fine-passing, fine-rest, IsFine}
use Rattle.trail_laws.proofs.Prices.{lazy-front}
use Rattle.trail_laws.proofs.Leads.{base-top, clearing-here, clearing-leads, coming-at_to, coming-back, coming-leads, old-leads, passage-leads, passage-new, passing-at_to, rest-leads}
use Rattle.trail_laws.proofs.ClosedViews.{clearing, coming, IsMoving, IsResting, passage, Phase, renewed_levels, Shown, View}

-- what an address of a view tells
pub record IsPlaced (setting : Setting) (shown : Shown) (level cluster : ℕ) (address : Address) : Type 0 where
  pub inside : address.node < setting.nodes
  pub home_is : cluster ≡ setting.home level address.node
  pub few : address.number ≤ length shown.moves
  pub is_stop : address.node ≡ stop_at shown.from shown.moves address.number
  pub most_way : ℕ
  pub fine : IsFine setting shown level address most_way
  pub leads : (known : Option ℕ) → KnowsAtMost (length shown.commits) known
      → Arrival setting shown.marks known address.node (standing_of shown) setting.nodes most_way

above-few : (setting : Setting) (marks : ℕ → PresenceMark) (q : ℕ) → above setting marks q ≤ setting.nodes
above-few setting marks q = omega (
  arith,
  passing-fewer (λ v. gone_above q (marks v)) (λ v. true) 0 setting.nodes
      (λ x e. refl),
  length-passing_all 0 setting.nodes,
)

above-but_one : (setting : Setting) (marks : ℕ → PresenceMark) (q x p from : ℕ) → x < setting.nodes
    → marks x ≡ Coming p from → suc (above setting marks q) ≤ setting.nodes
above-but_one setting marks q x p from low comes = some-out (λ v. gone_above q (marks v)) x setting.nodes low
    (ap (gone_above q) comes)

-- ---- an address at its home, from whose node the marks lead to where the subscriber stands
module _ {setting : Setting} {shown : Shown} (level cluster : ℕ) (address : Address) (number last hops way : ℕ)
    (count : length shown.commits ≡ number) (stood : standing_of shown ≡ last) (some : hops ≤ setting.nodes) where
  at-home : (its : Address) → address ≡ its → its.node < setting.nodes
      → (cluster == setting.home level its.node) ≡ true → its.number ≤ length shown.moves
      → its.node ≡ stop_at shown.from shown.moves its.number → IsFine setting shown level its way
      → ((known : Option ℕ) → KnowsAtMost number known → Arrival setting shown.marks known its.node last hops way)
      → IsPlaced setting shown level cluster address
  at-home its same inside home few is_stop fine leads = grind (arith, eqb-true, longer)

  -- an old address, whatever moves come behind it, and that of the move
  old-placed : {course : Course} (more : List Move) → IsSound setting course → course.start ≡ shown.from
      → shown.moves ≡ course.moves ++ more → IsFine setting shown level (old_address course level) way
      → ((known : Option ℕ) → KnowsAtMost number known
      → Arrival setting shown.marks known (address_node course level) last hops way)
      → IsOld setting course level cluster address → IsPlaced setting shown level cluster address
  unfolding IsOld
  old-placed {course} more sound begins moves fine leads old =
      at-home (old_address course level) old.0 (old-inside level sound) old.1
      (omega (arith, base-low level sound, ap length moves, length-append course.moves more))
      (rw (moves, ← begins) (sym (old-stop more level sound))) fine leads

  move-placed : {phase : Phase} (h : IsMoving setting shown phase)
      → IsFine setting shown level (move_address h.move) way
      → ((known : Option ℕ) → KnowsAtMost number known
      → Arrival setting shown.marks known h.move.to last hops way)
      → IsNew setting h.move level cluster address → IsPlaced setting shown level cluster address
  unfolding IsNew
  move-placed h fine leads new = grind (arith, move_address h.move, begun-count h, new-stop h.next, at-home)

-- the number of commits and where they end, once the move under way is committed
all-count : {setting : Setting} {shown : Shown} {phase : Phase} (h : IsMoving setting shown phase)
    → shown.commits ≡ map commit_by (h.course.moves ++ h.move ∷ []) → length shown.commits ≡ suc (length h.course.moves)
all-count h are = count-told (h.course.moves ++ h.move ∷ []) are ∙ moves-count h.course h.move

module _ {setting : Setting} {shown : Shown} (level cluster : ℕ) (address : Address) (below : level ≤ setting.top) where
  abbrev pub IsEither : {phase : Phase} → IsMoving setting shown phase → Type 0
  IsEither h = IsNew setting h.move level cluster address ⊎ IsOld setting h.course level cluster address

  rest-placed : (h : IsResting setting shown) → IsOld setting h.course level cluster address
      → IsPlaced setting shown level cluster address
  rest-placed h = old-placed level cluster address _ _ _ _
      (count-told h.course.moves h.commits_are) (rest-stands shown h.course h.begins h.commits_are)
      (omega (arith, above-few setting shown.marks (base level h.course.moves))) [] h.sound h.begins
      (h.moves_are ∙ sym (append-nil h.course.moves)) (fine-rest h level _ below)
      (old-leads 0 0 level h.sound below (rest-leads h))

  coming-placed : {written : List ℕ} (h : IsMoving setting shown (coming written)) → IsEither h
      → IsPlaced setting shown level cluster address
  coming-placed h (inr old) = old-placed level cluster address _ _
      (1 + above setting shown.marks (base level h.course.moves)) _ (count-told h.course.moves h.commits_are)
      (rest-stands shown h.course h.begins h.commits_are) (omega (
        arith,
        above-but_one setting shown.marks
            (base level h.course.moves) h.move.to _ _ h.next.inside (coming-at_to h),
      )) (h.move ∷ []) h.sound h.begins
      h.moves_are (fine-coming h level below) (old-leads 1 0 level h.sound below (coming-leads h)) old
  coming-placed h (inl new) = move-placed level cluster address _ _ 1 _
      (count-told h.course.moves h.commits_are) (rest-stands shown h.course h.begins h.commits_are)
      (omega (arith, h.next.inside)) h (fine-coming_new h level) (coming-back h) new

  passing-placed : (h : IsMoving setting shown passage) → IsEither h
      → IsPlaced setting shown level cluster address
  passing-placed h (inr old) = old-placed level cluster address _ _
      (1 + above setting shown.marks (base level h.course.moves)) _ (all-count h h.commits_are)
      (next-stands h h.commits_are) (omega (
        arith,
        above-but_one setting shown.marks (base level h.course.moves)
            h.move.to _ _ h.next.inside (passing-at_to h),
      )) (h.move ∷ []) h.sound h.begins h.moves_are
      (fine-passing h level _ _
      (λ metric lazy. omega (arith, lazy-front setting h.course.moves (h.move ∷ []) level below lazy)))
      (old-leads 1 (2 * setting.distance h.move.from h.move.to) level h.sound below (passage-leads h)) old
  passing-placed h (inl new) = move-placed level cluster address _ _ 2 _ (all-count h h.commits_are)
      (next-stands h h.commits_are)
      (grind (arith, h.next.inside, from-inside h.sound h.next, h.next.moving)) h
      (fine-passing h level _ _ (λ metric lazy. omega (
        arith,
        lazy-front setting h.course.moves (h.move ∷ []) level below lazy,
        metric.both_ways h.move.to h.move.from h.next.inside (from-inside h.sound h.next),
      ))) (λ known knows. passage-new h known) new

  -- where the new node holds the subscriber, its address needs no hop
  new-placed : {erased purged : List ℕ} (h : IsMoving setting shown (clearing erased purged))
      → IsNew setting h.move level cluster address → IsPlaced setting shown level cluster address
  new-placed h = move-placed level cluster address _ _ 0 0
      (all-count h h.commits_are) (next-stands h h.commits_are) (omega arith) h (fine-new h level _ below)
      (grind (arith, arrived, clearing-here))

  clearing-placed : {erased purged : List ℕ} (h : IsMoving setting shown (clearing erased purged)) → purged ≡ []
      → IsEither h → IsPlaced setting shown level cluster address
  clearing-placed h none (inr old) = old-placed level cluster address _ _ _ _
      (all-count h h.commits_are) (next-stands h h.commits_are)
      (omega (arith, above-few setting shown.marks (base level h.course.moves))) (h.move ∷ []) h.sound h.begins
      h.moves_are (fine-clearing h level below) (λ known knows.
      clearing-leads h none _ _ known (base-top level h.sound below)
      (omega (arith, base-low level h.sound, moves-count h.course h.move)) (old-inside level h.sound)
      (old-stop (h.move ∷ []) level h.sound) knows) old
  clearing-placed h none (inl new) = new-placed h new

  -- an entry of a move under way is either
  either : {phase : Phase} (h : IsMoving setting shown phase) (written : List ℕ)
      → entry_written setting h.course h.move written level cluster ≡ Some address → IsEither h
  unfolding IsNew
  either h written e =
      grind (arith, setting.home level h.move.to, cases_Bool, and_parts, new_entry, move_address, rest-some)

  -- so it is for each address of a view
  pub entry-placed : View setting shown → shown.entries level cluster ≡ Some address
      → IsPlaced setting shown level cluster address
  entry-placed (inl h) e =
      rest-placed h (rest-some setting h.course level cluster address (sym (h.entries_are level cluster below) ∙ e))
  entry-placed (inr (coming written, h)) e =
      coming-placed h (either h written (sym (h.entries_are level cluster below) ∙ e))
  entry-placed (inr (passage, h)) e =
      passing-placed h (either h (renewed_levels h.move) (sym (h.entries_are level cluster below) ∙ e))
  entry-placed (inr (clearing erased purged, h)) e = elim h.is_phase.in_order [
    | inl none ↦ clearing-placed h none (either h (renewed_levels h.move) (erased-some setting h.course h.move
        (renewed_levels h.move) erased level cluster address entry).1)
    | inr whole ↦ new-placed h (grind (arith, only-new, entry))
  ]
    where
      entry : entry_erased setting h.course h.move (renewed_levels h.move) erased level cluster ≡ Some address
      entry = sym (h.entries_are level cluster below) ∙ e
