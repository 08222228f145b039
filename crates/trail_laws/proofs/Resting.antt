-- How far the marks lead in each phase, and what rest is.
use Rattle.std.proofs.lemmas.Bool.{cases_Bool}
use Rattle.std.proofs.Common.{◌≡◌, ◌≢◌, ℕ, ◌^◌, ◌≤◌, Some, length, map, sym, ap, ◌∙◌, arith}
use Rattle.std.proofs.lemmas.List.{length-map}
use Rattle.entry_word.specs.declared.address.Address.{Address}
use Rattle.entry_word.specs.declared.mark.PresenceMark.TheVariants.{Coming}
use Rattle.directory.specs.Settings.{Setting, start}
use Rattle.directory.specs.Histories.{History, puts_to}
use Rattle.directory.specs.Legal.{IsLegal}
use Rattle.directory.specs.Courses.{Course, course_at, last_stop}
use Rattle.directory.specs.Puts.{course_in, steps_in}
use Rattle.directory.specs.Standing.{commit_by, commits, number, off, standing}
use Rattle.trail_laws.specs.Trail.{entry_seen, mark_seen}
use Rattle.trail_laws.specs.Phases.{AddressesLeadByPhase, IsAtRest, IsCurrent, IsMarked, RestEndsItsCourse, RestIsSettled}
use Rattle.trail_laws.proofs.ClosedMarks.{there}
use Rattle.trail_laws.proofs.ClosedWrites.{commits-steps, off-steps}
use Rattle.trail_laws.proofs.Views.{all-made, mark-there, shown, rest-entries_of, sound-opening}
use Rattle.trail_laws.proofs.Tells.{rest-stands}
use Rattle.trail_laws.proofs.Holders.{IsOld, rest-some}
use Rattle.trail_laws.proofs.Laws.{Laws, placed}
use Rattle.trail_laws.proofs.Lazy.{legal-lazy}
use Rattle.directory.specs.StepLaws.{start-kept}
use Rattle.trail_laws.proofs.Comings.{there-not_coming}

pub addresses-by_phase : Laws → AddressesLeadByPhase
addresses-by_phase laws setting sub history low metric some legal level cluster address known below is_some knows =
    let its = placed laws history low legal level cluster address below is_some in
    let there = its.leads known knows in
    let lazy = legal-lazy history some legal in grind (arith, there.short metric)

module _ (laws : Laws) (setting : Setting) (sub : ℕ) (history : History) (low : setting.nodes ≤ 2 ^ 16)
    (legal : IsLegal setting sub history) (rest : IsAtRest setting sub history) where
  abbrev pub course : Course
  course = course_in setting sub (puts_to sub history)

  -- a subscriber that rests has committed all its moves
  all-committed : commits sub history ≡ map commit_by course.moves
  all-committed = grind (arith, all-made, commits-steps)

  all : length course.moves ≡ number sub history
  all = omega (arith, ap length all-committed, length-map course.moves commit_by)

  stood : standing setting sub history ≡ last_stop course
  stood = rest-stands (shown setting sub history) course
      (start-kept setting (course_at (start setting sub)) (steps_in (puts_to sub history))) all-committed

  off-there : off sub history ≡ course.is_off
  off-there = grind (arith, laws.off_told setting sub history low legal, all-made, sound-opening, off-steps)

  mark_stands : mark_seen setting sub history (standing setting sub history) ≡ there course
  mark_stands = ap (mark_seen setting sub history) stood ∙ mark-there setting sub history rest laws.marks low legal

  marked : IsMarked setting sub history
  marked = grind (arith, cases_Bool, mark_stands, all)

  not-coming : (from : ℕ) → mark_seen setting sub history (standing setting sub history)
      ≢ Coming (number sub history) from
  not-coming from comes = there-not_coming course (number sub history) from (sym mark_stands ∙ comes)

  current : (level cluster : ℕ) (address : Address) → level ≤ setting.top
      → entry_seen setting sub history level cluster ≡ Some address → IsCurrent setting sub history level address
  unfolding IsOld
  current level cluster address below is_some = grind (arith, rest-some, all-made, rest-entries_of)

pub rest-ends : Laws → RestEndsItsCourse
rest-ends laws setting sub history low legal rest =
    (stood laws setting sub history low legal rest, off-there laws setting sub history low legal rest)

pub rest-settled : Laws → RestIsSettled
rest-settled laws setting sub history low legal rest = (
  (all laws setting sub history low legal rest, not-coming laws setting sub history low legal rest),
  current laws setting sub history low legal rest,
  marked laws setting sub history low legal rest,
)
