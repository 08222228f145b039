-- A subscriber's lines have runs of its tickets, as many as each step has writes.
use Rattle.std.proofs.Common.{◌≡◌, ℕ, zero, suc, ◌+◌, ◌-◌, ◌<◌, ◌≤◌, List, [], ◌∷◌, ◌++◌, length, take, drop, map, refl, ap, sym, ◌∙◌, arith, subst, length-append}
use Rattle.std.specs.Prelude.{slice_index}
use Rattle.std.proofs.lemmas.List.{get_or-drop, get_or-take, length-drop, length-map, length-take, drop-drop}
use Rattle.entry_word.specs.declared.visit.Visit.{Visit}
use Rattle.directory.specs.Settings.{Setting, start, subs}
use Rattle.directory.specs.Courses.{Course, Move, Step, after_step, course_at, move_to, next_move}
use Rattle.entry_word.specs.declared.mark.PresenceMark.TheVariants.{Gone, Here}
use Rattle.directory.specs.Writes.{Write, commit_place, erasure_writes, mark_at, move_writes, new_address, numbers_from, purge_writes, step_writes, visit_of, writes}
use Rattle.directory.specs.Histories.{History, own, tickets}
use Rattle.directory.specs.HistoryLaws.{next-sub, tickets-count}
use Rattle.directory.specs.Orders.{IsDone, IsPlayed, Scripts, script_visits, steps_of}
use Rattle.directory.specs.Outcomes.{step_line, step_lines, sub_lines}
use Rattle.directory.specs.StepLaws.{past-end}
use Rattle.directory.specs.Statements.{ScriptsInOrder}
use Rattle.directory.specs.CallLines.{actor_of}
use Rattle.own_reports.proofs.Runs.{HaveRuns, IsRun}

pub length-numbers : (from count : ℕ) → length (numbers_from from count) ≡ count
length-numbers from zero = refl
length-numbers from (suc count) = ap suc (length-numbers (suc from) count)

-- how many writes a move has before its commit, and that some come after it
pub move-long : (setting : Setting) (course : Course) (move : Move)
    → suc (commit_place move) < length (move_writes setting course move)
move-long setting course move =
    let addresses : List Write = map (new_address setting move) (numbers_from 0 (suc move.renewed)) in
    let last : List Write =
    mark_at move.from (Gone move.number move.to)
    ∷ (mark_at move.to (Here move.number) ∷ (erasure_writes setting course move ++ purge_writes setting course move)) in
    omega (
      arith,
      length-map (numbers_from 0 (suc move.renewed)) (new_address setting move),
      length-numbers 0 (suc move.renewed),
      length-append addresses last,
    )

-- a ticket of a part of the tickets
pub part-at : (seen : List ℕ) (p n i : ℕ) → i < n → slice_index (take n (drop p seen)) i ≡ slice_index seen (p + i)
part-at seen p n i low = get_or-take n (drop p seen) i 0 low ∙ get_or-drop p seen i 0

pub part-first : (seen : List ℕ) (p n : ℕ) → 0 < n → slice_index (take n (drop p seen)) 0 ≡ slice_index seen p
part-first seen p n some = part-at seen p n 0 some ∙ ap (slice_index seen) (let z : p + 0 ≡ p = omega arith in z)

part-length : (seen : List ℕ) (p n : ℕ) → p + n ≤ length seen → length (take n (drop p seen)) ≡ n
part-length seen p n fits = omega (arith, length-take n (drop p seen), length-drop p seen, fits)

-- the run of a step's line
step-run : (setting : Setting) (sub : ℕ) (course : Course) (step : Step) (seen : List ℕ) (p e : ℕ)
    → p + length (step_writes setting course step) ≡ suc e → e < length seen
    → (actor_of (step_line setting sub course step
    (take (length (step_writes setting course step)) (drop p seen))) ≡ sub)
    × IsRun seen p e (step_line setting sub course step
    (take (length (step_writes setting course step)) (drop p seen)))
step-run setting sub course (move_to node) seen p e ends fits =
    let move : Move = next_move setting course node in
    let n : ℕ = length (move_writes setting course move) in
    let long : suc (commit_place move) < n = move-long setting course move in
    let count : length (take n (drop p seen)) ≡ n = part-length seen p n (omega (arith, ends, fits)) in
    let last_place : p + (n - 1) ≡ e = omega (arith, ends, long) in (
      refl,
      (
        (
          omega (arith, ends, long),
          part-first seen p n (omega (arith, long)),
          ap (λ k. slice_index (take n (drop p seen)) (k - 1)) count ∙ part-at seen p n (n - 1) (omega (arith, long))
              ∙ ap (slice_index seen) last_place,
        ),
        (
          p + commit_place move,
          omega arith,
          omega (arith, ends, long),
          part-at seen p n (commit_place move) (omega (arith, long)),
        ),
      ),
    )
step-run setting sub course _ seen p e ends fits =
    (refl, (omega (arith, ends), part-first seen p 1 (omega arith)))

-- a step has a write
pub some-writes : (setting : Setting) (course : Course) (step : Step) → 0 < length (step_writes setting course step)
some-writes setting course (move_to node) = omega (arith, move-long setting course (next_move setting course node))
some-writes setting course _ = omega arith

-- the runs of the lines of steps
pub step-runs : (setting : Setting) (sub : ℕ) (course : Course) (steps : List Step) (seen : List ℕ) (p : ℕ)
    → p + length (writes setting course steps) ≡ length seen
    → HaveRuns sub seen p (step_lines setting sub course steps (drop p seen))
unfolding writes step_lines
step-runs setting sub course [] seen p ends = omega (arith, ends)
step-runs setting sub course (step ∷ steps) seen p ends =
    let n : ℕ = length (step_writes setting course step) in
    let some : 0 < n = some-writes setting course step in
    let split : length (writes setting course (step ∷ steps))
    ≡ n + length (writes setting (after_step setting course step) steps) =
    length-append (step_writes setting course step) (writes setting (after_step setting course step) steps) in
    let e : ℕ = p + n - 1 in
    let next : p + n ≡ suc e = omega (arith, some) in
    let low : e < length seen = omega (arith, some, ends, split) in
    let here = step-run setting sub course step seen p e next low in
    let later : HaveRuns sub seen (suc e) (step_lines setting sub (after_step setting course step) steps
    (drop (suc e) seen)) =
    step-runs setting sub (after_step setting course step) steps seen (suc e) (omega (arith, ends, split, next)) in (
      e,
      low,
      here.0,
      here.1,
      subst (λ (rest : List ℕ). HaveRuns sub seen (suc e) (step_lines setting sub (after_step setting course step) steps
          rest))
          (ap (λ k. drop k seen) (sym next) ∙ sym (drop-drop n p seen)) later,
    )

-- a subscriber whose script is done has a ticket for each of its writes
pub all-made : ScriptsInOrder → (setting : Setting) (scripts : Scripts) (history : History) (sub : ℕ)
    → sub < subs setting → IsPlayed setting scripts history → IsDone setting scripts history sub
    → length (tickets sub history) ≡ length (writes setting (course_at (start setting sub)) (steps_of scripts sub))
all-made in_order setting scripts history sub low played done =
    let all : List Visit = script_visits setting scripts sub in
    let past : length all ≤ length (own sub history) =
    past-end all (length (own sub history)) (sym (next-sub setting scripts history sub low) ∙ done) in
    let front : length (own sub history) ≡ length (take (length (own sub history)) all) =
    ap length (in_order setting scripts history sub low played) in
    omega (
      arith,
      past,
      front,
      length-take (length (own sub history)) all,
      tickets-count sub history,
      length-map (writes setting (course_at (start setting sub)) (steps_of scripts sub)) (visit_of sub),
    )

-- so its lines have runs
pub sub-runs : ScriptsInOrder → (setting : Setting) (scripts : Scripts) (history : History) (sub : ℕ)
    → sub < subs setting → IsPlayed setting scripts history → IsDone setting scripts history sub
    → HaveRuns sub (tickets sub history) 0 (sub_lines setting scripts history sub)
sub-runs in_order setting scripts history sub low played done =
    step-runs setting sub (course_at (start setting sub)) (steps_of scripts sub) (tickets sub history) 0
    (omega (arith, all-made in_order setting scripts history sub low played done))
