-- The turns of an actor until it is done, those of all actors, and those of an order, run by run.
use Rattle.std.proofs.Common.{◌≡◌, ◌↔◌, ℕ, zero, suc, ◌+◌, ◌-◌, ◌<◌, ◌≤◌, List, [], ◌∷◌, ◌++◌, length, drop, refl, sym, ap, ◌∙◌, subst, arith, get_or, append_assoc, drop-cons, add-one}
use Rattle.std.specs.Prelude.{None, flat_map, replicate}
use Rattle.std.proofs.lemmas.List.{append-nil, length-map, length-drop, replicate-append-replicate, drop_all}
use Rattle.std.proofs.lemmas.List.Sums.{fold-append}
use Rattle.entry_word.specs.declared.visit.Visit.{Visit}
use Rattle.directory.specs.Settings.{Setting}
use Rattle.directory.specs.Histories.{History}
use Rattle.directory.specs.Writes.{numbers_from}
use Rattle.directory.specs.Orders.{Scripts, after_turn, after_turns, last_turns, most_turns, next}
use Rattle.directory.specs.Statements.{TurnsEndAlike}
use Rattle.net_reader.specs.Valid.{IsValid}
use Rattle.machine.specs.declared.machine.Machine.{Machine}
use Rattle.scripts.specs.Laws.{VisitsAreFew}
use Rattle.scripts.specs.Scripts.{most_visits}
use Rattle.machine.specs.Stands.{over}
use Rattle.machine.specs.Machines.{IsSame, HasHistory, HasMade, HasStridden, input_at, scripts_at, setting_at}
use Rattle.directory.specs.HistoryLaws.{turn-none}
use Rattle.std.proofs.lemmas.Grind.{flat_map-append}
use Rattle.node_set.specs.SetLaws.{passing_takes}
use Rattle.machine.specs.RestLaws.{of_same, same-back}

pub same-through : (one two three : Machine) → IsSame one two → IsSame two three → IsSame one three
same-through one two three p q =
    (q.0 ∙ p.0, q.1 ∙ p.1, q.2 ∙ p.2, q.3 ∙ p.3, q.4 ∙ p.4, q.5 ∙ p.5, q.6 ∙ p.6)

-- turns behind turns
pub turns-joined : (setting : Setting) (scripts : Scripts) (history : History) (actor k n : ℕ)
    → after_turns setting scripts (after_turns setting scripts history (replicate k actor)) (replicate n actor)
    ≡ after_turns setting scripts history (replicate (k + n) actor)
turns-joined setting scripts history actor k n =
    sym (fold-append (after_turn setting scripts) history (replicate k actor) (replicate n actor))
    ∙ ap (after_turns setting scripts history) (replicate-append-replicate k n actor)

-- the history behind these turns, in a machine
abbrev pub behind_turns : Machine → History → List ℕ → History
behind_turns machine history order = after_turns (setting_at machine) (scripts_at machine) history order

pub made-joined : {entry now new : Machine} {history : History} {actor k n : ℕ} → IsSame entry now
    → HasMade entry now history actor k → HasMade now new (behind_turns entry history (replicate k actor)) actor n
    → HasMade entry new history actor (k + n)
made-joined {entry} {now} {new} {history} {actor} {k} {n} same first then = grind (arith, turns-joined)

-- no turns
pub made-none : {machine : Machine} {history : History} (actor : ℕ) → HasHistory machine history
    → HasMade machine machine history actor 0
made-none actor is = record { stands = is; made = omega arith }

-- an actor without a visit has none later
turns-idle : (setting : Setting) (scripts : Scripts) (history : History) (actor : ℕ)
    → next setting scripts history actor ≡ None → (k : ℕ)
    → after_turns setting scripts history (replicate k actor) ≡ history
turns-idle setting scripts history actor none zero = refl
turns-idle setting scripts history actor none (suc k) =
    ap (λ h. after_turns setting scripts h (replicate k actor)) (turn-none setting scripts history actor none)
    ∙ turns-idle setting scripts history actor none k

-- so where it makes none, all turns that are left change nothing
pub made-idle : {entry now new : Machine} {history : History} {actor k : ℕ} (count : ℕ) {made : ℕ} → IsSame entry now
    → HasMade entry now history actor k
    → HasStridden now new (behind_turns entry history (replicate k actor)) actor made → made ≡ 0 → k ≤ count
    → HasHistory new (behind_turns entry history (replicate count actor))
    × (length (behind_turns entry history (replicate count actor)) ≡ length history + k)
made-idle {entry} {new = new} {history} {actor} {k} count same first then zero_made low =
    let none = rw (same.0, same.1) at (then.1 zero_made).0 in
    let whole : k + (count - k) ≡ count = omega (arith, low) in
    let all : behind_turns entry history (replicate k actor) ≡ behind_turns entry history (replicate count actor) =
    sym (turns-idle (setting_at entry) (scripts_at entry) (behind_turns entry history (replicate k actor)) actor none
    (count - k)) ∙ rw (turns-joined (setting_at entry) (scripts_at entry) history actor k (count - k), whole) in
    (subst (HasHistory new) all (rw zero_made at then.0.stands), sym (ap length all) ∙ first.made)

-- one turn: it makes a visit where one is left
pub record Turned (old new : Machine) (history : History) (actor count : ℕ) : Type 0 where
  pub stands : HasHistory new (after_turn (setting_at old) (scripts_at old) history actor)
  pub none : (count ≡ 0) ↔ (next (setting_at old) (scripts_at old) history actor ≡ None)
  pub made : length (after_turn (setting_at old) (scripts_at old) history actor) ≡ length history + count

pub turned-once : {old new : Machine} {history : History} {actor : ℕ} (count : ℕ) → count ≤ 1
    → HasStridden old new history actor count → Turned old new history actor count
turned-once {old} {new} {history} {actor} zero few made =
    let none : next (setting_at old) (scripts_at old) history actor ≡ None = (made.1 refl).0 in
    let still = turn-none (setting_at old) (scripts_at old) history actor none in
    grind arith
turned-once {old} {history} {actor} (suc zero) few made =
    let idle = turn-none (setting_at old) (scripts_at old) history actor in
    grind arith
turned-once (suc (suc count)) few made = absurd (omega (arith, few))

-- turns that make visits leave fewer
pub visits-fewer : VisitsAreFew → {old new : Machine} {history : History} {actor count : ℕ} → IsSame old new
    → HasHistory old history → HasMade old new history actor count → 0 < count
    → most_visits (setting_at new) (input_at new).scripts - length new.order.items < most_visits (setting_at old)
    (input_at old).scripts - length old.order.items
visits-fewer few {old} {new} {history} {actor} {count} same is made some =
    let after : History = behind_turns old history (replicate count actor) in
    let most : most_visits (setting_at new) (input_at new).scripts
    ≡ most_visits (setting_at old) (input_at old).scripts = rw (same.0, same.1) in
    omega (
      arith,
      some,
      most,
      made.made,
      ap length is.order ∙ length-map history (λ (v : Visit). v.actor),
      ap length made.stands.order ∙ length-map after (λ (v : Visit). v.actor),
      few (input_at new) (setting_at new) after made.stands.together.valid
          (over (input_at new) new.plan.now new.distances.now made.stands.together) made.stands.sees.played,
    )

-- an actor's turns end where it has no visit left
pub turns-ended : TurnsEndAlike → (entry now new : Machine) (history : History) (actor k : ℕ) → IsSame entry now
    → HasHistory entry history
    → next (setting_at now) (scripts_at now) (behind_turns entry history (replicate k actor)) actor ≡ None
    → HasHistory new (behind_turns entry history (replicate k actor)) → HasHistory new
    (behind_turns entry history (replicate (most_turns (setting_at entry) (scripts_at entry) actor) actor))
turns-ended alike entry now new history actor k same is none goes = grind arith

-- all turns that the first actors may have
abbrev pub turns_of : Setting → Scripts → ℕ → List ℕ
turns_of setting scripts count =
    flat_map (λ actor. replicate (most_turns setting scripts actor) actor) (numbers_from 0 count)

-- and those of one actor more
turns-next : (setting : Setting) (scripts : Scripts) (history : History) (actor : ℕ)
    → after_turns setting scripts (after_turns setting scripts history (turns_of setting scripts actor))
    (replicate (most_turns setting scripts actor) actor)
    ≡ after_turns setting scripts history (turns_of setting scripts (actor + 1))
turns-next setting scripts history actor =
    grind (arith, turns_of, passing_takes, flat_map-append, append-nil, fold-append)

pub turns-following : (entry now : Machine) {new : Machine} (history : History) (actor : ℕ) → IsSame entry now
    → HasHistory new (behind_turns now
    (behind_turns entry history (turns_of (setting_at entry) (scripts_at entry) actor))
    (replicate (most_turns (setting_at now) (scripts_at now) actor) actor))
    → HasHistory new (behind_turns entry history (turns_of (setting_at entry) (scripts_at entry) (actor + 1)))
turns-following entry now {new} history actor same goes =
    subst (HasHistory new) (turns-next (setting_at entry) (scripts_at entry) history actor)
    (of_same (λ setting scripts. HasHistory new (after_turns setting scripts
    (behind_turns entry history (turns_of (setting_at entry) (scripts_at entry) actor))
    (replicate (most_turns setting scripts actor) actor))) now entry
    (same-back entry now same) goes)

-- and these are the last turns, where all actors have had them
pub turns-all : (machine : Machine) → IsValid (input_at machine)
    → turns_of (setting_at machine) (scripts_at machine) (length (input_at machine).scripts)
    ≡ last_turns (setting_at machine) (scripts_at machine)
turns-all machine valid = grind (arith, length-map, length-drop, turns_of)

-- a run of one number, and of one more
pub run-first : (order : List ℕ) (start : ℕ) → start < length order
    → drop start order ≡ replicate (start + 1 - start) (get_or order start 0) ++ drop (start + 1) order
run-first order start inside = grind (arith, add-one, drop-cons)

pub run-more : (order : List ℕ) (start end : ℕ) → start < end → end < length order
    → get_or order end 0 ≡ get_or order start 0
    → drop start order ≡ replicate (end - start) (get_or order start 0) ++ drop end order
    → drop start order ≡ replicate (end + 1 - start) (get_or order start 0) ++ drop (end + 1) order
run-more order start end on inside same so_far =
    let a : ℕ = get_or order start 0 in
    let longer : end + 1 - start ≡ end - start + 1 = omega (arith, on) in
    rw (
      so_far,
      longer,
      ← replicate-append-replicate (end - start) 1 a,
      append_assoc (replicate (end - start) a) (a ∷ []) (drop (end + 1) order),
      add-one end,
      drop-cons order end 0 inside,
      same,
    )

-- the history behind one run more
pub played-run : (entry now : Machine) {new : Machine} (history : History) {wanted : History} (order : List ℕ)
    (start end : ℕ) → IsSame entry now
    → drop start order ≡ replicate (end - start) (get_or order start 0) ++ drop end order
    → behind_turns entry history (drop start order) ≡ wanted
    → HasHistory new (behind_turns now history (replicate (end - start) (get_or order start 0)))
    → (after : History) × HasHistory new after × (behind_turns entry after (drop end order) ≡ wanted)
played-run entry now {new} history order start end same run so_far goes = grind (arith, behind_turns, fold-append)

-- and behind all of them
pub played-whole : (entry : Machine) {now : Machine} {history wanted : History} (order : List ℕ) (start : ℕ)
    → length order ≤ start → HasHistory now history → behind_turns entry history (drop start order) ≡ wanted
    → HasHistory now wanted
played-whole entry {now} {history} order start past is so_far = grind (arith, drop_all)
