-- Short laws of an input's scripts, for the proofs of the crates above: what they are for each
-- actor, and that they are few and short.
-- Key laws: `steps-are` and `finds-are` (the script of a subscriber, and of a caller),
-- `course-steps` (a subscriber's script has no finds), `stranger-done` (an actor that the input
-- doesn't have has no visit), `few-nodes` (a valid input has few nodes), `calls-few` (and short
-- scripts), `place-after_calls` and `off-after_calls` (what the reader keeps of a subscriber is
-- where its steps lead).
use Rattle.std.proofs.Common.{◌≡◌, inl, inr, ℕ, zero, suc, ◌+◌, ◌-◌, ◌<◌, ◌≤◌, ◌^◌, Bool, true, false, List, [], ◌∷◌, length, map, take, drop, fold, get_or, refl, ap, ◌∙◌, subst, arith}
use Rattle.std.specs.Prelude.{None, option_map}
use Rattle.std.proofs.lemmas.List.{get_or-map, get_or-take, get_or-drop, get_or_past, length-map, length-drop, length-take-le}
use Rattle.directory.specs.Settings.{Setting, subs}
use Rattle.directory.specs.Histories.{History, words_read}
use Rattle.directory.specs.HistoryLaws.{next-caller}
use Rattle.directory.specs.Looks.{look_by}
use Rattle.directory.specs.Orders.{Caller as Seeker, after_read, caller_at, finds_of, key_in, next, next_key, read_by, steps_of}
use Rattle.directory.specs.Places.{place_after_step}
use Rattle.net_reader.specs.declared.said.Call.{Call}
use Rattle.net_reader.specs.declared.said.Call.TheVariants as calls
use Rattle.net_reader.specs.Said.{off_after, place_after}
use Rattle.net_reader.specs.Input.{Contents}
use Rattle.net_reader.specs.Table.{most_calls, most_nodes}
use Rattle.net_reader.specs.Valid.{IsCourse, IsValid, count_calls}
use Rattle.scripts.specs.Scripts.{find_of, scripts_of, step_of}

-- a valid input has few nodes
pub few-nodes : (input : Contents) → IsValid input → input.nodes ≤ 2 ^ 16
few-nodes input valid = elim valid.format as (λ _. input.nodes ≤ 2 ^ 16) [
  | inl one ↦ low (most_nodes 1) (subst (λ f. input.nodes ≤ most_nodes f) one valid.few)
      (omega arith)
  | inr two ↦ low (most_nodes 2) (subst (λ f. input.nodes ≤ most_nodes f) two valid.few)
      (omega arith)
]
  where
    low : (most : ℕ) → input.nodes ≤ most → most ≤ 2 ^ 16 → input.nodes ≤ 2 ^ 16
    low most h few = omega (arith, h, few)

-- the steps of a subscriber
pub steps-are : (input : Contents) (sub : ℕ) → IsValid input → sub < length input.homes
    → steps_of (scripts_of input) sub ≡ map step_of (get_or input.scripts sub [])
steps-are input sub valid low =
    let short : length (take (length input.homes) input.scripts) ≡ length input.homes =
    length-take-le (length input.homes) input.scripts (omega (arith, valid.scripts)) in
    get_or-map (map step_of) (take (length input.homes) input.scripts) sub [] []
    (omega (arith, low, short))
    ∙ ap (map step_of) (get_or-take (length input.homes) input.scripts sub [] low)

-- the finds of a caller
pub finds-are : (input : Contents) (setting : Setting) (actor : ℕ)
    → setting.starts ≡ input.homes → length input.homes ≤ actor → actor < length input.scripts
    → finds_of setting (scripts_of input) actor ≡ map find_of (get_or input.scripts actor [])
finds-are input setting actor same high low =
    let back : length input.homes + (actor - length input.homes) ≡ actor = omega arith in
    ap (λ (starts : List ℕ). get_or (scripts_of input).finds (actor - length starts) []) same
    ∙ (get_or-map (map find_of) (drop (length input.homes) input.scripts)
    (actor - length input.homes) [] []
    (omega (arith, low, length-drop (length input.homes) input.scripts))
    ∙ ap (map find_of) (get_or-drop (length input.homes) input.scripts
    (actor - length input.homes) [] ∙ ap (λ n. get_or input.scripts n []) back))

-- no script is longer than all
pub script-few : (scripts : List (List Call)) (a : ℕ)
    → length (get_or scripts a []) ≤ count_calls scripts
script-few [] a = omega arith
script-few (script ∷ scripts) zero = omega arith
script-few (script ∷ scripts) (suc a) = omega (arith, script-few scripts a)

-- each script of a valid input is short
pub calls-few : (input : Contents) (a : ℕ) → IsValid input
    → length (get_or input.scripts a []) < 2 ^ 32 - 1
calls-few input a valid = elim valid.format as (λ _. length (get_or input.scripts a []) < 2 ^ 32 -
    1) [
      | inl one ↦ few 8192
          (subst (λ f. count_calls input.scripts ≤ most_calls f) one valid.few_calls)
          (omega arith)
      | inr two ↦ few 16384
          (subst (λ f. count_calls input.scripts ≤ most_calls f) two valid.few_calls)
          (omega arith)
    ]
  where
    few : (most : ℕ) → count_calls input.scripts ≤ most → most < 2 ^ 32 - 1
        → length (get_or input.scripts a []) < 2 ^ 32 - 1
    few most h low = omega (arith, script-few input.scripts a, h, low)

-- a caller without finds looks at nothing, whatever it reads
pub keyless : (setting : Setting) (words : List ℕ) (seeker : Seeker) → seeker.calls ≡ []
    → next_key (fold (after_read setting) seeker words) ≡ None
keyless setting [] seeker none = ap (λ calls. key_in calls seeker.pursuit) none
keyless setting (word ∷ words) seeker none =
    keyless setting words (after_read setting seeker word)
    (ap (λ calls. (read_by setting seeker calls word).calls) none ∙ none)

-- an actor that an input doesn't have has no visit
pub stranger-done : (input : Contents) (setting : Setting) (history : History) (actor : ℕ)
    → IsValid input → setting.starts ≡ input.homes → length input.scripts ≤ actor
    → next setting (scripts_of input) history actor ≡ None
stranger-done input setting history actor valid same high =
    let count : subs setting ≡ length input.homes = ap length same in
    next-caller setting (scripts_of input) history actor
    (omega (arith, high, valid.scripts, count))
    ∙ ap (option_map (look_by actor))
    (keyless setting (words_read setting actor history)
    (caller_at (finds_of setting (scripts_of input) actor))
    (get_or_past (scripts_of input).finds (actor - subs setting) []
    (omega (
      arith,
      high,
      count,
      valid.scripts,
      length-map (drop (length input.homes) input.scripts) (map find_of),
      length-drop (length input.homes) input.scripts,
    ))))

-- where the reader says that a subscriber is after its calls, its steps lead
pub place-after_calls : (here : ℕ) (off : Bool) (script : List Call) → place_after here script
    ≡ (fold place_after_step (record { node = here; is_off = off }) (map step_of script)).node
place-after_calls here off [] = refl
place-after_calls here off (calls.Move to ∷ script) = place-after_calls to off script
place-after_calls here off (calls.Find from sub ∷ script) = place-after_calls here false script
place-after_calls here off (calls.Off ∷ script) = place-after_calls here true script
place-after_calls here off (calls.On ∷ script) = place-after_calls here false script

-- and it is off after them just where the reader says so, since it makes no finds
pub off-after_calls : (format n here node : ℕ) (off : Bool) (script : List Call)
    → IsCourse format n here off script → off_after off script
    ≡ (fold place_after_step (record { node = node; is_off = off }) (map step_of script)).is_off
off-after_calls format n here node off [] its = refl
off-after_calls format n here node off (calls.Move to ∷ script) its =
    off-after_calls format n to to off script its.3
off-after_calls format n here node off (calls.Find from sub ∷ script) its = absurd its
off-after_calls format n here node off (calls.Off ∷ script) its =
    off-after_calls format n here node true script its.2
off-after_calls format n here node off (calls.On ∷ script) its =
    off-after_calls format n here node false script its.2

-- a call that is a step
abbrev pub IsStep : Call → Type 0
IsStep (calls.Move to) = Unit {0}
IsStep (calls.Find from sub) = ⊥
IsStep calls.Off = Unit {0}
IsStep calls.On = Unit {0}

-- a subscriber's script has no finds
pub course-steps : (format n here : ℕ) (off : Bool) (script : List Call) (k : ℕ) (d : Call)
    → IsCourse format n here off script → k < length script → IsStep (get_or script k d)
course-steps format n here off [] k d its low = absurd (omega (arith, low))
course-steps format n here off (calls.Move to ∷ script) zero d its low = tt
course-steps format n here off (calls.Find from sub ∷ script) k d its low = absurd its
course-steps format n here off (calls.Off ∷ script) zero d its low = tt
course-steps format n here off (calls.On ∷ script) zero d its low = tt
course-steps format n here off (calls.Move to ∷ script) (suc k) d its low =
    course-steps format n to off script k d its.3 (omega (arith, low))
course-steps format n here off (calls.Off ∷ script) (suc k) d its low =
    course-steps format n here true script k d its.2 (omega (arith, low))
course-steps format n here off (calls.On ∷ script) (suc k) d its low =
    course-steps format n here false script k d its.2 (omega (arith, low))
