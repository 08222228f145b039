-- The words of the opening, laid one after another.
use Rattle.std.proofs.Common.{◌≡◌, ℕ, zero, suc, ◌+◌, ◌*◌, ◌<◌, ◌==◌, Bool, cond, List, [], ◌∷◌, ◌++◌, length, refl, sym, ap, ◌∙◌, arith, length-append, add-one}
use Rattle.std.specs.Prelude.{slice_index}
use Rattle.std.proofs.Math.Seq.{take-length}
use Rattle.std.proofs.lemmas.Bool.Decides.{nat_tests}
use Rattle.node_set.specs.Ascending.{sift}
use Rattle.node_set.specs.SetLaws.{passing_grows}
use Rattle.entry_word.specs.declared.visit.Key.{Key}
use Rattle.entry_word.specs.declared.visit.Key.TheVariants.{Presence}
use Rattle.entry_word.specs.Marks.{mark_in, says_here}
use Rattle.directory.specs.Settings.{Setting, subs, start}
use Rattle.directory.specs.Histories.{cell}
use Rattle.directory.specs.Census.{census}
use Rattle.region_plan.specs.Plan.{PlanData, levels_of, nodes_of}
use Rattle.visit_log.specs.Numbers.{cell_number, clusters_below, NumbersApart}
use Rattle.station.specs.Setup.{Setup, setting_in, nodes_in, subs_in, IsCellOf, lock_word, tally_word, cell_word}
use Rattle.station.specs.Opening.{AreLaid, AreOpening, setup_of}
use Rattle.station.proofs.Apart.{behind, behind_tally, same_number}

-- what each word of a list is, and one word more
pushed : (ws : List ℕ) (x i : ℕ) {v : ℕ} → i < length (ws ++ x ∷ []) → (i < length ws → slice_index ws i ≡ v)
    → (length ws ≡ i → x ≡ v) → slice_index (ws ++ x ∷ []) i ≡ v
pushed [] x zero h old new = new refl
pushed [] x (suc i) h old new = absurd (omega arith)
pushed (w ∷ ws) x zero h old new = old (omega arith)
pushed (w ∷ ws) x (suc i) h old new =
    pushed ws x i (omega arith) (λ g. old (omega (arith, g))) (λ e. new (ap suc e))

laid_push : {setup : Setup} {ws new : List ℕ} {x : ℕ} → new ≡ ws ++ x ∷ [] → AreLaid setup ws → (length ws ≡ 0 → x ≡ 0)
    → ((node : ℕ) → node < nodes_in setup → length ws ≡ lock_word node → x ≡ 0)
    → ((node : ℕ) → node < nodes_in setup → length ws ≡ tally_word setup node
    → x ≡ length (census (setting_in setup) [] node)) → ((key : Key) → IsCellOf setup key
    → length ws ≡ cell_word setup key → x ≡ cell (setting_in setup) [] key)
    → AreLaid setup new × (length new ≡ suc (length ws))
laid_push {setup} {ws} {x = x} grown o first lock tally cell_is = (
  rw grown record {
    ticket = λ h. pushed ws x 0 h o.ticket first;
    locks = λ node known h. pushed ws x (lock_word node) h (o.locks node known) (lock node known);
    tallies = λ node known h. pushed ws x (tally_word setup node) h (o.tallies node known) (tally node known);
    cells = λ key known h. pushed ws x (cell_word setup key) h (o.cells key known) (cell_is key known);
  },
  omega (arith, ap length grown, length-append ws (x ∷ [])),
)

before_tally : (n : ℕ) {k : ℕ} (node : ℕ) → k < n → suc k ≡ suc (n + node) → ⊥
before_tally n node h e = omega arith

before_cell : (n : ℕ) {k : ℕ} (c : ℕ) → k < n → suc k ≡ suc (2 * n + c) → ⊥
before_cell n c h e = omega arith

pub laid_lock : {setup : Setup} {ws new : List ℕ} (k : ℕ) → k < nodes_in setup → length ws ≡ suc k
    → new ≡ ws ++ 0 ∷ [] → AreLaid setup ws → AreLaid setup new × (length new ≡ suc (length ws))
laid_lock {setup} k known at grown o = laid_push grown o (λ e. refl) (λ node inside e. refl)
    (λ node inside e. absurd (before_tally (nodes_in setup) node known (sym at ∙ e)))
    (λ key _ e. absurd (before_cell (nodes_in setup) (cell_number setup.plan (subs_in setup) key) known (sym at ∙ e)))

zero_cell : (n c : ℕ) → 0 ≡ suc (2 * n + c) → ⊥
zero_cell n c e = omega arith

pub laid_tally : {setup : Setup} {ws new : List ℕ} (k : ℕ) {x : ℕ} → k < nodes_in setup
    → length ws ≡ suc (nodes_in setup + k) → x ≡ length (census (setting_in setup) [] k) → new ≡ ws ++ x ∷ []
    → AreLaid setup ws → AreLaid setup new × (length new ≡ suc (length ws))
laid_tally {setup} k known at is grown o = laid_push grown o (λ e. absurd (omega arith))
    (λ node inside e. absurd (omega arith)) (λ node inside e. let same : k ≡ node = omega arith in rw (← same) is)
    (λ key _ e. absurd (grind (arith, behind_tally)))

pub laid_cell : NumbersApart → {setup : Setup} {ws new : List ℕ} {x : ℕ} {key : Key} → IsCellOf setup key
    → length ws ≡ cell_word setup key → x ≡ cell (setting_in setup) [] key → new ≡ ws ++ x ∷ [] → AreLaid setup ws
    → AreLaid setup new × (length new ≡ suc (length ws))
laid_cell law {setup} {key = key} known at is grown o = laid_push grown o
    (λ e. absurd (zero_cell (nodes_in setup) (cell_number setup.plan (subs_in setup) key) (sym e ∙ at)))
    (λ node inside e. absurd (grind (arith, behind))) (λ node inside e. absurd (grind (arith, behind_tally)))
    (λ other inside e. grind (arith, same_number))

pub first_laid : (setup : Setup) → AreLaid setup (0 ∷ [])
first_laid setup = grind arith

counted : {w : ℕ} (n : ℕ) {c d : ℕ} (l : ℕ) → w ≡ 1 + 2 * n + (n + c) * l → c ≡ d → w ≡ suc (2 * n + (n + d) * l)
counted n l is e = is ∙ (ap (λ (k : ℕ). 1 + 2 * n + (n + k) * l) e ∙ omega arith)

pub opening_of : (plan : PlanData) (homes : List ℕ) {words : List ℕ} → AreLaid (setup_of plan homes 0) words
    → length words ≡ 1 + 2 * nodes_of plan + (nodes_of plan + clusters_below plan (levels_of plan)) * length homes
    → (actors : ℕ) → AreOpening (setup_of plan homes actors) words
opening_of plan homes o at actors = grind (arith, take-length, counted)

pub passing-more : (f : ℕ → Bool) (v k : ℕ)
    → length (sift f v (suc k)) ≡ length (sift f v k) + cond (f (v + k)) 1 0
passing-more f v k = grind (arith, passing_grows, length-append)

-- how many start at a node
pub count-more : (setting : Setting) (node sub : ℕ) {count : ℕ} → sub < subs setting
    → count ≡ length (sift (λ s. says_here (mark_in (cell setting [] (Presence node s)))) 0 sub)
    → count + cond (node == start setting sub) 1 0 ≡ length
    (sift (λ s. says_here (mark_in (cell setting [] (Presence node s)))) 0 (sub + 1))
count-more setting node sub {count} known is = grind (arith, nat_tests, passing-more, add-one)
