-- Finds: an answer stays, and what the parts of a find make of it.
use Rattle.std.proofs.Common.{◌≡◌, ℕ, zero, suc, ◌+◌, ◌*◌, ◌≤◌, List, [], ◌∷◌, ◌++◌, Option, Some, None, length, fold, refl, arith}
use Rattle.entry_word.specs.Marks.{mark_in}
use Rattle.entry_word.specs.declared.mark.PresenceMark.{PresenceMark}
use Rattle.entry_word.specs.declared.mark.PresenceMark.TheVariants.{Empty, Gone, Coming}
use Rattle.std.proofs.lemmas.List.Sums.{sum_by-cons}
use Rattle.directory.specs.Settings.{Setting}
use Rattle.entry_word.specs.declared.address.Address.{Address}
use Rattle.directory.specs.Finds.{FindCall, Reader, Chase, at_origin, climbs, chases, ended, climb, hop, after_origin, after_entry, after_mark, after_word, all_readers, looks_left, way_in}
use Rattle.directory.specs.Parts.{AreNothing, climb_weight, lead, known_after, LeadOn}
use Rattle.directory.specs.declared.answers.Found.{Found}
use Rattle.directory.specs.Statements.{LooksFall}
use Rattle.directory.proofs.Tests.{both_ways}

-- an answer stays
pub ended-stays : (setting : Setting) (call : FindCall) (found : Found) (words : List ℕ)
    → fold (after_word setting call) (ended found) words ≡ ended found
ended-stays setting call found [] = refl
ended-stays setting call found (word ∷ words) = ended-stays setting call found words

-- the climb past readers that have nothing
pub climb-passes : (setting : Setting) (call : FindCall) (known : Option ℕ) (weight : ℕ) (passed later : List Reader)
    (words : List ℕ) → length words ≡ length passed → AreNothing words
    → fold (after_word setting call) (climb known weight (passed ++ later)) words
    ≡ climb known (weight + climb_weight setting call passed) later
climb-passes setting call known weight [] later [] same nothing = grind arith
climb-passes setting call known weight [] later (word ∷ words) same nothing = absurd (omega arith)
climb-passes setting call known weight (reader ∷ passed) later [] same nothing = absurd (omega arith)
climb-passes setting call known weight (reader ∷ passed) later (word ∷ words) same nothing = grind (
  arith,
  climb-passes setting call known (weight + 2 * way_in setting call reader) passed later words (omega arith) nothing.1,
  sum_by-cons (λ r. 2 * way_in setting call r) reader passed,
)

-- one hop
hop-once : (setting : Setting) (known level : Option ℕ) (weight hops node : ℕ) (mark : PresenceMark) (to : ℕ)
    → lead known mark ≡ Some to
    → after_mark setting (record { known = known; level = level; weight = weight; hops_left = suc hops }) node mark
    ≡ hop setting (known_after known mark) level weight (suc hops) node to
hop-once setting known level weight hops node (Gone number next) to h = let e : next ≡ to = cc in rw e refl
hop-once setting known level weight hops node (Coming number next) to h = grind arith
hop-once setting known level weight hops node mark to h = cc

-- the chase along marks that lead on
pub chase-hops : (setting : Setting) (call : FindCall) (known last_known level : Option ℕ)
    (weight way hops node last : ℕ) (words : List ℕ) → LeadOn setting known node words last_known last way
    → fold (after_word setting call) (chases (record {
      known = known;
      level = level;
      weight = weight;
      hops_left = length words + hops;
    }) node) words
    ≡ chases (record { known = last_known; level = level; weight = weight + way; hops_left = hops }) last
unfolding LeadOn
chase-hops setting call known last_known level weight way hops node last [] leads = grind arith
chase-hops setting call known last_known level weight way hops node last (word ∷ words) leads = grind (
  arith,
  hop-once,
  chase-hops setting call (known_after known (mark_in word)) last_known level (weight + setting.distance node
      leads.0) leads.1 hops leads.0 last words leads.4,
)

-- each look leaves fewer
climb-left : (setting : Setting) (call : FindCall) (known : Option ℕ) (weight : ℕ) (readers : List Reader)
    → looks_left setting call (climb known weight readers) ≤ length readers + (setting.nodes + 3)
climb-left setting call known weight [] = omega arith
climb-left setting call known weight (reader ∷ later) = omega arith

hop-left : (setting : Setting) (call : FindCall) (known level : Option ℕ) (weight hops node to : ℕ)
    → looks_left setting call (hop setting known level weight hops node to) ≤ hops
hop-left setting call known level weight zero node to = omega arith
hop-left setting call known level weight (suc more) node to = omega arith

mark-left : (setting : Setting) (call : FindCall) (chase : Chase) (node : ℕ) (mark : PresenceMark)
    → looks_left setting call (after_mark setting chase node mark) ≤ chase.hops_left
mark-left setting call chase node (Gone number to) = grind (arith, hop-left)
mark-left setting call chase node (Coming number from) = grind (arith, hop-left, both_ways)
mark-left setting call chase node mark = omega arith

entry-left : (setting : Setting) (call : FindCall) (known : Option ℕ) (weight : ℕ) (reader : Reader)
    (later : List Reader) (entry : Option Address)
    → looks_left setting call (after_entry setting call known weight reader later entry) ≤ length later +
    (setting.nodes + 3)
entry-left setting call known weight reader later None = grind (arith, climb-left)
entry-left setting call known weight reader later (Some address) = omega arith

origin-left : (setting : Setting) (call : FindCall) (mark : PresenceMark)
    → looks_left setting call (after_origin setting call mark) ≤ length (all_readers setting call.from) +
    (setting.nodes + 3)
origin-left setting call Empty = climb-left setting call None 0 (all_readers setting call.from)
origin-left setting call (Gone number to) = climb-left setting call (Some number) 0 (all_readers setting call.from)
origin-left setting call mark = omega arith

pub looks-fall : LooksFall
looks-fall setting call at_origin word key h = omega (arith, origin-left setting call (mark_in word))
looks-fall setting call (climbs known weight reader later) word key h = grind (arith, entry-left)
looks-fall setting call (chases chase node) word key h = grind (arith, mark-left)
looks-fall setting call (ended found) word key h = cc
