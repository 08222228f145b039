-- What plain cells hold after a put, and at the opening: subscriber by subscriber, a mark and an address at each level.
use Rattle.std.proofs.Common.{◌≡◌, ℕ, ◌<◌, cond, List, [], ◌∷◌, ◌++◌, length, refl, ◌+◌, ◌≤◌, Some, arith, get_or}
use Rattle.std.specs.Prelude.{get_or, slice_set, nat_lt}
use Rattle.std.proofs.lemmas.List.{get_or-set_same, get_or-set_other}
use Rattle.entry_word.specs.declared.visit.Key.{Key}
use Rattle.entry_word.specs.declared.visit.Act.TheVariants.{Put}
use Rattle.directory.specs.Keys.{same_key, key_sub, opening}
use Rattle.directory.specs.Histories.{History}
use Rattle.region_plan.specs.Plan.{PlanData, home, levels_of}
use Rattle.region_plan.specs.Settings.{setting_of}
use Rattle.region_plan.specs.Cells.{IsCell, IsPlace}
use Rattle.visit_log.specs.Cells.{CellData, GoWith, Hold, slot_of, word_at, open_word}
use Rattle.visit_log.proofs.Apart.{slot-apart, slot-within}
use Rattle.directory.specs.Statements.{SameKey, CellAfter}
use Rattle.entry_word.specs.Marks.{mark_word}
use Rattle.entry_word.specs.Addresses.{address_word}
use Rattle.entry_word.specs.declared.mark.PresenceMark.TheVariants.{Here}
use Rattle.entry_word.specs.declared.visit.Key.TheVariants.{Presence, Entry}

pub word-after : SameKey → {plan : PlanData} {cells : CellData} {key other : Key} (word : ℕ) → GoWith plan cells
    → IsCell plan cells.subs key → IsCell plan cells.subs other
    → word_at plan (record cells { words = slice_set cells.words (slot_of plan key) word }) other ≡ cond
    (same_key other key) word (word_at plan cells other)
word-after law {plan} {cells} {key} {other} word goes mine its =
    grind (arith, law other key, slot-within goes mine, slot-apart its mine, get_or-set_same, get_or-set_other)

pub hold-after : SameKey → CellAfter → {plan : PlanData} {starts : List ℕ} {cells : CellData} {history : History}
    (actor word : ℕ) {key : Key} → GoWith plan cells → IsCell plan cells.subs key → Hold plan starts cells history
    → Hold plan starts (record cells { words = slice_set cells.words (slot_of plan key) word })
    (history ++ record { actor = actor; act = Put key word } ∷ [])
hold-after law after {plan} {starts} {history} actor word {key} goes mine hold = grind (arith, word-after)

-- the mark that is put first
first-opened : (plan : PlanData) (sub start : ℕ) (key : Key) (word : ℕ) → cond (same_key key (Presence start sub))
    (mark_word (Here 0)) word ≡ open_word plan sub start 0 key word
first-opened plan sub start (Presence node other) word = refl
first-opened plan sub start (Entry level cluster other) word = grind arith

-- the address of one level more
more-opened : (plan : PlanData) (sub start level : ℕ) {cluster : ℕ} (key : Key) (word : ℕ)
    → cluster ≡ home plan level start → cond (same_key key (Entry level cluster sub)) (address_word (Some (record {
      number = 0;
      node = start;
    }))) (open_word plan sub start level key word) ≡ open_word plan sub start (level + 1) key word
more-opened plan sub start level (Presence node other) word same = refl
more-opened plan sub start level {cluster} (Entry l c other) word same = grind arith

-- the cells after a put of an opening word
pub set-first : SameKey → {plan : PlanData} {cells : CellData} {sub start word : ℕ} {key : Key} → GoWith plan cells
    → IsCell plan cells.subs (Presence start sub) → word ≡ mark_word (Here 0) → IsCell plan cells.subs key
    → word_at plan (record cells {
      words = slice_set cells.words (slot_of plan (Presence start sub)) word;
    }) key ≡ open_word plan sub start 0 key (word_at plan cells key)
set-first law {plan} {cells} {sub} {start} {word} {key} goes mine same its =
    rw (word-after law word goes mine its, same) (first-opened plan sub start key (word_at plan cells key))

pub set-more : SameKey → {plan : PlanData} {cells : CellData} {sub : ℕ} (start : ℕ) {level cluster word : ℕ} (old : ℕ)
    {key : Key} → GoWith plan cells → IsCell plan cells.subs (Entry level cluster sub)
    → word ≡ address_word (Some (record { number = 0; node = start })) → cluster ≡ home plan level start
    → IsCell plan cells.subs key → word_at plan cells key ≡ open_word plan sub start level key old
    → word_at plan (record cells {
      words = slice_set cells.words (slot_of plan (Entry level cluster sub)) word;
    }) key ≡ open_word plan sub start (level + 1) key old
set-more law {plan} {sub = sub} start {level} {word = word} old {key} goes mine same at its so_far =
    rw (word-after law word goes mine its, same, so_far) (more-opened plan sub start level key old at)

-- the opening words of one subscriber more
pub opened-more : (plan : PlanData) (starts : List ℕ) (sub : ℕ) {start : ℕ} (key : Key) → 1 ≤ levels_of plan
    → IsPlace plan key → sub < length starts → start ≡ get_or starts sub 0
    → open_word plan sub start (levels_of plan) key (cond (nat_lt (key_sub key) sub)
    (opening (setting_of plan starts) key) 0) ≡ cond (nat_lt (key_sub key) (sub + 1))
    (opening (setting_of plan starts) key) 0
opened-more plan starts sub {start} (Presence node other) some place inside begins = grind arith
opened-more plan starts sub {start} (Entry level cluster other) some place inside begins = grind arith
