-- Cells, histories, courses, commits and tickets: which keys are the same, that the puts for a subscriber alone tell of
-- its cells, which visits tickets are of, and what one more at the end changes.
use Rattle.directory.specs.ListLaws.{slice_get-right}
use Rattle.std.proofs.Common.{arith, ◌≡◌, ℕ, cond, ◌==◌, List, [], ◌∷◌, ◌++◌, append_assoc, true, false, fold, refl, zero, suc, ◌+◌, Some, length, map, take, drop, ◌∙◌}
use Rattle.std.specs.Prelude.{nat_le, if◌then◌else◌, slice_get}
use Rattle.std.proofs.lemmas.List.Sums.{fold-append}
use Rattle.std.proofs.lemmas.List.{append-nil, length_push}
use Rattle.entry_word.specs.declared.visit.Visit.{Visit}
use Rattle.directory.specs.Settings.{Setting}
use Rattle.directory.specs.Histories.{History, is_put_for, words_of, words_after, words_read, word_after, puts_to, own, tickets_from}
use Rattle.directory.specs.Courses.{Move, base}
use Rattle.directory.specs.Statements.{CellAfter, CellsOfPuts, SameKey, TicketsGrow, TicketsAreOwn, TicketsAscend}
use Rattle.std.proofs.lemmas.Bool.{and_parts, and_from, eqb-true, eq-eqb}
use Rattle.entry_word.specs.declared.visit.Key.{Key}
use Rattle.entry_word.specs.declared.visit.Key.TheVariants.{Presence, Entry}
use Rattle.entry_word.specs.declared.visit.Act.{Act}
use Rattle.entry_word.specs.declared.visit.Act.TheVariants.{Put}
use Rattle.directory.specs.Keys.{key_sub, same_key, opening}
use Rattle.node_set.specs.Ascending.{IsBelowAll, IsAscending}
use Rattle.node_set.specs.SetLaws.{below_weaker}

pub cell-after : CellAfter
cell-after setting history visit key = grind (arith, fold-append)

pub base-after : (level : ℕ) (moves : List Move) (move : Move)
    → base level (moves ++ move ∷ []) ≡ if nat_le level move.renewed then move.number else base level moves
base-after level moves move = grind (arith, fold-append)

words_after-push : (setting : Setting) (actor : ℕ) (seen history : History) (visit : Visit)
    → words_after setting actor seen (history ++ visit ∷ [])
    ≡ words_after setting actor seen history ++ cond (visit.actor == actor)
    (words_of setting (seen ++ history) visit.act) []
unfolding words_after
words_after-push setting actor seen [] visit = rw (append-nil seen) (append-nil _)
words_after-push setting actor seen (first ∷ later) visit =
    grind (arith, words_after-push setting actor (seen ++ first ∷ []) later visit, append_assoc)

pub words-push : (setting : Setting) (actor : ℕ) (history : History) (visit : Visit)
    → words_read setting actor (history ++ visit ∷ [])
    ≡ words_read setting actor history ++ cond (visit.actor == actor) (words_of setting history visit.act) []
words-push setting actor history visit = words_after-push setting actor [] history visit

-- two keys are the same just where the test says so
same_key-true : (one other : Key) → same_key one other ≡ true → one ≡ other
same_key-true (Presence v s) (Presence w t) h = grind (arith, and_parts, eqb-true)
same_key-true (Entry i c s) (Entry j d t) h = grind (arith, and_parts, eqb-true)
same_key-true one other h = cc

same_key-refl : (key : Key) → same_key key key ≡ true
same_key-refl (Presence v s) = and_from (v == v) (s == s) (eq-eqb v v refl) (eq-eqb s s refl)
same_key-refl (Entry i c s) = grind (arith, and_from, eq-eqb)

pub same_key-means : SameKey
same_key-means one other = grind (arith, same_key-true, same_key-refl)

-- what isn't put for a subscriber changes none of its cells
act-kept : (key : Key) (word : ℕ) (act : Act) → is_put_for (key_sub key) act ≡ false → word_after key word act ≡ word
act-kept key word (Put other new) h = grind (arith, same_key-true, eq-eqb)
act-kept key word act h = refl

puts-enough : (key : Key) (word : ℕ) (history : History)
    → fold (λ w (visit : Visit). word_after key w visit.act) word history
    ≡ fold (λ w (visit : Visit). word_after key w visit.act) word (puts_to (key_sub key) history)
puts-enough key word [] = refl
puts-enough key word (visit ∷ later) = grind (arith, act-kept, puts-enough key (word_after key word visit.act) later)

-- so a cell is told by the puts for its subscriber alone
pub cell-of_puts : CellsOfPuts
cell-of_puts setting history key = puts-enough key (opening setting key) history

-- the visits with an actor's tickets are its own
tell_from : (actor : ℕ) (seen later history : History) → seen ++ later ≡ history
    → map (slice_get history) (tickets_from actor (length seen) later) ≡ map Some (own actor later)
unfolding tickets_from
tell_from actor seen [] history whole = refl
tell_from actor seen (visit ∷ later) history whole = grind (
  arith,
  append_assoc,
  length_push,
  slice_get-right seen (visit ∷ later) (length seen) 0,
  tell_from actor (seen ++ visit ∷ []) later history (append_assoc seen (visit ∷ []) later ∙ whole),
)

pub tickets-tell : TicketsAreOwn
tickets-tell actor history = tell_from actor [] history history refl

ascend_from : (actor ticket : ℕ) (history : History) → IsBelowAll ticket (tickets_from actor (suc ticket) history)
    × IsAscending (tickets_from actor ticket history)
unfolding tickets_from
ascend_from actor ticket [] = (tt, tt)
ascend_from actor ticket (visit ∷ later) =
    grind (arith, below_weaker, ascend_from actor ticket later, ascend_from actor (suc ticket) later)

pub tickets-ascend : TicketsAscend
tickets-ascend actor history = (ascend_from actor 0 history).1

-- parts of an ascending list
pub below_take : (x n : ℕ) (xs : List ℕ) → IsBelowAll x xs → IsBelowAll x (take n xs)
below_take x zero xs f = tt
below_take x (suc n) [] f = tt
below_take x (suc n) (y ∷ ys) f = (f.0, below_take x n ys f.1)

pub ascending_take : (n : ℕ) (xs : List ℕ) → IsAscending xs → IsAscending (take n xs)
ascending_take zero xs f = tt
ascending_take (suc n) [] f = tt
ascending_take (suc n) (x ∷ xs) f = (below_take x n xs f.0, ascending_take n xs f.1)

pub ascending_drop : (n : ℕ) (xs : List ℕ) → IsAscending xs → IsAscending (drop n xs)
ascending_drop zero xs f = f
ascending_drop (suc n) [] f = tt
ascending_drop (suc n) (x ∷ xs) f = ascending_drop n xs f.1

-- one more visit
push_from : (actor ticket : ℕ) (history : History) (visit : Visit)
    → tickets_from actor ticket (history ++ visit ∷ [])
    ≡ tickets_from actor ticket history ++ cond (visit.actor == actor) ((ticket + length history) ∷ []) []
unfolding tickets_from
push_from actor ticket [] visit = grind arith
push_from actor ticket (first ∷ later) visit = grind (arith, push_from actor (suc ticket) later visit)

pub tickets-push : TicketsGrow
tickets-push actor history visit = grind (arith, push_from)
