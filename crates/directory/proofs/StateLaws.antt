-- A cell after a legal history holds what the writes that are made have left; and these fit into their words.
use Rattle.std.proofs.Common.{◌≡◌, ℕ, ◌<◌, ◌≤◌, ◌^◌, Bool, false, ◌==◌, List, [], ◌∷◌, Option, None, length, map, fold, refl, ap, ◌∙◌, arith}
use Rattle.std.specs.Prelude.{unwrap_or, filter_map, All}
use Rattle.std.proofs.lemmas.List.Elements.{All-append, All-cons, All-head, All-nil, All-tail, All-take}
use Rattle.directory.proofs.Tests.{both_ways}
use Rattle.std.proofs.lemmas.Bool.{eq-eqb}
use Rattle.std.proofs.lemmas.List.{take-map}
use Rattle.entry_word.specs.Marks.{mark_word, mark_in, says_off, IsSmallMark, MarksUnpack}
use Rattle.entry_word.specs.Addresses.{address_word, address_in, IsSmallAddress, EntriesUnpack}
use Rattle.entry_word.specs.declared.mark.PresenceMark.{PresenceMark}
use Rattle.entry_word.specs.declared.mark.PresenceMark.TheVariants.{Empty}
use Rattle.entry_word.specs.declared.address.Address.{Address}
use Rattle.entry_word.specs.declared.visit.Key.TheVariants.{Presence, Entry}
use Rattle.entry_word.specs.declared.visit.Visit.{Visit}
use Rattle.directory.specs.Settings.{Setting}
use Rattle.directory.specs.Keys.{is_start}
use Rattle.directory.specs.Histories.{History, word_after, cell, puts_to}
use Rattle.directory.specs.Courses.{Step, move_to, Course, last_stop, next_move, after_step, MayStep, MaySteps}
use Rattle.directory.specs.Writes.{Write, mark_at, entry_at, visit_of, step_writes, writes}
use Rattle.directory.specs.Puts.{mark_put, node_put}
use Rattle.directory.specs.Standing.{commit_of, off}
use Rattle.directory.specs.Legal.{IsLegal}
use Rattle.directory.specs.States.{AreSmall, IsSmallWrite, opening_mark, opening_entry, mark_after, entry_after, mark_left, entry_left, write_commit, write_off, writes_made}
use Rattle.directory.proofs.HistoryLaws.{cell-of_puts}
use Rattle.directory.proofs.StepLaws.{IsCourse, after_coming, all-after, course-after}
use Rattle.directory.specs.Statements.{MarksAreLeft, EntriesAreLeft, CommitsAreTold, OffIsTold}
use Rattle.entry_word.specs.MarkLaws.{read-mark}

-- one write
mark-write : (sub node : ℕ) (mark : PresenceMark) (write : Write)
    → word_after (Presence node sub) (mark_word mark) (visit_of sub write).act
    ≡ mark_word (mark_after node mark write)
mark-write sub node mark (mark_at other new) = grind (arith, eq-eqb)
mark-write sub node mark (entry_at level cluster address) = refl

entry-write : (sub level cluster : ℕ) (address : Option Address) (write : Write)
    → word_after (Entry level cluster sub) (address_word address) (visit_of sub write).act
    ≡ address_word (entry_after level cluster address write)
entry-write sub level cluster address (mark_at node mark) = refl
entry-write sub level cluster address (entry_at other c new) = grind (arith, eq-eqb)

-- some writes: a cell holds the word of what they leave
writes-left : {A : Type 0} (f : ℕ → Visit → ℕ) (after : A → Write → A) (word : A → ℕ) (sub : ℕ)
    → ((a : A) (write : Write) → f (word a) (visit_of sub write) ≡ word (after a write)) → (a : A) (ws : List Write)
    → fold f (word a) (map (visit_of sub) ws) ≡ word (fold after a ws)
writes-left f after word sub one a [] = refl
writes-left f after word sub one a (write ∷ ws) = grind (arith, writes-left f after word sub one (after a write) ws)

-- the puts of a legal history are the visits of the writes that are made
pub puts-made : (setting : Setting) (sub : ℕ) (history : History) → IsLegal setting sub history
    → puts_to sub history ≡ map (visit_of sub) (writes_made setting sub (puts_to sub history))
puts-made setting sub history legal = grind (arith, take-map)

pub mark-word_left : (setting : Setting) (sub : ℕ) (history : History) → IsLegal setting sub history → (node : ℕ)
    → cell setting history (Presence node sub) ≡ mark_word
    (mark_left setting sub (writes_made setting sub (puts_to sub history)) node)
mark-word_left setting sub history legal node =
    cell-of_puts setting history (Presence node sub) ∙ (ap (λ puts. cell setting puts (Presence node sub))
    (puts-made setting sub history legal)
    ∙ writes-left (λ w (visit : Visit). word_after (Presence node sub) w visit.act) (mark_after node) mark_word sub
    (mark-write sub node) (opening_mark setting sub node) (writes_made setting sub (puts_to sub history)))

pub entry-word_left : (setting : Setting) (sub : ℕ) (history : History) → IsLegal setting sub history
    → (level cluster : ℕ)
    → cell setting history (Entry level cluster sub) ≡ address_word
    (entry_left setting sub (writes_made setting sub (puts_to sub history)) level cluster)
entry-word_left setting sub history legal level cluster =
    cell-of_puts setting history (Entry level cluster sub)
    ∙ (ap (λ puts. cell setting puts (Entry level cluster sub)) (puts-made setting sub history legal)
    ∙ writes-left (λ w (visit : Visit). word_after (Entry level cluster sub) w visit.act) (entry_after level cluster)
    address_word sub (entry-write sub level cluster) (opening_entry setting sub level cluster)
    (writes_made setting sub (puts_to sub history)))

-- the writes of steps fit into their words
small-writes : (setting : Setting) (course : Course) (steps : List Step) → IsCourse setting course
    → MaySteps setting course steps → All IsSmallWrite (writes setting course steps)
unfolding writes MaySteps
small-writes setting course [] sound may = All-nil IsSmallWrite
small-writes setting course (step ∷ steps) sound may =
    All-append IsSmallWrite (step_writes setting course step) _ (at_step step may.0)
    (small-writes setting (after_step setting course step) steps (course-after setting course step sound may.0) may.1)
  where
    at_step : (s : Step) → MayStep setting course s → All IsSmallWrite (step_writes setting course s)
    at_step (move_to node) h =
        let from : last_stop course < 2 ^ 16 = omega (arith, sound.low, sound.inside) in
        let to : node < 2 ^ 16 = omega (arith, sound.low, h.inside) in
        let move = next_move setting course node in
        All-cons IsSmallWrite _ (after_coming setting course move) (h.few, from)
        (search all-after)
    at_step _ h = All-cons IsSmallWrite _ [] sound.few (All-nil IsSmallWrite)

small-each : (ws : List Write) → All IsSmallWrite ws → AreSmall ws
unfolding AreSmall
small-each [] all = tt
small-each (write ∷ ws) all =
    (All-head IsSmallWrite write ws all, small-each ws (All-tail IsSmallWrite write ws all))

pub small-made : (setting : Setting) (sub : ℕ) (history : History) → setting.nodes ≤ 2 ^ 16
    → IsLegal setting sub history → AreSmall (writes_made setting sub (puts_to sub history))
small-made setting sub history low legal =
    small-each _ (All-take IsSmallWrite (length (puts_to sub history)) _
    (grind (arith, small-writes)))

-- what is left fits into its word
small-left : {A : Type 0} (IsSmall : A → Type 0) (after : A → Write → A)
    → ((a : A) (write : Write) → IsSmall a → IsSmallWrite write → IsSmall (after a write)) → (a : A) (ws : List Write)
    → IsSmall a → AreSmall ws → IsSmall (fold after a ws)
unfolding AreSmall
small-left IsSmall after one a [] small all = small
small-left IsSmall after one a (write ∷ ws) small all =
    small-left IsSmall after one (after a write) ws (one a write small all.0) all.1

small-mark_after : (node : ℕ) (mark : PresenceMark) (write : Write) → IsSmallMark mark → IsSmallWrite write
    → IsSmallMark (mark_after node mark write)
small-mark_after node mark (mark_at other new) small fits = both_ways IsSmallMark (node == other) fits small
small-mark_after node mark (entry_at level cluster address) small fits = small

small-entry_after : (level cluster : ℕ) (address : Option Address) (write : Write) → IsSmallAddress address
    → IsSmallWrite write → IsSmallAddress (entry_after level cluster address write)
small-entry_after level cluster address (mark_at node mark) small fits = small
small-entry_after level cluster address (entry_at other c new) small fits = grind (arith, both_ways)

-- so what is read of a legal history is what its writes have left
pub mark-read : MarksUnpack → MarksAreLeft
mark-read unpacks setting sub history low legal node =
    ap mark_in (mark-word_left setting sub history legal node)
    ∙ ap (λ m. unwrap_or m Empty) (unpacks (mark_left setting sub
    (writes_made setting sub (puts_to sub history)) node)
    (small-left IsSmallMark (mark_after node) (small-mark_after node) (opening_mark setting sub node) _
    (both_ways IsSmallMark (is_start setting node sub) (omega arith) tt)
    (small-made setting sub history low legal)))

pub entry-read : EntriesUnpack → EntriesAreLeft
entry-read unpacks setting sub history low legal level cluster =
    ap address_in (entry-word_left setting sub history legal level cluster)
    ∙ ap (λ a. unwrap_or a None) (unpacks (entry_left setting sub
    (writes_made setting sub (puts_to sub history)) level cluster)
    (small-left IsSmallAddress (entry_after level cluster) (small-entry_after level cluster)
    (opening_entry setting sub level cluster) _
    (grind (arith, both_ways))
    (small-made setting sub history low legal)))

-- the writes tell the commits, and whether the subscriber is off
commits-of_visits : MarksUnpack → (sub : ℕ) (ws : List Write) → AreSmall ws
    → filter_map (λ (v : Visit). commit_of (node_put v.act) (mark_put v.act)) (map (visit_of sub) ws)
    ≡ filter_map write_commit ws
unfolding AreSmall
commits-of_visits unpacks sub [] small = refl
commits-of_visits unpacks sub (mark_at node mark ∷ ws) small =
    rw (read-mark unpacks mark small.0, commits-of_visits unpacks sub ws small.1)
commits-of_visits unpacks sub (entry_at level cluster address ∷ ws) small = commits-of_visits unpacks sub ws small.1

off-of_visits : MarksUnpack → (sub : ℕ) (off : Bool) (ws : List Write) → AreSmall ws
    → fold (λ o (v : Visit). says_off (mark_put v.act)) off (map (visit_of sub) ws)
    ≡ fold (λ o write. write_off write) off ws
unfolding AreSmall
off-of_visits unpacks sub off [] small = refl
off-of_visits unpacks sub off (mark_at node mark ∷ ws) small =
    grind (arith, read-mark, off-of_visits unpacks sub (says_off mark) ws small.1)
off-of_visits unpacks sub off (entry_at level cluster address ∷ ws) small = off-of_visits unpacks sub false ws small.1

pub commits-told : MarksUnpack → CommitsAreTold
commits-told unpacks setting sub history low legal =
    ap (filter_map (λ (v : Visit). commit_of (node_put v.act) (mark_put v.act))) (puts-made setting sub history legal)
    ∙ commits-of_visits unpacks sub (writes_made setting sub (puts_to sub history))
    (small-made setting sub history low legal)

pub off-told : MarksUnpack → OffIsTold
off-told unpacks setting sub history low legal =
    ap (fold (λ o (v : Visit). says_off (mark_put v.act)) false) (puts-made setting sub history legal)
    ∙ off-of_visits unpacks sub false (writes_made setting sub (puts_to sub history))
    (small-made setting sub history low legal)
