-- A ticket is drawn: the history has one visit more.
use Rattle.std.proofs.Common.{◌≡◌, ◌≢◌, ◌⊎◌, ℕ, zero, suc, ◌+◌, ◌*◌, ◌%◌, ◌^◌, ◌<◌, ◌≤◌, ◌==◌, false, cond, [], ◌∷◌, ◌++◌, length, drop, refl, ap, ◌∙◌, inl, inr, arith}
use Rattle.std.proofs.lemmas.Bool.Decides.{nat_tests}
use Rattle.std.proofs.lemmas.List.{drop_all}
use Rattle.std.proofs.lemmas.List.Elements.{filter-append}
use Rattle.std.proofs.lemmas.List.Sums.{fold-append}
use mathlib.Core.Logic.{dite}
use native.Mathlib.Decide.{ℕ_discrete, dec_le}
use Rattle.node_set.specs.Ascending.{sift}
use Rattle.entry_word.specs.Marks.{mark_in, says_here}
use Rattle.entry_word.specs.declared.visit.Key.{Key}
use Rattle.entry_word.specs.declared.visit.Key.TheVariants.{Presence}
use Rattle.entry_word.specs.declared.visit.Act.{Act}
use Rattle.entry_word.specs.declared.visit.Act.TheVariants.{Put, Census}
use Rattle.entry_word.specs.declared.visit.Visit.{Visit}
use Rattle.directory.specs.Settings.{Setting, subs}
use Rattle.directory.specs.Keys.{act_node}
use Rattle.directory.specs.Histories.{History, cell, changes_here, own, word_after}
use Rattle.directory.specs.Census.{census}
use Rattle.station.specs.Views.{visits_at}
use Rattle.station.proofs.Staying.{word-elsewhere}
use Rattle.station.specs.TicketLaws.{own-nil}
use Rattle.directory.specs.Statements.{SameKey}

pub cell-push : (setting : Setting) (key : Key) (history : History) (visit : Visit)
    → cell setting (history ++ visit ∷ []) key ≡ word_after key (cell setting history key) visit.act
cell-push setting key history visit = grind (arith, fold-append)

-- the census stays where an act is elsewhere, or changes nobody's being here
here-same : SameKey → (setting : Setting) (history : History) (node sub : ℕ) (act : Act)
    → (act_node setting act ≢ node) ⊎ (changes_here setting history act ≡ false)
    → says_here (mark_in (word_after (Presence node sub) (cell setting history (Presence node sub)) act))
    ≡ says_here (mark_in (cell setting history (Presence node sub)))
here-same law setting history node sub act (inl away) = grind (arith, word-elsewhere)
here-same law setting history node sub (Put (Presence at other) word) (inr calm) = grind (arith, nat_tests)
here-same law setting history node sub act (inr calm) = refl

pub census-push : SameKey → (setting : Setting) (history : History) (node : ℕ) (visit : Visit)
    → (act_node setting visit.act ≢ node) ⊎ (changes_here setting history visit.act ≡ false)
    → census setting (history ++ visit ∷ []) node ≡ census setting history node
census-push law setting history node visit calm =
    let same : (sub : ℕ) → says_here (mark_in (cell setting (history ++ visit ∷ []) (Presence node sub)))
    ≡ says_here (mark_in (cell setting history (Presence node sub))) =
    λ sub. ap (λ w. says_here (mark_in w)) (cell-push setting (Presence node sub) history visit)
    ∙ here-same law setting history node sub visit.act calm in
    λ i. sift (λ sub. same sub i) 0 (subs setting)

-- counting changes nothing
pub census-counted : (setting : Setting) (history : History) (node actor at : ℕ)
    → census setting (history ++ record { actor = actor; act = Census at } ∷ []) node ≡ census setting history node
census-counted setting history node actor at =
    let visit : Visit = record { actor = actor; act = Census at } in
    λ i. sift (λ sub. says_here (mark_in (cell-push setting (Presence node sub) history visit i))) 0 (subs setting)

-- no visit is at a node, still, after one elsewhere
pub at-push : (setting : Setting) (node count : ℕ) (history : History) (visit : Visit)
    → act_node setting visit.act ≢ node
    → visits_at setting node (drop count history) ≡ []
    → visits_at setting node (drop count (history ++ visit ∷ [])) ≡ []
at-push setting node zero history visit away none-there = grind (arith, filter-append)
at-push setting node (suc count) [] visit away none-there = rw (drop_all {X = Visit} count [] (omega arith))
at-push setting node (suc count) (first ∷ later) visit away none-there = at-push setting node count later visit
    away none-there

-- how many visits there are, at most
abbrev pub total_own : ℕ → History → ℕ
total_own zero history = 0
total_own (suc count) history = total_own count history + length (own count history)

own-first : (actor : ℕ) (visit : Visit) (later : History)
    → length (own actor (visit ∷ later)) ≡ cond (visit.actor == actor) 1 0 + length (own actor later)
own-first actor visit later = grind (arith, nat_tests)

total-first : (count : ℕ) (visit : Visit) (later : History) → visit.actor < count
    → suc (total_own count later) ≤ total_own count (visit ∷ later)
total-first zero visit later h = absurd (omega arith)
total-first (suc count) visit later h = dite (ℕ_discrete visit.actor count)
    (λ e. grind (arith, nat_tests, own-first count visit later, total-later count visit later))
    (λ ne. omega (arith, own-first count visit later, total-first count visit later (omega arith)))
  where
    total-later : (k : ℕ) (visit : Visit) (later : History) → total_own k later ≤ total_own k (visit ∷ later)
    total-later zero visit later = omega arith
    total-later (suc k) visit later = omega (arith, total-later k visit later, own-first k visit later)

pub length-total : (count : ℕ) (history : History) → ((actor : ℕ) → count ≤ actor → own actor history ≡ [])
    → length history ≤ total_own count history
length-total count [] all = omega arith
length-total count (visit ∷ later) all =
    let here : visit.actor < count = dite (dec_le count visit.actor) (λ h. absurd
    ((own-nil visit.actor visit later (all visit.actor h)).0 refl)) (λ h. omega arith) in
    let rest = length-total count later (λ actor h. (own-nil actor visit later (all actor h)).1) in
    omega (arith, total-first count visit later here)

total-most : (count most : ℕ) (history : History) → ((actor : ℕ) → length (own actor history) ≤ most)
    → total_own count history ≤ count * most
total-most zero most history all = omega arith
total-most (suc count) most history all = omega (arith, total-most count most history all, all count)

pub few_visits : (count : ℕ) (history : History) → count ≤ 128 → ((actor : ℕ) → count ≤ actor → own actor history ≡ [])
    → ((actor : ℕ) → length (own actor history) ≤ 2 ^ 56) → length history ≤ 2 ^ 63
few_visits count history few all most =
    omega (arith, length-total count history all, total-most count (2 ^ 56) history most)

pub no_wrap : (n : ℕ) → n ≤ 2 ^ 63 → (n + 1) % 2 ^ 64 ≡ suc n
no_wrap n h = omega arith
