-- What stays while no visit is at a node: its cells and its census.
use Rattle.std.proofs.Common.{◌≡◌, ◌≢◌, ℕ, List, [], ◌∷◌, length, drop, refl, sym, ap, ◌∙◌, arith, Some}
use Rattle.std.specs.Prelude.{fold}
use Rattle.std.proofs.lemmas.Bool.Decides.{nat_tests}
use Rattle.std.proofs.lemmas.List.Sums.{fold-append}
use Rattle.node_set.specs.Ascending.{sift}
use Rattle.entry_word.specs.Marks.{mark_in, says_here}
use Rattle.entry_word.specs.declared.visit.Key.{Key}
use Rattle.entry_word.specs.declared.visit.Key.TheVariants.{Presence}
use Rattle.entry_word.specs.declared.visit.Act.{Act}
use Rattle.entry_word.specs.declared.visit.Act.TheVariants.{Put}
use Rattle.entry_word.specs.declared.visit.Visit.{Visit}
use Rattle.directory.specs.Settings.{Setting, subs}
use Rattle.directory.specs.Keys.{act_node, key_node}
use Rattle.directory.specs.Histories.{History, IsFront, cell, word_after}
use Rattle.directory.specs.Census.{census}
use Rattle.station.specs.Plays.{key_put}
use Rattle.station.specs.Views.{visits_at}
use Rattle.station.proofs.Steps.{no_some}
use Rattle.station.specs.TicketLaws.{front-rest}
use Rattle.directory.specs.Statements.{SameKey}
use Rattle.directory.specs.ListLaws.{same_some}

-- what an act puts
pub put_word : (act : Act) (key : Key) → key_put act ≡ Some key → (word : ℕ) × (act ≡ Put key word)
put_word (Put other word) key e = (word, ap (λ (k : Key). Put k word) (same_some e))
put_word act key e = absurd (no_some e)

pub put_node : (setting : Setting) (act : Act) {key : Key} → key_put act ≡ Some key
    → key_node setting key ≡ act_node setting act
put_node setting act {key} e = sym (ap (act_node setting) (put_word act key e).1)

-- an act leaves the cells that it doesn't put into
pub word-unput : SameKey → (key : Key) (word : ℕ) (act : Act) → key_put act ≢ Some key → word_after key word act ≡ word
word-unput law key word (Put other new) ne = grind arith
word-unput law key word act ne = refl

-- an act at another node leaves a cell
pub word-elsewhere : SameKey → (setting : Setting) (key : Key) (word : ℕ) (act : Act)
    → act_node setting act ≢ key_node setting key → word_after key word act ≡ word
word-elsewhere law setting key word act ne = word-unput law key word act (λ e. ne (sym (put_node setting act e)))

cell-rest : SameKey → (setting : Setting) (key : Key) {node : ℕ} (word : ℕ) (rest : List Visit)
    → key_node setting key ≡ node → visits_at setting node rest ≡ [] → fold (λ w (v : Visit). word_after key w v.act)
    word rest ≡ word
cell-rest law setting key word [] at none-there = refl
cell-rest law setting key {node} word (visit ∷ rest) at none-there =
    let t : (act_node setting visit.act ≢ node) × (visits_at setting node rest ≡ []) = grind (arith, nat_tests) in
    rw (word-elsewhere law setting key word visit.act (λ e. t.0 (e ∙ at)))
    (cell-rest law setting key word rest at t.1)

pub cell-stays : SameKey → (setting : Setting) (key : Key) {node : ℕ} (seen history : History) → IsFront seen history
    → key_node setting key ≡ node → visits_at setting node (drop (length seen) history) ≡ []
    → cell setting history key ≡ cell setting seen key
cell-stays law setting key seen history front at none-there =
    grind (arith, front-rest seen history front, fold-append, cell-rest)

pub census-stays : SameKey → (setting : Setting) (node : ℕ) (seen history : History) → IsFront seen history
    → visits_at setting node (drop (length seen) history) ≡ []
    → census setting history node ≡ census setting seen node
census-stays law setting node seen history front none-there =
    let same : (sub : ℕ) → cell setting history (Presence node sub) ≡ cell setting seen (Presence node sub) =
    λ sub. cell-stays law setting (Presence node sub) seen history front refl none-there in
    λ i. sift (λ sub. says_here (mark_in (same sub i))) 0 (subs setting)
