-- Words of different nodes are different, and what a view says of the words of its node stays while
-- these words stay.
use Rattle.std.proofs.Common.{◌≡◌, ◌≢◌, ℕ, suc, ◌+◌, ◌*◌, ◌<◌, Bool, true, false, List, [], drop, set, refl, sym, ap, ◌∙◌, arith, Option, Some, get_or-set_other}
use Rattle.std.specs.Prelude.{slice_index}
use Rattle.entry_word.specs.declared.visit.Key.{Key}
use Rattle.directory.specs.Keys.{key_node}
use Rattle.directory.specs.Histories.{History, IsFront}
use Rattle.visit_log.specs.Numbers.{NumbersApart}
use Rattle.station.specs.Setup.{Setup, setting_in, nodes_in, IsCellOf, lock_word, tally_word, cell_word}
use Rattle.station.specs.Views.{HasSeen, IsSoundView, visits_at}
use Rattle.station.specs.Rule.{KeepsRule, IsViewOf}
use Rattle.station.specs.declared.view.View.{View}

-- a word of a node: its lock word, its tally word, or the word of a cell that lies there
pub data IsWordAt (setup : Setup) (node i : ℕ) : Type 0 where
  is_lock : i ≡ lock_word node → IsWordAt setup node i
  is_tally : i ≡ tally_word setup node → IsWordAt setup node i
  is_cell : (key : Key) → IsCellOf setup key → key_node (setting_in setup) key ≡ node → i ≡ cell_word setup key
      → IsWordAt setup node i

pub behind : (n x c : ℕ) → x < n → suc (2 * n + c) ≢ suc x
behind n x c h e = omega arith

pub behind_tally : (n x c : ℕ) → x < n → suc (2 * n + c) ≢ suc (n + x)
behind_tally n x c h e = omega arith

pub same_number : (n c d : ℕ) → suc (2 * n + c) ≡ suc (2 * n + d) → c ≡ d
same_number n c d e = omega arith

pub apart : NumbersApart → {setup : Setup} {x y i k : ℕ} → x < nodes_in setup → y < nodes_in setup → x ≢ y
    → IsWordAt setup x i → IsWordAt setup y k → i ≢ k
apart law inx iny ne (is_lock a) (is_lock b) e = ne (omega arith)
apart law inx iny ne (is_lock a) (is_tally b) e = omega arith
apart law inx iny ne (is_lock a) (is_cell key cell at b) e = omega arith
apart law inx iny ne (is_tally a) (is_lock b) e = omega arith
apart law inx iny ne (is_tally a) (is_tally b) e = ne (omega arith)
apart law inx iny ne (is_tally a) (is_cell key cell at b) e = omega arith
apart law inx iny ne (is_cell key cell at a) (is_lock b) e = omega arith
apart law inx iny ne (is_cell key cell at a) (is_tally b) e = omega arith
apart law {setup} inx iny ne (is_cell key cell at a) (is_cell other cell' at' b) e = grind (arith, same_number)

-- a write of a word of one node leaves the words of others
pub else_where : NumbersApart → {setup : Setup} (ws : List ℕ) {x y i k : ℕ} (new : ℕ) → x < nodes_in setup
    → y < nodes_in setup → x ≢ y → IsWordAt setup x i → IsWordAt setup y k
    → slice_index (set ws i new) k ≡ slice_index ws k
else_where law ws {i} {k} new inx iny ne a b = grind (arith, get_or-set_other, apart)

-- two views are never inside one node
pub one_inside : {setup : Setup} {s : Rattle.atomic_table.specs.Table.State
    Rattle.entry_word.specs.declared.visit.Act.Act View} (o : KeepsRule setup s) (j k : ℕ) {node : ℕ} (v u : View)
    → IsViewOf s.views j v → IsViewOf s.views k u → v.inside ≡ Some node → u.inside ≡ Some node → k ≡ j
one_inside o j k {node} v u at at' inv inu =
    let one = o.views j v at in let other = o.views k u at' in
    let a = one.inside node inv in let b = other.inside node inu in
    let same : v.low ≡ u.low = omega (arith, a.lock, b.lock) in
    let mine = (one.owner_is v.low (omega (arith, a.alone))).0 in
    let theirs = (other.owner_is u.low (omega (arith, b.alone))).0 in
    sym theirs ∙ (ap o.owner (sym same) ∙ mine)

pub not_true : (b : Bool) → (b ≡ true → ⊥) → b ≡ false
not_true true never = absurd (never refl)
not_true false never = refl

-- what the rule says of a view stays while the words that it speaks of stay, and no later visit is at its node, where
-- the view has no more to write than before
pub resound : {setup : Setup} {ws : List ℕ} (new : List ℕ) {history : History} (later : History) {owner : ℕ → ℕ} {k : ℕ}
    {v : View} {seen told had : History} {unwritten : Option Key} {owes : Bool}
    → (was : IsSoundView setup ws history owner k v)
    → HasSeen later (record v { seen = seen; told = told; had = had; unwritten = unwritten; owes = owes })
    → ((front : History) → IsFront front history → IsFront front later)
    → ((node : ℕ) → v.inside ≡ Some node → visits_at (setting_in setup) node (drop v.visit_count history) ≡ []
    → visits_at (setting_in setup) node (drop v.visit_count later) ≡ [])
    → (owes ≡ true → v.owes ≡ true) → ((key : Key) → unwritten ≡ Some key → v.unwritten ≡ Some key)
    → ((node : ℕ) → v.inside ≡ Some node → slice_index new (lock_word node) ≡ slice_index ws (lock_word node))
    → ((node : ℕ) → v.inside ≡ Some node → owes ≡ true
    → slice_index new (tally_word setup node) ≡ slice_index ws (tally_word setup node))
    → ((key : Key) → unwritten ≡ Some key → v.inside ≡ Some (key_node (setting_in setup) key) → IsCellOf setup key
    → slice_index new (cell_word setup key) ≡ slice_index ws (cell_word setup key))
    → IsSoundView setup new later owner k
    (record v { seen = seen; told = told; had = had; unwritten = unwritten; owes = owes })
resound new later {unwritten} {owes} was has goes_on beside still kept lock tally cell =
    record {
      setup_is = was.setup_is;
      has = has;
      owner_is = was.owner_is;
      inside = λ node is. let h = was.inside node is in
          record {
            known = h.known;
            alone = h.alone;
            lock = lock node is ∙ h.lock;
            drawn = grind arith;
            owed = λ due. h.owed (still due);
            tally = λ due. tally node is due ∙ h.tally (still due);
          };
      unwritten = grind arith;
      outside = grind (arith, not_true);
      others = was.others;
    }
