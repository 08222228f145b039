-- One subscriber more, and one node more; and who is at a node, by the cells and by their history.
use Rattle.std.proofs.Common.{◌≡◌, ℕ, suc, ◌+◌, ◌<◌, ◌^◌, Bool, true, false, List, [], ◌∷◌, ◌++◌, length, refl, sym, ap, ◌∙◌, append_assoc, arith}
use Rattle.node_set.specs.Ascending.{sift}
use Rattle.node_set.specs.SetLaws.{length-passing-le, passing_same, passing_skips, passing_takes}
use Rattle.entry_word.specs.Marks.{mark_in, says_here}
use Rattle.entry_word.specs.declared.visit.Key.TheVariants.{Presence}
use Rattle.directory.specs.Histories.{History, cell}
use Rattle.directory.specs.Census.{census}
use Rattle.region_plan.specs.Plan.{PlanData, nodes_of}
use Rattle.region_plan.specs.Settings.{setting_of}
use Rattle.visit_log.specs.Cells.{CellData, Hold}
use Rattle.census_text.specs.TextLaws.{texts-same}
use Rattle.census_text.specs.CensusText.{census_text_of, count_below, node_line, node_lines}
use Rattle.census_text.specs.Presence.{is_there, presence_at}

-- one number more that passes a test, or doesn't
pub list-takes : (test : ℕ → Bool) (i : ℕ) (before after : List ℕ) → test i ≡ true → before ≡ sift test 0 i
    → after ≡ before ++ i ∷ [] → after ≡ sift test 0 (i + 1)
list-takes test i before after passes is more =
    more ∙ (ap (λ xs. xs ++ i ∷ []) is ∙ sym (passing_takes test i passes))

pub list-skips : (test : ℕ → Bool) (i : ℕ) (before : List ℕ) → test i ≡ false → before ≡ sift test 0 i
    → before ≡ sift test 0 (i + 1)
list-skips test i before fails is = is ∙ sym (passing_skips test i fails)

-- one node more, counted and told
pub count-more : (who : ℕ → List ℕ) (node total : ℕ) (listed : List ℕ) → total ≡ count_below who node
    → listed ≡ who node → total + length listed ≡ count_below who (node + 1)
count-more who node total listed is same =
    let next : node + 1 ≡ suc node = omega arith in
    rw (is, same, next) refl

pub lines-more : (who : ℕ → List ℕ) (node : ℕ) (start before after listed : List ℕ)
    → before ≡ start ++ node_lines who node → after ≡ before ++ node_line node listed → listed ≡ who node
    → after ≡ start ++ node_lines who (node + 1)
lines-more who node start before after listed is wrote same =
    let next : node + 1 ≡ suc node = omega arith in
    wrote ∙ (ap (λ t. t ++ node_line node listed) is
    ∙ (append_assoc start (node_lines who node) (node_line node listed)
    ∙ (ap (λ l. start ++ (node_lines who node ++ node_line node l)) same
    ∙ ap (λ v. start ++ node_lines who v) (sym next))))

-- no more are listed than there are
pub few-listed : (test : ℕ → Bool) (n : ℕ) (listed : List ℕ) → n < 2 ^ 32 → listed ≡ sift test 0 n
    → length listed < 2 ^ 32
few-listed test n listed few is = omega (arith, few, ap length is, length-passing-le test 0 n)

-- who is at a node by the cells is who is there by the history that left them
same-there : (plan : PlanData) (starts : List ℕ) (cells : CellData) (history : History)
    → Hold plan starts cells history → (node : ℕ) → node < nodes_of plan
    → presence_at plan cells node ≡ census (setting_of plan starts) history node
same-there plan starts cells history hold node below =
    ap (sift (is_there plan cells node) 0) hold.subs
    ∙ passing_same (is_there plan cells node) (λ sub. says_here (mark_in (cell (setting_of plan starts) history
    (Presence node sub)))) 0 (length starts)
    (λ sub from known. ap (λ word. says_here (mark_in word))
    (hold.words (Presence node sub) (record { place = below; known = omega (arith, known) })))

pub same-text : (plan : PlanData) (starts : List ℕ) (cells : CellData) (history : History)
    → Hold plan starts cells history
    → census_text_of (presence_at plan cells) (nodes_of plan)
    ≡ census_text_of (census (setting_of plan starts) history) (nodes_of plan)
same-text plan starts cells history hold =
    texts-same (presence_at plan cells) (census (setting_of plan starts) history) (nodes_of plan)
    (same-there plan starts cells history hold)
