-- The words of a handset: each part is read as it was written, and what is read goes with its plan where it has no fault.
use Rattle.std.proofs.Common.{◌≡◌, ℕ, zero, suc, ◌+◌, ◌*◌, ◌^◌, ◌<◌, ◌≤◌, Bool, true, false, List, [], ◌∷◌, ◌++◌, get_or, length, map, take, refl, sym, ap, ◌∙◌, arith, length-append}
use Rattle.std.specs.Prelude.{◌==◌, ◌||◌, nat_eq, nat_le, nat_lt}
use Rattle.std.specs.Cmp.Lexicographic.{pointwise}
use Rattle.std.specs.List.{list_all}
use Rattle.std.proofs.lemmas.Bool.{and_parts, le-leb, lt-ltb, ltb-true, leb-true}
use Rattle.std.proofs.lemmas.Bool.Decides.{Decides-eqb, nat_tests}
use Rattle.std.proofs.Math.Bool.{or-false}
use Rattle.std.proofs.lemmas.List.{append_assoc, ext_get_or, get_or-map, length-map, take_more}
use Rattle.std.proofs.lemmas.Slice.Eq.{slice_eq-Decides}
use Rattle.node_set.specs.Ascending.{has, sift, with_number}
use Rattle.node_set.specs.Nodes.{AreNodes, Nodes}
use Rattle.node_set.specs.SetLaws.{all_members, has-append, has-inserted, has-passing, length-passing-le, length-passing_all, passing_all-each, passing_same, passing_skips, passing_takes}
use Rattle.directory.specs.Courses.{Move}
use Rattle.directory.specs.Writes.{numbers_from}
use Rattle.region_plan.specs.Plan.{PlanData, levels_of}
use Rattle.handset.specs.declared.stage.Stage.{Stage}
use Rattle.handset.specs.declared.stage.Stage.TheVariants.{Resting, Coming, Renewing, Committing, Confirming, Erasing, Purging, Switching}
use Rattle.handset.specs.Condition.{GoesWith, HandsetData, IsMoveStage}
use Rattle.handset.specs.Trails.{flags}
use Rattle.handset.proofs.Trails.{flag-at, flag-count}
use Rattle.handset.specs.States.{is_move_stage, narrow, nodes_on, stage_from, stage_kind, stage_part, trail_from, truth_word, words_of}

-- a number of 32 bits
pub narrow-small : (n : ℕ) → n < 2 ^ 32 → narrow n ≡ n
narrow-small n h = grind (arith, nat_tests)

pub narrow-below : (n : ℕ) → narrow n < 2 ^ 32
narrow-below n = grind (arith, nat_tests)

pub narrow-each : (xs : List ℕ) → ((k : ℕ) → k < length xs → get_or xs k 0 < 2 ^ 32) → map narrow xs ≡ xs
narrow-each xs small = ext_get_or 0 (map narrow xs) xs (length-map xs narrow) (λ k h.
    let inside : k < length xs = omega (arith, h, length-map xs narrow) in
    get_or-map narrow xs k 0 0 inside ∙ narrow-small (get_or xs k 0) (small k inside))

-- a truth, and a stage
pub truth-back : (b : Bool) → (truth_word b == 1) ≡ b
truth-back true = refl
truth-back false = refl

switch-back : (off : Bool) → stage_from 7 (narrow (truth_word off)) ≡ Switching off
switch-back true = refl
switch-back false = refl

pub stage-back : (nodes : ℕ) (move : Move) (stage : Stage) → IsMoveStage nodes move stage → nodes ≤ 2 ^ 32
    → move.renewed < 2 ^ 32 → stage_from (stage_kind stage) (narrow (stage_part stage)) ≡ stage
stage-back nodes move Resting is few low = refl
stage-back nodes move Coming is few low = refl
stage-back nodes move (Renewing level) is few low = ap Renewing (narrow-small level (omega (arith, is, low)))
stage-back nodes move Committing is few low = refl
stage-back nodes move Confirming is few low = refl
stage-back nodes move (Erasing level) is few low = ap Erasing (narrow-small level (omega (arith, is, low)))
stage-back nodes move (Purging node) is few low = ap Purging (narrow-small node (omega (arith, is, few)))
stage-back nodes move (Switching off) is few low = switch-back off

-- a trail
pub trail-back : (trail : List Bool) → trail_from (length trail) (nodes_on trail) ≡ trail
trail-back trail =
    ext_get_or false (trail_from (length trail) (nodes_on trail)) trail count (λ k h. at k (omega (arith, h, count)))
  where
    count : length (trail_from (length trail) (nodes_on trail)) ≡ length trail
    count = length-map (numbers_from 0 (length trail)) (λ node. has node (nodes_on trail))
        ∙ length-passing_all 0 (length trail)

    at : (k : ℕ) → k < length trail → get_or (trail_from (length trail) (nodes_on trail)) k false ≡ get_or trail k false
    at k h =
        let place : get_or (numbers_from 0 (length trail)) k 0 ≡ k
        = passing_all-each 0 (length trail) k 0 h ∙ omega arith in
        get_or-map (λ node. has node (nodes_on trail)) (numbers_from 0 (length trail)) k 0 false
        (omega (arith, h, length-passing_all 0 (length trail)))
        ∙ ap (λ n. has n (nodes_on trail)) place
        ∙ has-passing (λ node. get_or trail node false) k 0 (length trail) (omega arith) (omega (arith, h))

-- tests of all numbers of a list
pub all-below : (n : ℕ) (xs : List ℕ) → ((k : ℕ) → k < length xs → get_or xs k 0 < n)
    → list_all (λ x. nat_lt x n) xs ≡ true
all-below n [] each = refl
all-below n (x ∷ xs) each =
    let first : x < n = each 0 (omega arith) in
    let rest = all-below n xs (λ k h. each (suc k) (omega (arith, h))) in
    grind (arith, nat_tests)

pub below-all : (n : ℕ) (xs : List ℕ) → list_all (λ x. nat_lt x n) xs ≡ true → (k : ℕ) → k < length xs
    → get_or xs k 0 < n
below-all n [] all k h = absurd (omega (arith, h))
below-all n (x ∷ xs) all zero h = ltb-true x n (and_parts (nat_lt x n) (list_all (λ y. nat_lt y n) xs) all).0
below-all n (x ∷ xs) all (suc k) h =
    below-all n xs (and_parts (nat_lt x n) (list_all (λ y. nat_lt y n) xs) all).1 k (omega (arith, h))

pub all-within : (n : ℕ) (xs : List ℕ) → ((k : ℕ) → k < length xs → get_or xs k 0 ≤ n)
    → list_all (λ x. nat_le x n) xs ≡ true
all-within n [] each = refl
all-within n (x ∷ xs) each =
    let first : x ≤ n = each 0 (omega arith) in
    let rest = all-within n xs (λ k h. each (suc k) (omega (arith, h))) in
    grind (arith, nat_tests)

pub within-all : (n : ℕ) (xs : List ℕ) → list_all (λ x. nat_le x n) xs ≡ true → (k : ℕ) → k < length xs
    → get_or xs k 0 ≤ n
within-all n [] all k h = absurd (omega (arith, h))
within-all n (x ∷ xs) all zero h = leb-true x n (and_parts (nat_le x n) (list_all (λ y. nat_le y n) xs) all).0
within-all n (x ∷ xs) all (suc k) h =
    within-all n xs (and_parts (nat_le x n) (list_all (λ y. nat_le y n) xs) all).1 k (omega (arith, h))

-- the level or the node of a stage
pub is-stage : (nodes : ℕ) (move : Move) (stage : Stage) → IsMoveStage nodes move stage
    → is_move_stage nodes move stage ≡ true
is-stage nodes move (Renewing level) is = le-leb level move.renewed is
is-stage nodes move (Erasing level) is = le-leb level move.renewed is
is-stage nodes move (Purging node) is = lt-ltb node nodes is
is-stage nodes move stage is = refl

pub stage-is : (nodes : ℕ) (move : Move) (stage : Stage) → is_move_stage nodes move stage ≡ true
    → IsMoveStage nodes move stage
stage-is nodes move Resting is = tt
stage-is nodes move Coming is = tt
stage-is nodes move (Renewing level) is = leb-true level move.renewed is
stage-is nodes move Committing is = tt
stage-is nodes move Confirming is = tt
stage-is nodes move (Erasing level) is = leb-true level move.renewed is
stage-is nodes move (Purging node) is = ltb-true node nodes is
stage-is nodes move (Switching off) is = tt

-- words that are the same
pub same-words : (xs ys : List ℕ) → pointwise nat_eq xs ys ≡ true → xs ≡ ys
same-words xs ys h = (slice_eq-Decides Decides-eqb xs ys (pointwise nat_eq xs ys) refl).0 h

pub own-words : (xs : List ℕ) → pointwise nat_eq xs xs ≡ true
own-words xs = (slice_eq-Decides Decides-eqb xs xs (pointwise nat_eq xs xs) refl).1 refl

-- the nodes of a trail are the members of its set
pub nodes-members : (set : Nodes) → AreNodes set → nodes_on (flags set) ≡ set.members
nodes-members set sound =
    let count = flag-count set in
    ap (sift (λ node. get_or (flags set) node false) 0) count
    ∙ (passing_same (λ node. get_or (flags set) node false) (λ node. has node set.members) 0 set.room
    (λ x low high. flag-at set x (omega (arith, high))) ∙ all_members set sound)

pub nodes-few : (set : Nodes) → AreNodes set → length set.members ≤ 1024
nodes-few set sound =
    omega (arith, ap length (all_members set sound), length-passing-le (λ x. has x set.members) 0 set.room, sound.small)

-- so many words there are
pub state-count : {plan : PlanData} {handset : HandsetData} (set : Nodes) → AreNodes set → GoesWith plan handset
    → handset.trail ≡ flags set → 11 + 2 * levels_of plan + length set.members ≡ length (words_of handset)
state-count {plan} {handset} set sound goes same =
    let nodes : length (nodes_on handset.trail) ≡ length set.members
    = ap (λ t. length (nodes_on t)) same ∙ ap length (nodes-members set sound) in
    omega (
      arith,
      nodes,
      length-append handset.addresses (handset.gathered ++ nodes_on handset.trail),
      length-append handset.gathered (nodes_on handset.trail),
      goes.addresses,
      goes.gathered,
    )

-- the nodes of a trail, one by one
pub nodes-takes : (trail : Nodes) (base words after : List ℕ) (i : ℕ) → i < trail.room → has i trail.members ≡ true
    → words ≡ base ++ sift (λ node. get_or (flags trail) node false) 0 i → after ≡ words ++ i ∷ []
    → after ≡ base ++ sift (λ node. get_or (flags trail) node false) 0 (i + 1)
nodes-takes trail base words after i below there so_far pushed =
    let flag : get_or (flags trail) i false ≡ true = flag-at trail i below ∙ there in
    let taken = passing_takes (λ node. get_or (flags trail) node false) i flag in
    pushed ∙ ap (λ xs. xs ++ i ∷ []) so_far
    ∙ append_assoc base (sift (λ node. get_or (flags trail) node false) 0 i) (i ∷ [])
    ∙ ap (λ xs. base ++ xs) (sym taken)

pub nodes-skips : (trail : Nodes) (base words : List ℕ) (i : ℕ) → i < trail.room → has i trail.members ≡ false
    → words ≡ base ++ sift (λ node. get_or (flags trail) node false) 0 i
    → words ≡ base ++ sift (λ node. get_or (flags trail) node false) 0 (i + 1)
nodes-skips trail base words i below none so_far =
    let flag : get_or (flags trail) i false ≡ false = flag-at trail i below ∙ none in
    so_far ∙ ap (λ xs. base ++ xs) (sym (passing_skips (λ node. get_or (flags trail) node false) i flag))

pub nodes-done : (trail : Nodes) (base words : List ℕ) (i : ℕ) → i ≡ trail.room
    → words ≡ base ++ sift (λ node. get_or (flags trail) node false) 0 i → words ≡ base ++ nodes_on (flags trail)
nodes-done trail base words i end so_far =
    so_far ∙ ap (λ n. base ++ sift (λ node. get_or (flags trail) node false) 0 n) (end ∙ sym (flag-count trail))

-- a trail of words, one by one
has-more : (words : List ℕ) (i x : ℕ) → i < length words
    → has x (take (i + 1) words) ≡ (has x (take i words) || x == get_or words i 0)
has-more words i x inside =
    ap (has x) (take_more words i 0 inside) ∙ has-append x (take i words) (get_or words i 0 ∷ [])
    ∙ ap (λ b. has x (take i words) || b) (or-false (x == get_or words i 0))

pub trail-takes : (members words : List ℕ) (i x w : ℕ) → i < length words → w ≡ get_or words i 0
    → has x members ≡ has x (take i words) → has x (with_number w members) ≡ has x (take (i + 1) words)
trail-takes members words i x w inside is same = grind (arith, has-inserted, has-more words i x inside)

pub trail-skips : (members words : List ℕ) (i x w nodes : ℕ) → i < length words → w ≡ get_or words i 0 → x < nodes
    → nodes ≤ w → has x members ≡ has x (take i words) → has x members ≡ has x (take (i + 1) words)
trail-skips members words i x w nodes inside is below past same =
    let other : (x == get_or words i 0) ≡ false = grind (arith, nat_tests) in
    grind (arith, has-more words i x inside)

pub trail-done : (trail : Nodes) (nodes : ℕ) (words : List ℕ) → trail.room ≡ nodes
    → ((x : ℕ) → x < nodes → has x trail.members ≡ has x words) → flags trail ≡ trail_from nodes words
trail-done trail nodes words room same =
    let one = flag-count trail in
    let other : length (trail_from nodes words) ≡ nodes
    = length-map (numbers_from 0 nodes) (λ node. has node words) ∙ length-passing_all 0 nodes in
    ext_get_or false (flags trail) (trail_from nodes words) (omega (arith, one, other, room)) (λ k h.
    let below : k < nodes = omega (arith, h, one, room) in
    flag-at trail k (omega (arith, below, room)) ∙ (same k below
    ∙ sym (get_or-map (λ node. has node words) (numbers_from 0 nodes) k 0 false
    (omega (arith, below, length-passing_all 0 nodes))
    ∙ ap (λ n. has n words) (passing_all-each 0 nodes k 0 below ∙ omega arith))))
