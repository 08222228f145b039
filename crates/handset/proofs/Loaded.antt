-- A handset comes back from its words, and what is read of words is their handset.
use Rattle.std.proofs.Common.{◌≡◌, ℕ, ◌+◌, ◌*◌, ◌^◌, ◌<◌, ◌≤◌, Bool, true, false, List, ◌++◌, Some, None, drop, get_or, length, map, take, refl, sym, ap, ◌∙◌, subst, arith, length-append}
use Rattle.std.specs.Prelude.{not, nat_eq, nat_lt, if◌then◌else◌, Result, Ok, Err, IfOk, MatchResult}
use Rattle.std.specs.Cmp.Lexicographic.{pointwise}
use Rattle.std.proofs.lemmas.Bool.{and_parts, eqb-true, eq-eqb, lt-ltb, ltb-true}
use Rattle.std.proofs.lemmas.Bool.Decides.{nat_tests}
use Rattle.std.proofs.lemmas.List.{drop_at, length-drop, length-map, length-take-le, take_at}
use Rattle.node_set.specs.SetLaws.{length-passing_all}
use Rattle.directory.specs.Courses.{Move}
use Rattle.directory.specs.Writes.{numbers_from}
use Rattle.region_plan.specs.Kept.{IsKept}
use Rattle.region_plan.specs.Plan.{PlanData, levels_of, nodes_of}
use Rattle.node_set.specs.Ascending.{has}
use Rattle.handset.specs.declared.fault.StateRefusal.{StateRefusal}
use Rattle.handset.specs.declared.fault.StateFault.TheVariants.{Short, Garbled, NoNode, Mixed}
use Rattle.handset.specs.declared.stage.Stage.{Stage}
use Rattle.handset.specs.declared.stage.Stage.TheVariants.{Resting, Coming, Renewing, Committing, Confirming, Erasing, Purging, Switching}
use Rattle.handset.specs.Condition.{GoesWith, HandsetData, begun_at}
use Rattle.handset.specs.States.{IsRefusalOf, IsStateFor, ReadWordsAreStates, StatesComeBack, checked, goes_together, handset_from, names_nodes, narrow, nodes_on, or_fault, state_fault, state_of, trail_from, words_of}
use Rattle.handset.proofs.Saved.{all-below, all-within, below-all, is-stage, narrow-below, narrow-each, narrow-small, own-words, same-words, stage-back, stage-is, trail-back, truth-back, within-all}

-- ---- there

-- how many moves are committed of those that are begun
few-committed : (stage : Stage) (number begun : ℕ) → begun ≡ begun_at stage number → number ≤ begun
few-committed Resting number begun h = omega (arith, h)
few-committed Coming number begun h = omega (arith, h)
few-committed (Renewing level) number begun h = omega (arith, h)
few-committed Committing number begun h = omega (arith, h)
few-committed Confirming number begun h = omega (arith, h)
few-committed (Erasing level) number begun h = omega (arith, h)
few-committed (Purging node) number begun h = omega (arith, h)
few-committed (Switching off) number begun h = omega (arith, h)

-- the words of the levels, and of the trail
levels-back : {levels : ℕ} (addresses gathered nodes : List ℕ) → length addresses ≡ levels
    → length gathered ≡ levels → (take levels (addresses ++ (gathered ++ nodes)) ≡ addresses)
    × (take levels (drop levels (addresses ++ (gathered ++ nodes))) ≡ gathered)
    × (drop levels (drop levels (addresses ++ (gathered ++ nodes))) ≡ nodes)
levels-back {levels} addresses gathered nodes one two =
    let after = drop_at addresses (gathered ++ nodes) levels one in (
      take_at addresses (gathered ++ nodes) levels one,
      rw after (take_at gathered nodes levels two),
      rw after (drop_at gathered nodes levels two),
    )

-- a handset is read of its words
read-back : (plan : PlanData) (handset : HandsetData) → IsKept plan → GoesWith plan handset → handset.sub < 2 ^ 32
    → handset_from plan (take 11 (words_of handset)) (drop 11 (words_of handset)) ≡ handset
read-back plan handset kept goes small =
    let few : nodes_of plan ≤ 2 ^ 32 = omega (arith, kept.metric.few) in
    let low : handset.last.renewed < 2 ^ 32 = omega (arith, goes.renewed, kept.few) in
    let number : handset.number < 2 ^ 32
    = omega (arith, goes.numbered, few-committed handset.stage handset.number handset.last.number goes.counted) in
    let parts = levels-back handset.addresses handset.gathered (nodes_on handset.trail) goes.addresses goes.gathered in
    let addresses : map narrow (take (levels_of plan) (drop 11 (words_of handset))) ≡ handset.addresses
    = ap (map narrow) parts.0 ∙ narrow-each handset.addresses
    (λ k h. omega (arith, goes.inside k (omega (arith, h, goes.addresses)), few)) in
    let trail : trail_from (nodes_of plan) (drop (levels_of plan) (drop (levels_of plan) (drop 11 (words_of handset))))
    ≡ handset.trail
    = ap (trail_from (nodes_of plan)) parts.2
    ∙ (ap (λ n. trail_from n (nodes_on handset.trail)) (sym goes.trail) ∙ trail-back handset.trail) in
    let stage = stage-back (nodes_of plan) handset.last handset.stage goes.stage few low in
    same-handset (narrow-small handset.sub small)
    (narrow-small handset.place (omega (arith, goes.place, few)))
    (narrow-small handset.number number) (truth-back handset.is_off) stage
    (same-move (narrow-small handset.last.number goes.numbered)
    (narrow-small handset.last.from (omega (arith, goes.from, few)))
    (narrow-small handset.last.to (omega (arith, goes.to, few)))
    (narrow-small handset.last.renewed low))
    addresses parts.1 trail
  where
    same-move : {number from to renewed : ℕ} → number ≡ handset.last.number → from ≡ handset.last.from
        → to ≡ handset.last.to → renewed ≡ handset.last.renewed
        → ◌≡◌ {A = Move} (record {
          number = number;
          from = from;
          to = to;
          weight = handset.last.weight;
          renewed = renewed;
        }) handset.last
    same-move a b c d = rw (a, b, c, d) refl

    same-handset : {sub place number : ℕ} {off : Bool} {stage : Stage} {last : Move} {addresses gathered : List ℕ}
        {trail : List Bool} → sub ≡ handset.sub → place ≡ handset.place → number ≡ handset.number
        → off ≡ handset.is_off → stage ≡ handset.stage → last ≡ handset.last → addresses ≡ handset.addresses
        → gathered ≡ handset.gathered → trail ≡ handset.trail
        → ◌≡◌ {A = HandsetData} (record {
          sub = sub;
          place = place;
          number = number;
          is_off = off;
          stage = stage;
          last = last;
          addresses = addresses;
          gathered = gathered;
          trail = trail;
        }) handset
    same-handset a b c d e f g h i = rw (a, b, c, d, e, f, g, h, i) refl

-- a handset that goes with a plan has no fault
names-all : (plan : PlanData) (handset : HandsetData) → GoesWith plan handset
    → names_nodes (nodes_of plan) handset ≡ true
names-all plan handset goes =
    let place = lt-ltb handset.place (nodes_of plan) goes.place in
    let from = lt-ltb handset.last.from (nodes_of plan) goes.from in
    let to = lt-ltb handset.last.to (nodes_of plan) goes.to in
    let all = all-below (nodes_of plan) handset.addresses
    (λ k h. goes.inside k (omega (arith, h, goes.addresses))) in
    rw (place, from, to, all) refl

together : (plan : PlanData) (handset : HandsetData) → GoesWith plan handset
    → goes_together plan handset ≡ true
together plan handset goes =
    let renewed = lt-ltb handset.last.renewed (levels_of plan) goes.renewed in
    let stage = is-stage (nodes_of plan) handset.last handset.stage goes.stage in
    let counted = eq-eqb handset.last.number (begun_at handset.stage handset.number) goes.counted in
    let light = all-within (handset.last.number * 2 ^ 30) handset.gathered
    (λ k h. goes.light k (omega (arith, h, goes.gathered))) in
    rw (renewed, stage, counted, light) refl

faultless : (plan : PlanData) (handset : HandsetData) → GoesWith plan handset → state_fault plan handset ≡ None
faultless plan handset goes = rw (names-all plan handset goes, together plan handset goes) refl

-- there are as many words as there must be
long-enough : (plan : PlanData) (handset : HandsetData) → GoesWith plan handset
    → nat_lt (length (words_of handset)) (11 + 2 * levels_of plan) ≡ false
long-enough plan handset goes =
    let rest = length-append handset.addresses (handset.gathered ++ nodes_on handset.trail) in
    let more = length-append handset.gathered (nodes_on handset.trail) in
    let count : 11 + 2 * levels_of plan ≤ length (words_of handset)
    = omega (arith, rest, more, goes.addresses, goes.gathered) in
    grind (arith, nat_tests)

pub states-back : StatesComeBack
states-back plan handset words kept is =
    ap (state_of plan) is.same ∙ (rw (long-enough plan handset is.goes)
    (ap (checked plan (words_of handset)) (read-back plan handset kept is.goes is.sub)
    ∙ rw (own-words (words_of handset), faultless plan handset is.goes) refl))

-- ---- and here

-- what a handset without a fault is, besides the lengths of its lists
goes-from : (plan : PlanData) (handset : HandsetData) → length handset.addresses ≡ levels_of plan
    → length handset.gathered ≡ levels_of plan → length handset.trail ≡ nodes_of plan
    → handset.last.number < 2 ^ 32 → names_nodes (nodes_of plan) handset ≡ true
    → goes_together plan handset ≡ true → GoesWith plan handset
goes-from plan handset one two three numbered names goes =
    let n = and_parts _ _ names in
    let n2 = and_parts _ _ n.0 in
    let n3 = and_parts _ _ n2.0 in
    let g = and_parts _ _ goes in
    let g2 = and_parts _ _ g.0 in
    let g3 = and_parts _ _ g2.0 in
    record {
      addresses = one;
      gathered = two;
      trail = three;
      place = ltb-true handset.place (nodes_of plan) n3.0;
      from = ltb-true handset.last.from (nodes_of plan) n3.1;
      to = ltb-true handset.last.to (nodes_of plan) n2.1;
      renewed = ltb-true handset.last.renewed (levels_of plan) g3.0;
      inside = λ level h. below-all (nodes_of plan) handset.addresses n.1 level (omega (arith, h, one));
      light = λ level h. within-all (handset.last.number * 2 ^ 30) handset.gathered g.1 level (omega (arith, h, two));
      counted = eqb-true handset.last.number (begun_at handset.stage handset.number) g2.1;
      numbered = numbered;
      stage = stage-is (nodes_of plan) handset.last handset.stage g3.1;
    }

-- what is read of enough words is as long as it must be
record Lengths (plan : PlanData) (handset : HandsetData) : Type 0 where
  addresses : length handset.addresses ≡ levels_of plan
  gathered : length handset.gathered ≡ levels_of plan
  trail : length handset.trail ≡ nodes_of plan
  numbered : handset.last.number < 2 ^ 32
  sub : handset.sub < 2 ^ 32

lengths-of : (plan : PlanData) (head rest : List ℕ) → 2 * levels_of plan ≤ length rest
    → Lengths plan (handset_from plan head rest)
lengths-of plan head rest long =
    let past = length-drop (levels_of plan) rest in
    record {
      addresses = length-map (take (levels_of plan) rest) narrow
          ∙ length-take-le (levels_of plan) rest (omega (arith, long));
      gathered = length-take-le (levels_of plan) (drop (levels_of plan) rest) (omega (arith, long, past));
      trail = length-map (numbers_from 0 (nodes_of plan))
          (λ node. has node (drop (levels_of plan) (drop (levels_of plan) rest)))
          ∙ length-passing_all 0 (nodes_of plan);
      numbered = narrow-below (get_or head 6 0);
      sub = narrow-below (get_or head 0 0);
    }

-- what is checked, and isn't refused
checked-is : (plan : PlanData) (words : List ℕ) (read handset : HandsetData) → Lengths plan read
    → checked plan words read ≡ Ok handset → IsStateFor plan handset words
checked-is plan words read handset lengths h =
    by-words (pointwise nat_eq (words_of read) words) refl
    (names_nodes (nodes_of plan) read) refl (goes_together plan read) refl h
  where
    by-words : (same : Bool) → pointwise nat_eq (words_of read) words ≡ same → (names : Bool)
        → names_nodes (nodes_of plan) read ≡ names → (goes : Bool) → goes_together plan read ≡ goes
        → (if not same then Err Garbled
        else or_fault read (if not names then Some NoNode else if not goes then Some Mixed else None)) ≡ Ok handset
        → IsStateFor plan handset words
    by-words false same names n goes g e = cc
    by-words true same false n goes g e = cc
    by-words true same true n false g e = cc
    by-words true same true n true g e =
        let is : read ≡ handset = cc in
        subst (λ it. IsStateFor plan it words) is (record {
          same = sym (same-words (words_of read) words same);
          goes = goes-from plan read lengths.addresses lengths.gathered lengths.trail lengths.numbered n g;
          sub = lengths.sub;
        })

pub states-only : ReadWordsAreStates
states-only plan words handset h =
    by-length (nat_lt (length words) (11 + 2 * levels_of plan)) refl h
  where
    by-length : (short : Bool) → nat_lt (length words) (11 + 2 * levels_of plan) ≡ short
        → (if short then Err Short else checked plan words (handset_from plan (take 11 words) (drop 11 words)))
        ≡ Ok handset → IsStateFor plan handset words
    by-length true is e = cc
    by-length false is e =
        let long : 11 + 2 * levels_of plan ≤ length words = grind (arith, nat_tests) in
        let rest : 2 * levels_of plan ≤ length (drop 11 words) = omega (arith, long, length-drop 11 words) in
        checked-is plan words (handset_from plan (take 11 words) (drop 11 words)) handset
        (lengths-of plan (take 11 words) (drop 11 words) rest) e

-- what comes of enough words is what comes of the handset that is read of them
pub whole : (plan : PlanData) (words head rest : List ℕ) (handset : HandsetData)
    (result : Result HandsetData StateRefusal) → 11 + 2 * levels_of plan ≤ length words → head ≡ take 11 words
    → rest ≡ drop 11 words → handset ≡ handset_from plan head rest
    → MatchResult result (λ it. checked plan words handset ≡ Ok it) (IsRefusalOf (checked plan words handset))
    → MatchResult result (λ it. state_of plan words ≡ Ok it) (IsRefusalOf (state_of plan words))
whole plan words head rest handset result long front back read came =
    let test : nat_lt (length words) (11 + 2 * levels_of plan) ≡ false = grind (arith, nat_tests) in
    let is : handset ≡ handset_from plan (take 11 words) (drop 11 words)
    = read ∙ (ap (λ h. handset_from plan h rest) front ∙ ap (handset_from plan (take 11 words)) back) in
    let same : state_of plan words ≡ checked plan words handset
    = rw test (ap (checked plan words) (sym is)) in
    subst (λ a. MatchResult result (λ it. a ≡ Ok it) (IsRefusalOf a)) (sym same) came

pub whole-goes : ReadWordsAreStates → (plan : PlanData) (words : List ℕ) (result : Result HandsetData StateRefusal)
    → MatchResult result (λ it. state_of plan words ≡ Ok it) (IsRefusalOf (state_of plan words))
    → IfOk result (GoesWith plan)
whole-goes only plan words (Ok handset) came = (only plan words handset came).goes
whole-goes only plan words (Err refusal) came = tt
