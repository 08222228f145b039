-- How far a walk over the tracker has come.
use Rattle.std.proofs.Common.{◌≡◌, ℕ, ◌<◌, ◌≤◌, List, [], ◌∷◌, ◌++◌, Some, None, length, refl, sym, ap, ◌∙◌, subst, arith}
use Rattle.std.specs.Prelude.{flat_map, slice_get}
use Rattle.std.proofs.lemmas.List.{length-take}
use Rattle.busy_finds.specs.Plans.{PlanFindsAreBounded}
use Rattle.entry_word.specs.declared.visit.Key.{Key}
use Rattle.entry_word.specs.declared.visit.Act.TheVariants.{Look}
use Rattle.directory.specs.Settings.{Setting}
use Rattle.directory.specs.Keys.{key_node}
use Rattle.directory.specs.Histories.{History, IsFront, before, cell, words_at}
use Rattle.directory.specs.Finds.{FindCall, after_word, at_origin, ended, find, key_of, looks_left, most_looks}
use Rattle.directory.specs.Looks.{AreLooks, IsFind, last_of, look_by}
use Rattle.directory.specs.declared.answers.Found.{Found}
use Rattle.distances.specs.Table.{DistanceTable}
use Rattle.region_plan.specs.Matched.{IsMatched}
use Rattle.region_plan.specs.Plan.{PlanData}
use Rattle.station.specs.Passes.{PassData, TrackerData, actor_of}
use Rattle.station.specs.Setup.{Setup, nodes_in, setting_in, subs_in}
use Rattle.stretch_laws.specs.Plans.{PlanFindsAreNear}
use Rattle.trail_laws.specs.Rightness.{AnswersAreRight, QuietFindsAnswer}
use Rattle.walk.specs.Walks.{IsWalkOver, WalkData, call_of, pursuit_of}
use Rattle.handset.specs.Condition.{HandsetData}
use Rattle.station.specs.Handsets.{HandsetStays}
use Rattle.station.specs.StayLaws.{handset-stays-on, handset-visited}
use Rattle.station.specs.Visits.{HasVisited}
use Rattle.station.specs.declared.turns.Held.{Held}
use Rattle.station.specs.Walking.{HasLookedOn, HasLostLook, MayWalkOn}
use Rattle.tracker_calls.specs.Added.{HasAdded, HasTried, KeepsHandsets}
use Rattle.tracker_calls.specs.Finds.{HasFound}
use Rattle.tracker_calls.proofs.Adding.{added-more, added-none, last-push, tried-again, visited-front}
use Rattle.tracker_calls.proofs.Longer.{get-last}
use Rattle.tracker_calls.proofs.Looks.{looks-more}
use Rattle.tracker_calls.proofs.Stepping.{own-tried}
use Rattle.tracker_calls.proofs.Rightly.{looked-once, tells-rightly}
use Rattle.directory.specs.ListLaws.{same_some}
use Rattle.directory.specs.Statements.{LooksFall, BeginsWithItself, BeginsWithFront, BeginsThrough}

-- the looks so far, the walk that stands for their words, and room for all that are left
pub record IsWalked (setup : Setup) (begun : PassData) (call : FindCall) (pass : PassData)
    (walk : WalkData) : Type 0 where
  pub made : List ℕ
  pub added : HasAdded setup begun made pass
  pub keeps : KeepsHandsets setup begun pass
  pub looks : AreLooks (setting_in setup) pass.view.seen (actor_of begun) call 0 at_origin made
  pub pursuit : pursuit_of setup.plan walk
      ≡ find (setting_in setup) call (flat_map (words_at (setting_in setup) pass.view.seen) made)
  pub late : 1 ≤ length made → length begun.view.seen ≤ last_of made
  pub goes : IsWalkOver setup.plan walk
  pub its : call_of walk ≡ call
  pub room : looks_left (setting_in setup) call (pursuit_of setup.plan walk) ≤ pass.spare

-- a handset goes on over a look, and over lost turns
seen-on : {setup : Setup} {pass new : PassData} {key : Key} {ticket : ℕ} → pass.view.setup ≡ setup
    → HasVisited pass (Look key) ticket new → {handset : HandsetData}
    → HandsetStays setup pass.view new.view handset
seen-on {pass} {new} {key} {ticket} told visited {handset} =
    subst (λ (s : Setup). HandsetStays s pass.view new.view handset) told
    (handset-visited pass (Look key) ticket new handset refl visited)

-- turns that are lost before a look are lost at its node
pub tried-look : {setup : Setup} {begun pass new : PassData} {first walk moved : WalkData} {held : Held} {key : Key}
    → key_of (call_of first) (pursuit_of setup.plan first) ≡ Some key → walk ≡ first
    → HasTried (key_node (setting_in setup) key) begun pass → HasLostLook setup pass walk held new moved
    → HasTried (key_node (setting_in setup) key) begun new
tried-look {setup} {pass} {new} {first} {held} {key} wanted same tried on =
    let its : key_of (call_of first) (pursuit_of setup.plan first) ≡ Some on.key =
    rw (← same) on.wanted in
    tried-again tried (rw (same_some (sym its ∙ wanted)) at on.lost)

-- and the walk may still go on
pub walk-held : {tracker : TrackerData} {plan : PlanData} {distances : DistanceTable} {pass new : PassData}
    {walk moved : WalkData} {held : Held} → MayWalkOn tracker plan distances pass walk
    → HasLostLook tracker.setup pass walk held new moved → MayWalkOn tracker plan distances new moved
walk-held {tracker} {plan} {distances} {new} {walk} way on =
    rw (on.same, on.lost.turn) assumption

no-looks : (setting : Setting) (history : History) (actor : ℕ) (call : FindCall)
    → AreLooks setting history actor call 0 at_origin []
unfolding AreLooks
no-looks setting history actor call = tt

pub walked-first : BeginsWithItself → (setup : Setup) (pass : PassData) {walk : WalkData} → IsWalkOver setup.plan walk
    → pursuit_of setup.plan walk ≡ at_origin → pass.view.inside ≡ None
    → most_looks (setting_in setup) walk.from ≤ pass.spare → IsWalked setup pass (call_of walk) pass walk
walked-first itself setup pass {walk} goes origin outside room =
    record {
      made = [];
      added = added-none itself setup pass outside;
      keeps = λ handset its. (its, refl);
      looks = no-looks (setting_in setup) pass.view.seen (actor_of pass) (call_of walk);
      pursuit = origin;
      late = λ h. absurd (omega (arith, h));
      goes = goes;
      its = refl;
      room = rw origin room;
    }

front-short : (xs zs : History) → IsFront xs zs → length xs ≤ length zs
front-short xs zs front = omega (arith, ap length front, length-take (length xs) zs)

-- one look more, after turns that were lost at its node
pub walked-on : BeginsWithFront → BeginsThrough → LooksFall → {setup : Setup} {begun : PassData} {call : FindCall}
    {pass tried new : PassData} {walk moved : WalkData} {ticket : ℕ} → pass.view.setup ≡ setup
    → (at : IsWalked setup begun call pass walk) → (looked : HasLookedOn setup tried walk ticket new moved)
    → HasTried (key_node (setting_in setup) looked.key) pass tried → IsWalked setup begun call new moved
walked-on longer through fall {setup} {begun} {call} {pass} {tried} {new} {walk} {moved} {ticket} told at looked lost =
    let setting : Setting = setting_in setup in
    let key = looked.key in
    let visited = looked.visited in
    let setups : tried.view.setup ≡ setup = ap (λ (q : PassData). q.view.setup) lost.is ∙ told in
    let seen : tried.view.seen ≡ pass.view.seen = ap (λ (q : PassData). q.view.seen) lost.is in
    let mine : actor_of tried ≡ actor_of begun = ap actor_of lost.is ∙ at.added.same.actor in
    let visit = look_by (actor_of tried) key in
    let front : IsFront pass.view.seen new.view.seen = rw (← seen) (visited-front longer through visited) in
    let late : length pass.view.seen ≤ ticket =
    omega (arith, visited.count, front-short tried.view.seen visited.earlier visited.begins, ap length seen) in
    let last : slice_get new.view.seen ticket ≡ Some visit =
    grind (arith, get-last) in
    let wants : key_of call (pursuit_of setup.plan walk) ≡ Some key = rw (← at.its) looked.wanted in
    let more = looks-more setting pass.view.seen new.view.seen (actor_of begun) call ticket front late
    (subst (λ a. slice_get new.view.seen ticket ≡ Some (look_by a key)) mine last) at.made 0 at_origin (omega arith)
    at.looks (subst (λ s. key_of call s ≡ Some key) at.pursuit wants) in
    let word = cell setting (before ticket new.view.seen) key in
    let pursuit : pursuit_of setup.plan moved ≡ after_word setting call (pursuit_of setup.plan walk) word =
    looked.pursuit ∙ ap (λ c. after_word setting c (pursuit_of setup.plan walk) word) at.its in
    record {
      made = at.made ++ ticket ∷ [];
      added = added-more longer through told at.added lost visited;
      keeps = λ handset. handset-stays-on (handset-stays-on (at.keeps handset) (own-tried lost))
          (seen-on setups visited);
      looks = more.0;
      pursuit = pursuit ∙ (ap (λ s. after_word setting call s word) at.pursuit ∙ sym more.1);
      late = λ some. grind (arith, last-push, late, front-short);
      goes = looked.goes;
      its = looked.call ∙ at.its;
      room = grind (arith, pursuit);
    }

-- a walk that has its answer has made its find
pub walked-out : AnswersAreRight → QuietFindsAnswer → PlanFindsAreNear → PlanFindsAreBounded
    → {setup : Setup} {begun : PassData} {call : FindCall} {pass : PassData} {walk : WalkData} (found : Found)
    → IsMatched setup.plan → call.from < nodes_in setup → call.sub < subs_in setup → IsWalked setup begun call pass walk
    → pursuit_of setup.plan walk ≡ ended found → HasFound setup begun call found pass
walked-out answers answer near priced {setup} {begun} {call} {pass} found matched from known at ends =
    let all = sym at.pursuit ∙ ends in
    let some : 1 ≤ length at.made = looked-once (setting_in setup) pass.view.seen call found at.made all in
    let its : IsFind (setting_in setup) pass.view.seen (actor_of begun) call found at.made =
    record { looks = at.looks; answer = all } in
    record {
      made = at.made;
      added = at.added;
      keeps = at.keeps;
      find = its;
      tells = tells-rightly answers answer near priced setup begun matched from (at.added.legal some call.sub known) its
          at.added.begins (at.late some);
    }
