-- A whole move so far, with the tickets that its answer tells.
use Rattle.std.proofs.Common.{◌≡◌, ℕ, suc, ◌+◌, ◌^◌, ◌≤◌, Bool, false, None, take, Option, Some, [], ◌∷◌, ◌++◌, List, length, refl, sym, ap, ◌∙◌, arith, length-append}
use Rattle.std.specs.List.{cons_option}
use Rattle.std.specs.Option.{is_some}
use Rattle.std.specs.Prelude.{if◌then◌else◌}
use Rattle.std.proofs.lemmas.List.Elements.{filter_map-append}
use Rattle.std.proofs.lemmas.List.{get_or_append_left}
use Rattle.entry_word.specs.declared.visit.Visit.{Visit}
use Rattle.directory.specs.Histories.{own, puts_to}
use Rattle.directory.specs.Keys.{act_node}
use Rattle.directory.specs.Puts.{mark_put, node_put}
use Rattle.directory.specs.Standing.{Commit, commit_of}
use Rattle.directory.specs.Writes.{visits}
use Rattle.directory.specs.Looks.{first_of, last_of}
use Rattle.handset.specs.Beginning.{begin_move, is_rest, journey_to}
use Rattle.handset.specs.Condition.{GoesWith, HandsetData}
use Rattle.handset.specs.StepWrites.{due}
use Rattle.handset.specs.Stands.{commits_in, is_commit}
use Rattle.region_plan.specs.Plan.{PlanData, nodes_of}
use Rattle.region_plan.specs.Settings.{setting_of}
use Rattle.station.specs.Handsets.{IsHandsetOf}
use Rattle.station.specs.Passes.{PassData, actor_of}
use Rattle.station.specs.Setup.{Setup, nodes_in, setting_in}
use Rattle.station.specs.declared.view.View.{View}
use Rattle.tracker_calls.specs.Added.{HasAdded, HasTried}
use Rattle.tracker_calls.specs.Moves.{HasStepped}
use Rattle.tracker_calls.specs.WholeMoves.{HasMoved}
use Rattle.tracker_calls.specs.declared.whole_moves.Moved.{Moved}
use Rattle.tracker_calls.proofs.Adding.{added-more, last-push}
use Rattle.tracker_calls.proofs.Moving.{HasPut, none-rests, put-all, put-more, put-tried, some-busy}
use Rattle.tracker_calls.proofs.Timing.{IsTimed, is_early, timed-as, timed-first, timed-next}
use Rattle.directory.specs.Statements.{BeginsWithFront, BeginsThrough}
use Rattle.handset.specs.StageLaws.{rest-means}

pub record IsMoving (setup : Setup) (begun : PassData) (from : HandsetData) (to : ℕ) (times : Moved)
    (pass : PassData) (handset : HandsetData) : Type 0 where
  pub made : List ℕ
  pub put : HasPut setup begun from to made pass handset
  pub added : HasAdded setup begun made pass
  pub timed : IsTimed (journey_to (setting_in setup) from to) from.number handset made times.commit
  pub number : times.number ≡ suc from.number
  pub first : times.first ≡ first_of made
  pub last : times.last ≡ last_of made
  pub some : 1 ≤ length made

-- the number of a handset after a put
number-next : {setup : Setup} {old new : PassData} {handset moved : HandsetData} {ticket : ℕ}
    → (stepped : HasStepped setup old handset ticket new moved) → IsHandsetOf setup old.view handset
    → moved.number ≡ (if is_commit stepped.visit.act then suc handset.number else handset.number)
number-next {setup} {old} {new} {handset} {moved} stepped its =
    let goes = stepped.goes_on its in
    let visit = stepped.visit in
    let puts = puts_to (actor_of old) old.view.seen in
    let before : handset.number ≡ length (commits_in puts) = shown setup old.view handset its in
    let after : moved.number ≡ length (commits_in (puts ++ visit ∷ [])) = shown setup new.view moved goes.own
    ∙ ap (λ l. length (commits_in l)) goes.puts in
    counted (commit_of (node_put visit.act) (mark_put visit.act))
    (after ∙ (ap length (filter_map-append (λ (v : Visit). commit_of (node_put v.act) (mark_put v.act)) puts
    (visit ∷ []))
    ∙ (length-append (commits_in puts) (commits_in (visit ∷ []))
    ∙ ap (λ n. n + length (commits_in (visit ∷ []))) (sym before))))
  where
    shown : (setup : Setup) (view : View) (handset : HandsetData) → (its : IsHandsetOf setup view handset)
        → handset.number ≡ length (commits_in (puts_to view.low view.seen))
    shown setup view handset its = its.stands.shows.number
        ∙ ap (λ l. length (commits_in l)) (ap (λ a. take (length (puts_to view.low view.seen))
        (visits (setting_in setup) a its.steps)) its.sub ∙ sym its.made)

    counted : (o : Option Commit) → moved.number ≡ handset.number + length (cons_option o [])
        → moved.number ≡ (if is_some o then suc handset.number else handset.number)
    counted o e = grind arith

-- a put, with the ticket of the commit
timed-step : {setup : Setup} {begun : PassData} {from : HandsetData} {to commit : ℕ} {made : List ℕ}
    {tried new : PassData} {handset moved : HandsetData} {ticket : ℕ} → HasPut setup begun from to made tried handset
    → (stepped : HasStepped setup tried handset ticket new moved) → IsTimed (journey_to (setting_in setup) from to)
    from.number handset made commit → IsTimed (journey_to (setting_in setup) from to) from.number moved
    (made ++ ticket ∷ []) (if is_commit stepped.visit.act then ticket else commit)
timed-step {setup} {from} {to} {commit} {made} {handset} {ticket} at stepped timed =
    let move = journey_to (setting_in setup) from to in
    let busy : is_rest handset.stage ≡ false = some-busy (setting_in setup) handset (ap is_some stepped.next) in
    rw stepped.made
    (timed-next (setting_in setup) (nodes_in setup) ticket refl at.its.goes.stage busy timed
    (is_commit stepped.visit.act)
    (sym (ap (λ h. h.number) stepped.made) ∙ number-next stepped at.its))

-- the first put of a move
pub moving-first : BeginsWithFront → BeginsThrough → {setup : Setup} {begun : PassData} {from : HandsetData} {to : ℕ}
    {tried new : PassData} {handset moved : HandsetData} {ticket : ℕ} → begun.view.setup ≡ setup
    → HasAdded setup begun [] begun → HasPut setup begun from to [] begun handset
    → handset ≡ begin_move (setting_in setup) from to → (stepped : HasStepped setup tried handset ticket new moved)
    → HasTried (act_node (setting_in setup) stepped.visit.act) begun tried → IsMoving setup begun from to
    (record { number = suc from.number; first = ticket; commit = ticket; last = ticket }) new moved
moving-first longer through {setup} {from} {to} {handset} {ticket} told added none is stepped lost =
    let at = put-tried lost none in
    record {
      made = ticket ∷ [];
      put = put-more at stepped;
      added = added-more longer through told added lost stepped.visited;
      timed = grind (arith, timed-as, some-busy, timed-first, is_early);
      number = refl;
      first = refl;
      last = refl;
      some = omega arith;
    }

-- and one put more, by whether the code tells that it commits
pub moving-by : BeginsWithFront → BeginsThrough → {setup : Setup} {begun : PassData} {from : HandsetData} {to : ℕ}
    {times : Moved} {pass tried new : PassData} {handset moved : HandsetData} {ticket : ℕ} → begun.view.setup ≡ setup
    → (moving : IsMoving setup begun from to times pass handset)
    → (stepped : HasStepped setup tried handset ticket new moved)
    → HasTried (act_node (setting_in setup) stepped.visit.act) pass tried → {commits told : Bool}
    → nodes_in setup ≤ 2 ^ 16 → ((plan : PlanData) (visit : Visit) → nodes_of plan ≤ 2 ^ 16 → GoesWith plan handset
    → due (setting_of plan []) handset ≡ Some visit → commits ≡ is_commit visit.act) → commits ≡ told
    → IsMoving setup begun from to
    (record times { commit = if told then ticket else times.commit; last = ticket }) new moved
moving-by longer through {setup} {ticket} told moving stepped lost small tells same =
    let made = moving.made in
    let at = put-tried lost moving.put in
    let is = sym same ∙ tells setup.plan stepped.visit small moving.put.its.goes stepped.next in
    record {
      made = made ++ ticket ∷ [];
      put = put-more at stepped;
      added = added-more longer through (moving.put.same.setup ∙ told) moving.added lost stepped.visited;
      timed = rw is (timed-step at stepped moving.timed);
      number = moving.number;
      first = moving.first ∙ sym (get_or_append_left made (ticket ∷ []) 0 0 moving.some);
      last = sym (last-push made ticket);
      some = omega (arith, length-append made (ticket ∷ []));
    }

-- a move that has nothing left is made
pub moving-out : {setup : Setup} {begun : PassData} {from : HandsetData} {to : ℕ} {times : Moved} {pass : PassData}
    {handset : HandsetData} → IsMoving setup begun from to times pass handset → due (setting_in setup) handset ≡ None
    → HasMoved setup begun from to times pass handset
moving-out {setup} {begun} {handset} moving none =
    let put = moving.put in
    let rests = none-rests (setting_in setup) handset (ap is_some none) in
    let all = put-all put rests in
    let count = sym put.count ∙ ap length all in
    let visits = put.visits_are ∙ ap (λ l. own (actor_of begun) begun.view.seen ++ l) all in
    let commit = (moving.timed.late (ap is_early (rest-means handset.stage rests))).0 in
    search put.goes_on

-- nothing is due where the code reads no next put
pub none-due : (setup : Setup) {plan : PlanData} (handset : HandsetData) {next : Option Visit} → plan ≡ setup.plan
    → next ≡ due (setting_of plan []) handset → is_some next ≡ false → due (setting_in setup) handset ≡ None
none-due setup handset {next} same is none =
    grind arith
