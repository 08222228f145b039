-- A worker after one try, and a new one.
use Rattle.std.proofs.Common.{◌≡◌, ◌≢◌, Bool, ℕ, suc, ◌+◌, ◌≤◌, ◌^◌, false, true, [], ◌∷◌, ◌++◌, length, refl, sym, ap, ◌∙◌, arith, append_assoc, length-append}
use Rattle.std.specs.Prelude.{◌↔◌, None, Some, Result, Ok, Err, OnOk, max}
use Rattle.std.specs.Result.{is_err}
use Rattle.std.specs.declared.alloc.AllocError.{AllocError}
use Rattle.std.proofs.Math.Nat.{le-max_right, max-le}
use Rattle.std.proofs.lemmas.List.{append-nil, length_push}
use Rattle.entry_word.specs.declared.visit.Visit.{Visit}
use Rattle.directory.specs.Histories.{own}
use Rattle.directory.specs.Keys.{act_node}
use Rattle.directory.specs.HistoryLaws.{front-append, front-itself, front-through}
use Rattle.directory.specs.Orders.{next}
use Rattle.directory.specs.Statements.{CallersKept}
use Rattle.distances.specs.Table.{DistanceTable}
use Rattle.net_reader.specs.Input.{Contents}
use Rattle.region_plan.specs.Plan.{PlanData}
use Rattle.scripts.specs.Scripts.{scripts_of}
use Rattle.station.specs.Passes.{IsPassOf, PassData, TrackerData, actor_of}
use Rattle.station.specs.Plays.{visit_by}
use Rattle.station.specs.Setup.{Setup, setting_in}
use Rattle.station.specs.TurnLaws.{logged-more, logged-none, logged-turn, lost-append}
use Rattle.station.specs.Turns.{lost_in}
use Rattle.station.specs.Visits.{HasLost, HasVisited}
use Rattle.station.specs.declared.turns.Held.{Held}
use Rattle.station.specs.declared.view.TurnEvent.TheVariants.{GivenBack, Lost, Won}
use Rattle.runner.specs.Playing.{HasLostNext, HasMadeNext, next_of}
use Rattle.runner.specs.PlayLaws.{own-none, played-next}
use Rattle.runner.specs.Roles.{IsPrepared, IsRole, IsRoleAt, IsSetFor, TriesVisit}
use Rattle.runner.specs.Workers.{HasGoneOn, HaveTurns, IsWorkerOf, MayPlay, MayServe, MayTry}
use Rattle.runner.proofs.Turning.{first_of, lost-none, next-first, turn-won, turns-append}
use Rattle.runner.specs.declared.role.Role.{Role}
use Rattle.runner.specs.declared.worker.Worker.{Worker}
use Rattle.station.specs.TicketLaws.{own-visited}

-- a visit is made
pub gone-made : CallersKept → {input : Contents} {tracker : TrackerData} {old : Worker} (new : Worker)
    → IsWorkerOf input tracker old → HasMadeNext input tracker.setup old.pass new.pass
    → IsRole input tracker.setup new.pass.view new.pass.spare new.role → new.made ≡ suc old.made
    → HasGoneOn input tracker old new 0 × (new.made ≡ old.made + 1)
gone-made kept {input} {tracker} {old} new its made role count =
    let visited : HasVisited old.pass made.act made.ticket new.pass = made.visited in
    let actor : actor_of new.pass ≡ actor_of old.pass = visited.same.actor in
    let mine = own-visited visited in
    let visit : Visit = visit_by old.pass.view made.act in
    let node = act_node (setting_in tracker.setup) made.act in (
      record {
        worker = record {
          of = record {
            table = visited.same.table ∙ its.of.table;
            setup = visited.same.setup ∙ its.of.setup;
          };
          outside = visited.outside;
          known = omega (arith, actor, its.known);
          played = rw actor (played-next kept input tracker.setup old.pass new.pass made its.played);
          made = omega (
            arith,
            count,
            its.made,
            ap length mine,
            length_push (own (actor_of old.pass) old.pass.view.seen) visit,
            ap (λ a. length (own a new.pass.view.seen)) actor,
          );
          few = omega (arith, count, visited.spare, its.few);
          role = role;
        };
        begins = front-through old.pass.view.seen visited.earlier new.pass.view.seen visited.begins
            (rw visited.seen (front-append visited.earlier (visit ∷ [])));
        same = visited.same;
        spare = omega (arith, count, visited.spare);
        visits = visit ∷ [];
        made = mine;
        events = Won (actor_of old.pass) node ∷ GivenBack (actor_of old.pass) node ∷ [];
        turns = turn-won (setting_in tracker.setup) (actor_of old.pass)
            (next_of input tracker.setup new.pass.view) visit;
        logged = logged-turn tracker.setup old.pass new.pass made.act made.ticket its.of.setup visited;
        count = refl;
      },
      omega (arith, count),
    )

-- a turn is lost
pub gone-held : {input : Contents} {tracker : TrackerData} {old : Worker} (new : Worker) {held : Held}
    → IsWorkerOf input tracker old → HasLostNext input tracker.setup old.pass held new.pass
    → IsRole input tracker.setup new.pass.view new.pass.spare new.role → new.made ≡ old.made
    → HasGoneOn input tracker old new 1 × (new.made ≡ old.made)
gone-held {input} {tracker} {old} new {held} its missed role count =
    let place = act_node (setting_in tracker.setup) missed.visit.act in
    let lost : HasLost old.pass place held new.pass = missed.lost in
    let turn = lost.turn in
    let event = Lost (actor_of old.pass) place (suc held.by) in
    let left : next_of input tracker.setup new.pass.view ≡ Some missed.visit = rw turn missed.is_next in
    let spare : new.pass.spare ≡ old.pass.spare = ap (λ (p : PassData). p.spare) turn in (
      record {
        worker = record {
          of = rw turn (record { table = its.of.table; setup = its.of.setup });
          outside = rw turn its.outside;
          known = rw turn its.known;
          played = rw turn its.played;
          made = rw (count, turn) its.made;
          few = omega (arith, count, spare, its.few);
          role = role;
        };
        begins = rw turn (front-itself old.pass.view.seen);
        same = rw turn (record { table = refl; seat = refl; setup = refl; actor = refl });
        spare = omega (arith, spare, count);
        visits = [];
        made = rw turn (sym (append-nil (own (actor_of old.pass) old.pass.view.seen)));
        events = event ∷ [];
        turns = rw left (suc held.by ∷ [], refl);
        logged = record {
          logs = (new.pass.view.turns, lost.logs, refl);
          lost = ap (λ (p : PassData). p.view.lost) turn;
        };
        count = refl;
      },
      count,
    )

-- a new worker
worker-new : {input : Contents} {plan : PlanData} {tracker : TrackerData} {pass : PassData} (new : Worker) (visits : ℕ)
    → MayServe input plan pass → IsPassOf tracker pass → IsRoleAt input plan (actor_of pass) visits new.role
    → visits ≤ new.pass.spare → new.pass.spare ≤ 2 ^ 56
    → new.pass ≡ record pass { spare = new.pass.spare } → new.made ≡ 0 → IsWorkerOf input tracker new
worker-new {input} {plan} {tracker} {pass} new visits may of role enough few same none =
    let set : IsSetFor input tracker.setup plan plan.distances = rw of.setup at may.set in
    let view = ap (λ (p : PassData). p.view) same in
    record {
      of = record {
        table = ap (λ (p : PassData). p.table) same ∙ of.table;
        setup = ap (λ (p : PassData). p.view.setup) same ∙ of.setup;
      };
      outside = ap (λ (p : PassData). p.view.inside) same ∙ may.outside;
      known = omega (arith, ap actor_of same, may.known);
      played = rw view
          (λ ticket visit at mine. absurd (own-none (actor_of pass) pass.view.seen ticket visit may.none at mine));
      made = none ∙ sym (ap (λ (p : PassData). length (own (actor_of p) p.view.seen)) same ∙ ap length may.none);
      few = omega (arith, none, few);
      role = rw view (role tracker.setup pass.view new.pass.spare set refl may.none may.bare enough);
    }

pub worker-reserved : {input : Contents} {plan : PlanData} {tracker : TrackerData} {pass : PassData}
    (reserved : PassData) (role : Role) (visits : ℕ) (result : Result (Unit {0}) AllocError) → MayServe input plan pass
    → IsPassOf tracker pass → IsRoleAt input plan (actor_of pass) visits role → visits ≤ 2 ^ 56 → is_err result ≡ false
    → OnOk result (reserved ≡ record pass { spare = max pass.spare visits })
    → IsWorkerOf input tracker (record { pass = reserved; made = 0; role = role })
worker-reserved {pass} reserved role visits (Ok done) may of its few fine room =
    let spare : reserved.spare ≡ max pass.spare visits = ap (λ (p : PassData). p.spare) room in
    worker-new (record { pass = reserved; made = 0; role = role }) visits may of its
    (omega (arith, spare, le-max_right pass.spare visits))
    (omega (arith, spare, max-le may.few few))
    (room ∙ ap (λ k. record pass { spare = k }) (sym spare)) refl
worker-reserved reserved role visits (Err e) may of its few fine room = cc

-- of a pass that has room made for it nothing else changes
pub pass-reserved : (pass reserved : PassData) (visits : ℕ) (result : Result (Unit {0}) AllocError)
    → is_err result ≡ false → OnOk result (reserved ≡ record pass { spare = max pass.spare visits })
    → reserved ≡ record pass { spare = reserved.spare }
pass-reserved pass reserved visits (Ok done) fine room =
    room ∙ ap (λ k. record pass { spare = k }) (sym (ap (λ (p : PassData). p.spare) room))
pass-reserved pass reserved visits (Err e) fine room = cc

-- a worker that is prepared
pub role-gone : {input : Contents} {tracker : TrackerData} {old : Worker} (role : Role) → IsWorkerOf input tracker old
    → IsRole input tracker.setup old.pass.view old.pass.spare role
    → HasGoneOn input tracker old (record old { role = role }) 0
role-gone {input} {tracker} {old} role its prepared = record {
  worker = record {
    of = its.of;
    outside = its.outside;
    known = its.known;
    played = its.played;
    made = its.made;
    few = its.few;
    role = prepared;
  };
  begins = front-itself old.pass.view.seen;
  same = record { table = refl; seat = refl; setup = refl; actor = refl };
  spare = refl;
  visits = [];
  made = sym (append-nil (own (actor_of old.pass) old.pass.view.seen));
  events = [];
  turns = lost-none (setting_in tracker.setup) (actor_of old.pass) (next_of input tracker.setup old.pass.view);
  logged = logged-none old.pass;
  count = refl;
}

-- the turns of a worker that has gone on, and on
turns-through : CallersKept → {input : Contents} {tracker : TrackerData} {old mid new : Worker} {held more : ℕ}
    → (one : HasGoneOn input tracker old mid held) → (two : HasGoneOn input tracker mid new more)
    → HaveTurns (setting_in tracker.setup) (actor_of old.pass) (next_of input tracker.setup new.pass.view)
    (one.visits ++ two.visits) (one.events ++ two.events)
turns-through kept {input} {tracker} {old} {mid} {new} one two =
    let setting = setting_in tracker.setup in
    let after = next_of input tracker.setup new.pass.view in
    let actor = actor_of old.pass in
    let mine : actor_of mid.pass ≡ actor = one.same.actor in
    let first : next_of input tracker.setup mid.pass.view ≡ first_of two.visits after =
    next-first kept setting (scripts_of input) (actor_of mid.pass) mid.pass.view.seen new.pass.view.seen two.visits
    two.begins two.made (rw two.same.actor at two.worker.played)
    ∙ ap (λ a. first_of two.visits (next setting (scripts_of input) new.pass.view.seen a)) (sym two.same.actor) in
    turns-append setting actor after one.visits two.visits one.events two.events (rw first at one.turns)
    (rw mine at two.turns)

-- a worker that has gone on, and on
pub gone-on : CallersKept → {input : Contents} {tracker : TrackerData} {old mid new : Worker} {held more all : ℕ}
    → HasGoneOn input tracker old mid held → HasGoneOn input tracker mid new more → all ≡ held + more
    → HasGoneOn input tracker old new all
gone-on kept {old} {mid} {new} one two sum =
    let actor = actor_of old.pass in
    record {
      worker = two.worker;
      begins = front-through old.pass.view.seen mid.pass.view.seen new.pass.view.seen one.begins two.begins;
      same = record {
        table = two.same.table ∙ one.same.table;
        seat = two.same.seat ∙ one.same.seat;
        setup = two.same.setup ∙ one.same.setup;
        actor = two.same.actor ∙ one.same.actor;
      };
      spare = omega (arith, one.spare, two.spare);
      visits = one.visits ++ two.visits;
      made = (rw one.same.actor at two.made) ∙ rw (one.made, append_assoc);
      events = one.events ++ two.events;
      turns = turns-through kept one two;
      logged = logged-more old.pass mid.pass new.pass one.events two.events one.logged two.logged;
      count = omega (
        arith,
        ap length (lost-append one.events two.events),
        length-append (lost_in one.events) (lost_in two.events),
        one.count,
        two.count,
        sum,
      );
    }

-- what was tried, by its result
pub tries-made : (input : Contents) (setup : Setup) (old new : PassData) (result : Result (Unit {0}) Held)
    → is_err result ≡ false → TriesVisit input setup old result new → HasMadeNext input setup old new
tries-made input setup old new (Ok done) h tries = tries
tries-made input setup old new (Err held) h tries = cc

pub tries-lost : (input : Contents) (setup : Setup) (old new : PassData) (result : Result (Unit {0}) Held)
    → is_err result ≡ true → TriesVisit input setup old result new
    → (held : Held) × HasLostNext input setup old held new
tries-lost input setup old new (Ok done) h tries = cc
tries-lost input setup old new (Err held) h tries = (held, tries)

-- a worker that has gone on, and is prepared
pub prepared-gone : CallersKept → {input : Contents} {tracker : TrackerData} {old mid : Worker} (role : Role) {held : ℕ}
    → HasGoneOn input tracker old mid held → IsRole input tracker.setup mid.pass.view mid.pass.spare role
    → HasGoneOn input tracker old (record mid { role = role }) held
prepared-gone kept role gone prepared = gone-on kept gone (role-gone role gone.worker prepared) (omega arith)

-- what preparing tells
abbrev pub Prepares : Contents → Setup → PassData → Role → Bool → Type 0
Prepares input setup pass role left =
    IsRole input setup pass.view pass.spare role × IsPrepared input setup pass.view role
    × ((left ≡ false) ↔ (next_of input setup pass.view ≡ None))

pub some-left : (input : Contents) (setup : Setup) (pass : PassData) (role : Role) {left : Bool} → left ≡ true
    → Prepares input setup pass role left → next_of input setup pass.view ≢ None
some-left input setup pass role still prepares none =
    let never : true ≡ false = sym still ∙ prepares.2.1 none in cc

-- so it may try
pub may-try : {input : Contents} {tracker : TrackerData} {plan : PlanData} {distances : DistanceTable} {mid : Worker}
    (role : Role) {left : Bool} → MayPlay input tracker plan distances mid → left ≡ true
    → Prepares input tracker.setup mid.pass role left
    → MayTry input tracker plan distances (record mid { role = role })
may-try {input} {tracker} {mid} role {left} may still prepares = record {
  may = record {
    set = may.set;
    worker_is = (role-gone role may.worker_is prepares.0).worker;
  };
  prepared = prepares.1;
  left = some-left input tracker.setup mid.pass role still prepares;
}

-- where the gate was closed nothing has changed
pub kept-gone : {input : Contents} {tracker : TrackerData} {old mid new : Worker} {held : ℕ}
    → HasGoneOn input tracker old mid held → new ≡ mid → HasGoneOn input tracker old new held
kept-gone gone same = rw same gone

pub kept-may : {input : Contents} {tracker : TrackerData} {plan : PlanData} {distances : DistanceTable}
    {mid new : Worker} (role : Role) → MayPlay input tracker plan distances mid
    → IsRole input tracker.setup mid.pass.view mid.pass.spare role → new ≡ record mid { role = role }
    → MayPlay input tracker plan distances new
kept-may role may prepared same =
    rw same (record { set = may.set; worker_is = (role-gone role may.worker_is prepared).worker })
