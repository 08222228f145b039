use Rattle.std.proofs.Common.{◌≡◌, ◌<◌, ◌≤◌, ◌+◌, ◌-◌, ℕ, false, suc, [], Some, ap, subst, sym, arith, refl, ◌∙◌, length, get_or, add-one}
use Rattle.std.specs.Prelude.{min}
use Rattle.std.proofs.Math.Nat.{min-le_left, min-le_right}
use Rattle.handset.specs.Entries.{EntryWrite, at_entry, entry_write}
use Rattle.handset.specs.Condition.{GoesWith, HandsetData}
use Rattle.handset.specs.NextEntries.{IsNextEntry, renewals_from}
use Rattle.handset.specs.declared.entries.EntryStage.TheVariants as entries
use Rattle.handset.specs.declared.entries.Renewals.{Renewals}
use Rattle.region_plan.specs.Plan.{PlanData, home, levels_of}
use Rattle.region_plan.specs.Settings.{setting_of}
use Rattle.std.proofs.lemmas.List.{length_push}
use Rattle.visit_log.specs.Homes.{home_place}
use Rattle.machine.specs.Owed.{IsAhead}
use Rattle.machine.proofs.Owing.{at-stage, entry-ahead, renewal-at, ahead-more, ahead-none}
use Rattle.machine.proofs.ahead.push_renewals.Goals as goal

-- a level that is renewed is one of the plan's
level-low : {plan : PlanData} {handset : HandsetData} {renewals : Renewals} (at room : ℕ) {most : ℕ}
    → GoesWith plan handset → renewals ≡ renewals_from handset renewals.level
    → most ≡ min room (renewals.end - renewals.level) → renewals.level ≤ at → at < renewals.level + most
    → (at < handset.last.renewed) × (at < levels_of plan)
level-low {handset} {renewals} at room goes they few from to = grind (arith, min-le_right)

pub loop-level-init : goal.loop-level-init
loop-level-init c = grind (arith, at-stage, min-le_left, ahead-none)

pub bounds-places-level : goal.bounds-places-level
bounds-places-level c = grind (arith, level-low)

pub loop-level-preserved : goal.loop-level-preserved
loop-level-preserved c =
    let plan = c.args.plan.now in
    let handset = c.args.handset.now in
    let at : ℕ = c.loop-level.level in
    let write : EntryWrite = record {
      level = at;
      cluster = home plan at handset.last.to;
      word = c.args.renewals.word;
      next = entries.Renewing (suc at);
    } in
    let low = level-low at (c.capacity.result - c.len.result) c.requires.goes c.requires.they c.min.ensures
    c.loop-level.auto.level c.loop-level-test.true in
    let place : ℕ = get_or c.of-places.result.now at 0 in
    let node : c.args.renewals.node ≡ handset.last.to = ap (λ (r : Renewals). r.node) c.requires.they in
    let there : place ≡ home_place plan handset.last.to at = grind arith in
    let is : entry_write (setting_of plan []) handset (entries.Renewing at) ≡ Some write =
    renewal-at plan handset at low.0 refl (sym (ap (λ (r : Renewals). r.word) c.requires.they))
    in
    let its : IsNextEntry plan handset (entries.Renewing at) write =
    c.entry_writes_are_next.ensures plan handset (entries.Renewing at) write c.plan_is_sound.ensures.sound
    c.loop-level.invariant.goes is
    in
    record {
      goes = rw (add-one at) its.goes;
      fits = omega (
        arith,
        c.loop-level.invariant.fits,
        c.loop-level-test.true,
        c.push_reserved.ensures.capacity,
        ap length c.push_reserved.ensures.items,
        length_push c.loop-level.ahead.items (record {
          place = place;
          commits = false;
          word = c.args.renewals.word;
        }),
      );
      ahead = λ subs known. rw (add-one at)
          (ahead-more c.push_reserved.new.self (c.loop-level.invariant.ahead subs known)
          (entry-ahead handset.last.to c.plan_is_sound.ensures.matched its known low.1 c.requires.goes.to refl there
          refl) c.push_reserved.ensures.items c.push_reserved.ensures.capacity);
    }

pub returns : goal.returns
returns c = λ subs known.
    let last : c.loop-level.level ≡ c.args.renewals.level + c.min.result = grind arith in
    subst (λ h. IsAhead c.args.plan.now subs c.args.handset.now h c.args.ahead.now c.loop-level.ahead)
    (ap (λ n. at_entry c.args.handset.now (entries.Renewing n)) last ∙ sym c.go_to.ensures)
    (c.loop-level.invariant.ahead subs known)
