-- The climb past an entry that holds nothing: how heavy it is, and what it leaves.
use Rattle.std.proofs.Common.{◌≡◌, ℕ, suc, ◌+◌, ◌*◌, ◌^◌, ◌<◌, ◌≤◌, [], ◌++◌, length, drop, refl, sym, ap, ◌∙◌, subst, arith, inl, inr}
use Rattle.std.specs.Prelude.{None}
use Rattle.std.proofs.lemmas.Bool.{cases_lt, le-ltb, lt-ltb}
use Rattle.directory.specs.Finds.{FindCall, after_word, climb as climb_pursuit}
use Rattle.region_plan.specs.Plan.{PlanData, levels_of, readers}
use Rattle.region_plan.specs.Kept.{IsKept}
use Rattle.region_plan.specs.Matched.{IsMatched, IsWithinReach}
use Rattle.region_plan.specs.Settings.{setting_of}
use Rattle.walk.specs.declared.progress.Climb.{Climb}
use Rattle.walk.specs.Climbs.{ClimbsGoOn, GoesOn, IsClimbOver, PassesEntry, cluster_at, next_climb, progress_of, walk-over, walk_at, weight_behind}
use Rattle.region_plan.specs.ReaderLaws.{reader-held, readers-few, readers-some, way-light}
use Rattle.walk.specs.Walks.{IsWalkOver, WalkData, readers_above, readers_at, pursuit_at}
use Rattle.walk.proofs.Readers.{above-more, answer-climbing, next-climbing, readers-spent, word-climbing}

module _ (plan : PlanData) (climb : Climb) (kept : IsKept plan) (matched : IsMatched plan)
    (reached : IsWithinReach plan) (over : IsClimbOver plan climb)
    (up : (next_climb plan climb).level < levels_of plan) where
  abbrev reader_count : ℕ
  reader_count = length (readers plan climb.level climb.from)

  -- it stays at its level, or comes to the one above
  next-within : suc climb.index < reader_count
      → next_climb plan climb ≡ record climb { weight = weight_behind plan climb; index = suc climb.index }
  next-within low = rw (lt-ltb (suc climb.index) reader_count low) refl

  next-above : reader_count ≤ suc climb.index
      → next_climb plan climb ≡ record climb { weight = weight_behind plan climb; level = suc climb.level; index = 0 }
  next-above high = rw (le-ltb (suc climb.index) reader_count high) refl

  -- as light as its place says
  next-light : weight_behind plan climb ≤ (climb.level * 1024 + suc climb.index) * 2 ^ 36
  next-light =
      let held =
      reader-held plan climb.level climb.from climb.index matched over.progress.0 over.from over.progress.1 in
      omega (
        arith,
        over.progress.2,
        way-light plan climb.level (cluster_at plan climb) climb.from kept reached over.progress.0 held.1 held.0,
      )

  -- and goes with its plan
  next-over : IsClimbOver plan (next_climb plan climb)
  next-over = elim (cases_lt (suc climb.index) reader_count) [
    | inl low ↦ subst (IsClimbOver plan) (sym (next-within low))
        (record { from = over.from; progress = (over.progress.0, low, next-light) })
    | inr high ↦
        let there : suc climb.level < levels_of plan =
        subst (λ (c : Climb). c.level < levels_of plan) (next-above high) up in
        subst (IsClimbOver plan) (sym (next-above high)) (record {
          from = over.from;
          progress = (
            there,
            readers-some plan (suc climb.level) climb.from matched there over.from,
            omega (
              arith,
              next-light,
              over.progress.1,
              readers-few plan climb.level climb.from matched kept over.progress.0 over.from,
            ),
          );
        })
  ]

  -- from the same node
  next-from : (next_climb plan climb).from ≡ climb.from
  next-from = elim (cases_lt (suc climb.index) reader_count) [
    | inl low ↦ ap (λ (c : Climb). c.from) (next-within low)
    | inr high ↦ ap (λ (c : Climb). c.from) (next-above high)
  ]

  -- what is left behind the entry
  next-pursuit : (sub : ℕ)
      → (let call : FindCall = record { from = climb.from; sub = sub } in
      pursuit_at (setting_of plan []) climb.from (progress_of (next_climb plan climb))
      ≡ after_word (setting_of plan []) call (pursuit_at (setting_of plan []) climb.from (progress_of climb)) 0)
  next-pursuit sub =
      let call : FindCall = record { from = climb.from; sub = sub } in
      let left = drop (suc climb.index) (readers_at (setting_of plan []) climb.from climb.level) in
      let later = readers_above (setting_of plan []) climb.from (suc climb.level) in
      let read : climb_pursuit climb.known (weight_behind plan climb) (left ++ later)
      ≡ after_word (setting_of plan []) call (pursuit_at (setting_of plan []) climb.from (progress_of climb)) 0 =
      sym (word-climbing plan climb.from sub climb.known climb.weight climb.level climb.index 0 None over.progress.1
      refl)
      in
      elim (cases_lt (suc climb.index) reader_count) [
        | inl low ↦
            ap (λ c. pursuit_at (setting_of plan []) climb.from (progress_of c)) (next-within low) ∙ read
        | inr high ↦
            let there : suc climb.level < levels_of plan =
            subst (λ (c : Climb). c.level < levels_of plan) (next-above high) up in
            ap (λ c. pursuit_at (setting_of plan []) climb.from (progress_of c)) (next-above high)
            ∙ (ap (climb_pursuit climb.known (weight_behind plan climb))
            (sym (above-more (setting_of plan []) climb.from (suc climb.level) (omega (arith, there, matched.some))))
            ∙ (ap (λ rs. climb_pursuit climb.known (weight_behind plan climb) (rs ++ later))
            (sym (readers-spent (setting_of plan []) climb.from climb.level (suc climb.index) (omega (arith, high))))
            ∙ read))
      ]

  -- by a walk from the same node
  passes-own : (walk : WalkData) → PassesEntry plan (record walk { from = climb.from }) climb
  passes-own walk =
      let own : WalkData = record walk { from = climb.from } in
      let next : Climb = next_climb plan climb in
      let there : IsWalkOver plan (walk_at own next) = walk-over plan own next next-from next-over in
      record {
        key = sym (next-climbing plan (walk_at own climb) climb.known climb.weight climb.level climb.index
            (cluster_at plan climb) refl (walk-over plan own climb refl over) refl);
        pursuit = next-pursuit walk.sub;
        on = sym (answer-climbing plan climb.from (progress_of next) next.known next.weight next.level next.index refl
            there.progress);
        over = there;
      }

  goes-on : GoesOn plan climb
  goes-on = record {
    over = next-over;
    from = next-from;
    passes = λ walk same.
        subst (λ from. PassesEntry plan (record walk { from = from }) climb) same (passes-own walk);
  }

pub climbs-go-on : ClimbsGoOn
climbs-go-on plan climb kept matched reached over up = goes-on plan climb kept matched reached over up
