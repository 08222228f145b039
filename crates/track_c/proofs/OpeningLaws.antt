-- The puts of an opening are the directory's own opening, cell by cell.
use Rattle.std.proofs.Common.{◌≡◌, ◌≢◌, ℕ, zero, suc, ◌<◌, ◌≤◌, Bool, true, false, List, length, refl, sym, ap, subst, arith, inl, inr, ltb, eqb}
use Rattle.std.proofs.lemmas.Bool.{cases_Bool, eq-eqb, eqb-true, lt-ltb, ltb-true}
use Rattle.std.specs.Prelude.{Option, Some, None, if◌then◌else◌, slice_index}
use Rattle.entry_word.specs.declared.mark.PresenceMark.TheVariants.{Here}
use Rattle.entry_word.specs.declared.visit.Key.{Key}
use Rattle.entry_word.specs.declared.visit.Key.TheVariants.{Presence, Entry}
use Rattle.directory.specs.Keys.{key_sub, opening}
use Rattle.directory.specs.Settings.{Setting, levels}
use Rattle.directory.specs.Writes.{Write, entry_at, mark_at, write_key, write_word}
use Rattle.region_plan.specs.Plan.{PlanData, home, levels_of}
use Rattle.region_plan.specs.Settings.{setting_of}
use Rattle.track_c.specs.Openings.{IsOpened, opening_write}

-- what is there under a test
under-test : (b : Bool) (there found : Write) → (if b then Some there else None) ≡ Some found
    → (b ≡ true) × (there ≡ found)
under-test true there found e = (refl, cc)
under-test false there found e = cc

-- each put of an opening tells the opening's word of its cell
pub put-opening : (plan : PlanData) (starts : List ℕ) (sub index : ℕ) (write : Write)
    → 1 ≤ levels_of plan → sub < length starts
    → opening_write plan (slice_index starts sub) index ≡ Some write
    → write_word write ≡ opening (setting_of plan starts) (write_key sub write)
put-opening plan starts sub zero write some known is =
    let s : ℕ = slice_index starts sub in
    let same : mark_at s (Here 0) ≡ write = cc in
    let there : write_word (mark_at s (Here 0))
    ≡ opening (setting_of plan starts) (write_key sub (mark_at s (Here 0))) =
    rw (lt-ltb sub (length starts) known, eq-eqb s s refl) refl in
    subst (λ (w : Write). write_word w ≡ opening (setting_of plan starts) (write_key sub w)) same there
put-opening plan starts sub (suc level) write some known is =
    let s : ℕ = slice_index starts sub in
    let put : Write = entry_at level (home plan level s) (Some (record { number = 0; node = s })) in
    let found = under-test (ltb level (levels_of plan)) put write is in
    let low : level < levels_of plan = ltb-true level (levels_of plan) found.0 in
    let there : write_word put ≡ opening (setting_of plan starts) (write_key sub put) =
    rw (
      lt-ltb sub (length starts) known,
      lt-ltb level (levels (setting_of plan starts)) (omega (arith, low, some)),
      eq-eqb (home plan level s) (home plan level s) refl,
    )
    refl in
    subst (λ (w : Write). write_word w ≡ opening (setting_of plan starts) (write_key sub w)) found.1 there

-- and each cell that isn't 0 at the opening has its put
pub opening-put : (plan : PlanData) (starts : List ℕ) (key : Key) → 1 ≤ levels_of plan
    → key_sub key < length starts → opening (setting_of plan starts) key ≢ 0
    → IsOpened plan (slice_index starts (key_sub key)) key
opening-put plan starts (Presence node sub) some known full =
    let s : ℕ = slice_index starts sub in
    elim (cases_Bool (eqb node s)) [
      | inl same ↦ record {
        index = 0;
        write = mark_at s (Here 0);
        put = refl;
        cell = ap (λ (n : ℕ). Presence n sub) (sym (eqb-true node s same));
      }
      | inr other ↦ absurd (full (rw (lt-ltb sub (length starts) known, other) refl))
    ]
opening-put plan starts (Entry level cluster sub) some known full =
    let s : ℕ = slice_index starts sub in
    elim (cases_Bool (ltb level (levels (setting_of plan starts)))) [
      | inl low ↦ elim (cases_Bool (eqb cluster (home plan level s))) [
        | inl same ↦ record {
          index = suc level;
          write = entry_at level (home plan level s) (Some (record { number = 0; node = s }));
          put = rw (lt-ltb level (levels_of plan)
              (omega (arith, some, ltb-true level (levels (setting_of plan starts)) low)))
              refl;
          cell = ap (λ (c : ℕ). Entry level c sub)
              (sym (eqb-true cluster (home plan level s) same));
        }
        | inr other ↦ absurd (full (rw (lt-ltb sub (length starts) known, low, other) refl))
      ]
      | inr high ↦ absurd (full (rw (lt-ltb sub (length starts) known, high) refl))
    ]
