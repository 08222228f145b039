-- The writes that a subscriber has ahead: one more of them, those of the entries of a move, as loops over its levels
-- find them, and one that goes into its cell.
use Rattle.std.proofs.Common.{◌≡◌, ℕ, suc, ◌<◌, false, List, [], ◌∷◌, ◌++◌, length, drop, get_or, refl, sym, ap, ◌∙◌, subst, arith, drop-cons, ◌+◌, ◌-◌, ◌≤◌, Bool, true, Some}
use Rattle.std.specs.Prelude.{vec_capacity}
use Rattle.std.specs.Global.{Vec}
use Rattle.std.proofs.lemmas.List.{length_push}
use Rattle.entry_word.specs.declared.visit.Act.TheVariants.{Put}
use Rattle.entry_word.specs.declared.visit.Key.{Key}
use Rattle.directory.specs.Histories.{History}
use Rattle.region_plan.specs.Plan.{PlanData, home, levels_of, nodes_of}
use Rattle.handset.specs.Condition.{GoesWith, HandsetData}
use Rattle.visit_log.specs.Cells.{CellData, GoWith, Hold, IsPlaceOf}
use Rattle.machine.specs.declared.ahead.Ahead.{Ahead}
use Rattle.machine.specs.Owed.{HasCome, HasPut, IsAhead, IsNextAhead, MayPut, Owes}
use Rattle.entry_word.specs.Addresses.{address_word}
use Rattle.region_plan.specs.Settings.{setting_of}
use Rattle.handset.specs.Entries.{at_entry, entry_write, stage_at, EntryWrite, entry_put}
use Rattle.handset.specs.StepWrites.{first_with}
use Rattle.handset.specs.declared.entries.EntryStage.{EntryStage}
use Rattle.handset.specs.declared.entries.EntryStage.TheVariants as entries
use Rattle.entry_word.specs.declared.visit.Key.TheVariants.{Entry}
use Rattle.handset.specs.NextEntries.{IsNextEntry}
use Rattle.region_plan.specs.Matched.{IsMatched}
use Rattle.visit_log.specs.Homes.{home_place}

-- one write more
pub owes-push : {plan : PlanData} {subs : ℕ} (start : HandsetData) {old new : HandsetData} {write : Ahead}
    (writes : List Ahead) → Owes plan subs start old writes → IsNextAhead plan subs old new write
    → Owes plan subs start new (writes ++ write ∷ [])
owes-push {plan} {subs} start {new} {write} [] owes its = grind arith
owes-push start (one ∷ writes) (between, rest, first) its =
    (between, owes-push between writes rest its, first)

-- no write
pub ahead-none : {plan : PlanData} (subs : ℕ) {old : HandsetData} (before : Vec Ahead) → GoesWith plan old
    → IsAhead plan subs old old before before
ahead-none subs before goes = grind arith

-- one write behind others
pub ahead-more : {plan : PlanData} {subs : ℕ} {old mid new : HandsetData} {write : Ahead} {before between : Vec Ahead}
    (after : Vec Ahead) → IsAhead plan subs old mid before between → IsNextAhead plan subs mid new write
    → after.items ≡ between.items ++ write ∷ [] → vec_capacity after ≡ vec_capacity between
    → IsAhead plan subs old new before after
ahead-more {plan} {subs} {new} {write} {between} after first its items room = grind (arith, owes-push, length_push)

-- writes behind others
pub ahead-joined : {plan : PlanData} {subs : ℕ} {old mid new : HandsetData} {before between after : Vec Ahead}
    → IsAhead plan subs old mid before between → IsAhead plan subs mid new between after
    → IsAhead plan subs old new before after
ahead-joined first then = grind arith

-- the write that comes next
pub record Next (plan : PlanData) (subs : ℕ) (old new : HandsetData) (write : Ahead) (left : List Ahead) : Type 0
  where
    pub handset : HandsetData
    pub owes : Owes plan subs handset new left
    pub its : IsNextAhead plan subs old handset write

pub next-of : (plan : PlanData) (subs : ℕ) (old new : HandsetData) (writes : List Ahead) (place : ℕ) {write : Ahead}
    → place < length writes → write ≡ get_or writes place write → Owes plan subs old new (drop place writes)
    → Next plan subs old new write (drop (suc place) writes)
next-of plan subs old new writes place {write} low same owes = grind (arith, drop-cons)

-- a put of a write into its cell tells what cells hold behind it
abbrev pub Puts : PlanData → ℕ → CellData → CellData → Ahead → Type 0
Puts plan sub cells after write =
    (key : Key) → IsPlaceOf plan cells.subs sub write.place key → (starts : List ℕ) (history : History) (actor : ℕ)
    → Hold plan starts cells history
    → Hold plan starts after (history ++ record { actor = actor; act = Put key write.word } ∷ [])

-- so the handset has made it
abbrev pub put-next : {plan : PlanData} {sub : ℕ} {old new : HandsetData} {write : Ahead} {cells after : CellData}
    → IsNextAhead plan cells.subs old new write → old.sub ≡ sub → Puts plan sub cells after write
    → HasPut plan old new cells after
put-next its mine put =
    record {
      visit = its.visit;
      next = its.next;
      stands = its.stands;
      hold = λ starts history held.
          rw (← its.act) at (put its.key (rw mine at its.cell) starts history its.visit.actor held);
    }

-- none of them
pub come-none : {plan : PlanData} {sub : ℕ} {old new : HandsetData} {cells : CellData} {left : List Ahead}
    → MayPut plan sub old new cells left → HasCome plan sub old new cells cells 0 left
come-none {old} may = record { handset = old; put = (refl, refl); may = may }

-- one more that doesn't commit
pub come-more : {plan : PlanData} {sub : ℕ} {old new : HandsetData} {cells between after : CellData} {count : ℕ}
    (place : ℕ) (writes : List Ahead) {write : Ahead} → place < length writes → write ≡ get_or writes place write
    → write.commits ≡ false → HasCome plan sub old new cells between count (drop place writes)
    → Puts plan sub between after write → GoWith plan after
    → ((key : Key) → IsPlaceOf plan between.subs sub write.place key → after.subs ≡ between.subs)
    → HasCome plan sub old new cells after (suc count) (drop (suc place) writes)
come-more {plan} {sub} {new} {between} place writes {write} low same plain come put over subs =
    let next : Next plan between.subs come.handset new write (drop (suc place) writes) =
    next-of plan between.subs come.handset new writes place low same come.may.owes in
    let its : IsNextAhead plan between.subs come.handset next.handset write = next.its in
    let cell : IsPlaceOf plan between.subs sub write.place its.key = grind arith in
    record {
      handset = next.handset;
      put = (
        come.handset,
        between,
        come.put,
        record {
          put = put-next its come.may.its put;
          plain = sym its.commits ∙ plain;
          goes = its.goes;
          its = its.its;
          over = over;
        },
      );
      may = record {
        over = over;
        its = its.its ∙ come.may.its;
        owes = subst (λ n. Owes plan n next.handset new (drop (suc place) writes))
            (sym (subs its.key cell)) next.owes;
      };
    }

-- the next old level from one on is this one
pub first-found : (test : ℕ → Bool) (above last : ℕ) → above ≤ last → test above ≡ true
    → first_with test above (suc last - above) ≡ Some above
first-found test above last low is = grind arith

-- or it is the next one from the level above on
pub first-passed : (test : ℕ → Bool) (above last : ℕ) → above ≤ last → test above ≡ false
    → first_with test above (suc last - above) ≡ first_with test (above + 1) (suc last - (above + 1))
first-passed test above last low is = grind arith

-- the new address of a level below the last one that the move renews
pub renewal-at : (plan : PlanData) (handset : HandsetData) (at : ℕ) {cluster word : ℕ} → at < handset.last.renewed
    → home plan at handset.last.to ≡ cluster
    → address_word (Some (record { number = handset.last.number; node = handset.last.to })) ≡ word
    → entry_write (setting_of plan []) handset (entries.Renewing at)
    ≡ Some (record { level = at; cluster = cluster; word = word; next = entries.Renewing (suc at) })
renewal-at plan handset at below home_is word_is = grind arith

-- the write of the entry that comes next is one ahead
pub entry-ahead : {plan : PlanData} {handset : HandsetData} {at : EntryStage} {write : EntryWrite} {subs : ℕ}
    (node : ℕ) {place word : ℕ} → IsMatched plan → IsNextEntry plan handset at write → handset.sub < subs
    → write.level < levels_of plan → node < nodes_of plan → write.cluster ≡ home plan write.level node
    → place ≡ home_place plan node write.level → word ≡ write.word
    → IsNextAhead plan subs (at_entry handset at) (at_entry handset write.next)
    (record { place = place; commits = false; word = word })
entry-ahead {handset = handset} {write = write} node matched its known low inside cluster_is place_is word_is = record {
  visit = entry_put handset.sub write;
  key = Entry write.level write.cluster handset.sub;
  act = ap (Put (Entry write.level write.cluster handset.sub)) (sym word_is);
  commits = refl;
  cell = grind arith;
  next = its.visit;
  stands = its.stands;
  goes = its.goes;
  its = refl;
}

-- a handset that is at an entry
pub at-stage : (handset : HandsetData) (at : EntryStage) → handset.stage ≡ stage_at at
    → handset ≡ at_entry handset at
at-stage handset at is = ap (λ s. record handset { stage = s }) is
