-- The readers of a node: clusters that contain it, few at each level, and one after another in the climb.
use Rattle.std.proofs.Common.{◌≡◌, ℕ, suc, ◌+◌, ◌<◌, ◌≤◌, true, List, [], ◌∷◌, ◌++◌, length, map, drop, refl, sym, ap, ◌∙◌, subst, arith, Option}
use Rattle.std.proofs.lemmas.List.Sums.{fold-append}
use Rattle.std.specs.Prelude.{get_or, Some, None, ◌==◌}
use Rattle.std.proofs.lemmas.Bool.Decides.{nat_tests}
use Rattle.std.proofs.lemmas.List.{length-map, drop_all}
use Rattle.directory.specs.Settings.{Setting, levels}
use Rattle.entry_word.specs.Addresses.{address_in}
use Rattle.entry_word.specs.declared.address.Address.{Address}
use Rattle.entry_word.specs.declared.visit.Key.TheVariants.{Entry}
use Rattle.directory.specs.Finds.{FindCall, Reader, after_entry, after_word, answer_of, at_origin, find, key_of}
use Rattle.region_plan.specs.Plan.{PlanData, inside, readers}
use Rattle.region_plan.specs.Settings.{setting_of}
use Rattle.walk.specs.declared.progress.Progress.{Progress}
use Rattle.walk.specs.declared.progress.Progress.TheVariants.{AtOrigin, Chasing, Climbing, Ended}
use Rattle.walk.specs.Walks.{IsWalkOver, IsProgressWithin, IsWordBelow, StandsForWords, WalkData, call_of, reader_in, readers_at, readers_above, pursuit_at, pursuit_of}
use Rattle.walk.specs.ReaderLaws.{climb-here}

-- the readers of a level and those above
pub readers-spent : (setting : Setting) (node level index : ℕ) → length (setting.readers level node) ≤ index
    → drop index (readers_at setting node level) ≡ []
readers-spent setting node level index h =
    grind (arith, length-map, drop_all)

pub above-more : (setting : Setting) (node level : ℕ) → level < levels setting → readers_above setting node level
    ≡ readers_at setting node level ++ readers_above setting node (suc level)
above-more setting node level h = grind arith

pub above-empty : (setting : Setting) (node level : ℕ) → level < levels setting
    → length (setting.readers level node) ≡ 0 → readers_above setting node (level + 1)
    ≡ readers_above setting node level
above-empty setting node level h none =
    let e : level + 1 ≡ suc level = omega arith in
    ap (readers_above setting node) e ∙ sym (above-more setting node level h
    ∙ at_list (setting.readers level node) none)
  where
    at_list : (rs : List ℕ) → length rs ≡ 0 → map (λ cluster. let r : Reader = record {
      level = level;
      cluster =
          cluster;
    } in r) rs ++ readers_above setting node (suc level) ≡ readers_above setting node (suc level)
    at_list [] l = refl
    at_list (r ∷ rs) l = absurd (omega (arith, l))

-- a walk that climbs
pub answer-climbing : (plan : PlanData) (from : ℕ) (progress : Progress) (known : Option ℕ)
    (weight level index : ℕ) → progress ≡ Climbing known weight level index → IsProgressWithin plan from progress
    → None ≡ answer_of (pursuit_at (setting_of plan []) from progress)
answer-climbing plan from progress known weight level index same within =
    let inside = subst (IsProgressWithin plan from) same within in
    sym (ap (λ q. answer_of (pursuit_at (setting_of plan []) from q)) same
    ∙ ap answer_of (climb-here (setting_of plan []) from known weight level index (readers_above
    (setting_of plan []) from (suc level)) inside.1))

pub next-climbing : (plan : PlanData) (walk : WalkData) (known : Option ℕ) (weight level index cluster : ℕ)
    → walk.progress ≡ Climbing known weight level index → IsWalkOver plan walk
    → cluster ≡ get_or (readers plan level walk.from) index 0 → Some (Entry level cluster walk.sub)
    ≡ key_of (call_of walk) (pursuit_of plan walk)
next-climbing plan walk known weight level index cluster same goes here =
    let inside = subst (IsProgressWithin plan walk.from) same goes.progress in
    ap (λ c. Some (Entry level c walk.sub)) here
    ∙ sym (ap (λ q. key_of (call_of walk) (pursuit_at (setting_of plan []) walk.from q)) same
    ∙ ap (key_of (call_of walk)) (climb-here (setting_of plan []) walk.from known weight level index (readers_above
    (setting_of plan []) walk.from (suc level)) inside.1))

pub word-climbing : (plan : PlanData) (from sub : ℕ) (known : Option ℕ) (weight level index word : ℕ)
    (address : Option Address) → index < length (readers plan level from) → address_in word ≡ address
    → (let call : FindCall = record { from = from; sub = sub } in after_word (setting_of plan []) call (pursuit_at
    (setting_of plan []) from (Climbing known weight level index)) word)
    ≡ after_entry (setting_of plan []) (record { from = from; sub = sub }) known weight
    (reader_in plan from level index)
    (drop (suc index) (readers_at (setting_of plan []) from level) ++ readers_above (setting_of plan []) from
    (suc level)) address
word-climbing plan from sub known weight level index word address inside same =
    ap (λ pursuit. after_word (setting_of plan []) (record { from = from; sub = sub }) pursuit word)
    (climb-here (setting_of plan []) from known weight level index (readers_above (setting_of plan []) from
    (suc level)) inside)
    ∙ ap (after_entry (setting_of plan []) (record { from = from; sub = sub }) known weight
    (reader_in plan from level index)
    (drop (suc index) (readers_at (setting_of plan []) from level) ++ readers_above (setting_of plan []) from
    (suc level))) same

-- one word more
pub find-more : (plan : PlanData) (old new : WalkData) (words : List ℕ) (word : ℕ) → call_of new ≡ call_of old
    → pursuit_of plan new ≡ after_word (setting_of plan []) (call_of old) (pursuit_of plan old) word
    → StandsForWords plan old words → StandsForWords plan new (words ++ word ∷ [])
find-more plan old new words word same pursuit stands =
    pursuit ∙ (ap (λ s. after_word (setting_of plan []) (call_of old) s word) stands
    ∙ (sym (fold-append (after_word (setting_of plan []) (call_of old)) at_origin words (word ∷ []))
    ∙ ap (λ c. find (setting_of plan []) c (words ++ word ∷ [])) (sym same)))

pub empty-means : (n : ℕ) → (n == 0) ≡ true → n ≡ 0
empty-means n h = grind (arith, nat_tests)

-- nothing names no node
pub nothing-below : (nodes : ℕ) (progress : Progress) → IsWordBelow nodes progress 0
nothing-below nodes AtOrigin = tt
nothing-below nodes (Climbing known weight level index) = tt
nothing-below nodes (Chasing chase node) = tt
nothing-below nodes (Ended found) = tt
