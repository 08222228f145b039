-- Laws of the next look of a walk, for proofs: which cell it is at, and which nodes the word names
-- that is read there. Key laws: `cell-wanted` (the cell is one of the plan, of the walk's own
-- subscriber), `word-wanted` (the word names nodes of the plan).
use Rattle.std.proofs.Common.{◌≡◌, ℕ, suc, ◌^◌, ◌<◌, ◌≤◌, List, [], length, refl, sym, ap, ◌∙◌, subst, arith, Option}
use Rattle.std.specs.Prelude.{Some, None, slice_index}
use Rattle.entry_word.specs.Marks.{mark_in}
use Rattle.entry_word.specs.Addresses.{address_in}
use Rattle.entry_word.specs.declared.address.Address.{Address}
use Rattle.entry_word.specs.declared.mark.PresenceMark.{PresenceMark}
use Rattle.entry_word.specs.declared.mark.PresenceMark.TheVariants.{Empty, Here, Gone, Coming, Off}
use Rattle.entry_word.specs.declared.visit.Key.{Key}
use Rattle.entry_word.specs.declared.visit.Key.TheVariants.{Presence, Entry}
use Rattle.directory.specs.Settings.{Setting}
use Rattle.directory.specs.Keys.{key_sub}
use Rattle.directory.specs.Histories.{History, cell}
use Rattle.directory.specs.Legal.{IsLegal}
use Rattle.directory.specs.Finds.{key_of}
use Rattle.trail_laws.specs.Trail.{EntriesTell, EntryTells, MarkTells, MarksTell}
use Rattle.region_plan.specs.Plan.{PlanData, nodes_of, readers}
use Rattle.region_plan.specs.Matched.{IsMatched}
use Rattle.region_plan.specs.Settings.{setting_of}
use Rattle.region_plan.specs.Cells.{IsCell, IsPlace}
use Rattle.walk.specs.declared.progress.Progress.{Progress}
use Rattle.walk.specs.declared.progress.Progress.TheVariants.{AtOrigin, Chasing, Climbing, Ended}
use Rattle.region_plan.specs.ReaderLaws.{reader-held}
use Rattle.walk.specs.ReaderLaws.{climb-here}
use Rattle.walk.specs.Walks.{IsWalkOver, IsAddressBelow, IsMarkBelow, IsProgressWithin, IsWordBelow, WalkData, call_of, readers_above, pursuit_at, pursuit_of}

-- the cell of a climb is the entry of its reader
climbing-key : (plan : PlanData) (from sub : ℕ) (known : Option ℕ) (weight level index : ℕ)
    (key : Key) → index < length (readers plan level from)
    → key_of (record { from = from; sub = sub }) (pursuit_at (setting_of plan []) from
    (Climbing known weight level index)) ≡ Some key
    → Entry level (slice_index (readers plan level from) index) sub ≡ key
climbing-key plan from sub known weight level index key inside wanted =
    let later = readers_above (setting_of plan []) from (suc level) in
    let found : Some (Entry level (slice_index (readers plan level from) index) sub) ≡ Some key =
    sym (ap (λ s. key_of (record { from = from; sub = sub }) s)
    (climb-here (setting_of plan []) from known weight level index later inside)) ∙ wanted in cc

-- the cell that a walk wants lies in the plan, and is of its own subscriber
place-wanted : (plan : PlanData) (from sub : ℕ) (progress : Progress) → IsMatched plan
    → from < nodes_of plan → IsProgressWithin plan from progress → (key : Key)
    → key_of (record { from = from; sub = sub }) (pursuit_at (setting_of plan []) from progress)
    ≡ Some key
    → IsPlace plan key × (key_sub key ≡ sub)
place-wanted plan from sub AtOrigin matched inside within key wanted =
    let e : Presence from sub ≡ key = cc in
    subst (λ k. IsPlace plan k × (key_sub k ≡ sub)) e (inside, refl)
place-wanted plan from sub (Climbing known weight level index) matched inside within key wanted =
    subst (λ k. IsPlace plan k × (key_sub k ≡ sub))
    (climbing-key plan from sub known weight level index key within.1 wanted)
    ((within.0, (reader-held plan level from index matched within.0 inside within.1).1), refl)
place-wanted plan from sub (Chasing chase node) matched inside within key wanted =
    let e : Presence node sub ≡ key = cc in
    subst (λ k. IsPlace plan k × (key_sub k ≡ sub)) e (within.0, refl)
place-wanted plan from sub (Ended found) matched inside within key wanted = cc

-- so it is a cell of the plan
pub cell-wanted : (plan : PlanData) (walk : WalkData) (count : ℕ) (key : Key) → IsMatched plan
    → IsWalkOver plan walk → walk.sub < count
    → key_of (call_of walk) (pursuit_of plan walk) ≡ Some key → IsCell plan count key
cell-wanted plan walk count key matched goes low wanted =
    let found : IsPlace plan key × (key_sub key ≡ walk.sub) =
    place-wanted plan walk.from walk.sub walk.progress matched goes.from goes.progress key wanted in
    record { place = found.0; known = omega (arith, found.1, low) }

-- a mark that tells of a history names nodes of the plan
mark-below : (setting : Setting) (sub : ℕ) (history : History) (node : ℕ) (mark : PresenceMark)
    → MarkTells setting sub history node mark → IsMarkBelow setting.nodes mark
mark-below setting sub history node Empty tells = tt
mark-below setting sub history node (Here number) tells = tt
mark-below setting sub history node (Gone number to) tells = tells.2
mark-below setting sub history node (Coming number from) tells = tells.1
mark-below setting sub history node (Off number) tells = tt

-- and so does an entry
entry-below : (setting : Setting) (sub : ℕ) (history : History) (level cluster : ℕ)
    (entry : Option Address)
    → EntryTells setting sub history level cluster entry → IsAddressBelow setting.nodes entry
entry-below setting sub history level cluster None tells = tt
entry-below setting sub history level cluster (Some address) tells = tells.0

-- the word at the cell that a walk wants names nodes of the plan
word-below : MarksTell → EntriesTell → (plan : PlanData) (starts : List ℕ) (history : History)
    (from sub : ℕ) (progress : Progress) → IsMatched plan → nodes_of plan ≤ 2 ^ 16
    → IsLegal (setting_of plan starts) sub history
    → from < nodes_of plan → IsProgressWithin plan from progress → (key : Key)
    → key_of (record { from = from; sub = sub }) (pursuit_at (setting_of plan []) from progress)
    ≡ Some key
    → IsWordBelow (nodes_of plan) progress (cell (setting_of plan starts) history key)
word-below marks entries plan starts history from sub AtOrigin matched small legal inside within
    key wanted =
    let e : Presence from sub ≡ key = cc in
    subst (λ k. IsMarkBelow (nodes_of plan) (mark_in (cell (setting_of plan starts) history k))) e
    (mark-below (setting_of plan starts) sub history from _
    (marks (setting_of plan starts) sub history small legal from inside))
word-below marks entries plan starts history from sub (Climbing known weight level index) matched
    small legal inside within key wanted =
    subst
    (λ k. IsAddressBelow (nodes_of plan) (address_in (cell (setting_of plan starts) history k)))
    (climbing-key plan from sub known weight level index key within.1 wanted)
    (entry-below (setting_of plan starts) sub history level _ _
    (entries (setting_of plan starts) sub history small legal level _ (omega (arith, within.0))))
word-below marks entries plan starts history from sub (Chasing chase node) matched small legal
    inside within key wanted =
    let e : Presence node sub ≡ key = cc in
    subst (λ k. IsMarkBelow (nodes_of plan) (mark_in (cell (setting_of plan starts) history k))) e
    (mark-below (setting_of plan starts) sub history node _
    (marks (setting_of plan starts) sub history small legal node within.0))
word-below marks entries plan starts history from sub (Ended found) matched small legal inside
    within key wanted = cc

-- and so does what a walk reads there
pub word-wanted : MarksTell → EntriesTell → (plan : PlanData) (starts : List ℕ)
    (history : History) (walk : WalkData) (key : Key) → IsMatched plan → nodes_of plan ≤ 2 ^ 16
    → IsLegal (setting_of plan starts) walk.sub history → IsWalkOver plan walk
    → key_of (call_of walk) (pursuit_of plan walk) ≡ Some key
    → IsWordBelow (nodes_of plan) walk.progress (cell (setting_of plan starts) history key)
word-wanted marks entries plan starts history walk key matched small legal goes wanted =
    word-below marks entries plan starts history walk.from walk.sub walk.progress matched small
    legal goes.from goes.progress key wanted
