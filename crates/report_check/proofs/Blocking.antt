-- Lines that are looked up in the block of their actor, and not gone through.
use Rattle.std.proofs.lemmas.Bool.{eqb-false, ne_eqb, or_from, or_parts}
use Rattle.std.proofs.Common.{◌≡◌, ◌≢◌, ℕ, suc, ◌+◌, ◌-◌, ◌<◌, ◌≤◌, Bool, true, false, cond, eqb, ltb, fold, map, List, [], ◌∷◌, ◌++◌, length, take, drop, get_or, set, length-set, length-take, Some, refl, ap, sym, subst, ◌∙◌, arith}
use Rattle.std.specs.Prelude.{◌&&◌, ◌||◌, slice_index_or}
use Rattle.std.specs.List.{between, list_any}
use Rattle.std.proofs.lemmas.Bool.Decides.{Decides-eqb}
use Rattle.std.proofs.lemmas.List.{drop-append-le, drop-map, drop_all, get_or-map, get_or-set_other, get_or-set_same, length-map, take-map, take_more}
use Rattle.std.proofs.lemmas.List.Edits.{split_between}
use Rattle.std.proofs.lemmas.List.Folds.{list_any-append}
use Rattle.std.proofs.lemmas.List.Sums.{fold-append}
use mathlib.Core.Bool.{or-false}
use Rattle.directory.specs.declared.answers.Done.{Done}
use Rattle.directory.specs.declared.answers.Done.TheVariants.{Moved, Switched, Found, Off, Again}
use Rattle.report_check.specs.declared.blocks.Block.{Block}
use Rattle.report_check.specs.declared.blocks.LinesByActor.{LinesByActor}
use Rattle.report_check.specs.declared.calls.Line.{Line}
use Rattle.report_check.specs.ReadLines.{done_of}
use Rattle.report_check.specs.declared.told.Told.{Told}
use Rattle.report_check.specs.Blocks.{AreBlocks, IsBlock, SwitchesAlike, TellsAlike, grown, is_switched, no_block}
use Rattle.report_check.specs.Parts.{is_of, is_switch_at, tell}
use Rattle.directory.specs.CallLines.{actor_of}

-- ---- blocks while they are made

-- a block among the first lines
pub record IsSoFar (counts : Done → Bool) (calls : List Done) (place : ℕ) (block : Block) : Type 0 where
  pub low : block.start ≤ block.end
  pub high : block.end ≤ place
  pub before : list_any counts (take block.start calls) ≡ false
  pub behind : list_any counts (drop block.end (take place calls)) ≡ false

taken : (calls : List Done) (place : ℕ) → place < length calls → length (take place calls) ≡ place
taken calls place low = omega (arith, length-take place calls, low)

-- a line more that doesn't count
pub block-other : {counts : Done → Bool} {calls : List Done} {place : ℕ} {block : Block} (d : Done)
    → place < length calls → IsSoFar counts calls place block → counts (get_or calls place d) ≡ false
    → IsSoFar counts calls (place + 1) block
block-other {counts} {calls} {place} {block} d low is no-line =
    let more : drop block.end (take (place + 1) calls)
    ≡ drop block.end (take place calls) ++ get_or calls place d ∷ [] =
    ap (drop block.end) (take_more calls place d low)
    ∙ drop-append-le block.end (take place calls) (get_or calls place d ∷ [])
    (omega (arith, is.high, taken calls place low)) in
    record {
      low = is.low;
      high = omega (arith, is.high);
      before = is.before;
      behind = ap (list_any counts) more
          ∙ list_any-append counts (drop block.end (take place calls)) (get_or calls place d ∷ [])
          ∙ or_from (list_any counts (drop block.end (take place calls)))
          (list_any counts (get_or calls place d ∷ [])) is.behind
          (or_from (counts (get_or calls place d)) false no-line refl);
    }

nothing-behind : (counts : Done → Bool) (calls : List Done) (place : ℕ)
    → list_any counts (drop (place + 1) (take (place + 1) calls)) ≡ false
nothing-behind counts calls place =
    ap (list_any counts) (drop_all (place + 1) (take (place + 1) calls)
    (omega (arith, length-take (place + 1) calls)))

-- a line more that counts
grown-at : {counts : Done → Bool} {calls : List Done} {place : ℕ} {block : Block} (first : Bool)
    → eqb block.end 0 ≡ first → IsSoFar counts calls place block → IsSoFar counts calls (place + 1)
    (cond first (record { start = place; end = place + 1 }) (record { start = block.start; end = place + 1 }))
grown-at {counts} {calls} {place} {block} true e is =
    let none : block.end ≡ 0 = (Decides-eqb block.end 0).0 e in
    record {
      low = omega arith;
      high = omega arith;
      before = ap (λ n. list_any counts (drop n (take place calls))) (sym none) ∙ is.behind;
      behind = nothing-behind counts calls place;
    }
grown-at {counts} {calls} {place} false e is = record {
  low = omega (arith, is.low, is.high);
  high = omega arith;
  before = is.before;
  behind = nothing-behind counts calls place;
}

pub block-line : {counts : Done → Bool} {calls : List Done} {place : ℕ} {block : Block}
    → IsSoFar counts calls place block → IsSoFar counts calls (place + 1) (grown block place)
block-line {block} is = grown-at (eqb block.end 0) refl is

-- ---- what a block tells

tell-other : (actor ticket : ℕ) (told : Told) (call : Done) → is_of actor call ≡ false
    → tell actor ticket told call ≡ told
tell-other actor ticket told (Moved a number from to weight first commit last) e =
    ap (λ b. cond (b && ltb commit ticket) (record {
      node = to;
      number = suc told.number;
      is_off = told.is_off;
      commit = Some commit;
      weight = weight;
    }) told) e
tell-other actor ticket told (Switched a off node number at) e =
    ap (λ b. cond (b && ltb at ticket) (record told { is_off = off }) told) e
tell-other actor ticket told (Found a from other node number level weight first last) e = refl
tell-other actor ticket told (Off a from other node number level weight first last) e = refl
tell-other actor ticket told (Again a from other why weight first last) e = refl

tell-others : (actor ticket : ℕ) (told : Told) (calls : List Done) → list_any (is_of actor) calls ≡ false
    → fold (tell actor ticket) told calls ≡ told
tell-others actor ticket told [] e = refl
tell-others actor ticket told (call ∷ calls) e =
    let both = or_parts (is_of actor call) (list_any (is_of actor) calls) e in
    ap (λ t. fold (tell actor ticket) t calls) (tell-other actor ticket told call both.0)
    ∙ tell-others actor ticket told calls both.1

pub tells-alike : (actor : ℕ) {calls : List Done} {block : Block} → IsBlock (is_of actor) calls block
    → (ticket : ℕ) (told : Told) → fold (tell actor ticket) told (between block.start block.end calls) ≡ fold
    (tell actor ticket) told calls
tells-alike actor {calls} {block} is ticket told =
    let f = tell actor ticket in
    let a = take block.start calls in
    let b = between block.start block.end calls in
    let c = drop block.end calls in
    sym (ap (fold f told) (split_between calls block.start block.end is.low) ∙ fold-append f told a (b ++ c)
    ∙ ap (λ t. fold f t (b ++ c)) (tell-others actor ticket told a is.before) ∙ fold-append f told b c
    ∙ tell-others actor ticket (fold f told b) c is.behind)

switch-other : (ticket : ℕ) (call : Done) → is_switched call ≡ false → is_switch_at ticket call ≡ false
switch-other ticket (Moved a number from to weight first commit last) e = refl
switch-other ticket (Switched a off node number at) e = cc
switch-other ticket (Found a from other node number level weight first last) e = refl
switch-other ticket (Off a from other node number level weight first last) e = refl
switch-other ticket (Again a from other why weight first last) e = refl

switch-others : (ticket : ℕ) (calls : List Done) → list_any is_switched calls ≡ false
    → list_any (is_switch_at ticket) calls ≡ false
switch-others ticket [] e = refl
switch-others ticket (call ∷ calls) e =
    let both = or_parts (is_switched call) (list_any is_switched calls) e in
    or_from (is_switch_at ticket call) (list_any (is_switch_at ticket) calls) (switch-other ticket call both.0)
    (switch-others ticket calls both.1)

-- what counts in a block counts in all, where nothing does outside
any-within : (counts : Done → Bool) (calls : List Done) (block : Block) → block.start ≤ block.end
    → list_any counts (take block.start calls) ≡ false → list_any counts (drop block.end calls) ≡ false
    → list_any counts (between block.start block.end calls) ≡ list_any counts calls
any-within counts calls block low before behind =
    let b = between block.start block.end calls in
    let c = drop block.end calls in
    sym (ap (list_any counts) (split_between calls block.start block.end low)
    ∙ list_any-append counts (take block.start calls) (b ++ c) ∙ ap (λ t. t || list_any counts (b ++ c)) before
    ∙ list_any-append counts b c ∙ ap (λ t. list_any counts b || t) behind ∙ or-false (list_any counts b))

pub switches-alike : {calls : List Done} {block : Block} → IsBlock is_switched calls block → (ticket : ℕ)
    → list_any (is_switch_at ticket) (between block.start block.end calls) ≡ list_any (is_switch_at ticket) calls
switches-alike {calls} {block} is ticket =
    any-within (is_switch_at ticket) calls block is.low (switch-others ticket (take block.start calls) is.before)
    (switch-others ticket (drop block.end calls) is.behind)

-- one of the lines of a block counts where one of all does
pub any-alike : {counts : Done → Bool} {calls : List Done} {block : Block} → IsBlock counts calls block
    → list_any counts (between block.start block.end calls) ≡ list_any counts calls
any-alike {counts} {calls} {block} is = any-within counts calls block is.low is.before is.behind

-- ---- lines as the code keeps them

between-map : (lines : List Line) (start end : ℕ)
    → map done_of (take (end - start) (drop start lines)) ≡ between start end (map done_of lines)
between-map lines start end =
    sym (take-map done_of (end - start) (drop start lines)) ∙ ap (take (end - start))
    (sym (drop-map done_of start lines))

pub switch-lines : (lines : List Line) {block : Block} → IsBlock is_switched (map done_of lines) block
    → SwitchesAlike (map done_of lines) (map done_of (take (block.end - block.start) (drop block.start lines)))
switch-lines lines {block} is ticket =
    ap (list_any (is_switch_at ticket)) (between-map lines block.start block.end)
    ∙ switches-alike is ticket

pub actor-lines : {lines : LinesByActor} (actor : ℕ) (block : Block) → AreBlocks lines → actor < length lines.blocks.now
    → slice_index_or lines.blocks.now actor no_block ≡ block → TellsAlike actor (map done_of lines.calls.now)
    (map done_of (take (block.end - block.start) (drop block.start lines.calls.now)))
actor-lines {lines} actor block are low same ticket told =
    let is : IsBlock (is_of actor) (map done_of lines.calls.now) block =
    subst (IsBlock (is_of actor) (map done_of lines.calls.now)) same (are.actors actor low) in
    ap (fold (tell actor ticket) told) (between-map lines.calls.now block.start block.end)
    ∙ tells-alike actor is ticket told

pub actor-any : {lines : LinesByActor} (actor : ℕ) (block : Block) → AreBlocks lines → actor < length lines.blocks.now
    → slice_index_or lines.blocks.now actor no_block ≡ block
    → list_any (is_of actor) (map done_of (take (block.end - block.start) (drop block.start lines.calls.now)))
    ≡ list_any (is_of actor) (map done_of lines.calls.now)
actor-any {lines} actor block are low same =
    let is : IsBlock (is_of actor) (map done_of lines.calls.now) block =
    subst (IsBlock (is_of actor) (map done_of lines.calls.now)) same (are.actors actor low) in
    ap (list_any (is_of actor)) (between-map lines.calls.now block.start block.end)
    ∙ any-alike is

pub line-other : {counts : Done → Bool} (lines : List Line) {place : ℕ} {block : Block} (d : Line)
    → place < length lines → IsSoFar counts (map done_of lines) place block
    → counts (done_of (get_or lines place d)) ≡ false → IsSoFar counts (map done_of lines) (place + 1) block
line-other {counts} lines {place} d low is no-line =
    block-other (done_of d) (omega (arith, low, length-map lines done_of)) is
    (ap counts (get_or-map done_of lines place d (done_of d) low) ∙ no-line)

pub swapped : (a b : ℕ) → eqb a b ≡ false → eqb b a ≡ false
swapped a b e = ne_eqb b a (λ same. eqb-false a b e (sym same))

-- the block of an actor more, where the line is this actor's
pub blocks-line : (lines : List Line) (blocks : List Block) {blocks' : List Block} {place actor : ℕ} (d : Line)
    → place < length lines → actor ≡ actor_of (done_of (get_or lines place d)) → actor < length blocks
    → blocks' ≡ set blocks actor (grown (get_or blocks actor no_block) place)
    → ((a : ℕ) → a < length blocks → IsSoFar (is_of a) (map done_of lines) place (get_or blocks a no_block)) → (a : ℕ)
    → a < length blocks' → IsSoFar (is_of a) (map done_of lines) (place + 1) (get_or blocks' a no_block)
blocks-line lines blocks {blocks'} {place} {actor} d low whose known same is a few = at (eqb a actor) refl
  where
    count : length blocks' ≡ length blocks
    count = ap length same ∙ length-set blocks actor (grown (get_or blocks actor no_block) place)

    at : (own : Bool) → eqb a actor ≡ own
        → IsSoFar (is_of a) (map done_of lines) (place + 1) (get_or blocks' a no_block)
    at true e =
        let own : a ≡ actor = (Decides-eqb a actor).0 e in
        let value : get_or blocks' a no_block ≡ grown (get_or blocks a no_block) place =
        ap (λ bs. get_or bs a no_block) same
        ∙ ap (λ (x : ℕ). get_or (set blocks x (grown (get_or blocks x no_block) place)) a no_block) (sym own)
        ∙ get_or-set_same blocks a (grown (get_or blocks a no_block) place) no_block (omega (arith, few, count)) in
        subst (IsSoFar (is_of a) (map done_of lines) (place + 1)) (sym value)
        (block-line (is a (omega (arith, few, count))))
    at false e =
        let other : a ≢ actor = eqb-false a actor e in
        let value : get_or blocks' a no_block ≡ get_or blocks a no_block =
        ap (λ bs. get_or bs a no_block) same
        ∙ get_or-set_other blocks actor a (grown (get_or blocks actor no_block) place) no_block other in
        subst (IsSoFar (is_of a) (map done_of lines) (place + 1)) (sym value)
        (line-other lines d low (is a (omega (arith, few, count))) (ap (λ x. eqb x a) (sym whose) ∙ swapped a actor e))

pub blocks-other : (lines : List Line) (blocks : List Block) {place actor : ℕ} (d : Line) → place < length lines
    → actor ≡ actor_of (done_of (get_or lines place d)) → length blocks ≤ actor
    → ((a : ℕ) → a < length blocks → IsSoFar (is_of a) (map done_of lines) place (get_or blocks a no_block)) → (a : ℕ)
    → a < length blocks → IsSoFar (is_of a) (map done_of lines) (place + 1) (get_or blocks a no_block)
blocks-other lines blocks {actor} d low whose unknown is a few =
    line-other lines d low (is a few) (ap (λ x. eqb x a) (sym whose)
    ∙ ne_eqb actor a (λ same. omega (arith, same, few, unknown)))
