-- A setting's own stretch.
use Rattle.std.proofs.Common.{◌≡◌, ◌⊎◌, inl, inr, ℕ, zero, suc, ◌+◌, ◌*◌, ◌<◌, ◌≤◌, ◌^◌, max, Bool, true, false, cond, List, [], ◌∷◌, Some, take, refl, sym, ap, ◌∙◌, arith}
use Rattle.std.specs.Prelude.{nat_le, slice_get}
use Rattle.std.proofs.Math.Nat.{mul-le-mul_left}
use Rattle.std.proofs.lemmas.Bool.{cases_eq, cases_lt}
use Rattle.std.proofs.lemmas.Bool.Decides.{nat_tests}
use Rattle.directory.specs.Settings.{Setting}
use Rattle.directory.specs.Courses.{Move}
use Rattle.directory.specs.Finds.{FindCall, found_weight}
use Rattle.directory.specs.Histories.{before, History}
use Rattle.directory.specs.Legal.{IsLegal}
use Rattle.directory.specs.Looks.{first_of, IsFind, last_of}
use Rattle.directory.specs.Standing.{number, passage, standing}
use Rattle.directory.specs.declared.answers.Found.{Found}
use Rattle.stretch_laws.specs.Tracking.{IsTracking, radius}
use Rattle.busy_finds.specs.LawsBelow.{PriceLaws}
use Rattle.busy_finds.specs.Levels.{cost_up_to, EndsBy, FindsEndByLevel, FindsKeepAnyStretch, FindsKeepOwnStretch, IsOwnStretch, level_for, reaching}
use Rattle.busy_finds.specs.Prices.{greatest_threshold, moves_within, weight_of}
use Rattle.busy_finds.specs.Within.{IsWithin, moves_of}
use Rattle.busy_finds.proofs.Fronts.{moves-in-place}
use Rattle.busy_finds.proofs.ByStretch.{greatest-has, in-dropped, in-order, spent-within, within-listed}
use Rattle.busy_finds.proofs.Price.{find-on, radius-up}
use Rattle.busy_finds.proofs.Sums.{travelled}
use Rattle.busy_finds.proofs.Tickets.{in-front}

-- the level for a distance is the top one, or reaches it
reaches-it : (d level more : ℕ) → (reaching d level more ≤ level + more)
    × ((reaching d level more ≡ level + more) ⊎ (2 * d ≤ radius (reaching d level more) + 1))
unfolding reaching
reaches-it d level zero =
    let e : level ≡ level + 0 = omega arith in (omega arith, inl e)
reaches-it d level (suc more) = at_test (nat_le (2 * d) (radius level + 1)) refl (reaches-it d (suc level) more)
  where
    at_test : (b : Bool) → nat_le (2 * d) (radius level + 1) ≡ b
        → ((reaching d (suc level) more ≤ suc level + more)
        × ((reaching d (suc level) more ≡ suc level + more) ⊎ (2 * d ≤ radius (reaching d (suc level) more) + 1)))
        → (cond b level (reaching d (suc level) more) ≤ level + suc more)
        × ((cond b level (reaching d (suc level) more) ≡ level + suc more)
        ⊎ (2 * d ≤ radius (cond b level (reaching d (suc level) more)) + 1))
    at_test true e rest = (omega arith, inr (grind (arith, nat_tests, e)))
    at_test false e rest = (
      omega (arith, rest.0),
      elim rest.1 [
        | inl top ↦ inl (let t : reaching d (suc level) more ≡ level + suc more = omega (arith, top) in t)
        | inr near ↦ inr near
      ],
    )

-- a distance of none: the find pays its passage and the moves within alone
still-there : PriceLaws → (setting : Setting) (width most_readers : ℕ) (history : History) (actor : ℕ) (call : FindCall)
    (found : Found) (tickets : List ℕ) → setting.nodes ≤ 2 ^ 16 → IsTracking setting width most_readers
    → call.from < setting.nodes → IsLegal setting call.sub history → IsFind setting history actor call found tickets
    → setting.distance call.from (standing setting call.sub (before (first_of tickets) history)) ≡ 0
    → found_weight found ≤ 2 * passage setting call.sub (before (first_of tickets) history)
    + weight_of (moves_within setting call.sub history (first_of tickets) (last_of tickets))
still-there laws setting width most_readers history actor call found tickets few tracking inside legal find none =
    find-on laws setting width most_readers history call (first_of tickets) (last_of tickets)
    (weight_of (moves_within setting call.sub history (first_of tickets) (last_of tickets))) _ (record {
      ground = record { few = few; tracking = tracking; inside = inside; legal = legal; order = in-order find };
      spends = spent-within setting call.sub history (first_of tickets) (last_of tickets) (in-order find);
      least = omega (arith, none);
      meets = λ t passed later r v by some all met were inside home. absurd (omega (arith, some, none));
      misses = λ t weight by some c. absurd (omega (arith, some, none));
    }) actor found tickets refl refl find

-- a multiple of what is no less
no-less : (most cost y x : ℕ) → cost + y ≤ most * y → 1 ≤ y → y ≤ x → cost + x ≤ most * x
no-less zero cost y x room some more = absurd (omega (arith, room, some, (let e : 0 * y ≡ 0 = grind arith in e)))
no-less (suc most) cost y x room some more = omega (
  arith,
  room,
  mul-le-mul_left most more,
  (let e : suc most * y ≡ most * y + y = grind arith in e),
  (let e : suc most * x ≡ most * x + x = grind arith in e),
)

module _ (laws : PriceLaws) (by_level : FindsEndByLevel) (setting : Setting) (width most_readers : ℕ) (history : History)
    (actor : ℕ) (call : FindCall) (found : Found) (tickets : List ℕ) (few : setting.nodes ≤ 2 ^ 16)
    (tracking : IsTracking setting width most_readers) (inside : call.from < setting.nodes)
    (legal : IsLegal setting call.sub history) (find : IsFind setting history actor call found tickets) where
  abbrev stood_at : ℕ
  stood_at = standing setting call.sub (before (first_of tickets) history)

  abbrev apart : ℕ
  apart = setting.distance call.from stood_at

  abbrev opened : ℕ
  opened = passage setting call.sub (before (first_of tickets) history)

  abbrev within : List Move
  within = moves_within setting call.sub history (first_of tickets) (last_of tickets)

  its-level : level_for setting apart ≤ setting.top
  its-level = omega (arith, (reaches-it apart 0 setting.top).0)

  -- a level that is no lower than the one for the distance
  near-enough : (level : ℕ) → level ≤ setting.top → level_for setting apart ≤ level
      → (level ≡ setting.top) ⊎ (apart + setting.threshold level ≤ radius level + 1)
  near-enough level low above = elim (reaches-it apart 0 setting.top).1 [
    | inl top ↦ inl (let e : level ≡ setting.top = omega (arith, top, low, above) in e)
    | inr near ↦ inr (omega (arith, near, tracking.halves level low, radius-up (level_for setting apart) level above))
  ]

  -- with no move within that renews a level from this one on
  ends-at : (level : ℕ) → level ≤ setting.top → level_for setting apart ≤ level
      → ((move : Move) → IsWithin setting call.sub history (first_of tickets) (last_of tickets) move → move.renewed < level)
      → EndsBy setting history call (first_of tickets) (last_of tickets) level
  ends-at level low above calm = elim (near-enough level low above) [
    | inl top ↦ inl top
    | inr near ↦ inr (near, calm)
  ]

  at-level : (level : ℕ) → level ≤ setting.top → EndsBy setting history call (first_of tickets) (last_of tickets) level
      → found_weight found ≤ cost_up_to setting call.from level + apart + 2 * opened + weight_of within
  at-level level low ends = by_level setting width most_readers history actor call found tickets level few tracking inside
      legal find low ends

  stood-in_there : stood_at < setting.nodes
  stood-in_there = laws.marks.inside setting call.sub (before (first_of tickets) history) few
      (laws.marks.facts.fronts setting call.sub history (first_of tickets) few legal)

  -- by the level for its distance
  by-own : (own : ℕ) → IsOwnStretch setting own
      → ((move : Move) → IsWithin setting call.sub history (first_of tickets) (last_of tickets) move
      → move.renewed < level_for setting apart)
      → 1 ≤ apart → found_weight found ≤ own * apart + 2 * opened + weight_of within
  by-own own is calm some = omega (
    arith,
    at-level (level_for setting apart) its-level (ends-at (level_for setting apart) its-level (omega arith) calm),
    is call.from stood_at inside stood-in_there (λ same. omega (
      arith,
      some,
      tracking.metric.none call.from inside,
      ap (setting.distance call.from) same,
    )),
  )

pub own-stretch : PriceLaws → FindsEndByLevel → FindsKeepOwnStretch
own-stretch laws by_level setting width most_readers own history actor call found tickets few tracking is inside legal find
    same = elim (cases_eq apart_now 0) [
      | inl none ↦ omega (
        arith,
        still-there laws setting width most_readers history actor call found tickets few tracking inside legal find none,
        nothing,
      )
      | inr some ↦ omega (
        arith,
        by-own laws by_level setting width most_readers history actor call found tickets few tracking inside legal find own is
            (λ move so. absurd (omega (arith, so.after, so.by, same))) (omega (arith, some)),
        nothing,
      )
    ]
  where
    apart_now : ℕ
    apart_now = setting.distance call.from (standing setting call.sub (before (first_of tickets) history))

    nothing : weight_of (moves_within setting call.sub history (first_of tickets) (last_of tickets)) ≡ 0
    nothing = omega (
      arith,
      spent-within setting call.sub history (first_of tickets) (last_of tickets) (in-order find),
      ap (travelled (moves_of setting call.sub history)) same,
    )

-- the highest level that moves renew, and one more, and the move that renews it
record Highest (moves : List Move) : Type 0 where
  over : ℕ
  all : (i : ℕ) (move : Move) → slice_get moves i ≡ Some move → move.renewed < over
  one : (over ≡ 0) ⊎ ((i : ℕ) × (move : Move) × (slice_get moves i ≡ Some move) × (over ≡ suc move.renewed))

highest-of : (moves : List Move) → Highest moves
highest-of [] = record { over = 0; all = λ i move h. cc; one = inl refl }
highest-of (x ∷ moves) = more (highest-of moves)
  where
    more : Highest moves → Highest (x ∷ moves)
    more rest = elim (cases_lt x.renewed rest.over) [
      | inl lower ↦ record {
        over = rest.over;
        all = at_each rest.over lower rest.all;
        one = elim rest.one [
          | inl none ↦ absurd (omega (arith, lower, none))
          | inr found ↦ inr (suc found.0, found.1, found.2, found.3)
        ];
      }
      | inr upper ↦ record {
        over = suc x.renewed;
        all = at_each (suc x.renewed) (omega arith) (λ i move h. omega (arith, rest.all i move h, upper));
        one = inr (0, x, refl, refl);
      }
    ]
      where
        at_each : (over : ℕ) → x.renewed < over
            → ((i : ℕ) (move : Move) → slice_get moves i ≡ Some move → move.renewed < over) → (i : ℕ) (move : Move)
            → slice_get (x ∷ moves) i ≡ Some move → move.renewed < over
        at_each over first others zero move h =
            let e : x ≡ move = cc in omega (arith, first, ap (λ (m : Move). m.renewed) e)
        at_each over first others (suc i) move h = others i move h

pub any-stretch : PriceLaws → FindsEndByLevel → FindsKeepAnyStretch
any-stretch laws by_level setting width most_readers most history actor call found tickets few tracking is inside legal find =
    elim (cases_lt (level_for setting apart_now) high.over) [
      | inr under ↦ elim (cases_eq apart_now 0) [
        | inl none ↦ omega (
          arith,
          still-there laws setting width most_readers history actor call found tickets few tracking inside legal find none,
        )
        | inr some ↦ omega (
          arith,
          by-own laws by_level setting width most_readers history actor call found tickets few tracking inside legal find
              most is.own (λ move so. omega (arith, under, calm move so)) (omega (arith, some)),
          mul-le-mul_left most at_most,
        )
      ]
      | inl over ↦ elim high.one [
        | inl none ↦ absurd (omega (arith, over, none))
        | inr one ↦ above one.0 one.1 one.2 one.3 over
      ]
    ]
  where
    apart_now : ℕ
    apart_now = setting.distance call.from (standing setting call.sub (before (first_of tickets) history))

    moves : List Move
    moves = moves_within setting call.sub history (first_of tickets) (last_of tickets)

    reach : ℕ
    reach = max apart_now (greatest_threshold setting moves)

    at_most : apart_now ≤ reach
    at_most = omega arith

    high : Highest moves
    high = highest-of moves

    calm : (move : Move) → IsWithin setting call.sub history (first_of tickets) (last_of tickets) move
        → move.renewed < high.over
    calm move so = high.all _ move (within-listed setting call.sub history (first_of tickets) (last_of tickets) move so)

    above : (i : ℕ) (move : Move) → slice_get moves i ≡ Some move → high.over ≡ suc move.renewed
        → level_for setting apart_now < high.over
        → found_weight found ≤ most * reach + 2 * passage setting call.sub (before (first_of tickets) history)
        + weight_of moves
    above i move there same over = elim (cases_lt move.renewed setting.top) [
      | inl low ↦ omega (
        arith,
        at-level laws by_level setting width most_readers history actor call found tickets few tracking inside legal find
            (suc move.renewed) low (ends-at laws by_level setting width most_readers history actor call found tickets few
            tracking inside legal find (suc move.renewed) low (omega (arith, over, same))
            (λ other so. omega (arith, calm other so, same))),
        no-less most (cost_up_to setting call.from (suc move.renewed)) (setting.threshold move.renewed) reach
            (is.above call.from move.renewed inside low) (tracking.gathers move.renewed (omega (arith, low))) reached,
        at_most,
      )
      | inr top ↦ omega (
        arith,
        at-level laws by_level setting width most_readers history actor call found tickets few tracking inside legal find
            setting.top (omega arith) (inl refl),
        no-less most (cost_up_to setting call.from setting.top) (setting.threshold setting.top) reach
            (is.top call.from inside) (tracking.gathers setting.top (omega arith)) (omega (
              arith,
              reached,
              ap setting.threshold (let e : move.renewed ≡ setting.top = omega (arith, top, renewed) in e),
            )),
        at_most,
      )
    ]
      where
        reached : setting.threshold move.renewed ≤ reach
        reached = omega (arith, greatest-has setting moves 0 i move there)

        renewed : move.renewed ≤ setting.top
        renewed = ((moves-in-place history legal).each (number call.sub (before (first_of tickets) history) + i) move
            (in-front (number call.sub (before (last_of tickets) history)) (moves_of setting call.sub history)
            (number call.sub (before (first_of tickets) history) + i) move
            (sym (in-dropped (take (number call.sub (before (last_of tickets) history)) (moves_of setting call.sub history))
            (number call.sub (before (first_of tickets) history)) i) ∙ there))).low
