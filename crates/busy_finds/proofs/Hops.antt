-- How many hops a chase can make: each takes a Gone that stood where the chase began from those that lead beyond its
-- place, or leads beyond what was committed there; but one, over the Coming of the last move that was begun there.
use Rattle.std.proofs.Common.{◌≡◌, ◌⊎◌, inl, inr, ℕ, suc, ◌+◌, ◌-◌, ◌<◌, ◌≤◌, ◌^◌, true, false, Option, Some, None, length, refl, sym, ap, ◌∙◌, subst, arith}
use Rattle.std.proofs.lemmas.Bool.{cases_eq, cases_lt}
use Rattle.std.proofs.lemmas.Bool.Decides.{nat_tests}
use Rattle.entry_word.specs.declared.mark.PresenceMark.{PresenceMark}
use Rattle.entry_word.specs.declared.mark.PresenceMark.TheVariants.{Empty, Here, Gone, Coming, Off}
use Rattle.directory.specs.Settings.{Setting}
use Rattle.directory.specs.Histories.{before, History}
use Rattle.directory.specs.Finds.{Chase, FindCall, is_known, known_with}
use Rattle.directory.specs.Legal.{IsLegal}
use Rattle.directory.specs.Standing.{standing}
use Rattle.trail_laws.specs.Trail.{mark_seen, MarkTells}
use Rattle.busy_finds.specs.LawsBelow.{PriceLaws}
use Rattle.busy_finds.proofs.Ahead.{ahead, ahead-drops, ahead-falls}
use Rattle.busy_finds.proofs.Chase.{coming-apart, gone-on}
use Rattle.busy_finds.proofs.Emptied.{IsChasing, IsPurgedSince, mark-tells, purged-since}
use Rattle.busy_finds.proofs.Past.{past-later}
use Rattle.busy_finds.proofs.Tickets.{begun, begun-more, coming-is, count, count-begun, gone-is, gone-since, IsComing, IsGone, stands-there, stop_at}

-- a Gone that is read makes its number known, and what was known
knows-up-to : (number q : ℕ) (known : Option ℕ) → number ≤ q → is_known number (known_with q known) ≡ true
knows-up-to number q None h = grind (arith, nat_tests, h)
knows-up-to number q (Some known) h = grind (arith, nat_tests, h)

knows-still : (number q : ℕ) (known : Option ℕ) → is_known number known ≡ true
    → is_known number (known_with q known) ≡ true
knows-still number q None h = cc
knows-still number q (Some known) h = grind (arith, nat_tests, h)

module _ (laws : PriceLaws) (setting : Setting) (history : History) (actor : ℕ) (call : FindCall) (first : ℕ)
    (few : setting.nodes ≤ 2 ^ 16) (inside : call.from < setting.nodes) (legal : IsLegal setting call.sub history) where
  abbrev pub Chases : ℕ → ℕ → ℕ → ℕ → Type 0
  Chases t since place node = IsChasing laws setting history actor call first few inside legal t since place node

  abbrev pub count_at : ℕ → ℕ
  count_at t = count laws.marks setting call.sub history few legal t

  abbrev pub begun_at : ℕ → ℕ
  begun_at t = begun laws.marks setting call.sub history few legal t

  abbrev pub stop_no : ℕ → ℕ
  stop_no place = stop_at laws.marks setting call.sub history few legal place

  abbrev pub seen_at : ℕ → ℕ → PresenceMark
  seen_at t node = mark_seen setting call.sub (before t history) node

  abbrev pub left_ahead : ℕ → ℕ → ℕ
  left_ahead since place = ahead (λ node. seen_at since node) place setting.nodes

  -- whether the Coming of the last move that was begun where the chase began can still be read as one that isn't known
  abbrev pub IsSpent : ℕ → ℕ → ℕ → Option ℕ → Type 0
  IsSpent since t place known =
      (is_known (begun_at since) known ≡ true) ⊎ ((suc place ≡ begun_at since) ⊎ (begun_at since < begun_at t))

  -- how many hops a chase has made, and at most makes
  pub record IsCounted (t since place node : ℕ) (known : Option ℕ) (hops : ℕ) : Type 0 where
    pub extra : ℕ
    pub bound : hops + left_ahead since place ≤ left_ahead since 0 + (place - count_at since) + extra
    pub once : (extra ≡ 0) ⊎ ((extra ≡ 1) × IsSpent since t place known)
    pub back : (x from : ℕ) → t ≤ x → is_known place known ≡ false → seen_at x node ≡ Coming place from
        → (hops ≡ 0) × (place ≤ begun_at since)

  -- a chase that begins
  pub begins-counted : (t place node : ℕ) (known : Option ℕ) → place ≤ begun_at t → IsCounted t t place node known 0
  begins-counted t place node known low = record {
    extra = 0;
    bound = omega (arith, ahead-falls (λ v. seen_at t v) 0 place setting.nodes (omega arith));
    once = inl refl;
    back = λ x from later unknown comes. (refl, low);
  }

  module _ (t u since place node hops : ℕ) (chase : Chase) (now : Chases t since place node)
      (counted : IsCounted t since place node chase.known hops) (later : t ≤ u) (low : u ≤ length history) where
    N : ℕ
    N = count_at since

    falls : (next : ℕ) → place ≤ next → left_ahead since next ≤ left_ahead since place
    falls next h = ahead-falls (λ v. seen_at since v) place next setting.nodes h

    begun-since : begun_at since ≤ begun_at u
    begun-since = begun-more laws.marks setting call.sub history few legal since u (omega (arith, now.by, later))

    begun-later : begun_at t ≤ begun_at u
    begun-later = begun-more laws.marks setting call.sub history few legal t u later

    known_low : place ≤ begun_at u
    known_low = omega (arith, now.known_then, begun-later)

    -- over a Gone
    pub gone-counted : (q to : ℕ) → seen_at u node ≡ Gone q to → place < q → to ≡ stop_no q
        → IsCounted u since q to (known_with q chase.known) (suc hops)
    gone-counted q to is above goes = record {
      extra = counted.extra;
      bound = elim (cases_lt (count_at since) q) [
        | inl new ↦ omega (arith, counted.bound, falls q (omega (arith, above)), new, above)
        | inr old ↦
            let there : seen_at since node ≡ Gone q to =
            gone-since laws.marks setting call.sub history few legal node q to since u
            (omega (arith, now.by, later)) low old is in
            omega (
              arith,
              counted.bound,
              ahead-drops (λ v. seen_at since v) place q q to node setting.nodes now.within above (omega arith) there,
              above,
            )
      ];
      once = at_once counted.once;
      back = λ x from h unknown comes.
          let clash : true ≡ false = sym (knows-up-to q q chase.known (omega arith)) ∙ unknown in cc;
    }
      where
        at_once : (counted.extra ≡ 0) ⊎ ((counted.extra ≡ 1) × IsSpent since t place chase.known)
            → (counted.extra ≡ 0) ⊎ ((counted.extra ≡ 1) × IsSpent since u q (known_with q chase.known))
        at_once (inl none) = inl none
        at_once (inr (one, inl known)) = inr (one, inl (knows-still (begun_at since) q chase.known known))
        at_once (inr (one, inr (inl there))) =
            inr (one, inl (knows-up-to (begun_at since) q chase.known (omega (arith, there, above))))
        at_once (inr (one, inr (inr newer))) = inr (one, inr (inr (omega (arith, newer, begun-later))))

    -- over a Coming
    module _ (q from : ℕ) (is : seen_at u node ≡ Coming q from) (unknown : is_known q chase.known ≡ false) where
      comes : IsComing laws.marks setting call.sub history few legal u node q from
      comes = coming-is laws.marks setting call.sub history few legal u node q from
          (mark-tells laws setting history actor call first few inside legal u node (Coming q from) now.within is)

      -- it isn't where it leads
      moving : node ≡ from → ⊥
      moving same = coming-apart laws.marks setting call.sub history few legal u node q from now.within is (sym same)

      -- where all that was begun was committed, and the node was left before, it had a Gone
      left-before : place < count_at since → q - 1 ≡ count_at since → begun_at since ≡ count_at since
          → left_ahead since (q - 1) + 1 ≤ left_ahead since place
      left-before early last done = at_mark (seen_at since node) refl
        where
          standing-apart : node ≡ standing setting call.sub (before since history) → ⊥
          standing-apart here = moving (here ∙ (stands-there laws.marks setting call.sub history few legal since
              ∙ (ap (λ n. stop_no n) (sym last) ∙ sym comes.leads)))

          tells : (mark : PresenceMark) → seen_at since node ≡ mark
              → MarkTells setting call.sub (before since history) node mark
          tells mark e = mark-tells laws setting history actor call first few inside legal since node mark now.within e

          since_low : since ≤ length history
          since_low = omega (arith, now.by, later, low)

          at_mark : (mark : PresenceMark) → seen_at since node ≡ mark
              → left_ahead since (q - 1) + 1 ≤ left_ahead since place
          at_mark Empty e = absurd (no-empty e)
            where
              no-empty : seen_at since node ≡ Empty → ⊥
              no-empty e =
                  let then : Chases since since place node = record {
                    low = now.low;
                    by = omega arith;
                    begins = now.begins;
                    there = now.there;
                    within = now.within;
                    known_then = omega (arith, early, done);
                    above = now.above;
                  } in
                  let purged : IsPurgedSince laws setting history actor call first few inside legal since place since =
                  purged-since laws setting history actor call first few inside legal since since place node since_low then e in
                  purged.not_yet (past-later laws.marks setting call.sub history few legal _ (suc purged.was.ticket) since
                  (omega (arith, purged.was.by)) since_low purged.past_then)
          at_mark (Here p) e = absurd (standing-apart (tells (Here p) e).0)
          at_mark (Off p) e = absurd (standing-apart (tells (Off p) e).0)
          at_mark (Coming r other) e =
              elim (coming-is laws.marks setting call.sub history few legal since node r other (tells (Coming r other) e)).by [
                | inl new ↦ absurd (omega (
                  arith,
                  new,
                  done,
                  (coming-is laws.marks setting call.sub history few legal since node r other (tells (Coming r other) e)).last,
                ))
                | inr old ↦ absurd (standing-apart old.1)
              ]
          at_mark (Gone g to) e =
              let gone : IsGone laws.marks setting call.sub history few legal since node g to =
              gone-is laws.marks setting call.sub history few legal since node g to (tells (Gone g to) e) in
              ahead-drops (λ v. seen_at since v) place (q - 1) g to node setting.nodes now.within
              (gone-on laws.marks setting call.sub history few legal since place node g to since_low
              (omega (arith, early, count-begun laws.marks setting call.sub history few legal since)) now.there now.within e)
              (omega (arith, gone.by, last)) e

      -- the Coming that is read isn't that of an earlier move
      not-back : (x back : ℕ) → u ≤ x → seen_at x from ≡ Coming (q - 1) back → ⊥
      not-back x back h again =
          let then : IsComing laws.marks setting call.sub history few legal x from (q - 1) back =
          coming-is laws.marks setting call.sub history few legal x from (q - 1) back
          (mark-tells laws setting history actor call first few inside legal x from (Coming (q - 1) back) comes.inside again) in
          absurd (omega (
            arith,
            then.last,
            comes.last,
            comes.some,
            begun-more laws.marks setting call.sub history few legal u x h,
          ))

      counts : (extra : ℕ) → suc hops + left_ahead since (q - 1) ≤ left_ahead since 0 + (q - 1 - count_at since) + extra
          → (extra ≡ 0) ⊎ ((extra ≡ 1) × IsSpent since u (q - 1) chase.known)
          → IsCounted u since (q - 1) from chase.known (suc hops)
      counts extra bound once = record {
        extra = extra;
        bound = bound;
        once = once;
        back = λ x back h new again. absurd (not-back x back h again);
      }

      last-begun : q ≡ begun_at since → suc (q - 1) ≡ begun_at since
      last-begun same = omega (arith, same, comes.some)

      -- it is that of the last move that was begun where the chase began
      over-last : q ≡ begun_at since → place < q → IsCounted u since (q - 1) from chase.known (suc hops)
      over-last same early = at_once counted.once
        where
          at_once : (counted.extra ≡ 0) ⊎ ((counted.extra ≡ 1) × IsSpent since t place chase.known)
              → IsCounted u since (q - 1) from chase.known (suc hops)
          at_once (inl none) = counts 1
              (omega (arith, counted.bound, none, falls (q - 1) (omega (arith, early)), early))
              (inr (refl, inr (inl (last-begun same))))
          at_once (inr (one, inl known)) =
              let clash : true ≡ false =
              sym known ∙ (ap (λ n. is_known n chase.known) (sym same) ∙ unknown) in cc
          at_once (inr (one, inr (inl there))) =
              absurd (moving (now.there ∙ (ap (λ n. stop_no n)
              (let e : place ≡ q - 1 = omega (arith, there, same) in e) ∙ sym comes.leads)))
          at_once (inr (one, inr (inr newer))) = absurd (omega (arith, newer, begun-later, same, comes.last))

      -- it is that of a later move
      over-later : begun_at since < q → place < q → IsCounted u since (q - 1) from chase.known (suc hops)
      over-later newer early = counts counted.extra bound (at_once counted.once)
        where
          before_that : place < q - 1
          before_that = elim (cases_eq place (q - 1)) [
            | inl same ↦ absurd (moving (now.there ∙ (ap (λ n. stop_no n) same ∙ sym comes.leads)))
            | inr apart ↦ omega (arith, apart, early)
          ]

          fewer : left_ahead since (q - 1) ≤ left_ahead since place
          fewer = falls (q - 1) (omega (arith, before_that))

          were : count_at since ≤ begun_at since
          were = count-begun laws.marks setting call.sub history few legal since

          bound : suc hops + left_ahead since (q - 1) ≤ left_ahead since 0 + (q - 1 - count_at since) + counted.extra
          bound = elim (cases_lt (count_at since) (q - 1)) [
            | inl above ↦ omega (arith, counted.bound, fewer, above, before_that)
            | inr below ↦
                let drop : left_ahead since (q - 1) + 1 ≤ left_ahead since place =
                left-before (omega (arith, below, before_that, were, newer)) (omega (arith, below, were, newer))
                (omega (arith, below, were, newer)) in
                omega (arith, counted.bound, drop, below, before_that)
          ]

          at_once : (counted.extra ≡ 0) ⊎ ((counted.extra ≡ 1) × IsSpent since t place chase.known)
              → (counted.extra ≡ 0) ⊎ ((counted.extra ≡ 1) × IsSpent since u (q - 1) chase.known)
          at_once (inl none) = inl none
          at_once (inr (one, spent)) = inr (one, inr (inr (omega (arith, newer, comes.last))))

      pub coming-counted : IsCounted u since (q - 1) from chase.known (suc hops)
      coming-counted = elim (cases_eq place q) [
        | inl same ↦
            let back : (hops ≡ 0) × (place ≤ begun_at since) =
            counted.back u from later (subst (λ n. is_known n chase.known ≡ false) (sym same) unknown)
            (is ∙ ap (λ n. Coming n from) (sym same)) in
            let last : q ≡ begun_at since = omega (arith, back.1, same, comes.last, begun-since) in
            counts 1
            (omega (arith, back.0, ahead-falls (λ v. seen_at since v) 0 (q - 1) setting.nodes (omega arith)))
            (inr (refl, inr (inl (last-begun last))))
        | inr apart ↦ elim (cases_eq q (begun_at since)) [
          | inl last ↦ over-last last (omega (arith, apart, known_low, comes.last))
          | inr other ↦ over-later (omega (arith, other, comes.last, begun-since))
              (omega (arith, apart, known_low, comes.last))
        ]
      ]

      pub committed : q - 1 ≤ count_at u
      committed = elim comes.by [
        | inl early ↦ omega (arith, early)
        | inr late ↦ omega (arith, late.0)
      ]
