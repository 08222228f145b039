-- The looks of a find, without the puts that are made again.
use Rattle.std.proofs.Common.{add-one, arith, ◌≡◌, ℕ, zero, suc, ◌≤◌, Bool, List, [], ◌∷◌, ◌++◌, append_assoc, true, false, fold, length, map, take, refl, sym, ap, ◌∙◌, subst, Some}
use Rattle.std.specs.Prelude.{flat_map, slice_get, if◌then◌else◌}
use Rattle.std.proofs.lemmas.List.{append-nil, length-append, length_push}
use Rattle.entry_word.specs.declared.visit.Key.{Key}
use Rattle.entry_word.specs.declared.visit.Visit.{Visit}
use Rattle.directory.specs.Settings.{Setting}
use Rattle.directory.specs.Histories.{History, before, cell, words_at, words_by}
use Rattle.directory.specs.Finds.{FindCall, Pursuit, after_word, at_origin}
use Rattle.directory.specs.Looks.{AreLooks, look_by}
use Rattle.directory.specs.ListLaws.{slice_get-right}
use Rattle.directory.specs.HistoryLaws.{front-append}
use Rattle.store_laws.specs.Repeats.{CellsStay, FindsStay, is_repeat, keep, ticket_there, without_repeats}

-- what is kept stays in front of what is kept later
abbrev Grown : List Visit → List Visit → Type 0
Grown kept whole = (more : History) × (whole ≡ kept ++ more)

grown-at : (visit : Visit) (later kept : History) (b : Bool) → Grown kept (fold keep kept later)
    → Grown (kept ++ visit ∷ []) (fold keep (kept ++ visit ∷ []) later)
    → Grown kept (fold keep (if b then kept else kept ++ visit ∷ []) later)
grown-at visit later kept true stays grows = stays
grown-at visit later kept false stays grows =
    (visit ∷ grows.0, grows.1 ∙ append_assoc kept (visit ∷ []) grows.0)

grown : (later kept : History) → Grown kept (fold keep kept later)
grown [] kept = ([], sym (append-nil kept))
grown (visit ∷ later) kept =
    grown-at visit later kept (is_repeat kept visit.act) (grown later kept) (grown later (kept ++ visit ∷ []))

-- so what is kept of a longer front is no shorter
longer : (later kept : History) → length kept ≤ length (fold keep kept later)
longer later kept = let g = grown later kept in rw g.1 (longer-with kept g.0)
  where
    longer-with : (xs ys : History) → length xs ≤ length (xs ++ ys)
    longer-with xs ys = grind (arith, length-append)

fronts-longer : (history kept : History) (a b : ℕ) → a ≤ b
    → length (fold keep kept (take a history)) ≤ length (fold keep kept (take b history))
fronts-longer history kept zero b h = longer (take b history) kept
fronts-longer [] kept (suc a) (suc b) h = omega arith
fronts-longer (visit ∷ later) kept (suc a) (suc b) h = fronts-longer later (keep kept visit) a b (omega (arith, h))
fronts-longer history kept (suc a) zero h = absurd (omega (arith, h))

-- a look is kept where it stands: after what is kept of the visits before it
kept-look : (history kept : History) (ticket actor : ℕ) (key : Key)
    → slice_get history ticket ≡ Some (look_by actor key)
    → Grown (fold keep kept (take ticket history) ++ look_by actor key ∷ []) (fold keep kept history)
kept-look [] kept ticket actor key h = cc
kept-look (visit ∷ later) kept zero actor key h =
    let same : visit ≡ look_by actor key = cc in
    subst (λ v. Grown (kept ++ look_by actor key ∷ []) (fold keep (keep kept v) later)) (sym same)
    (grown later (kept ++ look_by actor key ∷ []))
kept-look (visit ∷ later) kept (suc ticket) actor key h = kept-look later (keep kept visit) ticket actor key h

-- what a look at a ticket is, and what stands before it, in the history that is kept
look-there : (history : History) (ticket actor : ℕ) (key : Key)
    → slice_get history ticket ≡ Some (look_by actor key)
    → (slice_get (without_repeats history) (ticket_there history ticket) ≡ Some (look_by actor key))
    × (before (ticket_there history ticket) (without_repeats history) ≡ without_repeats (before ticket history))
look-there history ticket actor key h =
    let kept : History = without_repeats (before ticket history) in
    let g = kept-look history [] ticket actor key h in
    let whole : without_repeats history ≡ kept ++ look_by actor key ∷ g.0
    = g.1 ∙ append_assoc kept (look_by actor key ∷ []) g.0 in (
      ap (λ xs. slice_get xs (length kept)) whole
          ∙ slice_get-right kept (look_by actor key ∷ g.0) (length kept) 0 (omega arith),
      ap (λ xs. take (length kept) xs) whole ∙ front-of kept (look_by actor key ∷ g.0),
    )
  where
    front-of : (xs ys : History) → take (length xs) (xs ++ ys) ≡ xs
    front-of xs ys = sym (front-append xs ys)

-- the ticket after a look is the next one there too
next-there : (history kept : History) (ticket actor : ℕ) (key : Key)
    → slice_get history ticket ≡ Some (look_by actor key)
    → length (fold keep kept (take (suc ticket) history)) ≡ suc (length (fold keep kept (take ticket history)))
next-there [] kept ticket actor key h = cc
next-there (visit ∷ later) kept zero actor key h =
    let same : visit ≡ look_by actor key = cc in
    ap (λ v. length (keep kept v)) same ∙ length_push kept (look_by actor key) ∙ add-one (length kept)
next-there (visit ∷ later) kept (suc ticket) actor key h = next-there later (keep kept visit) ticket actor key h

module _ (cells : CellsStay) where
  looks-stay : (setting : Setting) (history : History) (actor : ℕ) (call : FindCall) (tickets : List ℕ)
      (earliest : ℕ) (pursuit : Pursuit) → AreLooks setting history actor call earliest pursuit tickets
      → AreLooks setting (without_repeats history) actor call (ticket_there history earliest) pursuit
      (map (ticket_there history) tickets)
  unfolding AreLooks
  looks-stay setting history actor call [] earliest pursuit h = tt
  looks-stay setting history actor call (ticket ∷ later) earliest pursuit h =
      let key : Key = h.1.0 in
      let there = look-there history ticket actor key h.1.2 in
      let word : cell setting (before ticket history) key
      ≡ cell setting (before (ticket_there history ticket) (without_repeats history)) key
      = sym (cells setting (before ticket history) key)
      ∙ ap (λ seen. cell setting seen key) (sym there.1) in
      let rest : AreLooks setting (without_repeats history) actor call (ticket_there history (suc ticket))
      (after_word setting call pursuit (cell setting (before ticket history) key))
      (map (ticket_there history) later)
      = looks-stay setting history actor call later (suc ticket)
      (after_word setting call pursuit (cell setting (before ticket history) key)) h.1.3 in
      let next : ticket_there history (suc ticket) ≡ suc (ticket_there history ticket)
      = next-there history [] ticket actor key h.1.2 in (
        fronts-longer history [] earliest ticket h.0,
        (
          key,
          h.1.1,
          there.0,
          subst (λ w. AreLooks setting (without_repeats history) actor call (suc (ticket_there history ticket))
              (after_word setting call pursuit w) (map (ticket_there history) later)) word
              (subst (λ e. AreLooks setting (without_repeats history) actor call e
              (after_word setting call pursuit (cell setting (before ticket history) key))
              (map (ticket_there history) later)) next rest),
        ),
      )

  -- the words of these looks are the same
  words-stay : (setting : Setting) (history : History) (actor : ℕ) (call : FindCall) (tickets : List ℕ)
      (earliest : ℕ) (pursuit : Pursuit) → AreLooks setting history actor call earliest pursuit tickets
      → flat_map (words_at setting (without_repeats history)) (map (ticket_there history) tickets)
      ≡ flat_map (words_at setting history) tickets
  unfolding AreLooks
  words-stay setting history actor call [] earliest pursuit h = refl
  words-stay setting history actor call (ticket ∷ later) earliest pursuit h =
      let key : Key = h.1.0 in
      let there = look-there history ticket actor key h.1.2 in
      let rest : flat_map (words_at setting (without_repeats history)) (map (ticket_there history) later)
      ≡ flat_map (words_at setting history) later
      = words-stay setting history actor call later (suc ticket)
      (after_word setting call pursuit (cell setting (before ticket history) key)) h.1.3 in
      let words : words_at setting (without_repeats history) (ticket_there history ticket)
      ≡ words_at setting history ticket
      = ap (λ o. words_by setting (before (ticket_there history ticket) (without_repeats history)) o) there.0
      ∙ ap (λ seen. cell setting seen key ∷ []) there.1
      ∙ ap (λ w. w ∷ []) (cells setting (before ticket history) key)
      ∙ sym (ap (λ o. words_by setting (before ticket history) o) h.1.2) in
      ap (λ ws. ws ++ flat_map (words_at setting (without_repeats history)) (map (ticket_there history) later)) words
      ∙ ap (λ ws. words_at setting history ticket ++ ws) rest

  pub finds-stay : FindsStay
  finds-stay setting history actor call found tickets is =
      record {
        looks = looks-stay setting history actor call tickets 0 at_origin is.looks;
        answer = ap (λ ws. fold (after_word setting call) at_origin ws)
            (words-stay setting history actor call tickets 0 at_origin is.looks) ∙ is.answer;
      }
