-- Cells and reads, with and without the puts that are made again.
use Rattle.std.proofs.Common.{arith, ◌≡◌, ℕ, cond, ◌==◌, Bool, [], ◌∷◌, ◌++◌, append_assoc, true, false, fold, refl, sym, ap, ◌∙◌}
use Rattle.std.specs.Prelude.{if◌then◌else◌}
use Rattle.std.proofs.lemmas.List.{append-nil}
use Rattle.std.proofs.lemmas.Bool.{and_parts, eqb-true, eq-eqb}
use Rattle.entry_word.specs.declared.visit.Key.{Key}
use Rattle.entry_word.specs.declared.visit.Act.{Act}
use Rattle.entry_word.specs.declared.visit.Act.TheVariants.{Look, Put, Census}
use Rattle.entry_word.specs.declared.visit.Visit.{Visit}
use Rattle.directory.specs.Settings.{Setting}
use Rattle.directory.specs.Keys.{key_sub, same_key, opening}
use Rattle.directory.specs.Histories.{History, cell, is_put_for, puts_to, word_after, words_of, words_read}
use Rattle.directory.specs.Statements.{CellAfter, SameKey}
use Rattle.store_laws.specs.Repeats.{CellsStay, ReadsStay, is_repeat, keep, puts_it}

-- an actor's words grow by those of its own visits
abbrev pub WordsGrow : Type 0
WordsGrow =
    (setting : Setting) (actor : ℕ) (history : History) (visit : Visit)
    → words_read setting actor (history ++ visit ∷ []) ≡ words_read setting actor history
    ++ cond (visit.actor == actor) (words_of setting history visit.act) []

-- the word of a cell after visits, and whether the last put puts a word into it
abbrev word_later : Key → ℕ → History → ℕ
word_later key now history = fold (λ w (visit : Visit). word_after key w visit.act) now history

abbrev put_last : Key → ℕ → Bool → History → Bool
put_last key word last puts = fold (λ b (visit : Visit). puts_it key word visit.act) last puts

module _ (means : SameKey) where
  same-true : (one other : Key) → same_key one other ≡ true → one ≡ other
  same-true one other h = (means one other).0 h

  -- what isn't put for a subscriber changes none of its cells
  act-kept : (key : Key) (word : ℕ) (act : Act) → is_put_for (key_sub key) act ≡ false → word_after key word act ≡ word
  act-kept key word (Put other new) h = grind (arith, same-true, eq-eqb)
  act-kept key word (Look other) h = refl
  act-kept key word (Census node) h = refl

  -- a put of a word into a cell leaves it there
  put-given : (key : Key) (word now : ℕ) (act : Act) → puts_it key word act ≡ true → word_after key now act ≡ word
  put-given key word now (Put other new) h = grind (arith, and_parts, eqb-true)
  put-given key word now (Look other) h = cc
  put-given key word now (Census node) h = cc

  after-put : (key : Key) (word now : ℕ) (last : Bool) (visit : Visit) (later : History) (b : Bool)
      → is_put_for (key_sub key) visit.act ≡ b → (last ≡ true → now ≡ word)
      → ((next : ℕ) (flag : Bool) → (flag ≡ true → next ≡ word)
      → put_last key word flag (puts_to (key_sub key) later) ≡ true → word_later key next later ≡ word)
      → put_last key word last (cond b (visit ∷ puts_to (key_sub key) later) (puts_to (key_sub key) later)) ≡ true
      → word_later key (word_after key now visit.act) later ≡ word
  after-put key word now last visit later true is h rest e =
      rest (word_after key now visit.act) (puts_it key word visit.act) (put-given key word now visit.act) e
  after-put key word now last visit later false is h rest e =
      rest (word_after key now visit.act) last (λ t. act-kept key now visit.act is ∙ h t) e

  -- the word that the last put of a subscriber puts stays there
  held-from : (key : Key) (word : ℕ) (history : History) (now : ℕ) (last : Bool) → (last ≡ true → now ≡ word)
      → put_last key word last (puts_to (key_sub key) history) ≡ true → word_later key now history ≡ word
  held-from key word [] now last h e = h e
  held-from key word (visit ∷ later) now last h e =
      after-put key word now last visit later (is_put_for (key_sub key) visit.act) refl h
      (λ next flag g f. held-from key word later next flag g f) e

  -- a put that is made again changes no cell
  repeat-idle : (setting : Setting) (kept : History) (act : Act) (key : Key) → is_repeat kept act ≡ true
      → word_after key (cell setting kept key) act ≡ cell setting kept key
  repeat-idle setting kept (Look other) key h = refl
  repeat-idle setting kept (Census node) key h = refl
  repeat-idle setting kept (Put other new) key h =
      let held : cell setting kept other ≡ new = held-from other new kept (opening setting other) false (λ f. cc) h in
      by-same (same_key key other) refl held
    where
      by-same : (s : Bool) → same_key key other ≡ s → cell setting kept other ≡ new
          → (if s then new else cell setting kept key) ≡ cell setting kept key
      by-same true e held = sym (ap (cell setting kept) (same-true key other e) ∙ held)
      by-same false e held = refl

  module _ (after : CellAfter) where
    keep-at : (setting : Setting) (kept seen : History) (visit : Visit) (key : Key) (b : Bool)
        → is_repeat kept visit.act ≡ b → cell setting kept key ≡ cell setting seen key
        → cell setting (if b then kept else kept ++ visit ∷ []) key ≡ cell setting (seen ++ visit ∷ []) key
    keep-at setting kept seen visit key true e same =
        let idle : word_after key (cell setting kept key) visit.act ≡ cell setting kept key
        = repeat-idle setting kept visit.act key e in
        sym idle ∙ ap (λ w. word_after key w visit.act) same ∙ sym (after setting seen visit key)
    keep-at setting kept seen visit key false e same =
        after setting kept visit key ∙ ap (λ w. word_after key w visit.act) same ∙ sym (after setting seen visit key)

    keeps-cells : (setting : Setting) (later kept seen : History)
        → ((key : Key) → cell setting kept key ≡ cell setting seen key)
        → (key : Key) → cell setting (fold keep kept later) key ≡ cell setting (seen ++ later) key
    keeps-cells setting [] kept seen same key = same key ∙ ap (λ h. cell setting h key) (sym (append-nil seen))
    keeps-cells setting (visit ∷ later) kept seen same key =
        keeps-cells setting later (keep kept visit) (seen ++ visit ∷ [])
        (λ k. keep-at setting kept seen visit k (is_repeat kept visit.act) refl (same k)) key
        ∙ ap (λ h. cell setting h key) (append_assoc seen (visit ∷ []) later)

    pub cells-stay : CellsStay
    cells-stay setting history key = keeps-cells setting history [] [] (λ k. refl) key

    -- two histories after which cells hold the same, and in which an actor reads the same, still do with a visit more
    look-words : (setting : Setting) (kept seen : History) (act : Act)
        → ((key : Key) → cell setting kept key ≡ cell setting seen key)
        → words_of setting kept act ≡ words_of setting seen act
    look-words setting kept seen (Look key) same = ap (λ w. w ∷ []) (same key)
    look-words setting kept seen (Put key word) same = refl
    look-words setting kept seen (Census node) same = refl

    no-words : (setting : Setting) (kept seen : History) (act : Act) (b : Bool) → is_repeat kept act ≡ true
        → cond b (words_of setting seen act) [] ≡ []
    no-words setting kept seen (Look key) b h = cc
    no-words setting kept seen (Census node) b h = cc
    no-words setting kept seen (Put key word) true h = refl
    no-words setting kept seen (Put key word) false h = refl

    read-at : WordsGrow → (setting : Setting) (actor : ℕ) (kept seen : History) (visit : Visit) (b : Bool)
        → is_repeat kept visit.act ≡ b → ((key : Key) → cell setting kept key ≡ cell setting seen key)
        → words_read setting actor kept ≡ words_read setting actor seen
        → words_read setting actor (if b then kept else kept ++ visit ∷ [])
        ≡ words_read setting actor (seen ++ visit ∷ [])
    read-at grow setting actor kept seen visit true e same reads =
        reads ∙ sym (append-nil (words_read setting actor seen))
        ∙ ap (λ ws. words_read setting actor seen ++ ws)
        (sym (no-words setting kept seen visit.act (visit.actor == actor) e))
        ∙ sym (grow setting actor seen visit)
    read-at grow setting actor kept seen visit false e same reads =
        grow setting actor kept visit
        ∙ ap (λ ws. ws ++ cond (visit.actor == actor) (words_of setting kept visit.act) []) reads
        ∙ ap (λ ws. words_read setting actor seen ++ cond (visit.actor == actor) ws [])
        (look-words setting kept seen visit.act same)
        ∙ sym (grow setting actor seen visit)

    keeps-reads : WordsGrow → (setting : Setting) (actor : ℕ) (later kept seen : History)
        → ((key : Key) → cell setting kept key ≡ cell setting seen key)
        → words_read setting actor kept ≡ words_read setting actor seen
        → words_read setting actor (fold keep kept later) ≡ words_read setting actor (seen ++ later)
    keeps-reads grow setting actor [] kept seen same reads =
        reads ∙ ap (λ h. words_read setting actor h) (sym (append-nil seen))
    keeps-reads grow setting actor (visit ∷ later) kept seen same reads =
        keeps-reads grow setting actor later (keep kept visit) (seen ++ visit ∷ [])
        (λ k. keep-at setting kept seen visit k (is_repeat kept visit.act) refl (same k))
        (read-at grow setting actor kept seen visit (is_repeat kept visit.act) refl same reads)
        ∙ ap (λ h. words_read setting actor h) (append_assoc seen (visit ∷ []) later)

    pub reads-stay : WordsGrow → ReadsStay
    reads-stay grow setting history actor = keeps-reads grow setting actor history [] [] (λ k. refl) refl
