-- The looks of a find's climb: what it has passed, each of its entries empty at a ticket of the find.
use Rattle.std.proofs.Common.{◌≡◌, ◌⊎◌, inl, inr, ℕ, zero, suc, ◌+◌, ◌*◌, ◌<◌, ◌≤◌, true, List, [], ◌∷◌, ◌++◌, ◌==◌, Some, None, map, fold, refl, sym, ap, ◌∙◌, subst, append_assoc, arith}
use Rattle.std.specs.Prelude.{flat_map, slice_get}
use Rattle.std.proofs.lemmas.Bool.{cases_eq, eqb-true, or_cases, or_right}
use Rattle.std.proofs.lemmas.List.Sums.{sum_by-append, sum_by-cons, sum_by_push}
use Rattle.node_set.specs.Ascending.{has}
use Rattle.node_set.specs.SetLaws.{has_head}
use Rattle.entry_word.specs.declared.visit.Key.{Key}
use Rattle.directory.specs.Settings.{Setting}
use Rattle.directory.specs.Histories.{before, cell, History, words_at}
use Rattle.directory.specs.Finds.{after_word, all_readers, at_origin, ended, FindCall, key_of, Pursuit, Reader, way_in}
use Rattle.directory.specs.LookLaws.{pursuit-step}
use Rattle.directory.specs.Looks.{AreLooks, first_of, IsFind, last_of, look_by}
use Rattle.directory.specs.Parts.{climb_weight}
use Rattle.directory.specs.Writes.{numbers_from}
use Rattle.directory.specs.declared.answers.Found.{Found}
use Rattle.trail_laws.specs.Trail.{entry_seen}

-- what holds behind a find's first look, and is kept by each later one, holds behind its last
module _ (setting : Setting) (history : History) (actor : ℕ) (call : FindCall) (last : ℕ) (P : ℕ → Pursuit → Type 0)
    (one : (t u : ℕ) (pursuit : Pursuit) (key : Key) → t < u → u ≤ last
    → slice_get history u ≡ Some (look_by actor key) → key_of call pursuit ≡ Some key → P t pursuit
    → P u (after_word setting call pursuit (cell setting (before u history) key))) where
  -- the last look is none earlier
  first-early : (later : List ℕ) (u : ℕ) (pursuit : Pursuit)
      → AreLooks setting history actor call (suc u) pursuit later → u ≤ last_of (u ∷ later)
  unfolding AreLooks
  first-early [] u pursuit looks = omega arith
  first-early (v ∷ later) u pursuit (first, (key, wanted, is_look, rest)) =
      let more : v ≤ last_of (v ∷ later) =
      first-early later v (after_word setting call pursuit (cell setting (before v history) key)) rest in
      let e : last_of (v ∷ later) ≡ last_of (u ∷ v ∷ later) = grind arith in
      omega (arith, first, more, e)

  looks-on : (later : List ℕ) (t : ℕ) (pursuit : Pursuit) → last_of (t ∷ later) ≤ last → P t pursuit
      → AreLooks setting history actor call (suc t) pursuit later
      → P (last_of (t ∷ later)) (fold (after_word setting call) pursuit (flat_map (words_at setting history) later))
  unfolding AreLooks
  looks-on [] t pursuit by now looks = now
  looks-on (u ∷ later) t pursuit by now (first, (key, wanted, is_look, rest)) =
      let e : last_of (u ∷ later) ≡ last_of (t ∷ u ∷ later) = grind arith in
      let early : u ≤ last_of (u ∷ later) =
      first-early later u (after_word setting call pursuit (cell setting (before u history) key)) rest in
      rw (pursuit-step setting history actor call pursuit u key later is_look)
      (subst (λ x. P x (fold (after_word setting call)
      (after_word setting call pursuit (cell setting (before u history) key)) (flat_map (words_at setting history) later)))
      e
      (looks-on later u (after_word setting call pursuit (cell setting (before u history) key)) (omega (arith, e, by))
      (one t u pursuit key (omega (arith, first)) (omega (arith, early, e, by)) is_look wanted now) rest))

  pub looks-end : {found : Found} (tickets : List ℕ) → IsFind setting history actor call found tickets
      → last_of tickets ≤ last
      → ((t : ℕ) (key : Key) → t ≡ first_of tickets → t ≤ last → slice_get history t ≡ Some (look_by actor key)
      → key_of call at_origin ≡ Some key
      → P t (after_word setting call at_origin (cell setting (before t history) key)))
      → P (last_of tickets) (ended found)
  unfolding AreLooks
  looks-end {found} [] find by start = let clash : at_origin ≡ ended found = find.answer in cc
  looks-end (t ∷ later) find by start =
      let look = find.looks.1 in
      let early : t ≤ last_of (t ∷ later) =
      first-early later t (after_word setting call at_origin (cell setting (before t history) look.0)) look.3 in
      rw (sym (pursuit-step setting history actor call at_origin t look.0 later look.2) ∙ find.answer) at
      (looks-on later t (after_word setting call at_origin (cell setting (before t history) look.0)) by
      (start t look.0 refl (omega (arith, early, by)) look.2 look.1) look.3)

-- ---- the climb
module _ (setting : Setting) (history : History) (call : FindCall) where
  -- a reader's entry was empty at a ticket from one on up to another
  abbrev pub WasEmpty : ℕ → ℕ → Reader → Type 0
  WasEmpty first last reader = (u : ℕ) × (first ≤ u) × (u ≤ last)
      × (entry_seen setting call.sub (before u history) reader.level reader.cluster ≡ None)

  -- and so were those of readers, one after the other
  abbrev pub WereEmpty : ℕ → ℕ → List Reader → Type 0
  WereEmpty first last [] = first ≤ last
  WereEmpty first last (reader ∷ later) = (u : ℕ) × (first ≤ u)
      × (entry_seen setting call.sub (before u history) reader.level reader.cluster ≡ None) × WereEmpty u last later

  pub were-order : (first last : ℕ) (readers : List Reader) → WereEmpty first last readers → first ≤ last
  were-order first last [] were = were
  were-order first last (reader ∷ later) were = omega (arith, were.1, were-order were.0 last later were.3)

  pub were-since : (first since last : ℕ) (readers : List Reader) → first ≤ since → WereEmpty since last readers
      → WereEmpty first last readers
  were-since first since last [] low were = omega (arith, low, were)
  were-since first since last (reader ∷ later) low were = (were.0, omega (arith, low, were.1), were.2, were.3)

  were-push : (first last u : ℕ) (readers : List Reader) (reader : Reader) → WereEmpty first last readers → last ≤ u
      → entry_seen setting call.sub (before u history) reader.level reader.cluster ≡ None
      → WereEmpty first u (readers ++ reader ∷ [])
  were-push first last u [] reader were later empty = (u, omega (arith, were, later), empty, omega arith)
  were-push first last u (other ∷ readers) reader were later empty =
      (were.0, were.1, were.2, were-push were.0 last u readers reader were.3 later empty)

  pub were-split : (first last : ℕ) (xs ys : List Reader) → WereEmpty first last (xs ++ ys)
      → (mid : ℕ) × WereEmpty first mid xs × WereEmpty mid last ys
  were-split first last [] ys were = (first, omega arith, were)
  were-split first last (x ∷ xs) ys were =
      let rest = were-split were.0 last xs ys were.3 in (rest.0, (were.0, were.1, were.2, rest.1), rest.2)

module _ (setting : Setting) (history : History) (call : FindCall) (first : ℕ) where
  -- how far a climb is: these readers are left
  pub record Climbed (last weight : ℕ) (left : List Reader) : Type 0 where
    pub passed : List Reader
    pub all : all_readers setting call.from ≡ passed ++ left
    pub weighs : weight ≡ climb_weight setting call passed
    pub empty : WereEmpty setting history call first last passed

  pub climbed-none : (last : ℕ) → first ≤ last → Climbed last 0 (all_readers setting call.from)
  climbed-none last order = record { passed = []; all = refl; weighs = refl; empty = order }

  pub climbed-more : (t u weight : ℕ) (reader : Reader) (left : List Reader) → t ≤ u
      → entry_seen setting call.sub (before u history) reader.level reader.cluster ≡ None
      → Climbed t weight (reader ∷ left) → Climbed u (weight + 2 * way_in setting call reader) left
  climbed-more t u weight reader left later empty c = record {
    passed = c.passed ++ reader ∷ [];
    all = c.all ∙ sym (append_assoc c.passed (reader ∷ []) left);
    weighs = ap (λ n. n + 2 * way_in setting call reader) c.weighs
        ∙ sym (sum_by_push (λ (r : Reader). 2 * way_in setting call r) c.passed reader);
    empty = were-push setting history call first t u c.passed reader c.empty later empty;
  }

  -- the readers of a level, and those of some levels
  abbrev pub row : ℕ → List ℕ → List Reader
  row level cs = map (λ c. record { level = level; cluster = c }) cs

  abbrev pub rows : ℕ → ℕ → List Reader
  rows from count = flat_map (λ level. row level (setting.readers level call.from)) (numbers_from from count)

  pub in-row : (last level c : ℕ) (cs : List ℕ) → has c cs ≡ true → WereEmpty setting history call first last (row level cs)
      → WasEmpty setting history call first last (record { level = level; cluster = c })
  in-row last level c [] h were = cc
  in-row last level c (d ∷ cs) h were = elim (or_cases (c == d) (has c cs) h) [
    | inl here ↦
        subst (λ x. WasEmpty setting history call first last (record { level = level; cluster = x }))
        (sym (eqb-true c d here))
        (were.0, were.1, were-order setting history call were.0 last (row level cs) were.3, were.2)
    | inr there ↦ in-row last level c cs there (were-since setting history call first were.0 last (row level cs) were.1 were.3)
  ]

  -- the readers of a level, and those behind it
  pub record RowWas (last from : ℕ) (later : List Reader) : Type 0 where
    pub mid : ℕ
    pub order : first ≤ mid
    pub by : mid ≤ last
    pub its : WereEmpty setting history call first mid (row from (setting.readers from call.from))
    pub rest : WereEmpty setting history call mid last later

  pub row-was : (last from : ℕ) (later : List Reader)
      → WereEmpty setting history call first last (row from (setting.readers from call.from) ++ later)
      → RowWas last from later
  row-was last from later were =
      let parts = were-split setting history call first last (row from (setting.readers from call.from)) later were in
      record {
        mid = parts.0;
        order = were-order setting history call first parts.0 (row from (setting.readers from call.from)) parts.1;
        by = were-order setting history call parts.0 last later parts.2;
        its = parts.1;
        rest = parts.2;
      }

  in-whole : (last from c : ℕ) (later : List Reader) → has c (setting.readers from call.from) ≡ true
      → RowWas last from later → WasEmpty setting history call first last (record { level = from; cluster = c })
  in-whole last from c later h parts =
      let was : WasEmpty setting history call first parts.mid (record { level = from; cluster = c }) =
      in-row parts.mid from c (setting.readers from call.from) h parts.its in
      (was.0, was.1, omega (arith, was.2, parts.by), was.3)

  pub in-rows : (last from count level c : ℕ) → from ≤ level → level < from + count
      → has c (setting.readers level call.from) ≡ true → WereEmpty setting history call first last (rows from count)
      → WasEmpty setting history call first last (record { level = level; cluster = c })
  in-rows last from zero level c low high h were = absurd (omega arith)
  in-rows last from (suc count) level c low high h were =
      let parts : RowWas last from (rows (suc from) count) = row-was last from (rows (suc from) count) were in
      elim (cases_eq from level) [
        | inl same ↦ subst (λ n. WasEmpty setting history call first last (record { level = n; cluster = c })) same
            (in-whole last from c (rows (suc from) count)
            (subst (λ n. has c (setting.readers n call.from) ≡ true) (sym same) h) parts)
        | inr apart ↦ in-rows last (suc from) count level c (omega arith) (omega arith) h
            (were-since setting history call first parts.mid last (rows (suc from) count) parts.order parts.rest)
      ]

  -- a reader in some list behind a row stands in the row, or behind it
  in-part : (level : ℕ) (cs : List ℕ) (ys zs ws : List Reader) (r : Reader)
      → row level cs ++ ys ≡ zs ++ r ∷ ws
      → ((r.level ≡ level) × (has r.cluster cs ≡ true)
      × (climb_weight setting call zs + 2 * way_in setting call r ≤ climb_weight setting call (row level cs)))
      ⊎ ((more : List Reader) × (zs ≡ row level cs ++ more) × (ys ≡ more ++ r ∷ ws))
  in-part level [] ys zs ws r same = inr (zs, refl, same)
  in-part level (c ∷ cs) ys [] ws r same =
      let e : record { level = level; cluster = c } ≡ r = cc in
      inl (ap (λ (x : Reader). x.level) (sym e), at_head e, at_weight e)
    where
      at_head : record { level = level; cluster = c } ≡ r → has r.cluster (c ∷ cs) ≡ true
      at_head e = subst (λ (x : Reader). has x.cluster (c ∷ cs) ≡ true) e (has_head c cs)

      at_weight : record { level = level; cluster = c } ≡ r → climb_weight setting call [] + 2 * way_in setting call r
          ≤ climb_weight setting call (row level (c ∷ cs))
      at_weight e = subst (λ (x : Reader). climb_weight setting call [] + 2 * way_in setting call x
          ≤ climb_weight setting call (row level (c ∷ cs))) e
          (omega (
            arith,
            sum_by-cons (λ (x : Reader). 2 * way_in setting call x)
                (record { level = level; cluster = c }) (row level cs),
          ))
  in-part level (c ∷ cs) ys (z ∷ zs) ws r same =
      let head : record { level = level; cluster = c } ≡ z = cc in
      let tail : row level cs ++ ys ≡ zs ++ r ∷ ws = cc in
      elim (in-part level cs ys zs ws r tail) [
        | inl here ↦ inl (
          here.0,
          or_right (r.cluster == c) (has r.cluster cs) here.1,
          subst (λ (x : Reader). climb_weight setting call (x ∷ zs) + 2 * way_in setting call r
              ≤ climb_weight setting call (row level (c ∷ cs))) head
              (omega (
                arith,
                here.2,
                sum_by-cons (λ (x : Reader). 2 * way_in setting call x) (record { level = level; cluster = c }) zs,
                sum_by-cons (λ (x : Reader). 2 * way_in setting call x) (record { level = level; cluster = c })
                    (row level cs),
              )),
        )
        | inr on ↦ inr (
          on.0,
          subst (λ x. x ∷ zs ≡ row level (c ∷ cs) ++ on.0) head
              (ap (λ xs. record { level = level; cluster = c } ∷ xs) on.1),
          on.2,
        )
      ]

  -- what is known of the reader that a climb is at
  pub record IsMetAt (last from count : ℕ) (passed : List Reader) (r : Reader) : Type 0 where
    pub low : from ≤ r.level
    pub high : r.level < from + count
    pub reads : has r.cluster (setting.readers r.level call.from) ≡ true
    pub weighs : (k : ℕ) → from + k ≡ r.level
        → climb_weight setting call passed + 2 * way_in setting call r ≤ climb_weight setting call (rows from (suc k))
    pub below : (level c : ℕ) → from ≤ level → level < r.level → has c (setting.readers level call.from) ≡ true
        → WasEmpty setting history call first last (record { level = level; cluster = c })
    pub full : (k : ℕ) → from + k ≡ r.level → (part : List Reader) × (passed ≡ rows from k ++ part)

  pub met-at : (last from count : ℕ) (passed later : List Reader) (r : Reader)
      → rows from count ≡ passed ++ r ∷ later → WereEmpty setting history call first last passed
      → IsMetAt last from count passed r
  met-at last from zero [] later r same were = cc
  met-at last from zero (x ∷ passed) later r same were = cc
  met-at last from (suc count) passed later r same were =
      elim (in-part from (setting.readers from call.from) (rows (suc from) count) passed later r same) [
        | inl here ↦ record {
          low = omega (arith, here.0);
          high = omega (arith, here.0);
          reads = subst (λ n. has r.cluster (setting.readers n call.from) ≡ true) (sym here.0) here.1;
          weighs = λ k at. at_first k (omega (arith, at, here.0)) here.2;
          below = λ level c low high h. absurd (omega (arith, here.0, low, high));
          full = λ k at. none-before k (omega (arith, at, here.0));
        }
        | inr on ↦
            let parts : RowWas last from on.0 =
            row-was last from on.0 (subst (λ xs. WereEmpty setting history call first last xs) on.1 were) in
            behind on.0 on.1 parts (met-at last (suc from) count on.0 later r on.2
            (were-since setting history call first parts.mid last on.0 parts.order parts.rest))
      ]
    where
      its_row : List Reader
      its_row = row from (setting.readers from call.from)

      at_first : (k : ℕ) → k ≡ 0 → climb_weight setting call passed + 2 * way_in setting call r
          ≤ climb_weight setting call its_row
          → climb_weight setting call passed + 2 * way_in setting call r ≤ climb_weight setting call (rows from (suc k))
      at_first k none h = omega (arith, h, sum_by-append (λ (x : Reader). 2 * way_in setting call x) its_row (rows (suc from) k))

      none-before : (k : ℕ) → k ≡ 0 → (part : List Reader) × (passed ≡ rows from k ++ part)
      none-before k none = (passed, ap (λ n. rows from n ++ passed) (sym none))

      behind : (more : List Reader) → passed ≡ its_row ++ more → RowWas last from more → IsMetAt last (suc from) count more r
          → IsMetAt last from (suc count) passed r
      behind more e parts its = record {
        low = omega (arith, its.low);
        high = omega (arith, its.high);
        reads = its.reads;
        weighs = λ k at. at_later more e its k at;
        below = λ level c low high h. elim (cases_eq from level) [
          | inl here ↦ subst (λ n. WasEmpty setting history call first last (record { level = n; cluster = c })) here
              (in-whole last from c more (subst (λ n. has c (setting.readers n call.from) ≡ true) (sym here) h) parts)
          | inr apart ↦ its.below level c (omega (arith, low, apart)) high h
        ];
        full = λ k at. levels-more more e its k at;
      }
        where
          at_later : (more : List Reader) → passed ≡ its_row ++ more → IsMetAt last (suc from) count more r → (k : ℕ)
              → from + k ≡ r.level
              → climb_weight setting call passed + 2 * way_in setting call r ≤ climb_weight setting call (rows from (suc k))
          at_later more e its zero at = absurd (omega (arith, at, its.low))
          at_later more e its (suc k) at = omega (
            arith,
            its.weighs k (omega (arith, at)),
            ap (climb_weight setting call) e,
            sum_by-append (λ (x : Reader). 2 * way_in setting call x) its_row more,
            sum_by-append (λ (x : Reader). 2 * way_in setting call x) its_row (rows (suc from) (suc k)),
          )

          levels-more : (more : List Reader) → passed ≡ its_row ++ more → IsMetAt last (suc from) count more r → (k : ℕ)
              → from + k ≡ r.level → (part : List Reader) × (passed ≡ rows from k ++ part)
          levels-more more e its zero at = absurd (omega (arith, at, its.low))
          levels-more more e its (suc k) at =
              let rest = its.full k (omega (arith, at)) in
              (rest.0, e ∙ (ap (λ xs. its_row ++ xs) rest.1 ∙ sym (append_assoc its_row (rows (suc from) k) rest.0)))
