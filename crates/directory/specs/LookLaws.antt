-- Short laws of the looks of a find, for the proofs of the crates above. Key laws: `pursuit-step`
-- (a look takes a find on by the word that its cell holds), `answer-ends` (a pursuit with an answer
-- is ended).
use Rattle.directory.specs.Settings.{Setting}
use Rattle.directory.specs.Finds.{Pursuit, FindCall, answer_of, after_word, at_origin, climbs, chases, ended}
use Rattle.directory.specs.declared.answers.Found.{Found}
use Rattle.directory.specs.Histories.{History, words_at, before, cell, words_by}
use Rattle.std.proofs.Common.{ℕ, List, fold, ◌≡◌, ◌∷◌, ◌++◌, Some, ap}
use Rattle.entry_word.specs.declared.visit.Key.{Key}
use Rattle.std.specs.Prelude.{slice_get, flat_map}
use Rattle.directory.specs.Looks.{look_by}

-- the pursuit after the words of the visits with these tickets
abbrev pub pursuit_after : Setting → History → FindCall → Pursuit → List ℕ → Pursuit
pursuit_after setting history call pursuit seen = fold (after_word setting call) pursuit
    (flat_map (words_at setting history) seen)

-- a look takes a find on by the word that its cell holds
pub pursuit-step : (setting : Setting) (history : History) (actor : ℕ) (call : FindCall)
    (pursuit : Pursuit) (ticket : ℕ)
    (key : Key) (later : List ℕ) → slice_get history ticket ≡ Some (look_by actor key)
    → pursuit_after setting history call pursuit (ticket ∷ later)
    ≡ pursuit_after setting history call
    (after_word setting call pursuit (cell setting (before ticket history) key))
    later
pursuit-step setting history actor call pursuit ticket key later h =
    ap (λ o. fold (after_word setting call) pursuit (words_by setting (before ticket history) o
    ++ flat_map (words_at setting history) later)) h

-- a pursuit with an answer is ended
pub answer-ends : (pursuit : Pursuit) (found : Found) → answer_of pursuit ≡ Some found
    → pursuit ≡ ended found
answer-ends at_origin found h = cc
answer-ends (climbs known weight reader later) found h = cc
answer-ends (chases chase node) found h = cc
answer-ends (ended other) found h = let e : other ≡ found = cc in ap (λ f. ended f) e
