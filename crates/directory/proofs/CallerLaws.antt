-- The looks of callers: each own visit reads one word, and no caller makes more than the most.
use Rattle.std.proofs.Common.{◌≡◌, ℕ, ◌+◌, ◌<◌, ◌≤◌, List, [], ◌∷◌, ◌++◌, Option, Some, None, refl, sym, arith}
use Rattle.std.specs.Prelude.{sum_by}
use Rattle.std.proofs.lemmas.List.Sums.{fold-append, sum_by-cons}
use Rattle.entry_word.specs.declared.visit.Key.{Key}
use Rattle.entry_word.specs.declared.visit.Visit.{Visit}
use Rattle.directory.specs.Settings.{Setting, subs}
use Rattle.directory.specs.Histories.{History}
use Rattle.directory.specs.Finds.{FindCall, Pursuit, at_origin, most_looks, looks_left}
use Rattle.directory.specs.Looks.{look_by}
use Rattle.directory.specs.Orders.{Scripts, Caller, caller_at, with_pursuit, read_by, after_read, caller_after, caller_in, key_in, next_key, next}
use Rattle.directory.specs.declared.answers.Found.{Found}
use Rattle.directory.proofs.FindLaws.{looks-fall}
use Rattle.directory.specs.HistoryLaws.{next-caller}

-- the most looks that a caller still makes
abbrev pub left_of : Setting → List FindCall → Pursuit → ℕ
left_of setting [] pursuit = 0
left_of setting (call ∷ later) pursuit = looks_left setting call pursuit + sum_by
    (λ (c : FindCall). most_looks setting c.from) later

pub left_at_origin : (setting : Setting) (calls : List FindCall)
    → left_of setting calls at_origin ≡ sum_by (λ (c : FindCall). most_looks setting c.from) calls
left_at_origin setting [] = refl
left_at_origin setting (call ∷ later) = sym (sum_by-cons (λ (c : FindCall). most_looks setting c.from) call later)

pursuit_left : (setting : Setting) (caller : Caller) (call : FindCall) (later : List FindCall) (pursuit : Pursuit)
    (answer : Option Found) → caller.calls ≡ call ∷ later
    → left_of setting (with_pursuit caller call later pursuit answer).calls
    (with_pursuit caller call later pursuit answer).pursuit
    ≤ looks_left setting call pursuit + sum_by (λ (c : FindCall). most_looks setting c.from) later
pursuit_left setting caller call later pursuit None same = grind (arith, left_of)
pursuit_left setting caller call later pursuit (Some found) same = omega (arith, left_at_origin setting later)

-- each word leaves fewer
pub read_left : (setting : Setting) (caller : Caller) (calls : List FindCall) (word : ℕ) (key : Key)
    → caller.calls ≡ calls → key_in calls caller.pursuit ≡ Some key
    → left_of setting (read_by setting caller calls word).calls
    (read_by setting caller calls word).pursuit < left_of setting calls caller.pursuit
read_left setting caller [] word key same h = cc
read_left setting caller (call ∷ later) word key same h = grind (arith, looks-fall, pursuit_left)

pub caller-push : (setting : Setting) (calls : List FindCall) (words : List ℕ) (word : ℕ)
    → caller_after setting calls (words ++ word ∷ []) ≡ after_read setting (caller_after setting calls words) word
caller-push setting calls words word = fold-append (after_read setting) (caller_at calls) words (word ∷ [])

-- a caller's look, and the word that it reads
pub caller-look : (setting : Setting) (scripts : Scripts) (history : History) (actor : ℕ) (visit : Visit)
    → subs setting ≤ actor → next setting scripts history actor ≡ Some visit
    → (key : Key) × (next_key (caller_in setting scripts history actor) ≡ Some key) × (visit ≡ look_by actor key)
caller-look setting scripts history actor visit high h = grind (arith, next-caller)
