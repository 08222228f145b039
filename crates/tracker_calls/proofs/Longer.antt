-- Histories that begin with others: their visits and the numbers that they tell.
use Rattle.std.proofs.Common.{◌≡◌, ℕ, ◌≤◌, [], ◌∷◌, ◌++◌, Some, length, take, drop, sym, ap, ◌∙◌, arith, length-append}
use Rattle.std.specs.Prelude.{slice_get}
use Rattle.std.proofs.lemmas.List.{take-take}
use Rattle.entry_word.specs.declared.visit.Visit.{Visit}
use Rattle.directory.specs.Histories.{History, IsFront, before}
use Rattle.directory.specs.Standing.{commits, number}
use Rattle.station.specs.TicketLaws.{front-rest}
use Rattle.directory.specs.HistoryLaws.{commits-append}
use Rattle.directory.specs.ListLaws.{slice_get-left, slice_get-right}

-- a visit of a front is one of the whole, and what is before it is the same
pub front-get : (t : ℕ) (xs zs : History) {v : Visit} → IsFront xs zs → slice_get xs t ≡ Some v
    → slice_get zs t ≡ Some v
front-get t xs zs {v} front h =
    rw (front-rest xs zs front) (slice_get-left xs (drop (length xs) zs) t v h)

pub front-before : (t : ℕ) (xs zs : History) → IsFront xs zs → t ≤ length xs → before t xs ≡ before t zs
front-before t xs zs front low = ap (take t) front ∙ take-take t (length xs) zs low

-- the last visit of a history
pub get-last : (xs : History) (v : Visit) → slice_get (xs ++ v ∷ []) (length xs) ≡ Some v
get-last xs v = slice_get-right xs (v ∷ []) (length xs) 0 (omega arith)

pub number-front : (sub t : ℕ) (xs zs : History) → IsFront xs zs → length xs ≤ t
    → number sub xs ≤ number sub (before t zs)
number-front sub t xs zs front low =
    let same : xs ≡ take (length xs) (take t zs) = front ∙ sym (take-take (length xs) t zs low) in
    let rest = drop (length xs) (take t zs) in
    let longer : commits sub (take t zs) ≡ commits sub xs ++ commits sub rest =
    ap (commits sub) (front-rest xs (take t zs) same) ∙ commits-append sub xs rest in
    omega (arith, ap length longer, length-append (commits sub xs) (commits sub rest))
