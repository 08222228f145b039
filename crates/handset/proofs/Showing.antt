-- What one put more tells of its subscriber.
use Rattle.std.proofs.Common.{◌≡◌, ℕ, suc, ◌+◌, Bool, false, List, [], ◌∷◌, ◌++◌, length, drop, take, fold, ap, arith, length-append}
use Rattle.std.specs.Prelude.{unwrap_or}
use Rattle.std.specs.List.{cons_option}
use Rattle.std.proofs.lemmas.List.Elements.{filter_map-append}
use Rattle.std.proofs.lemmas.List.Sums.{fold-append}
use Rattle.entry_word.specs.Marks.{says_off, IsSmallMark, MarksUnpack}
use Rattle.entry_word.specs.declared.mark.PresenceMark.{PresenceMark}
use Rattle.entry_word.specs.declared.mark.PresenceMark.TheVariants.{Empty}
use Rattle.entry_word.specs.declared.visit.Visit.{Visit}
use Rattle.directory.specs.Settings.{Setting}
use Rattle.directory.specs.Puts.{ends_off, mark_put, node_put}
use Rattle.directory.specs.Standing.{Commit, commit_of}
use Rattle.directory.specs.Writes.{mark_at, visit_of}
use Rattle.handset.specs.Condition.{HandsetData}
use Rattle.handset.specs.Stands.{commits_in, Shows}
use Rattle.handset.proofs.Lists.{take-next}

-- the commits and the state after one put more
commits-more : (puts : List Visit) (visit : Visit) → commits_in (puts ++ visit ∷ [])
    ≡ commits_in puts ++ cons_option (commit_of (node_put visit.act) (mark_put visit.act)) []
commits-more puts visit = grind (arith, filter_map-append)

off-more : (puts : List Visit) (visit : Visit) → ends_off (puts ++ visit ∷ []) ≡ says_off (mark_put visit.act)
off-more puts visit = fold-append (λ (off : Bool) (v : Visit). says_off (mark_put v.act)) false puts (visit ∷ [])

pub put-shown : {setting : Setting} {handset : HandsetData} (after : HandsetData) (puts : List Visit) (made : ℕ)
    {visit : Visit} (mark : PresenceMark) {rest : List Visit} → drop made puts ≡ visit ∷ rest
    → mark_put visit.act ≡ mark → after.sub ≡ handset.sub
    → after.place ≡ fold (λ node (commit : Commit). commit.to) handset.place
    (cons_option (commit_of (node_put visit.act) mark) [])
    → after.number ≡ handset.number + length (cons_option (commit_of (node_put visit.act) mark) [])
    → after.is_off ≡ says_off mark → Shows setting handset (take made puts)
    → Shows setting after (take (suc made) puts)
put-shown {setting} {handset} after puts made {visit} mark left puts_mark same place number off shows =
    grind (arith, commits-more, off-more, take-next, fold-append, length-append)

-- a mark that is put
pub mark-shown : MarksUnpack → {setting : Setting} {handset : HandsetData} (after : HandsetData) (puts : List Visit)
    (made node : ℕ) (mark : PresenceMark) {rest : List Visit}
    → drop made puts ≡ visit_of handset.sub (mark_at node mark) ∷ rest → IsSmallMark mark
    → after.sub ≡ handset.sub → after.place ≡ fold (λ n (commit : Commit). commit.to) handset.place
    (cons_option (commit_of node mark) []) → after.number ≡ handset.number + length
    (cons_option (commit_of node mark) []) → after.is_off ≡ says_off mark
    → Shows setting handset (take made puts) → Shows setting after (take (suc made) puts)
mark-shown unpacks after puts made node mark left small same place number off shows =
    put-shown after puts made mark left (ap (λ o. unwrap_or o Empty) (unpacks mark small)) same place number off shows
