use Rattle.std.proofs.Common.{◌≡◌, ℕ, ◌-◌, arith, [], ◌∷◌, ◌++◌, length, take, drop, refl, sym, ap, ◌∙◌, subst, Option, Some}
use Rattle.std.specs.Prelude.{slice_get, unwrap_or}
use Rattle.entry_word.specs.declared.visit.Act.{Act}
use Rattle.entry_word.specs.declared.visit.Visit.{Visit}
use Rattle.directory.specs.Census.{census}
use Rattle.directory.specs.HistoryLaws.{front-append, front-through}
use Rattle.directory.specs.Histories.{History, cell, changes_here}
use Rattle.station.specs.Setup.{Setup, setting_in}
use Rattle.station.specs.TicketLaws.{front-rest}
use Rattle.station.specs.Views.{HasDrawn, visits_at}
use Rattle.station.specs.declared.view.View.{View}
use Rattle.worked_examples.specs.Passes.{count_by, line_setup}
use Rattle.worked_examples.proofs.rules.told_tickets.Goals as goal

-- how many visits come before the ticket, and which
count-is : (setup : Setup) (history : History) (view : View) (node : ℕ) (d : HasDrawn setup history view node)
    → length d.earlier ≡ view.visit_count - 1
count-is setup history view node d = omega (arith, d.count)

before-is : (setup : Setup) (history : History) (view : View) (node : ℕ) (d : HasDrawn setup history view node)
    → d.earlier ≡ take (view.visit_count - 1) history
before-is setup history view node d =
    front-through d.earlier (d.earlier ++ d.visit ∷ []) history (front-append d.earlier (d.visit ∷ [])) d.begins
    ∙ ap (λ (k : ℕ). take k history) (count-is setup history view node d)

stands-there : (earlier : History) (visit : Visit) (rest : History)
    → slice_get ((earlier ++ visit ∷ []) ++ rest) (length earlier) ≡ Some visit
stands-there [] visit rest = refl
stands-there (first ∷ earlier) visit rest = stands-there earlier visit rest

pub returns-clause-own : goal.returns-clause-own
returns-clause-own c = λ setup history view node d.
    let front : History = d.earlier ++ d.visit ∷ [] in
    let rest : History = drop (length front) history in
    let whole : history ≡ front ++ rest = front-rest front history d.begins in
    let at : slice_get history (view.visit_count - 1) ≡ Some d.visit =
    ap (slice_get history) (sym (count-is setup history view node d))
    ∙ (ap (λ (h : History). slice_get h (length d.earlier)) whole ∙ stands-there d.earlier d.visit rest) in
    (d.visit.act, d.meant, d.at, at ∙ (λ i. Some (record { actor = d.mine i; act = d.visit.act })))

pub returns-clause-unwritten : goal.returns-clause-unwritten
returns-clause-unwritten c = λ setup history view node key d put.
    let t = d.put key put in (t.0, d.meant ∙ ap (λ (act : Act). Some act) t.1)

pub returns-clause-moves : goal.returns-clause-moves
returns-clause-moves c = λ setup history view node act d owes meant.
    let same : d.visit.act ≡ act = ap (λ (o : Option Act). unwrap_or o act) (sym d.meant ∙ meant) in
    sym (ap (λ (h : History). changes_here (setting_in setup) h act) (before-is setup history view node d))
    ∙ (sym (ap (changes_here (setting_in setup) d.earlier) same) ∙ d.moves owes)

pub returns-clause-word : goal.returns-clause-word
returns-clause-word c = λ setup history view node key d put. d.word key put
    ∙ ap (λ (h : History). cell (setting_in setup) h key) (before-is setup history view node d)

pub returns-clause-tally : goal.returns-clause-tally
returns-clause-tally c = λ setup history view node d owes. d.tally owes
    ∙ ap (λ (h : History). length (census (setting_in setup) h node)) (before-is setup history view node d)

pub returns-clause-later : goal.returns-clause-later
returns-clause-later c = λ view count d.
    let e : visits_at (setting_in line_setup) 1 (count_by 1 1 ∷ []) ≡ [] = subst (λ (k : ℕ). visits_at
    (setting_in line_setup) 1 (drop k (count_by 0 1 ∷ count_by 1 1 ∷ [])) ≡ []) count d.last in
    let one : ◌≡◌ {A = ℕ} 1 0 = ap length e in omega (arith, one)

pub returns-clause-owed : goal.returns-clause-owed
returns-clause-owed c = λ setup words history view node inside. inside.owed
