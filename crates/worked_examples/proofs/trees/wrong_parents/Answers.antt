use Rattle.std.proofs.Common.{◌≡◌, ℕ, ◌+◌, ◌≤◌, refl, inl, arith}
use Rattle.worked_examples.proofs.Square.{leads-1-3, no-lead, same}
use Rattle.worked_examples.proofs.trees.wrong_parents.Goals as goal

pub returns-clause-few : goal.returns-clause-few
returns-clause-few c = λ parents three are. omega (arith, three, are.count)

pub returns-clause-root : goal.returns-clause-root
returns-clause-root c = λ weights parents parent is are. (are.some 0 parent (omega arith) is).0 refl

pub returns-clause-missing : goal.returns-clause-missing
returns-clause-missing c = λ parents none are.
    let e : ◌≡◌ {A = ℕ} 2 0 = are.none 2 1 (omega arith) none refl in omega (arith, e)

pub returns-clause-beyond : goal.returns-clause-beyond
returns-clause-beyond c = λ weights parents is are.
    let e = (are.some 2 4 (omega arith) is).1 in omega (arith, e)

pub returns-clause-higher : goal.returns-clause-higher
returns-clause-higher c = λ parents is are.
    (are.some 3 2 (omega arith) is).2.first 1 (omega arith) leads-1-3

pub returns-clause-far : goal.returns-clause-far
returns-clause-far c = λ parents is are. no-lead (are.some 3 0 (omega arith) is).2.leads

pub returns-clause-farther : goal.returns-clause-farther
returns-clause-farther c = λ parents is are.
    let leads = (are.some 1 3 (omega arith) is).2.leads in
    let from : 2 ≡ leads.before = same 2 leads.before leads.comes_from in
    let sum : 1 ≡ leads.before + leads.edge = same 1 (leads.before + leads.edge) leads.sum in
    omega (arith, from, sum)

pub returns-clause-heavier : goal.returns-clause-heavier
returns-clause-heavier c = λ parents is are.
    let leads = (are.some 1 0 (omega arith) is).2.leads in
    let from : 0 ≡ leads.before = same 0 leads.before leads.comes_from in
    let sum : 2 ≡ leads.before + leads.edge = same 2 (leads.before + leads.edge) leads.sum in
    let light : leads.edge ≤ 1 = leads.joined.least 1 (inl (0, omega arith, refl)) in
    omega (arith, from, sum, light)
