use Rattle.std.proofs.Common.{arith, map, Vec, Global, suc, take, ◌+◌, ◌≡◌, ℕ, List, [], ◌∷◌, zero, ◌<◌, get_or, length}
use Rattle.std.proofs.lemmas.List.{take_all}
use Rattle.net_reader.specs.declared.said.Call.{Call}
use Rattle.net_reader.specs.Valid.{count_calls}
use Rattle.machine.proofs.room.count_calls.Goals as goal
use Rattle.directory.specs.ListLaws.{added}

-- the calls of scripts and of one more
calls-more : (xs : List (Vec Call Global)) (i : ℕ) (d : Vec Call Global) → i < length xs
    → count_calls (map (λ (s : Vec Call Global). s.items) (take (suc i) xs))
    ≡ count_calls (map (λ (s : Vec Call Global). s.items) (take i xs)) + length (get_or xs i d).items
calls-more [] i d h = absurd (omega (arith, h))
calls-more (x ∷ xs) zero d h = omega arith
calls-more (x ∷ xs) (suc i) d h = omega (arith, calls-more xs i d (omega (arith, h)))

pub loop-script-preserved : goal.loop-script-preserved
loop-script-preserved c = grind (arith, added, calls-more)

pub returns : goal.returns
returns c = grind (arith, take_all)
