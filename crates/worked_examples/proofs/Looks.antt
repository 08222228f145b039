-- A look is no census.
use Rattle.std.proofs.Common.{◌≡◌, ℕ, Option, Some, ap}
use Rattle.std.specs.Option.{option_map}
use Rattle.entry_word.specs.declared.visit.Act.{Act}
use Rattle.entry_word.specs.declared.visit.Act.TheVariants.{Census, Look}
use Rattle.entry_word.specs.declared.visit.Key.{Key}
use Rattle.entry_word.specs.declared.visit.Visit.{Visit}
use Rattle.directory.specs.Looks.{look_by}
use Rattle.worked_examples.specs.Passes.{count_by}

act-no : (key : Key) → ◌≡◌ {A = Option Act} (Some (Look key)) (Some (Census 0)) → ⊥
act-no key e = cc

-- a look is no census
pub look-no : (actor : ℕ) (key : Key)
    → ◌≡◌ {A = Option Visit} (Some (look_by actor key)) (Some (count_by 1 0)) → ⊥
look-no actor key e = act-no key (ap (λ o. option_map (λ (visit : Visit). visit.act) o) e)
