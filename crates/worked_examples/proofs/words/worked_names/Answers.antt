use Rattle.std.proofs.Common.{◌≡◌, ℕ, true, List, [], ◌∷◌, Contains, Option, is_some, refl}
use Rattle.std.specs.Prelude.{codes, bytes_eq, drop}
use Rattle.word_line.specs.declared.command.Command.{Command}
use Rattle.word_line.specs.Forms.{alone, plain_command}
use Rattle.worked_examples.specs.Words.{names_alone}
use Rattle.worked_examples.proofs.Named.{first_or, none_left}
use Rattle.worked_examples.proofs.words.worked_names.Goals as goal

-- a plain command's name is one of these
plain_named : (name : List ℕ) → is_some (plain_command name) ≡ true → Contains names_alone name
plain_named name =
    (first_or name (codes "cover") (drop 1 names_alone) (bytes_eq name (codes "cover")) _ _ refl
    (first_or name (codes "replay") (drop 2 names_alone) (bytes_eq name (codes "replay")) _ _ refl
    (first_or name (codes "census") (drop 3 names_alone) (bytes_eq name (codes "census")) _ _ refl
    (first_or name (codes "costs") (drop 4 names_alone) (bytes_eq name (codes "costs")) _ _ refl
    (first_or name (codes "stretch") (drop 5 names_alone) (bytes_eq name (codes "stretch")) _ _ refl
    (first_or name (codes "check") (drop 6 names_alone) (bytes_eq name (codes "check")) _ _ refl
    (first_or name (codes "run") (drop 7 names_alone) (bytes_eq name (codes "run")) _ _ refl
    (first_or name (codes "tojson") (drop 8 names_alone) (bytes_eq name (codes "tojson")) _ _ refl
    (first_or name (codes "fromjson") (drop 9 names_alone) (bytes_eq name (codes "fromjson")) _ _ refl
    (first_or name (codes "replayjson") (drop 10 names_alone) (bytes_eq name (codes "replayjson")) _ _ refl
    (first_or name (codes "meancover") (drop 11 names_alone) (bytes_eq name (codes "meancover")) _ _ refl
    (first_or name (codes "meanreplay") (drop 12 names_alone) (bytes_eq name (codes "meanreplay")) _ _ refl
    (first_or name (codes "meanstretch") (drop 13 names_alone) (bytes_eq name (codes "meanstretch")) _ _ refl
    (none_left name))))))))))))))

pub returns-clause-names : goal.returns-clause-names
returns-clause-names c = plain_named

-- a plain command stands alone after its name
alone_some : (command : Option Command) (rest : List (List ℕ)) → is_some (alone command rest) ≡ true
    → is_some command ≡ true
alone_some command [] e = e
alone_some command (word ∷ words) e = cc

pub returns-clause-all_names : goal.returns-clause-all_names
returns-clause-all_names c = λ name rest.
    first_or name (codes "make") (codes "trial" ∷ names_alone) (bytes_eq name (codes "make")) _ _ refl
    (first_or name (codes "trial") names_alone (bytes_eq name (codes "trial")) _ _ refl
    (λ e. plain_named name (alone_some (plain_command name) rest e)))
