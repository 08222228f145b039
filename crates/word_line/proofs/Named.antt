-- A first word that is neither of those with numbers after it.
use Rattle.std.proofs.Common.{◌≡◌, ℕ, ◌≤◌, ◌-◌, Bool, true, false, cond, List, [], ◌∷◌, length, map, take, drop, get_or, Option, Decides, codes, refl, sym, ap, ◌∙◌, arith, string_bytes}
use Rattle.std.specs.Prelude.{String}
use Rattle.std.specs.Global.{Global}
use Rattle.std.specs.Str.{bytes_eq}
use Rattle.std.proofs.lemmas.List.{take_rest}
use Rattle.std.proofs.lemmas.Slice.Eq.{bytes_eq-Decides}
use Rattle.word_line.specs.declared.command.Command.{Command}
use Rattle.word_line.specs.Forms.{alone, bytes_of, command_of, plain_command}

never : (b : Bool) (P : Type 0) → Decides b P → (P → ⊥) → b ≡ false
never true P d n = absurd (n (d.0 refl))
never false P d n = refl

neither : {A : Type 0} (make trial : Bool) (a b c : A) → make ≡ false → trial ≡ false → c ≡ cond make a (cond trial b c)
neither true trial a b c m t = cc
neither false true a b c m t = cc
neither false false a b c m t = refl

pub named : (words : List (String Global)) (name : String Global) (bytes : List ℕ) (command found : Option Command)
    → 1 ≤ length words → name ≡ get_or words 0 name → bytes ≡ string_bytes name → (bytes ≡ codes "make" → ⊥)
    → (bytes ≡ codes "trial" → ⊥) → command ≡ plain_command bytes
    → found ≡ alone command (bytes_of (take (length words - 1) (drop 1 words))) → found ≡ command_of (bytes_of words)
named [] name bytes command found some is same not_make not_trial plain e = absurd (omega arith)
named (w ∷ words) name bytes command found some is same not_make not_trial plain e =
    let first : bytes ≡ string_bytes w = same ∙ ap string_bytes is in
    let rest : List (String Global) → Option Command = λ ws. alone (plain_command (string_bytes w)) (bytes_of ws) in
    e ∙ ap (λ (c : Option Command). alone c (bytes_of (take (length (w ∷ words) - 1) (drop 1 (w ∷ words))))) plain
    ∙ ap (λ (b : List ℕ). alone (plain_command b) (bytes_of (take (length (w ∷ words) - 1) (drop 1 (w ∷ words))))) first
    ∙ ap rest (take_rest (w ∷ words) 1)
    ∙ neither (bytes_eq (string_bytes w) (codes "make")) (bytes_eq (string_bytes w) (codes "trial")) _ _ _
    (never _ _ (bytes_eq-Decides (string_bytes w) (codes "make")) (λ h. not_make (first ∙ h)))
    (never _ _ (bytes_eq-Decides (string_bytes w) (codes "trial")) (λ h. not_trial (first ∙ h)))
