-- Six words, and fewer or more than that.
use Rattle.std.proofs.Common.{◌≡◌, ℕ, ◌≤◌, ◌<◌, List, [], ◌∷◌, length, map, get_or, Option, None, refl, arith, string_bytes}
use Rattle.std.specs.Prelude.{String}
use Rattle.std.specs.Global.{Global}
use Rattle.word_line.specs.Forms.{load_of, load_from, network_numbers, actor_numbers}

pub too_few : (words : List (String Global)) → length words < 6 → None ≡ load_of (map string_bytes words)
too_few [] h = refl
too_few (a ∷ []) h = refl
too_few (a ∷ b ∷ []) h = refl
too_few (a ∷ b ∷ c ∷ []) h = refl
too_few (a ∷ b ∷ c ∷ d ∷ []) h = refl
too_few (a ∷ b ∷ c ∷ d ∷ e ∷ []) h = refl
too_few (a ∷ b ∷ c ∷ d ∷ e ∷ f ∷ rest) h = absurd (omega arith)

pub too_many : (words : List (String Global)) → 7 ≤ length words → None ≡ load_of (map string_bytes words)
too_many (a ∷ b ∷ c ∷ d ∷ e ∷ f ∷ g ∷ rest) h = refl
too_many [] h = absurd (omega arith)
too_many (a ∷ []) h = absurd (omega arith)
too_many (a ∷ b ∷ []) h = absurd (omega arith)
too_many (a ∷ b ∷ c ∷ []) h = absurd (omega arith)
too_many (a ∷ b ∷ c ∷ d ∷ []) h = absurd (omega arith)
too_many (a ∷ b ∷ c ∷ d ∷ e ∷ []) h = absurd (omega arith)
too_many (a ∷ b ∷ c ∷ d ∷ e ∷ f ∷ []) h = absurd (omega arith)

pub six : (words : List (String Global)) (a b c d e f : String Global) (at bt ct dt et ft : List ℕ) (network actors :
    Option (ℕ × ℕ × ℕ)) → 6 ≤ length words → length words < 7
    → a ≡ get_or words 0 a → b ≡ get_or words 1 b → c ≡ get_or words 2 c → d ≡ get_or words 3 d → e ≡ get_or words 4 e
    → f ≡ get_or words 5 f
    → at ≡ string_bytes a → bt ≡ string_bytes b → ct ≡ string_bytes c → dt ≡ string_bytes d → et ≡ string_bytes e
    → ft ≡ string_bytes f
    → network ≡ network_numbers at bt ct → actors ≡ actor_numbers dt et ft
    → load_from network actors ≡ load_of (map string_bytes words)
six (u ∷ v ∷ w ∷ x ∷ y ∷ z ∷ []) a b c d e f at bt ct dt et ft network actors some few ga gb gc gd ge gf sa sb sc sd se
    sf sn sm = cc
six (u ∷ v ∷ w ∷ x ∷ y ∷ z ∷ t ∷ rest) a b c d e f at bt ct dt et ft network actors some few ga gb gc gd ge gf sa sb sc
    sd se sf sn sm = absurd (omega arith)
six [] a b c d e f at bt ct dt et ft network actors some few ga gb gc gd ge gf sa sb sc sd se sf sn sm =
    absurd (omega arith)
six (u ∷ []) a b c d e f at bt ct dt et ft network actors some few ga gb gc gd ge gf sa sb sc sd se sf sn sm =
    absurd (omega arith)
six (u ∷ v ∷ []) a b c d e f at bt ct dt et ft network actors some few ga gb gc gd ge gf sa sb sc sd se sf sn sm =
    absurd (omega arith)
six (u ∷ v ∷ w ∷ []) a b c d e f at bt ct dt et ft network actors some few ga gb gc gd ge gf sa sb sc sd se sf sn sm =
    absurd (omega arith)
six (u ∷ v ∷ w ∷ x ∷ []) a b c d e f at bt ct dt et ft network actors some few ga gb gc gd ge gf sa sb sc sd se sf sn
    sm = absurd (omega arith)
six (u ∷ v ∷ w ∷ x ∷ y ∷ []) a b c d e f at bt ct dt et ft network actors some few ga gb gc gd ge gf sa sb sc sd se sf
    sn sm = absurd (omega arith)
