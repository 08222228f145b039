-- Printed tokens with a line feed after them are read as without it.
use Rattle.std.proofs.Common.{◌≡◌, ℕ, Bool, true, false, cond, ◌&&◌, List, [], ◌∷◌, ◌++◌, refl, sym, ap, ap₂, ◌∙◌, append_assoc, append-nil}
use Rattle.json.specs.Token.{Token, begin_object, end_object, begin_array, end_array, key, string, number, boolean, null, bad}
use Rattle.json.specs.Word.{ends_word, word}
use Rattle.json.specs.Lex.{Lexeme, token, comma, colon, string_token, lex, between, fresh, punctuate, tokens}
use Rattle.json.specs.Print.{escape, quoted, token_text, begins, ends, print_from, print, IsPrintable, ArePrintable}
use Rattle.json.proofs.Printed.Strings.{content-escape, lex-escape}
use Rattle.json.proofs.Printed.Numbers.{lex-number, in_word-ended}
use Rattle.json.proofs.Printed.Tokens.{tokens-print}

abbrev token_lexemes : Token → List Lexeme
token_lexemes begin_object = token begin_object ∷ []
token_lexemes end_object = token end_object ∷ []
token_lexemes begin_array = token begin_array ∷ []
token_lexemes end_array = token end_array ∷ []
token_lexemes (key s) = token (string s) ∷ colon ∷ []
token_lexemes (string s) = token (string s) ∷ []
token_lexemes (number s) = token (number s) ∷ []
token_lexemes (boolean b) = token (boolean b) ∷ []
token_lexemes null = token null ∷ []
token_lexemes bad = []

abbrev lexemes : Bool → List Token → List Lexeme
lexemes c [] = []
lexemes c (t ∷ ts) = cond (c && begins t) (comma ∷ []) [] ++ (token_lexemes t ++ lexemes (ends t) ts)

-- after a value stands a comma, a closing bracket, or what ends a word
after-value : (ts : List Token) (r : List ℕ) → ends_word r ≡ true → ends_word (print_from true ts ++ r) ≡ true
unfolding print_from
after-value [] r ended = ended
after-value (begin_object ∷ ts) r ended = refl
after-value (end_object ∷ ts) r ended = refl
after-value (begin_array ∷ ts) r ended = refl
after-value (end_array ∷ ts) r ended = refl
after-value (key s ∷ ts) r ended = refl
after-value (string s ∷ ts) r ended = refl
after-value (number s ∷ ts) r ended = refl
after-value (boolean b ∷ ts) r ended = refl
after-value (null ∷ ts) r ended = refl
after-value (bad ∷ ts) r ended = refl

lex-quoted : (s r : List ℕ) → lex between (quoted s ++ r) ≡ token (string s) ∷ lex between r
unfolding lex
lex-quoted s r =
    let e = append_assoc (escape s) (34 ∷ []) r in
    ap (λ l. lex between (34 ∷ l)) e
    ∙ ap₂ (λ o l. token (string_token o) ∷ l) (content-escape s r) (lex-escape s r)

lex-token : (t : Token) (r : List ℕ) → IsPrintable t → (ends t ≡ true → ends_word r ≡ true)
    → lex between (token_text t ++ r) ≡ token_lexemes t ++ lex between r
unfolding lex word
lex-token begin_object r h ended = refl
lex-token end_object r h ended = refl
lex-token begin_array r h ended = refl
lex-token end_array r h ended = refl
lex-token (key s) r h ended =
    ap (lex between) (append_assoc (quoted s) (58 ∷ []) r) ∙ lex-quoted s (58 ∷ r)
lex-token (string s) r h ended = lex-quoted s r
lex-token (number s) r h ended = lex-number s r h (ended refl)
lex-token (boolean true) r h ended =
    ap₂ (λ b l. token (cond b (boolean true) bad) ∷ l) (ended refl) (in_word-ended r (ended refl))
lex-token (boolean false) r h ended =
    ap₂ (λ b l. token (cond b (boolean false) bad) ∷ l) (ended refl) (in_word-ended r (ended refl))
lex-token null r h ended = ap₂ (λ b l. token (cond b null bad) ∷ l) (ended refl) (in_word-ended r (ended refl))
lex-token bad r h ended = absurd h

lex-comma : (b : Bool) (r : List ℕ) → lex between (cond b (44 ∷ []) [] ++ r) ≡ cond b (comma ∷ []) [] ++ lex between r
unfolding lex
lex-comma true r = refl
lex-comma false r = refl

lex-print : (c : Bool) (ts : List Token) (r : List ℕ) → ArePrintable ts → ends_word r ≡ true
    → lex between (print_from c ts ++ r) ≡ lexemes c ts ++ lex between r
unfolding print_from ArePrintable
lex-print c [] r h ended = refl
lex-print c (t ∷ ts) r h ended =
    let sep : List ℕ = cond (c && begins t) (44 ∷ []) [] in
    let rest = print_from (ends t) ts in
    let commas : List Lexeme = cond (c && begins t) (comma ∷ []) [] in
    ap (lex between) (append_assoc sep (token_text t ++ rest) r)
    ∙ lex-comma (c && begins t) ((token_text t ++ rest) ++ r)
    ∙ ap (λ l. commas ++ l)
    (ap (lex between) (append_assoc (token_text t) rest r)
    ∙ lex-token t (rest ++ r) h.0 (λ e. ap (λ b. ends_word (print_from b ts ++ r)) e ∙ after-value ts r ended)
    ∙ ap (λ l. token_lexemes t ++ l) (lex-print (ends t) ts r h.1 ended)
    ∙ sym (append_assoc (token_lexemes t) (lexemes (ends t) ts) (lex between r)))
    ∙ sym (append_assoc commas (token_lexemes t ++ lexemes (ends t) ts) (lex between r))

feed-is : lex between (10 ∷ []) ≡ lex between []
unfolding lex
feed-is = refl

-- the tokens are the same
pub tokens-fed : {ts : List Token} → ArePrintable ts → tokens (print ts ++ 10 ∷ []) ≡ ts
tokens-fed {ts} h =
    ap (punctuate fresh)
    (lex-print false ts (10 ∷ []) h refl ∙ ap (λ l. lexemes false ts ++ l) feed-is ∙ sym (lex-print false ts [] h refl)
    ∙ ap (lex between) (append-nil (print ts)))
    ∙ tokens-print ts h
