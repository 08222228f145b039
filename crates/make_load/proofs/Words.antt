-- The load of a command is within the limits.
use Rattle.std.proofs.Common.{◌≡◌, ◌⊎◌, inl, inr, ℕ, ◌^◌, ◌<◌, ◌≤◌, Bool, true, false, cond, leb, ◌&&◌, List, [], ◌∷◌, length, Option, Some, None, codes, refl, sym, subst, arith}
use Rattle.std.proofs.Math.Nat.{pow-le-pow_right}
use Rattle.std.proofs.lemmas.Bool.Decides.{nat_tests}
use Rattle.std.proofs.lemmas.Int.Digits.{digits_value-lt}
use Rattle.std.specs.Char.{is_ascii_digit}
use Rattle.std.specs.Int.{IsInRange}
use Rattle.std.specs.List.{list_all}
use Rattle.std.specs.Str.{bytes_eq}
use Rattle.std.specs.Str.Parse.{AllDigits, digits_value}
use Rattle.std.proofs.lemmas.Str.{digit_value_digit}
use Rattle.word_line.specs.declared.command.Command.{Command}
use Rattle.word_line.specs.declared.command.Command.TheVariants.{Cover, Replay, Census, Costs, Stretch, Check, Run, Make, Trial, ToJson, FromJson, ReplayJson, MeanCover, MeanReplay, MeanStretch}
use Rattle.word_line.specs.declared.load.Load.{Load}
use Rattle.word_line.specs.Forms.{◌>>=◌, actor_numbers, alone, command_of, is_sound, load_of, network_numbers, number_in, number_of, plain_command, sound_alone}
use Rattle.make_load.specs.Load.{IsLoad}
use Rattle.std.proofs.lemmas.Bool.{and_parts}
use Rattle.std.proofs.lemmas.Option.{cond_some}

-- what follows a value
record IsBound {A B : Type 0} (o : Option A) (f : A → Option B) (found : B) : Type 0 where
  pub value : A
  pub is : o ≡ Some value
  pub gives : f value ≡ Some found

bound : {A B : Type 0} (o : Option A) (f : A → Option B) (found : B) → (o >>= f) ≡ Some found → IsBound o f found
bound None f found e = cc
bound (Some value) f found e = record { value = value; is = refl; gives = e }

-- ---- numbers

all-digits : (ds : List ℕ) → list_all is_ascii_digit ds ≡ true → AllDigits 10 ds
all-digits [] e = tt
all-digits (d ∷ ds) e =
    let both = and_parts (is_ascii_digit d) (list_all is_ascii_digit ds) e in
    let here = both.0 in
    let range : IsInRange 48 57 d = grind (arith, nat_tests) in
    (omega (arith, digit_value_digit d range), all-digits ds both.1)

number-small : (word : List ℕ) (n : ℕ) → number_of word ≡ Some n → n < 10 ^ 18
number-small word n e =
    let all = cond_some (leb 1 (length word) && leb (length word) 18 && list_all is_ascii_digit word)
    (digits_value 10 word) n e in
    let digits = and_parts (leb 1 (length word) && leb (length word) 18) (list_all is_ascii_digit word) all.0 in
    let short = (and_parts (leb 1 (length word)) (leb (length word) 18) digits.0).1 in
    let few : length word ≤ 18 = grind (arith, nat_tests) in
    let below = digits_value-lt 10 word (all-digits word digits.1) in
    let power = pow-le-pow_right {n = 10} (omega arith) few in
    omega (arith, below, power, all.1)

number-within : (least most n : ℕ) (word : List ℕ) → number_in least most word ≡ Some n → (least ≤ n) × (n ≤ most)
number-within least most n word e =
    let found = bound (number_of word) (λ number. cond (leb least number && leb number most) (Some number) None) n e in
    let all = cond_some (leb least found.value && leb found.value most) found.value n found.gives in
    let both = and_parts (leb least found.value) (leb found.value most) all.0 in
    let low = both.0 in
    let high = both.1 in
    let same = all.1 in
    let least_is : least ≤ found.value = grind (arith, nat_tests) in
    let most_is : found.value ≤ most = grind (arith, nat_tests) in
    (omega (arith, least_is, same), omega (arith, most_is, same))

-- ---- the load of six words

record AreNetwork (numbers : ℕ × ℕ × ℕ) : Type 0 where
  pub start : numbers.0 < 10 ^ 18
  pub some_nodes : 1 ≤ numbers.1
  pub few_nodes : numbers.1 ≤ 1024
  pub some_k : 1 ≤ numbers.2
  pub few_k : numbers.2 ≤ 8

network-is : (a b c : List ℕ) (found : ℕ × ℕ × ℕ) → network_numbers a b c ≡ Some found → AreNetwork found
network-is a b c found e =
    let last : ℕ → ℕ → Option (ℕ × ℕ × ℕ) = λ s n. number_in 1 8 c >>= (λ k. Some (s, n, k)) in
    let one = bound (number_of a) (λ s. number_in 1 1024 b >>= (λ n. last s n)) found e in
    let two = bound (number_in 1 1024 b) (λ n. last one.value n) found one.gives in
    let three = bound (number_in 1 8 c) (λ k. let t : ℕ × ℕ × ℕ = (one.value, two.value, k) in Some t) found two.gives
    in
    let triple : ℕ × ℕ × ℕ = (one.value, two.value, three.value) in
    let gives : Some triple ≡ Some found = three.gives in
    let same : triple ≡ found = cc in
    let nodes = number-within 1 1024 two.value b two.is in
    let k = number-within 1 8 three.value c three.is in
    subst AreNetwork same (record {
      start = number-small a one.value one.is;
      some_nodes = nodes.0;
      few_nodes = nodes.1;
      some_k = k.0;
      few_k = k.1;
    })

record AreActors (numbers : ℕ × ℕ × ℕ) : Type 0 where
  pub some_subs : 1 ≤ numbers.0
  pub few_subs : numbers.0 ≤ 64
  pub few_callers : numbers.1 ≤ 64
  pub few_calls : numbers.2 ≤ 16384

actors-are : (a b c : List ℕ) (found : ℕ × ℕ × ℕ) → actor_numbers a b c ≡ Some found → AreActors found
actors-are a b c found e =
    let last : ℕ → ℕ → Option (ℕ × ℕ × ℕ) = λ s n. number_in 0 16384 c >>= (λ k. Some (s, n, k)) in
    let one = bound (number_in 1 64 a) (λ s. number_in 0 64 b >>= (λ n. last s n)) found e in
    let two = bound (number_in 0 64 b) (λ n. last one.value n) found one.gives in
    let three = bound (number_in 0 16384 c) (λ k. let t : ℕ × ℕ × ℕ = (one.value, two.value, k) in Some t) found
    two.gives in
    let triple : ℕ × ℕ × ℕ = (one.value, two.value, three.value) in
    let gives : Some triple ≡ Some found = three.gives in
    let same : triple ≡ found = cc in
    let subs = number-within 1 64 one.value a one.is in
    subst AreActors same (record {
      some_subs = subs.0;
      few_subs = subs.1;
      few_callers = (number-within 0 64 two.value b two.is).1;
      few_calls = (number-within 0 16384 three.value c three.is).1;
    })

-- the load of these numbers
abbrev load_at : ℕ × ℕ × ℕ → ℕ × ℕ × ℕ → Load
load_at network actors = record {
  start = network.0;
  nodes = network.1;
  k = network.2;
  subs = actors.0;
  callers = actors.1;
  calls = actors.2;
}

load-is : (words : List (List ℕ)) (load : Load) → load_of words ≡ Some load → IsLoad load
load-is (a ∷ b ∷ c ∷ d ∷ e ∷ f ∷ []) load h =
    let one = bound (network_numbers a b c) (λ n. actor_numbers d e f >>= (λ s. sound_alone (load_at n s))) load h in
    let two = bound (actor_numbers d e f) (λ s. sound_alone (load_at one.value s)) load one.gives in
    let network = network-is a b c one.value one.is in
    let actors = actors-are d e f two.value two.is in
    let made : Load = load_at one.value two.value in
    let sound = cond_some (is_sound made) made load two.gives in
    subst IsLoad sound.1 (record {
      start = network.start;
      some_nodes = network.some_nodes;
      few_nodes = network.few_nodes;
      some_k = network.some_k;
      few_k = network.few_k;
      some_subs = actors.some_subs;
      few_subs = actors.few_subs;
      few_callers = actors.few_callers;
      few_calls = actors.few_calls;
      sound = sound.0;
    })
load-is words load h = cc

-- ---- the command

-- the load of a command, if it has one
abbrev load_in : Command → Option Load
load_in Cover = None
load_in Replay = None
load_in Census = None
load_in Costs = None
load_in Stretch = None
load_in Check = None
load_in Run = None
load_in ToJson = None
load_in FromJson = None
load_in ReplayJson = None
load_in MeanCover = None
load_in MeanReplay = None
load_in MeanStretch = None
load_in (Make load) = Some load
load_in (Trial load) = Some load

-- what is found, if anything, has no load
abbrev IsPlain : Option Command → Type 0
IsPlain found = (command : Command) → found ≡ Some command → load_in command ≡ None

or_named : (name : Bool) (command : Command) (later : Option Command) → load_in command ≡ None → IsPlain later
    → IsPlain (cond name (Some command) later)
or_named true command later none plain found e =
    let same : command ≡ found = cc in subst (λ (c : Command). load_in c ≡ None) same none
or_named false command later none plain found e = plain found e

no-command : IsPlain None
no-command command e = cc

plain-name : (name : List ℕ) → IsPlain (plain_command name)
plain-name name =
    or_named _ Cover _ refl (
    or_named _ Replay _ refl (
    or_named _ Census _ refl (
    or_named _ Costs _ refl (
    or_named _ Stretch _ refl (
    or_named _ Check _ refl (
    or_named _ Run _ refl (
    or_named _ ToJson _ refl (
    or_named _ FromJson _ refl (
    or_named _ ReplayJson _ refl (
    or_named _ MeanCover _ refl (
    or_named _ MeanReplay _ refl (
    or_named _ MeanStretch _ refl (
    no-command)))))))))))))

without : (found : Option Command) (words : List (List ℕ)) (command : Command) (load : Load) → IsPlain found
    → alone found words ≡ Some command → load_in command ≡ Some load → IsLoad load
without found [] command load plain e has = let none = plain command e in cc
without found (w ∷ words) command load plain e has = cc

made : (words : List (List ℕ)) (command : Command) (load : Load)
    → (load_of words >>= (λ l. Some (Make l))) ≡ Some command → load_in command ≡ Some load → IsLoad load
made words command load e has =
    let found = bound (load_of words) (λ l. Some (Make l)) command e in
    let gives : Some (Make found.value) ≡ Some command = found.gives in
    let same : Make found.value ≡ command = cc in
    let whole : Some found.value ≡ Some load = subst (λ (c : Command). load_in c ≡ Some load) (sym same) has in
    let one : found.value ≡ load = cc in subst IsLoad one (load-is words found.value found.is)

tried : (words : List (List ℕ)) (command : Command) (load : Load)
    → (load_of words >>= (λ l. Some (Trial l))) ≡ Some command → load_in command ≡ Some load → IsLoad load
tried words command load e has =
    let found = bound (load_of words) (λ l. Some (Trial l)) command e in
    let gives : Some (Trial found.value) ≡ Some command = found.gives in
    let same : Trial found.value ≡ command = cc in
    let whole : Some found.value ≡ Some load = subst (λ (c : Command). load_in c ≡ Some load) (sym same) has in
    let one : found.value ≡ load = cc in subst IsLoad one (load-is words found.value found.is)

by-name : (make trial : Bool) (name : List ℕ) (rest : List (List ℕ)) (command : Command) (load : Load)
    → cond make (load_of rest >>= (λ l. Some (Make l))) (cond trial (load_of rest >>= (λ l. Some (Trial l)))
    (alone (plain_command name) rest)) ≡ Some command → load_in command ≡ Some load → IsLoad load
by-name true trial name rest command load e has = made rest command load e has
by-name false true name rest command load e has = tried rest command load e has
by-name false false name rest command load e has =
    without (plain_command name) rest command load (plain-name name) e has

command-is : (words : List (List ℕ)) (command : Command) (load : Load) → command_of words ≡ Some command
    → load_in command ≡ Some load → IsLoad load
command-is [] command load e has = cc
command-is (name ∷ rest) command load e has =
    by-name (bytes_eq name (codes "make")) (bytes_eq name (codes "trial")) name rest command load e has

pub words_are_loads : (words : List (List ℕ)) (load : Load)
    → (command_of words ≡ Some (Make load)) ⊎ (command_of words ≡ Some (Trial load)) → IsLoad load
words_are_loads words load (inl e) = command-is words (Make load) load e refl
words_are_loads words load (inr e) = command-is words (Trial load) load e refl
