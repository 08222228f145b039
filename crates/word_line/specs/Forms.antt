-- The words of the command line: the forms that there are, and the command that each is. The first
-- word is the command's name, and the others are numbers, each within its limits; there are no more
-- words. Key laws: `read_words` gives the command of the words (`command_of`); `example_words`
-- computes some.
use Rattle.std.specs.Prelude.{ℕ, Bool, List, [], ◌∷◌, map, length, String, string_bytes, Option, Some, None, nat_le, ◌==◌, ◌&&◌, ◌||◌, if◌then◌else◌, codes}
use Rattle.std.specs.Char.{is_ascii_digit}
use Rattle.std.specs.Global.{Global}
use Rattle.std.specs.List.{list_all}
use Rattle.std.specs.Str.{bytes_eq}
use Rattle.std.specs.Str.Parse.{digits_value}
use Rattle.word_line.specs.declared.command.Command.{Command}
use Rattle.word_line.specs.declared.command.Command.TheVariants.{Cover, Replay, Census, Costs, Stretch, Check, Run, Make, Trial, ToJson, FromJson, ReplayJson, MeanCover, MeanReplay, MeanStretch}
use Rattle.word_line.specs.declared.load.Load.{Load}

-- the words as bytes
abbrev pub bytes_of : List (String Global) → List (List ℕ)
bytes_of words = map string_bytes words

-- the rest goes on where there is a value
infixl 10 ◌>>=◌
abbrev pub ◌>>=◌ : {A B : Type 0} → Option A → (A → Option B) → Option B
None >>= f = None
(Some x) >>= f = f x

-- the number of 1 to 18 decimal digits
abbrev pub number_of : List ℕ → Option ℕ
number_of word =
    if nat_le 1 (length word) && nat_le (length word) 18 && list_all is_ascii_digit word
    then Some (digits_value 10 word) else None

-- the number, where it is within these bounds
abbrev pub number_in : ℕ → ℕ → List ℕ → Option ℕ
number_in least most word = do
  number ← number_of word
  if nat_le least number && nat_le number most then Some number else None

-- the measures go together: with more than 256 nodes k is at least 2, and one node without callers
-- has no call to make
abbrev pub is_sound : Load → Bool
is_sound load =
    (nat_le load.nodes 256 || nat_le 2 load.k)
    && (nat_le 2 load.nodes || nat_le 1 load.callers || load.calls == 0)

-- the load, where its measures go together
abbrev pub sound_alone : Load → Option Load
sound_alone load = if is_sound load then Some load else None

-- where the draws start, how many nodes, and the trade-off
abbrev pub network_numbers : List ℕ → List ℕ → List ℕ → Option (ℕ × ℕ × ℕ)
network_numbers start nodes k = do
  start ← number_of start
  nodes ← number_in 1 1024 nodes
  k ← number_in 1 8 k
  Some (start, nodes, k)

-- how many subscribers, callers and calls
abbrev pub actor_numbers : List ℕ → List ℕ → List ℕ → Option (ℕ × ℕ × ℕ)
actor_numbers subs callers calls = do
  subs ← number_in 1 64 subs
  callers ← number_in 0 64 callers
  calls ← number_in 0 16384 calls
  Some (subs, callers, calls)

-- the load of these
abbrev pub load_from : Option (ℕ × ℕ × ℕ) → Option (ℕ × ℕ × ℕ) → Option Load
load_from network actors = do
  network ← network
  actors ← actors
  sound_alone (record {
    start = network.0;
    nodes = network.1;
    k = network.2;
    subs = actors.0;
    callers = actors.1;
    calls = actors.2;
  })

-- the load that six numbers are: START N K S C CALLS
abbrev pub load_of : List (List ℕ) → Option Load
load_of (start ∷ nodes ∷ k ∷ subs ∷ callers ∷ calls ∷ []) =
    load_from (network_numbers start nodes k) (actor_numbers subs callers calls)
load_of _ = None

-- the command, if there is one, where no word comes after its name
abbrev pub alone : Option Command → List (List ℕ) → Option Command
alone command [] = command
alone command (word ∷ words) = None

-- the command that is a name alone
abbrev pub plain_command : List ℕ → Option Command
plain_command name =
    if bytes_eq name (codes "cover") then Some Cover else
    (if bytes_eq name (codes "replay") then Some Replay else
    (if bytes_eq name (codes "census") then Some Census else
    (if bytes_eq name (codes "costs") then Some Costs else
    (if bytes_eq name (codes "stretch") then Some Stretch else
    (if bytes_eq name (codes "check") then Some Check else
    (if bytes_eq name (codes "run") then Some Run else
    (if bytes_eq name (codes "tojson") then Some ToJson else
    (if bytes_eq name (codes "fromjson") then Some FromJson else
    (if bytes_eq name (codes "replayjson") then Some ReplayJson else
    (if bytes_eq name (codes "meancover") then Some MeanCover else
    (if bytes_eq name (codes "meanreplay") then Some MeanReplay else
    (if bytes_eq name (codes "meanstretch") then Some MeanStretch else
    None))))))))))))

-- the command that words are
abbrev pub command_of : List (List ℕ) → Option Command
command_of [] = None
command_of (name ∷ rest) =
    if bytes_eq name (codes "make") then (load_of rest >>= λ load. Some (Make load)) else
    (if bytes_eq name (codes "trial") then (load_of rest >>= λ load. Some (Trial load)) else
    alone (plain_command name) rest)
