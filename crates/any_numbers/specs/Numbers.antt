-- Any slot number gets its answer on the desk, too: a line whose words are digits is replied as the call with the numbers
-- that they say, however great, though a call in code has one, four or eight bytes for each. Document 01, Calls and
-- "Count lines"; document 02, #102; demand 1.
--
--   Digits       that a word is a number
--   calls_of      the calls on a house that a line makes, with the bytes that it hands over
--   PlaysAs      that a night replies to them as it does to a call, and is left as by it
--   outcomes_of   the outcomes of the calls on record lines that a line makes, over a lent output
-- Statements only: each is proved in proofs/Numbers.antt, under its name in small letters.
-- Assumes nothing.
use Rattle.std.specs.Prelude.{◌≡◌, true, List, [], ◌∷◌, map, ℕ, ◌≤◌, length}
use Rattle.prelude.specs.Each.{each}
use Rattle.digits.specs.Digits.{is_digit, decimal}
use Rattle.numerals.specs.Hex.{is_bytes}
use Rattle.script.specs.declared.Verb.{Verb}
use Rattle.script.specs.declared.Verb.TheVariants as verb
use Rattle.asking.specs.declared.Way.{Way}
use Rattle.asking.specs.declared.Way.TheVariants.{Write, Read}
use Rattle.asking.specs.declared.Asked as asking
use Rattle.asking.specs.declared.Asked.TheVariants.{Nothing, Comment, Help, Fresh, Play, Line, NoCall}
use Rattle.asking.specs.Asks.{Word, asks, longest}
use Rattle.plays.specs.Plays as plays
use Rattle.house.specs.History as house
use Rattle.nights.specs.Night.{Night, Call, Asked, Feed, End, Reply, Said, reply, after, reached, history}
use Rattle.output.specs.Placed.{Outcome}
use Rattle.lines.specs.Writing.{line_written}
use Rattle.lines.specs.Reading.{line_read}

pub record Digits (w : Word) : Type 0 where
  pub some : 1 ≤ length w
  pub each_one : each is_digit w ≡ true

abbrev pub calls_of : asking.Asked → List ℕ → List Call
calls_of Nothing bytes = []
calls_of Comment bytes = []
calls_of Help bytes = []
calls_of Fresh bytes = []
calls_of (Play call) bytes = plays.asks call bytes ∷ []
calls_of (Line way order at long) bytes = []
calls_of NoCall bytes = []

abbrev pub replies_to : Night → List Call → List Reply
replies_to n calls = map (λ (e : Said). e.reply) (history n calls)

abbrev pub PlaysAs : Night → asking.Asked → List ℕ → Call → Type 0
PlaysAs n asked bytes call = (replies_to n (calls_of asked bytes) ≡ reply n call ∷ [])
    × (reached n (calls_of asked bytes) ≡ after n call)

abbrev pub AnyOpen : Type 0
AnyOpen = (n : Night) (slot floor : Word) (bytes : List ℕ) → Digits slot → Digits floor
    → PlaysAs n (asks verb.Open (slot ∷ floor ∷ [])) bytes (Asked (house.Open (decimal slot) (decimal floor)))

abbrev pub AnyDeliver : Type 0
AnyDeliver = (n : Night) (slot hex : Word) (bytes : List ℕ) → Digits slot → is_bytes hex ≡ true
    → PlaysAs n (asks verb.Deliver (slot ∷ hex ∷ [])) bytes (Asked (house.Deliver (decimal slot) bytes))

abbrev pub AnyReport : Type 0
AnyReport = (n : Night) (slot long : Word) (bytes : List ℕ) → Digits slot → Digits long
    → PlaysAs n (asks verb.Report (slot ∷ long ∷ [])) bytes (Asked (house.Report (decimal slot) (decimal long)))

abbrev pub AnyClose : Type 0
AnyClose = (n : Night) (slot : Word) (bytes : List ℕ) → Digits slot
    → PlaysAs n (asks verb.Close (slot ∷ [])) bytes (Asked (house.Close (decimal slot)))

-- a LENGTH may be any number, too: all but 65,539 are refused alike
abbrev pub AnyFeed : Type 0
AnyFeed = (n : Night) (slot long hex : Word) (bytes : List ℕ) → Digits slot → Digits long → is_bytes hex ≡ true
    → PlaysAs n (asks verb.Feed (slot ∷ long ∷ hex ∷ [])) bytes (Feed (decimal slot) (decimal long) bytes)

abbrev pub AnyEnd : Type 0
AnyEnd = (n : Night) (slot : Word) (bytes : List ℕ) → Digits slot
    → PlaysAs n (asks verb.End (slot ∷ [])) bytes (End (decimal slot))

-- ---- record lines

abbrev pub verb_for : Way → Verb
verb_for Write = verb.Write
verb_for Read = verb.Read

abbrev pub called : Way → ℕ → List ℕ → List ℕ → ℕ → Outcome
called Write order bytes old at = line_written order bytes old at
called Read order bytes old at = line_read order bytes old at

abbrev pub outcomes_of : asking.Asked → List ℕ → List ℕ → List Outcome
outcomes_of Nothing bytes old = []
outcomes_of Comment bytes old = []
outcomes_of Help bytes old = []
outcomes_of Fresh bytes old = []
outcomes_of (Play call) bytes old = []
outcomes_of (Line way order at long) bytes old = called way order bytes old at ∷ []
outcomes_of NoCall bytes old = []

-- an ORDER and an AT may be any number; a LENGTH above 4,096 is lent by none
abbrev pub AnyLine : Type 0
AnyLine = (way : Way) (order at long hex : Word) (bytes old : List ℕ) → Digits order → Digits at → Digits long
    → decimal long ≤ longest → is_bytes hex ≡ true → length old ≤ longest
    → outcomes_of (asks (verb_for way) (order ∷ at ∷ long ∷ hex ∷ [])) bytes old
    ≡ called way (decimal order) bytes old (decimal at) ∷ []
