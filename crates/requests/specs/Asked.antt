-- What a line of the desk asks for. The desk, src/main.rt, its table of lines; what a verb asks for is asking's.
--
--   asked     what a whole line asks for
--   handed    the bytes that it hands over
-- Assumes nothing.
use Rattle.std.specs.Prelude.{◌≡◌, Bool, true, false, cond, List, [], ◌∷◌, ℕ, ◌≤◌, eqb, length, drop}
use Prim.Native.Char.{code}
use Rattle.script.specs.declared.Verb.{Verb}
use Rattle.script.specs.Words.{words, verb_of}
use Rattle.numerals.specs.Hex.{bytes_of}
use Rattle.asked_calls.specs.declared.Call.{Call}
use Rattle.asked_calls.specs.declared.Call.TheVariants as call
use Rattle.asking.specs.declared.Asked.{Asked}
use Rattle.asking.specs.declared.Asked.TheVariants.{Nothing, Comment, Help, Fresh, Play, Line, NoCall}
use Rattle.asking.specs.Asks.{Word, asks}

abbrev pub asked_by : List Word → Asked
asked_by [] = NoCall
asked_by (v ∷ ws) = asks (verb_of v) ws

-- a line that begins with `#` is a comment, and an empty one is nothing
unfoldable pub asked : List ℕ → Asked
asked [] = Nothing
asked (b ∷ bs) = cond (eqb b (code "#")) Comment (asked_by (words (b ∷ bs)))

-- of the calls of a house, a delivery hands a record over and a feed a chunk
abbrev pub takes_bytes : Call → Bool
takes_bytes (call.Open slot floor) = false
takes_bytes (call.Deliver slot) = true
takes_bytes (call.Report slot long) = false
takes_bytes (call.Close slot) = false
takes_bytes call.Figures = false
takes_bytes (call.Feed slot long) = true
takes_bytes (call.End slot) = false

abbrev pub hands_over : Asked → Bool
hands_over Nothing = false
hands_over Comment = false
hands_over Help = false
hands_over Fresh = false
hands_over (Play c) = takes_bytes c
hands_over (Line way order at long) = true
hands_over NoCall = false

abbrev pub last : List Word → Word
last [] = []
last (w ∷ []) = w
last (w ∷ v ∷ ws) = last (v ∷ ws)

-- the bytes of the last word
unfoldable pub handed : List ℕ → List ℕ
handed line = cond (hands_over (asked line)) (bytes_of (last (words line))) []

-- ---- what is found on the way: what is asked for, and where the last word starts, if it counts

pub record Found (line : List ℕ) (ask : Asked) (ws : List Word) (found : Asked) (from : ℕ) : Type 0 where
  pub asks_for : found ≡ ask
  pub within : from ≤ length line
  pub hex : hands_over found ≡ true → drop from line ≡ last ws

-- .. by a verb with the words behind it
abbrev pub Finds : List ℕ → Verb → List Word → Asked → ℕ → Type 0
Finds line v ws found from = Found line (asks v ws) ws found from

-- .. by a whole line
abbrev pub FindsIn : List ℕ → Asked → Asked → ℕ → Type 0
FindsIn line ask found from = Found line ask (words line) found from
