-- The words of a line of the desk, and its verbs. The desk, src/main.rt: one space stands between words.
--
--   word_end   where the word that starts at a place ends
--   words     all words of a line
--   verb_of    which verb a word is
-- Assumes nothing.
use Rattle.std.specs.Prelude.{Bool, true, false, cond, List, [], ◌∷◌, ℕ, suc, ◌+◌, eqb, drop}
use Prim.Native.Char.{code}
use Rattle.matching.specs.Matching.{same}
use Rattle.script.specs.declared.Verb.{Verb}
use Rattle.script.specs.declared.Verb.TheVariants.{Fresh, Open, Deliver, Report, Close, Figures, Write, Read}
use Rattle.script.specs.declared.Verb.TheVariants.{Help, Feed, End, Other}

abbrev pub space : ℕ
space = code " "

-- how long the word is that a text begins with: up to the next space, or to the end
abbrev pub word_length : List ℕ → ℕ
word_length [] = 0
word_length (b ∷ bs) = cond (eqb b space) 0 (suc (word_length bs))

unfoldable pub word_end : List ℕ → ℕ → ℕ
word_end line from = from + word_length (drop from line)

-- a byte before words: a space ends a word, any other byte belongs to the first of them
abbrev pub before : Bool → ℕ → List (List ℕ) → List (List ℕ)
before true b ws = [] ∷ ws
before false b [] = (b ∷ []) ∷ []
before false b (w ∷ ws) = (b ∷ w) ∷ ws

-- two spaces in a row have a word of no bytes between them
abbrev pub words : List ℕ → List (List ℕ)
words [] = [] ∷ []
words (b ∷ bs) = before (eqb b space) b (words bs)

-- a verb and its word
pub record Named : Type 0 where
  pub word : List ℕ
  pub verb : Verb

abbrev pub named : Verb → List ℕ → Named
named verb word = record { word = word; verb = verb }

abbrev pub verbs : List Named
verbs =
    named Deliver (code "d" ∷ code "e" ∷ code "l" ∷ code "i" ∷ code "v" ∷ code "e" ∷ code "r" ∷ []) ∷
    named Open (code "o" ∷ code "p" ∷ code "e" ∷ code "n" ∷ []) ∷
    named Report (code "r" ∷ code "e" ∷ code "p" ∷ code "o" ∷ code "r" ∷ code "t" ∷ []) ∷
    named Close (code "c" ∷ code "l" ∷ code "o" ∷ code "s" ∷ code "e" ∷ []) ∷
    named Figures (code "f" ∷ code "i" ∷ code "g" ∷ code "u" ∷ code "r" ∷ code "e" ∷ code "s" ∷ []) ∷
    named Fresh (code "f" ∷ code "r" ∷ code "e" ∷ code "s" ∷ code "h" ∷ []) ∷
    named Write (code "w" ∷ code "r" ∷ code "i" ∷ code "t" ∷ code "e" ∷ []) ∷
    named Read (code "r" ∷ code "e" ∷ code "a" ∷ code "d" ∷ []) ∷
    named Help (code "h" ∷ code "e" ∷ code "l" ∷ code "p" ∷ []) ∷
    named Feed (code "f" ∷ code "e" ∷ code "e" ∷ code "d" ∷ []) ∷
    named End (code "e" ∷ code "n" ∷ code "d" ∷ []) ∷
    []

abbrev pub verb_in : List Named → List ℕ → Verb
verb_in [] w = Other
verb_in (n ∷ ns) w = cond (same w n.word) n.verb (verb_in ns w)

unfoldable pub verb_of : List ℕ → Verb
verb_of w = verb_in verbs w
