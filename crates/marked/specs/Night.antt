-- A history in which the demands have something to say: a session with nothing promised takes the one row that is to
-- spare and is then refused for room, while its neighbour, below its floor, is not. Document 01, marked case M6, on a
-- smaller scale.
--
--   far, mir, pir, prr   records, low byte first
--   night                two sessions, of floors 1,023 and 0
--   answers_of            the numbers of a history's answers
-- Assumes nothing.
use Rattle.std.specs.Prelude.{◌≡◌, List, [], ◌∷◌, ◌++◌, map, ℕ, replicate}
use Rattle.answers.specs.declared.Answer.TheVariants.{Done}
use Rattle.answers.specs.Numbers.{number_of}
use Rattle.house.specs.House.{fresh}
use Rattle.house.specs.History.{Call, Open, Deliver, Report, Said, Told, Listed, answer_of, after, history}
use Rattle.house.specs.Tally.{tallied}
use Rattle.house.specs.Demands.{assured}

abbrev pub far : List ℕ
far = 2 ∷ 0 ∷ 0 ∷ 10 ∷ 2 ∷ 4 ∷ []

-- the shortest MIR: fifteen bytes, then five counts of no bytes
abbrev pub mir : List ℕ
mir = 20 ∷ 0 ∷ 1 ∷ 10 ∷ replicate 20 0

abbrev pub pir : ℕ → ℕ → List ℕ
pir head site = 2 ∷ 0 ∷ 5 ∷ 10 ∷ head ∷ site ∷ []

abbrev pub prr : ℕ → ℕ → ℕ → List ℕ
prr head site bin = 7 ∷ 0 ∷ 5 ∷ 20 ∷ head ∷ site ∷ 0 ∷ 0 ∷ 0 ∷ bin ∷ 0 ∷ []

-- one part of a bin, from a stream's first record on and in its body
abbrev pub begins : ℕ → List Call
begins slot = Deliver slot far ∷ Deliver slot mir ∷ []

abbrev pub part : ℕ → ℕ → List Call
part slot bin = Deliver slot (pir 1 1) ∷ Deliver slot (prr 1 1 bin) ∷ []

abbrev pub night : List Call
night =
    (Open 0 1023 ∷ Open 1 0 ∷ [])
    ++ begins 1 ++ part 1 7 ++ part 1 5 ++ begins 0 ++ part 0 3 ++ part 0 3 ++ (Report 0 8 ∷ Report 1 8 ∷ [])

abbrev pub answers_of : List Said → List ℕ
answers_of es = map (λ (e : Said). number_of (answer_of e.reply)) es

-- slot 1's second key is refused, slot 0's is not
abbrev pub NightAnswers : Type 0
NightAnswers = answers_of (history fresh night)
    ≡ 0 ∷ 0 ∷ 0 ∷ 0 ∷ 0 ∷ 0 ∷ 0 ∷ 13 ∷ 0 ∷ 0 ∷ 0 ∷ 0 ∷ 0 ∷ 0 ∷ 0 ∷ 0 ∷ []

-- the tally that the calls tell
abbrev pub NightTally : Type 0
NightTally = tallied 0 (history fresh night) ≡ record { head = 1; site = 1; bin = 3; count = 2 } ∷ []

-- the promise of isolation covers slot 0's seven calls after its opening, its report among them
abbrev pub NightAssured : Type 0
NightAssured = assured 0 (after fresh (Open 0 1023))
    (Open 1 0 ∷ begins 1 ++ part 1 7 ++ begins 0 ++ part 0 3 ++ part 1 5 ++ part 0 3 ++ (Report 0 8 ∷ []))
    ≡ Told Done ∷ Told Done ∷ Told Done ∷ Told Done ∷ Told Done ∷ Told Done
    ∷ Listed Done (record { head = 1; site = 1; bin = 3; count = 2 } ∷ []) ∷ []
