-- What is shown of the judgement: statements only, the laws by which a house uses it, and never its text. Each is
-- proved in proofs/Laws.antt, under its name in small letters.
--
--   KeyRight     that a key is one of a row: head at most 254, bin at most 32,767
--   Begins       what a verdict on a first record tells, and Tells, on a later one
--   RefusesOwn   that a verdict which refuses does so with an answer that a record by itself may be given
-- Assumes nothing.
use Rattle.std.specs.Prelude.{◌≡◌, true, false, List, ℕ, ◌+◌, ◌/◌, ◌%◌, ◌≤◌, ◌<◌, length}
use Rattle.numbers.specs.Laws.{Bytes}
use Rattle.answers.specs.declared.Answer.{Answer}
use Rattle.values.specs.Values.{most_bin}
use Rattle.session.specs.declared.Session.{Session}
use Rattle.session.specs.declared.Standing.{Standing}
use Rattle.session.specs.declared.Verdict.{Verdict}
use Rattle.session.specs.declared.Verdict.TheVariants.{Refused, Taken, Wanted}
use Rattle.session.specs.Session.{cell_count, most_results, past_parts, parts_of, is_start, Follows, sound, LentParts}
use Rattle.session.specs.Verdicts.{ByItself}
use Rattle.settling.specs.Settling.{changed, after, counted_parts, Settles}
use Rattle.first_record.specs.First.{judge_first, order_in}
use Rattle.later_records.specs.Later.{judge_later}
use Rattle.later_records.specs.Results.{None, Part, result_of}
use Rattle.judging.specs.Judge.{judge, verdict_on}

-- ---- which rules

-- its number at the start is FirstNumber's of first_record, and later on LaterNumber's of later_records
abbrev pub JudgedFirst : Type 0
JudgedFirst = (st : Standing) (cells rec : List ℕ) → is_start st.place ≡ true
    → judge st cells rec ≡ judge_first st rec

abbrev pub JudgedLater : Type 0
JudgedLater = (st : Standing) (cells rec : List ℕ) → is_start st.place ≡ false
    → judge st cells rec ≡ judge_later st cells rec

-- ---- the session after it

-- what a verdict changes may be settled
abbrev pub JudgedSettles : Type 0
JudgedSettles = (st : Standing) (cells rec : List ℕ) → LentParts st cells → Settles st (judge st cells rec)

-- a sound session stays sound, whatever bytes are delivered to it
abbrev pub JudgedSound : Type 0
JudgedSound = (s : Session) (rec : List ℕ) → Bytes rec → length s.parts ≡ cell_count → sound s ≡ true
    → sound (after s (verdict_on s rec)) ≡ true

-- its accepted PRRs are one more just where a part result was accepted
abbrev pub JudgedCounts : Type 0
JudgedCounts = (s : Session) (rec : List ℕ)
    → (after s (verdict_on s rec)).standing.results ≡ s.standing.results + counted_parts (verdict_on s rec)

-- .. and never more than 4,294,967,295
abbrev pub JudgedFew : Type 0
JudgedFew = (s : Session) (rec : List ℕ) → s.standing.results ≤ most_results
    → (after s (verdict_on s rec)).standing.results ≤ most_results

-- the cells of a session stay as many
abbrev pub JudgedLong : Type 0
JudgedLong = (s : Session) (rec : List ℕ) → length s.parts ≡ cell_count → sound s ≡ true
    → length (after s (verdict_on s rec)).parts ≡ cell_count

-- ---- what a verdict tells of a record

abbrev pub KeyRight : Verdict → Type 0
KeyRight (Refused a) = Unit
KeyRight (Taken change) = Unit
KeyRight (Wanted change key) = (key / 65536 < past_parts) × (key % 65536 ≤ most_bin)

-- a row is asked for under a key that a row may have
abbrev pub JudgedKey : Type 0
JudgedKey = (s : Session) (rec : List ℕ) → Bytes rec → KeyRight (verdict_on s rec)

abbrev pub Begins : Session → List ℕ → Verdict → Type 0
Begins s rec (Refused a) = Unit
Begins s rec (Taken change) = Follows (order_in rec) (changed s change).standing
Begins s rec (Wanted change key) = ⊥

abbrev pub Tells : Session → List ℕ → Verdict → Type 0
Tells s rec (Refused a) = Unit
Tells s rec (Taken change) =
    (result_of s.standing.order rec ≡ None) × Follows s.standing.order (changed s change).standing
Tells s rec (Wanted change key) =
    (result_of s.standing.order rec ≡ Part key) × Follows s.standing.order (changed s change).standing

-- the first record that is accepted tells the order of the stream
abbrev pub JudgedBegins : Type 0
JudgedBegins = (s : Session) (rec : List ℕ) → is_start s.standing.place ≡ true → Begins s rec (verdict_on s rec)

-- a later one asks for a row exactly if it is a part result, and under that result's key
abbrev pub JudgedTells : Type 0
JudgedTells = (s : Session) (rec : List ℕ) → is_start s.standing.place ≡ false → Tells s rec (verdict_on s rec)

-- a record by itself is refused with its own numbers alone, and 12 names the smallest of the open parts
abbrev pub RefusesOwn : Session → Verdict → Type 0
RefusesOwn s v = (a : Answer) → v ≡ Refused a → ByItself (parts_of s) a

abbrev pub JudgedRefusal : Type 0
JudgedRefusal = (s : Session) (rec : List ℕ) → RefusesOwn s (verdict_on s rec)
