-- How many bytes a body has. Document 01, "Record frame and kinds", the last column of its table of bodies.
--
--   most_size, most   the most bytes of a field, and of fields
--   Sized            a body, the fewest bytes it may have and the most
--   body_sizes        the table, a body a line: FAR, those of the document and of #103
--   SizesAre         that no body that fits has fewer or more, and that there are bodies of both lengths
--   lengths          where bodies may stop whose fields' sizes their types tell
-- Assumes nothing.
use Rattle.std.specs.Prelude.{ℕ, ◌+◌, ◌≤◌, ◌<◌, ◌≡◌, Bool, true, false, ◌||◌, List, [], ◌∷◌, eqb, length, get_or}
use Rattle.prelude.specs.Each.{each}
use Rattle.numbers.specs.declared.Order.{Order}
use Rattle.numbers.specs.Laws.{Bytes}
use Rattle.fields.specs.declared.FieldType.{FieldType}
use Rattle.fields.specs.declared.FieldType.TheVariants.{U, I, C1, B1, Cn, Bn}
use Rattle.fields.specs.Fields.{least_size}
use Rattle.fields.specs.Tables.{Body, fields, fits_body, least, far, mir, mrr, pcr, bin, pir, prr, wir, wrr}
use Rattle.fields.specs.Laws.{fixed}

-- a count byte says 255 at the most
abbrev pub most_size : FieldType → ℕ
most_size (U width) = width
most_size (I width) = width
most_size C1 = 1
most_size B1 = 1
most_size Cn = 256
most_size Bn = 256

abbrev pub most : List FieldType → ℕ
most [] = 0
most (f ∷ fs) = most_size f + most fs

pub record Sized : Type 0 where
  pub body : Body
  pub fewest : ℕ
  pub largest : ℕ

infix 20 ◌from◌to◌
abbrev pub ◌from◌to◌ : Body → ℕ → ℕ → Sized
body from fewest to largest = record { body = body; fewest = fewest; largest = largest }

-- Body bytes
abbrev pub body_sizes : List Sized
body_sizes =
    (far from 2 to 2) ∷
    (mir from 20 to 7_695) ∷
    (mrr from 4 to 517) ∷
    (pcr from 6 to 22) ∷
    (bin from 8 to 265) ∷
    (pir from 2 to 2) ∷
    (prr from 7 to 785) ∷
    (wir from 6 to 262) ∷
    (wrr from 10 to 1_562) ∷
    []

-- what stands past the table's end
abbrev pub no_sized : Sized
no_sized = far from 2 to 2

abbrev pub HasLength : Order → Body → ℕ → Type 0
HasLength order t n = (b : List ℕ) × Bytes b × (length b ≡ n) × (fits_body order t b ≡ true)

pub record SizesAre (s : Sized) : Type 0 where
  pub least : (order : Order) (b : List ℕ) → fits_body order s.body b ≡ true → s.fewest ≤ length b
  pub most : (order : Order) (b : List ℕ) → Bytes b → fits_body order s.body b ≡ true → length b ≤ s.largest
  pub least_there : (order : Order) → HasLength order s.body s.fewest
  pub most_there : (order : Order) → HasLength order s.body s.largest

abbrev pub BodySizes : Type 0
BodySizes = (i : ℕ) → i < length body_sizes → SizesAre (get_or body_sizes i no_sized)

-- ---- bodies without a counted field

-- the required bytes, and after each optional field so many more
abbrev pub lengths : ℕ → List FieldType → List ℕ
lengths n [] = n ∷ []
lengths n (f ∷ fs) = n ∷ lengths (n + least_size f) fs

abbrev pub one_of : ℕ → List ℕ → Bool
one_of n [] = false
one_of n (m ∷ ms) = eqb n m || one_of n ms

-- such a body fits by its length alone
abbrev pub FixedLengths : Type 0
FixedLengths = (order : Order) (t : Body) (b : List ℕ) → each fixed (fields t) ≡ true
    → fits_body order t b ≡ one_of (length b) (lengths (least t.required) t.optional)

-- .. of a PCR: 6, 10, 14, 18, 22
abbrev pub PcrLengths : Type 0
PcrLengths = (order : Order) (b : List ℕ)
    → fits_body order pcr b ≡ one_of (length b) (6 ∷ 10 ∷ 14 ∷ 18 ∷ 22 ∷ [])
