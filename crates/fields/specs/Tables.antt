-- The fields of each body that is read, required to the bar. Document 01, "Record frame and kinds", its table of
-- bodies; MIR in the order of source document 004, WIR and WRR (#103) in that of document 003.
--
--   Body       a body's fields before the bar and behind it
--   fits_body   whether bytes are such a body
--   least      the fewest bytes of fields
--   far .. wrr
--   offset_of, byte_of, value_of   where a field begins, and what stands there
-- Assumes nothing.
use Rattle.std.specs.Prelude.{ℕ, ◌+◌, Bool, List, [], ◌∷◌, ◌++◌, get_or, take, replicate}
use Rattle.numbers.specs.declared.Order.{Order}
use Rattle.numbers.specs.Numbers.{number, front}
use Rattle.fields.specs.declared.FieldType.{FieldType}
use Rattle.fields.specs.Fields.{u1, c1, b1, u2, i2, u4, cn, bn, no_type, least_size, fits}

pub record Body : Type 0 where
  pub required : List FieldType
  pub optional : List FieldType

infix 20 ◌bar◌
abbrev pub ◌bar◌ : List FieldType → List FieldType → Body
required bar optional = record { required = required; optional = optional }

abbrev pub fields : Body → List FieldType
fields body = body.required ++ body.optional

abbrev pub fits_body : Order → Body → List ℕ → Bool
fits_body order body bytes = fits order body.required body.optional bytes

abbrev pub least : List FieldType → ℕ
least [] = 0
least (f ∷ fs) = least_size f + least fs

-- CPU_TYPE, STDF_VER
abbrev pub far : Body
far = (u1 ∷ u1 ∷ []) bar []

-- times, station, codes, burn-in, LOT_ID to JOB_NAM, then JOB_REV to SUPR_NAM
abbrev pub mir : Body
mir = (u4 ∷ u4 ∷ u1 ∷ c1 ∷ c1 ∷ c1 ∷ u2 ∷ c1 ∷ replicate 5 cn) bar replicate 25 cn

-- time, then disposition and two descriptions
abbrev pub mrr : Body
mrr = (u4 ∷ []) bar (c1 ∷ cn ∷ cn ∷ [])

-- head, site, parts, then retest, abort, good, functional
abbrev pub pcr : Body
pcr = (u1 ∷ u1 ∷ u4 ∷ []) bar (u4 ∷ u4 ∷ u4 ∷ u4 ∷ [])

-- HBR and SBR: head, site, bin, count, then P/F and name
abbrev pub bin : Body
bin = (u1 ∷ u1 ∷ u2 ∷ u4 ∷ []) bar (c1 ∷ cn ∷ [])

-- head, site
abbrev pub pir : Body
pir = (u1 ∷ u1 ∷ []) bar []

-- head, site, PART_FLG, tests, hard bin, then soft bin, X, Y, time, id, text, fix
abbrev pub prr : Body
prr = (u1 ∷ u1 ∷ b1 ∷ u2 ∷ u2 ∷ []) bar (u2 ∷ i2 ∷ i2 ∷ u4 ∷ cn ∷ cn ∷ bn ∷ [])

-- #103: head, site group, start time, then wafer id
abbrev pub wir : Body
wir = (u1 ∷ u1 ∷ u4 ∷ []) bar (cn ∷ [])

-- #103: head, site group, finish time, parts, then retest, abort, good, functional; wafer, fab wafer, frame and mask
-- id; two descriptions
abbrev pub wrr : Body
wrr = (u1 ∷ u1 ∷ u4 ∷ u4 ∷ []) bar (u4 ∷ u4 ∷ u4 ∷ u4 ∷ replicate 6 cn)

-- ---- a field by its number, from 0

-- where it begins: told by the table alone, as far as no field before it is counted; so of a FAR, which tells the order
abbrev pub offset_of : Body → ℕ → ℕ
offset_of t j = least (take j (fields t))

abbrev pub byte_of : Body → ℕ → List ℕ → ℕ
byte_of t j b = get_or b (offset_of t j) 0

abbrev pub value_of : Order → Body → ℕ → List ℕ → ℕ
value_of order t j b = number order (front (least_size (get_or (fields t) j no_type)) (offset_of t j) b)
