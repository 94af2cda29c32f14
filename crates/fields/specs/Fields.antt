-- How a body is made of fields. Document 01, "Record frame and kinds", bodies read.
--
--   u1 .. bn    the types of a field
--   size        how many bytes a field takes, by its type, the byte order and the bytes there
--   sizes       how many bytes fields take, one behind the other
--   ends_among   whether bytes end as optional fields may
--   fits        whether bytes are a body of given fields; fits_table: by a table of the code
-- Assumes nothing.
use Rattle.std.specs.Prelude.{ℕ, ◌+◌, Bool, true, false, ◌&&◌, List, [], ◌∷◌, leb, length, get_or, take, drop}
use Rattle.numbers.specs.declared.Order.{Order}
use Rattle.fields.specs.declared.FieldType.{FieldType}
use Rattle.fields.specs.declared.FieldType.TheVariants.{U, I, C1, B1, Cn, Bn}

abbrev pub u1 : FieldType
u1 = U 1

abbrev pub u2 : FieldType
u2 = U 2

abbrev pub u4 : FieldType
u4 = U 4

abbrev pub i2 : FieldType
i2 = I 2

abbrev pub c1 : FieldType
c1 = C1

abbrev pub b1 : FieldType
b1 = B1

abbrev pub cn : FieldType
cn = Cn

abbrev pub bn : FieldType
bn = Bn

-- what stands past a table's end
abbrev pub no_type : FieldType
no_type = U 0

-- ---- sizes

-- the bytes that a field of a type has in any case: of a C*n or B*n its count byte
abbrev pub least_size : FieldType → ℕ
least_size (U width) = width
least_size (I width) = width
least_size C1 = 1
least_size B1 = 1
least_size Cn = 1
least_size Bn = 1

-- a C*n or B*n field is a count byte and that many bytes
abbrev pub counted_size : Order → FieldType → List ℕ → ℕ
counted_size order (U width) bytes = 0
counted_size order (I width) bytes = 0
counted_size order C1 bytes = 0
counted_size order B1 bytes = 0
counted_size order Cn bytes = get_or bytes 0 0
counted_size order Bn bytes = get_or bytes 0 0

abbrev pub size : Order → FieldType → List ℕ → ℕ
size order f bytes = least_size f + counted_size order f bytes

abbrev pub sizes : Order → List FieldType → List ℕ → ℕ
sizes order [] bytes = 0
sizes order (f ∷ fs) bytes = size order f bytes + sizes order fs (drop (size order f bytes) bytes)

-- ---- bodies

-- a body may stop after any of its optional fields; not inside a field, and not past the last
abbrev pub ends_among : Order → List FieldType → List ℕ → Bool
ends_among order [] [] = true
ends_among order [] (b ∷ bs) = false
ends_among order (f ∷ fs) [] = true
ends_among order (f ∷ fs) (b ∷ bs) =
    leb (size order f (b ∷ bs)) (length (b ∷ bs)) && ends_among order fs (drop (size order f (b ∷ bs)) (b ∷ bs))

-- .. from the last required one on: the required fields are there
abbrev pub fits : Order → List FieldType → List FieldType → List ℕ → Bool
fits order required optional bytes =
    leb (sizes order required bytes) (length bytes)
    && ends_among order optional (drop (sizes order required bytes) bytes)

-- the same by a table of the code, whose first fields are the required ones
abbrev pub fits_table : Order → List FieldType → ℕ → List ℕ → Bool
fits_table order fields required bytes = fits order (take required fields) (drop required fields) bytes
