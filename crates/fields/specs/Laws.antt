-- What is shown of fields: statements only. Each is proved in proofs/Laws.antt, under its name in small letters.
-- Assumes nothing.
use Rattle.std.specs.Prelude.{◌≡◌, Bool, true, false, List, ◌++◌, ℕ, suc, ◌≤◌, ◌<◌, length, take, drop}
use Rattle.prelude.specs.Each.{each}
use Rattle.numbers.specs.declared.Order.{Order}
use Rattle.fields.specs.declared.FieldType.{FieldType}
use Rattle.fields.specs.declared.FieldType.TheVariants.{U, I, C1, B1, Cn, Bn}
use Rattle.fields.specs.Fields.{sizes, ends_among}
use Rattle.fields.specs.Tables.{Body, fits_body, least}

-- a body that fits has every required field
abbrev pub RequiredThere : Type 0
RequiredThere = (order : Order) (t : Body) (b : List ℕ) → fits_body order t b ≡ true → least t.required ≤ length b

-- an optional field that begins in bytes that end well is whole
abbrev pub BegunWhole : Type 0
BegunWhole = (order : Order) (fs : List FieldType) (j : ℕ) (bytes : List ℕ) → ends_among order fs bytes ≡ true
    → j < length fs → sizes order (take j fs) bytes < length bytes → sizes order (take (suc j) fs) bytes ≤ length bytes

-- a type that tells its fields' size alone
abbrev pub fixed : FieldType → Bool
fixed (U width) = true
fixed (I width) = true
fixed C1 = true
fixed B1 = true
fixed Cn = false
fixed Bn = false

-- such fields begin where the least sizes of those before them say ..
abbrev pub FixedSizes : Type 0
FixedSizes = (order : Order) (fs : List FieldType) (bytes : List ℕ) → each fixed fs ≡ true
    → sizes order fs bytes ≡ least fs

-- .. and where all bytes of theirs are there, what is behind them is all there is to look at
abbrev pub FixedThere : Type 0
FixedThere = (order : Order) (fs more : List FieldType) (bytes : List ℕ) → each fixed fs ≡ true
    → least fs ≤ length bytes → ends_among order (fs ++ more) bytes ≡ ends_among order more (drop (least fs) bytes)
