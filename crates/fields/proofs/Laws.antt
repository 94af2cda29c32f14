-- The statements of specs/Laws.antt, proved; and how bytes end.
-- Assumes nothing.
use mathlib.Core.Path.{◌≡◌, refl, sym, ◌∙◌}
use mathlib.Core.Bool.{true, false≢true}
use mathlib.Core.List.{List, [], ◌∷◌, ◌++◌}
use Prim.Native.Nat.{ℕ, zero, suc, ◌≤◌}
use native.Mathlib.Omega.{arith}
use borrow.Author.Tests.{le-leb, leb-true}
use lib.Dec.{leb}
use lib.ListN.{length, take, drop, length-drop}
use lib.Seq.{drop-drop, drop-nil}
use Rattle.prelude.specs.Each.{each}
use Rattle.prelude.proofs.Both.{both_left, both_right}
use Rattle.numbers.specs.declared.Order.{Order}
use Rattle.fields.specs.declared.FieldType.{FieldType}
use Rattle.fields.specs.declared.FieldType.TheVariants.{U, I, C1, B1, Cn, Bn}
use Rattle.fields.specs.Fields.{least_size, counted_size, size, sizes, ends_among, fits_table}
use Rattle.fields.specs.Tables.{least}
use Rattle.fields.specs.Laws.{fixed, RequiredThere, BegunWhole, FixedSizes, FixedThere}

-- ---- one field

module _ (order : Order) where
  pub ends_nil : (fs : List FieldType) → ends_among order fs [] ≡ true
  ends_nil [] = refl
  ends_nil (f ∷ fs) = refl

  pub ends_none : (fs : List FieldType) (bytes : List ℕ) → length bytes ≡ 0 → ends_among order fs bytes ≡ true
  ends_none fs [] e = ends_nil fs
  ends_none fs (b ∷ bs) e = absurd (omega arith)

  module _ (f : FieldType) (fs : List FieldType) (bytes : List ℕ) where
    pub ends_on : 1 ≤ length bytes → size order f bytes ≤ length bytes
        → ends_among order (f ∷ fs) bytes ≡ ends_among order fs (drop (size order f bytes) bytes)
    ends_on = go bytes
      where
        go : (l : List ℕ) → 1 ≤ length l → size order f l ≤ length l
            → ends_among order (f ∷ fs) l ≡ ends_among order fs (drop (size order f l) l)
        go [] h g = absurd (omega arith)
        go (b ∷ bs) h g = rw (le-leb (size order f (b ∷ bs)) (suc (length bs)) g)

-- ---- what a body that fits has

least_sizes : (order : Order) (fs : List FieldType) (bytes : List ℕ) → least fs ≤ sizes order fs bytes
least_sizes order [] bytes = omega arith
least_sizes order (f ∷ fs) bytes = omega (arith, least_sizes order fs (drop (size order f bytes) bytes))

pub required_there : RequiredThere
required_there order t b e =
    let n = sizes order t.required b in
    omega (
      arith,
      least_sizes order t.required b,
      leb-true n (length b) (both_left (leb n (length b)) (ends_among order t.optional (drop n b)) e),
    )

-- the same of a table whose first fields are the required ones
pub table_there : (order : Order) (fields : List FieldType) (required : ℕ) (b : List ℕ)
    → fits_table order fields required b ≡ true → least (take required fields) ≤ length b
table_there order fields required b =
    required_there order (record { required = take required fields; optional = drop required fields }) b

pub begun_whole : BegunWhole
begun_whole order [] j bytes e h g = absurd (omega arith)
begun_whole order (f ∷ fs) j [] e h g = absurd (omega arith)
begun_whole order (f ∷ fs) zero (b ∷ bs) e h g =
    let n = size order f (b ∷ bs) in
    omega (
      arith,
      leb-true n (suc (length bs))
          (both_left (leb n (suc (length bs))) (ends_among order fs (drop n (b ∷ bs))) e),
    )
begun_whole order (f ∷ fs) (suc j) (b ∷ bs) e h g =
    let n = size order f (b ∷ bs) in
    let left = drop n (b ∷ bs) in
    let whole = leb-true n (suc (length bs)) (both_left (leb n (suc (length bs))) (ends_among order fs left) e) in
    let rest = both_right (leb n (suc (length bs))) (ends_among order fs left) e in
    let size_left = length-drop n (b ∷ bs) in
    omega (arith, begun_whole order fs j left rest (omega arith) (omega arith))

-- ---- fields of fixed sizes

pub counted_none : (order : Order) (f : FieldType) (bytes : List ℕ) → fixed f ≡ true → counted_size order f bytes ≡ 0
counted_none order (U width) bytes e = refl
counted_none order (I width) bytes e = refl
counted_none order C1 bytes e = refl
counted_none order B1 bytes e = refl
counted_none order Cn bytes e = absurd (false≢true e)
counted_none order Bn bytes e = absurd (false≢true e)

pub fixed_sizes : FixedSizes
fixed_sizes order [] bytes e = refl
fixed_sizes order (f ∷ fs) bytes e =
    omega (
      arith,
      counted_none order f bytes (both_left (fixed f) (each fixed fs) e),
      fixed_sizes order fs (drop (size order f bytes) bytes) (both_right (fixed f) (each fixed fs) e),
    )

pub fixed_there : FixedThere
fixed_there order [] more bytes e h = refl
fixed_there order (f ∷ fs) more [] e h = rw (drop-nil (least (f ∷ fs))) (sym (ends_nil order more))
fixed_there order (f ∷ fs) more (b ∷ bs) e h =
    let left = drop (size order f (b ∷ bs)) (b ∷ bs) in
    let none = counted_none order f (b ∷ bs) (both_left (fixed f) (each fixed fs) e) in
    let is : size order f (b ∷ bs) ≡ least_size f = omega arith in
    ends_on order f (fs ++ more) (b ∷ bs) (omega arith) (omega arith)
    ∙ fixed_there order fs more left (both_right (fixed f) (each fixed fs) e)
    (omega (arith, length-drop (size order f (b ∷ bs)) (b ∷ bs)))
    ∙ rw (drop-drop (least fs) (size order f (b ∷ bs)) (b ∷ bs), is)
