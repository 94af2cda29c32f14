-- The statements of specs/Sizes.antt, proved of any body; the table's numbers are then computed.
--
--   filled   a body whose counted fields have so many bytes each: with 0 the shortest, with 255 the longest
-- Assumes nothing.
use mathlib.Core.Path.{◌≡◌, refl, sym, ap, ◌∙◌, subst}
use mathlib.Core.Bool.{Bool, true, false, ◌&&◌, false≢true}
use mathlib.Core.List.{List, [], ◌∷◌, ◌++◌, append_assoc, append-nil, map}
use Prim.Native.Nat.{ℕ, zero, suc, ◌+◌, ◌≤◌, ◌<◌}
use native.Mathlib.Nat.{zero-add}
use native.Mathlib.Omega.{arith}
use borrow.Author.Tests.{le-leb, leb-true, leb-false, eq-eqb, ne_eqb}
use lib.Dec.{leb}
use lib.ListN.{length, get_or, drop, replicate, length-append, length-drop, length-replicate}
use lib.Seq.{drop_at}
use Rattle.prelude.specs.Each.{each}
use Rattle.prelude.proofs.Each.{each_append}
use Rattle.prelude.proofs.Both.{both_left, both_right}
use Rattle.prelude.proofs.Table.{at_each}
use Rattle.numbers.specs.declared.Order.{Order}
use Rattle.numbers.specs.Laws.{Bytes}
use Rattle.numbers.proofs.Laws.{bytes_drop, bytes_append}
use Rattle.fields.specs.declared.FieldType.{FieldType}
use Rattle.fields.specs.declared.FieldType.TheVariants.{U, I, C1, B1, Cn, Bn}
use Rattle.fields.specs.Fields.{least_size, size, sizes, ends_among}
use Rattle.fields.specs.Tables.{Body, fields, fits_body, least, pcr}
use Rattle.fields.specs.Laws.{fixed}
use Rattle.fields.specs.Sizes.{most_size, most, Sized, ◌from◌to◌, body_sizes, no_sized, SizesAre}
use Rattle.fields.specs.Sizes.{BodySizes, lengths, one_of, FixedLengths, PcrLengths}
use Rattle.fields.proofs.Laws.{ends_nil, ends_on, required_there, counted_none, fixed_sizes}

-- ---- no more than the most

size_most : (order : Order) (f : FieldType) (s : List ℕ) → Bytes s → size order f s ≤ most_size f
size_most order (U width) s h = omega arith
size_most order (I width) s h = omega arith
size_most order C1 s h = omega arith
size_most order B1 s h = omega arith
size_most order Cn s h = omega (arith, h 0)
size_most order Bn s h = omega (arith, h 0)

sizes_most : (order : Order) (fs : List FieldType) (s : List ℕ) → Bytes s → sizes order fs s ≤ most fs
sizes_most order [] s h = omega arith
sizes_most order (f ∷ fs) s h =
    let n = size order f s in
    omega (arith, size_most order f s h, sizes_most order fs (drop n s) (bytes_drop n s h))

ends_most : (order : Order) (fs : List FieldType) (s : List ℕ) → Bytes s → ends_among order fs s ≡ true
    → length s ≤ most fs
ends_most order [] [] h e = omega arith
ends_most order [] (b ∷ bs) h e = absurd (false≢true e)
ends_most order (f ∷ fs) [] h e = omega arith
ends_most order (f ∷ fs) (b ∷ bs) h e =
    let n = size order f (b ∷ bs) in
    let left = drop n (b ∷ bs) in
    let rest = both_right (leb n (length (b ∷ bs))) (ends_among order fs left) e in
    omega (
      arith,
      size_most order f (b ∷ bs) h,
      length-drop n (b ∷ bs),
      ends_most order fs left (bytes_drop n (b ∷ bs) h) rest,
    )

most_append : (fs gs : List FieldType) → most (fs ++ gs) ≡ most fs + most gs
most_append [] gs = omega arith
most_append (f ∷ fs) gs = omega (arith, most_append fs gs)

fits_most : (order : Order) (t : Body) (b : List ℕ) → Bytes b → fits_body order t b ≡ true
    → length b ≤ most (fields t)
fits_most order t b h e =
    let n = sizes order t.required b in
    let rest = both_right (leb n (length b)) (ends_among order t.optional (drop n b)) e in
    omega (
      arith,
      most_append t.required t.optional,
      sizes_most order t.required b h,
      length-drop n b,
      ends_most order t.optional (drop n b) (bytes_drop n b h) rest,
    )

-- ---- a body of either length

abbrev counted : ℕ → List ℕ
counted n = n ∷ replicate n 0

abbrev filled_field : ℕ → FieldType → List ℕ
filled_field n (U width) = replicate width 0
filled_field n (I width) = replicate width 0
filled_field n C1 = 0 ∷ []
filled_field n B1 = 0 ∷ []
filled_field n Cn = counted n
filled_field n Bn = counted n

abbrev filled : ℕ → List FieldType → List ℕ
filled n [] = []
filled n (f ∷ fs) = filled_field n f ++ filled n fs

-- it is bytes

zeros : (w : ℕ) → Bytes (replicate w 0)
zeros zero k = omega arith
zeros (suc w) zero = omega arith
zeros (suc w) (suc k) = zeros w k

counted_bytes : (n : ℕ) → n < 256 → Bytes (counted n)
counted_bytes n h zero = h
counted_bytes n h (suc k) = zeros n k

field_bytes_lem : (n : ℕ) (f : FieldType) → n < 256 → Bytes (filled_field n f)
field_bytes_lem n (U width) h = zeros width
field_bytes_lem n (I width) h = zeros width
field_bytes_lem n C1 h = zeros 1
field_bytes_lem n B1 h = zeros 1
field_bytes_lem n Cn h = counted_bytes n h
field_bytes_lem n Bn h = counted_bytes n h

filled_bytes : (n : ℕ) (fs : List FieldType) → n < 256 → Bytes (filled n fs)
filled_bytes n [] h = zeros 0
filled_bytes n (f ∷ fs) h =
    bytes_append (filled_field n f) (filled n fs) (field_bytes_lem n f h) (filled_bytes n fs h)

-- it has the least bytes, or the most

least_field : (f : FieldType) → length (filled_field 0 f) ≡ least_size f
least_field (U width) = length-replicate width 0
least_field (I width) = length-replicate width 0
least_field C1 = refl
least_field B1 = refl
least_field Cn = refl
least_field Bn = refl

most_field : (f : FieldType) → length (filled_field 255 f) ≡ most_size f
most_field (U width) = length-replicate width 0
most_field (I width) = length-replicate width 0
most_field C1 = refl
most_field B1 = refl
most_field Cn = refl
most_field Bn = refl

-- what each field has sums to what all have
filled_length : (n : ℕ) (one : FieldType → ℕ) (all : List FieldType → ℕ)
    → ((f : FieldType) → length (filled_field n f) ≡ one f) → all [] ≡ 0
    → ((f : FieldType) (fs : List FieldType) → all (f ∷ fs) ≡ one f + all fs)
    → (fs : List FieldType) → length (filled n fs) ≡ all fs
filled_length n one all field none more [] = sym none
filled_length n one all field none more (f ∷ fs) =
    omega (
      arith,
      length-append (filled_field n f) (filled n fs),
      field f,
      more f fs,
      filled_length n one all field none more fs,
    )

least_length : (fs : List FieldType) → length (filled 0 fs) ≡ least fs
least_length = filled_length 0 least_size least least_field refl (λ f fs. refl)

most_length_lem : (fs : List FieldType) → length (filled 255 fs) ≡ most fs
most_length_lem = filled_length 255 most_size most most_field refl (λ f fs. refl)

-- it fits

module _ (order : Order) (n : ℕ) where
  size_filled : (f : FieldType) (rest : List ℕ) → size order f (filled_field n f ++ rest) ≡ length (filled_field n f)
  size_filled (U width) rest = omega (arith, length-replicate {A = ℕ} width 0)
  size_filled (I width) rest = omega (arith, length-replicate {A = ℕ} width 0)
  size_filled C1 rest = refl
  size_filled B1 rest = refl
  size_filled Cn rest = omega (arith, length-replicate {A = ℕ} n 0)
  size_filled Bn rest = omega (arith, length-replicate {A = ℕ} n 0)

  sizes_filled : (fs : List FieldType) (rest : List ℕ) → sizes order fs (filled n fs ++ rest) ≡ length (filled n fs)
  sizes_filled [] rest = refl
  sizes_filled (f ∷ fs) rest =
      rw (
        append_assoc (filled_field n f) (filled n fs) rest,
        size_filled f (filled n fs ++ rest),
        drop_at (filled_field n f) (filled n fs ++ rest) (length (filled_field n f)) refl,
        sizes_filled fs rest,
      )
      (sym (length-append (filled_field n f) (filled n fs)))

  ends_filled : (fs : List FieldType) → ends_among order fs (filled n fs) ≡ true
  ends_filled [] = refl
  ends_filled (f ∷ fs) = go (filled_field n f ++ filled n fs) refl (ends_filled fs)
    where
      go : (l : List ℕ) → filled_field n f ++ filled n fs ≡ l → ends_among order fs (filled n fs) ≡ true
          → ends_among order (f ∷ fs) (filled_field n f ++ filled n fs) ≡ true
      go [] e ih = rw e
      go (b ∷ bs) e ih =
          let is = size_filled f (filled n fs) in
          let both = length-append (filled_field n f) (filled n fs) in
          ends_on order f fs (filled_field n f ++ filled n fs) (omega (arith, ap length e)) (omega arith)
          ∙ rw (is, drop_at (filled_field n f) (filled n fs) (length (filled_field n f)) refl) ih

  fits_filled : (t : Body) (tail : List ℕ) → ends_among order t.optional tail ≡ true
      → fits_body order t (filled n t.required ++ tail) ≡ true
  fits_filled t tail e =
      let front = filled n t.required in
      rw (
        sizes_filled t.required tail,
        le-leb (length front) (length (front ++ tail)) (omega (arith, length-append front tail)),
        drop_at front tail (length front) refl,
      )
      e

-- ---- of any body, and of those of the table

sizes_are : (t : Body) → SizesAre (t from least t.required to most (fields t))
sizes_are t =
    record {
      least = λ order b e. required_there order t b e;
      most = λ order b h e. fits_most order t b h e;
      least_there =
          λ order. (
            filled 0 t.required,
            filled_bytes 0 t.required (omega arith),
            least_length t.required,
            rw append-nil at (fits_filled order 0 t [] (ends_nil order t.optional)),
          );
      most_there =
          λ order. (
            filled 255 t.required ++ filled 255 t.optional,
            bytes_append (filled 255 t.required) (filled 255 t.optional)
                (filled_bytes 255 t.required (omega arith)) (filled_bytes 255 t.optional (omega arith)),
            omega (
              arith,
              length-append (filled 255 t.required) (filled 255 t.optional),
              most_length_lem t.required,
              most_length_lem t.optional,
              most_append t.required t.optional,
            ),
            fits_filled order 255 t (filled 255 t.optional) (ends_filled order 255 t.optional),
          );
    }

abbrev computed : Sized → Sized
computed s = s.body from least s.body.required to most (fields s.body)

-- the test: the table's numbers are those that its bodies' fields come to
all_told : map (λ (s : Sized). s) body_sizes ≡ map computed body_sizes
all_told = refl

pub body_sizes_lem : BodySizes
body_sizes_lem i h =
    subst SizesAre (sym (at_each Sized Sized (λ (s : Sized). s) computed body_sizes no_sized all_told i h))
    (sizes_are (get_or body_sizes i no_sized).body)

-- ---- bodies without a counted field

lengths_above : (fs : List FieldType) (m k : ℕ) → m < k → one_of m (lengths k fs) ≡ false
lengths_above [] m k h = rw (ne_eqb m k (omega arith))
lengths_above (f ∷ fs) m k h = rw (ne_eqb m k (omega arith)) (lengths_above fs m (k + least_size f) (omega arith))

-- bytes that have those of the fields so far go on as what is left does, and others stop inside one
stops : (fs : List FieldType) (n z : ℕ) (s : List ℕ) (rest : Bool)
    → rest ≡ one_of (n + z + length (drop z s)) (lengths (n + z) fs)
    → (leb z (length s) && rest) ≡ one_of (n + length s) (lengths (n + z) fs)
stops fs n z s rest ih = go (leb z (length s)) refl
  where
    go : (t : Bool) → leb z (length s) ≡ t → (t && rest) ≡ one_of (n + length s) (lengths (n + z) fs)
    go true q =
        let is : n + z + length (drop z s) ≡ n + length s =
        omega (arith, leb-true z (length s) q, length-drop z s) in
        ih ∙ ap (λ (m : ℕ). one_of m (lengths (n + z) fs)) is
    go false q =
        sym (lengths_above fs (n + length s) (n + z) (omega (arith, leb-false z (length s) q)))

fixed_ends : (order : Order) (fs : List FieldType) (s : List ℕ) (n : ℕ) → each fixed fs ≡ true
    → ends_among order fs s ≡ one_of (n + length s) (lengths n fs)
fixed_ends order [] [] n e = rw (eq-eqb (n + 0) n (omega arith))
fixed_ends order [] (b ∷ bs) n e = rw (ne_eqb (n + suc (length bs)) n (omega arith))
fixed_ends order (f ∷ fs) [] n e = rw (eq-eqb (n + 0) n (omega arith))
fixed_ends order (f ∷ fs) (b ∷ bs) n e =
    let none = counted_none order f (b ∷ bs) (both_left (fixed f) (each fixed fs) e) in
    let is : size order f (b ∷ bs) ≡ least_size f = omega arith in
    let left = drop (least_size f) (b ∷ bs) in
    rw (is, ne_eqb (n + suc (length bs)) n (omega arith))
    (stops fs n (least_size f) (b ∷ bs) (ends_among order fs left)
    (fixed_ends order fs left (n + least_size f) (both_right (fixed f) (each fixed fs) e)))

pub fixed_lengths : FixedLengths
fixed_lengths order t b e =
    let m = least t.required in
    let parts = sym (each_append FieldType fixed t.required t.optional) ∙ e in
    let required = both_left (each fixed t.required) (each fixed t.optional) parts in
    let optional = both_right (each fixed t.required) (each fixed t.optional) parts in
    let told =
    stops t.optional 0 m b (ends_among order t.optional (drop m b))
    (rw zero-add (fixed_ends order t.optional (drop m b) m optional)) in
    rw (fixed_sizes order t.required b required) (rw (zero-add (length b), zero-add m) at told)

pub pcr_lengths : PcrLengths
pcr_lengths order b = fixed_lengths order pcr b refl
