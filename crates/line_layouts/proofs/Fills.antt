-- Laws of fields filled one by one.
-- Assumes nothing.
use mathlib.Core.Path.{◌≡◌, refl, ap, sym, ◌∙◌}
use mathlib.Core.Bool.{Bool, true, false}
use mathlib.Core.List.{List, [], ◌∷◌, ◌++◌, map}
use Prim.Native.Nat.{ℕ, zero, suc, ◌+◌, ◌≤◌, ◌<◌}
use native.Mathlib.Numerals.{add-one}
use native.Mathlib.Omega.{arith}
use borrow.Author.Tests.{eqb-true, eqb-false, ltb-true, ltb-false}
use lib.Dec.{eqb, ltb}
use lib.ListN.{length, get_or, take, drop, set, replicate, length-append, length-take, length-drop}
use lib.ListN.{get_or-eq_default}
use lib.Seq.{take_all, take-suc-set, get_or-set_same, get_or-set_other, get_or-take, get_or-drop, ext_get_or}
use Rattle.std.proofs.lemmas.List.{map-append}
use Rattle.line_layouts.specs.declared.Said.{Said}
use Rattle.line_layouts.specs.Columns.{most_columns}
use Rattle.line_layouts.specs.Entries.{Entry, entry_of, no_field, no_fields, padded, Within}

-- ---- fields that are missing

-- things all alike, and past them the same
pub alike_at : (A : Type 0) (a : A) (n i : ℕ) → get_or (replicate n a) i a ≡ a
alike_at A a zero i = refl
alike_at A a (suc n) zero = refl
alike_at A a (suc n) (suc i) = alike_at A a n i

none_at : (i : ℕ) → get_or no_fields i no_field ≡ no_field
none_at i = alike_at Said no_field most_columns i

append_none : (fs ns : List Said) → ((i : ℕ) → get_or ns i no_field ≡ no_field)
    → (i : ℕ) → get_or (fs ++ ns) i no_field ≡ get_or fs i no_field
append_none [] ns e i = e i
append_none (f ∷ fs) ns e zero = refl
append_none (f ∷ fs) ns e (suc i) = append_none fs ns e i

pub padded_at : (fs : List Said) (i : ℕ) → get_or (padded fs) i no_field ≡ get_or fs i no_field
padded_at fs i =
    append_none fs (drop (length fs) no_fields)
    (λ (k : ℕ). get_or-drop (length fs) no_fields k no_field ∙ none_at (length fs + k)) i

pub length_padded : (fs : List Said) → length fs ≤ most_columns → length (padded fs) ≡ most_columns
length_padded fs h =
    length-append fs (drop (length fs) no_fields) ∙ omega (arith, length-drop (length fs) no_fields)

-- ---- things stored one by one

module _ (A : Type 0) (none : A) (all : List A) (j : ℕ) where
  pub stored_on : (xs : List A) (a : A) → j < length xs → get_or all j none ≡ a
      → ((i : ℕ) → get_or xs i none ≡ get_or (take j all) i none)
      → (i : ℕ) → get_or (set xs j a) i none ≡ get_or (take (j + 1) all) i none
  stored_on xs a h is so_far i = go (eqb i j) refl
    where
      later : (i ≡ j → ⊥) → (t : Bool) → ltb i j ≡ t → get_or (take j all) i none ≡ get_or (take (suc j) all) i none
      later other true e =
          let low = ltb-true i j e in
          get_or-take j all i none low ∙ sym (get_or-take (suc j) all i none (omega arith))
      later other false e =
          let high = ltb-false i j e in
          get_or-eq_default (take j all) none {n = i} (omega (arith, length-take j all))
          ∙ sym (get_or-eq_default (take (suc j) all) none {n = i}
          (omega (arith, length-take (suc j) all, other)))

      go : (t : Bool) → eqb i j ≡ t → get_or (set xs j a) i none ≡ get_or (take (j + 1) all) i none
      go true e =
          rw (eqb-true i j e, add-one j, get_or-set_same xs j a none h)
          (sym is ∙ sym (get_or-take (suc j) all j none (omega arith)))
      go false e =
          let other = eqb-false i j e in
          rw (add-one j, get_or-set_other xs j i a none other) (so_far i ∙ later other (ltb i j) refl)

-- fields stored one by one are all of them, and past them none
pub stored_all : (all fs : List Said) (j : ℕ) → length all ≤ j → length all ≤ most_columns → length fs ≡ most_columns
    → ((i : ℕ) → get_or fs i no_field ≡ get_or (take j all) i no_field) → fs ≡ padded all
stored_all all fs j done few full so_far =
    ext_get_or no_field fs (padded all) (full ∙ sym (length_padded all few))
    (λ (i : ℕ) inside. so_far i ∙ ap (λ (l : List Said). get_or l i no_field) (take_all j all done)
    ∙ sym (padded_at all i))

-- ---- what they say

module _ (s : List ℕ) where
  abbrev pub says : Said → Entry
  says f = entry_of s f

  -- every field's bytes are there
  abbrev pub Withins : List Said → Type 0
  Withins fs = (i : ℕ) → Within s (get_or fs i no_field)

  pub within_none : Withins no_fields
  within_none i = rw (none_at i) tt

  module _ (fs : List Said) (j : ℕ) (f : Said) (h : j < length fs) where
    pub within_set : Withins fs → Within s f → Withins (set fs j f)
    within_set all there i = go (eqb i j) refl
      where
        go : (t : Bool) → eqb i j ≡ t → Within s (get_or (set fs j f) i no_field)
        go true e = rw (eqb-true i j e, get_or-set_same fs j f no_field h) there
        go false e = rw (get_or-set_other fs j i f no_field (eqb-false i j e)) (all i)

    -- one field more
    pub says_more : map says (take (j + 1) (set fs j f)) ≡ map says (take j fs) ++ says f ∷ []
    says_more = rw (add-one j, take-suc-set fs j f h) (map-append says (take j fs) (f ∷ []))
