-- What the walk of this code needs: a field read at its place says what the definition says, one step, and the loop.
-- Assumes nothing.
use Rattle.std.specs.Prelude.{Option, Some, None}
use mathlib.Core.Logic.{◌⊎◌, inl, inr}
use mathlib.Core.Path.{◌≡◌, refl, ap, sym, ◌∙◌}
use mathlib.Core.Bool.{Bool, true, false, cond, ◌&&◌}
use mathlib.Core.List.{List, [], ◌∷◌, ◌++◌, append-nil, map}
use Prim.Native.Nat.{ℕ, zero, suc, ◌+◌, ◌-◌, ◌≤◌, ◌<◌}
use Prim.Native.Char.{code}
use native.Mathlib.Nat.{add-zero}
use native.Mathlib.Numerals.{add-one}
use native.Mathlib.Omega.{arith}
use borrow.Author.Tests.{leb-true, leb-false, le-leb, lt-leb, lt-ltb, ne_eqb}
use lib.Dec.{eqb, leb}
use lib.ListN.{length, get_or, take, drop, set, length-drop, length-take, drop_of_length-le}
use lib.Seq.{drop-cons, drop-drop, take-nil, get_or-drop, take_all}
use Rattle.prelude.proofs.Never.{false_true}
use Rattle.numbers.specs.declared.Order.{Order}
use Rattle.numbers.specs.declared.Order.TheVariants.{HighFirst, LowFirst}
use Rattle.numbers.specs.Numbers.{number, front}
use Rattle.line_layouts.specs.declared.Form.{Form}
use Rattle.line_layouts.specs.declared.Form.TheVariants.{U1, U2, U4, Time, C1, Cn}
use Rattle.line_layouts.specs.declared.Flag.{Flag}
use Rattle.line_layouts.specs.declared.Column.{Column}
use Rattle.line_layouts.specs.declared.Said.{Said}
use Rattle.line_layouts.specs.declared.Said.TheVariants as said
use Rattle.line_layouts.specs.Columns.{no_column, width}
use Rattle.line_layouts.specs.Entries.{Entry, Missing, Number, Text, entry_of, Within, is_missing}
use Rattle.line_layouts.specs.Layouts.{is_name}
use Rattle.line_layouts.proofs.Fills.{says, says_more}
use Rattle.line_layouts.specs.Fitting.{is_number, is_beside, is_flag, is_letter, is_none}
use Rattle.line_records.specs.Walks.{Fit, Fits, Misfit, put, size, number_said, letter_said, name_said}
use Rattle.line_records.specs.Walks.{value_said, field_said, walked, hidden_one, hidden, hiding, meant_by}
use Rattle.line_records.specs.Places.{number_at, letter_at, name_at, number_in, value_at, field_at, saying, behind}
use Rattle.line_records.specs.Places.{Stepped, Going, hidden_said}
use Rattle.line_records.proofs.Puts.{fits_none, behind_more, behind_misfit, behind_fits}
use Rattle.line_records.proofs.Records.{walked_on, size_number}

-- ---- one field

number_at_lem : (s : List ℕ) (form : Form) (most : ℕ) (flag : Flag) (n : ℕ)
    → saying s (number_at form most flag n) ≡ number_said form most flag n
number_at_lem s form most flag n = go (is_flag form flag n) (leb n most)
  where
    go : (t u : Bool) → saying s (cond t (Fits said.Missing) (cond u (Fits (said.Number n)) Misfit))
        ≡ cond t (Fits Missing) (cond u (Fits (Number n)) Misfit)
    go true u = refl
    go false true = refl
    go false false = refl

one_taken : (s : List ℕ) → 1 ≤ length s → take 1 s ≡ get_or s 0 0 ∷ []
one_taken [] h = absurd (omega arith)
one_taken (b ∷ s) h = refl

letter_at_lem : (s : List ℕ) (at b : ℕ) → take 1 (drop at s) ≡ b ∷ [] → saying s (letter_at b at) ≡ letter_said b
letter_at_lem s at b is = go (eqb b (code " ")) (is_letter b)
  where
    go : (t u : Bool)
        → saying s (cond t (Fits said.Missing) (cond u (Fits (said.Text (record { at = at; len = 1 }))) Misfit))
        ≡ cond t (Fits Missing) (cond u (Fits (Text (b ∷ []))) Misfit)
    go true u = refl
    go false true = rw is
    go false false = refl

name_some : (most n : ℕ) (s : List ℕ) → suc n ≤ length s
    → name_said most (take (suc n) s) ≡ cond (leb (suc n) most) (Fits (Text (take (suc n) s))) Misfit
name_some most n [] h = absurd (omega arith)
name_some most n (b ∷ s) h =
    let size_is : length (take n s) ≡ n = omega (arith, length-take n s) in
    rw size_is

name_at_lem : (s : List ℕ) (most at n : ℕ) → at + suc n ≤ length s
    → saying s (name_at most n at) ≡ name_said most (take n (drop (at + 1) s))
name_at_lem s most at zero h = refl
name_at_lem s most at (suc n) h =
    rw (name_some most n (drop (at + 1) s) (omega (arith, length-drop (at + 1) s))) (go (leb (suc n) most))
  where
    go : (t : Bool) → saying s (cond t (Fits (said.Text (record { at = at + 1; len = suc n }))) Misfit)
        ≡ cond t (Fits (Text (take (suc n) (drop (at + 1) s)))) Misfit
    go true = refl
    go false = refl

-- a name's bytes stand behind its count
name_behind : (n : ℕ) (s : List ℕ) → drop 1 (take (1 + n) s) ≡ take n (drop 1 s)
name_behind n s = rw one (go s)
  where
    one : 1 + n ≡ suc n
    one = omega arith

    go : (s : List ℕ) → drop 1 (take (suc n) s) ≡ take n (drop 1 s)
    go [] = sym (take-nil n)
    go (b ∷ s) = refl

module _ (ends : Order) (s : List ℕ) (at most : ℕ) (flag : Flag) where
  value_at_lem : (form : Form) → at + size form (drop at s) ≤ length s
      → saying s (value_at ends form most flag s at)
      ≡ value_said ends form most flag (take (size form (drop at s)) (drop at s))
  unfolding value_at value_said size
  value_at_lem U1 h = number_at_lem s U1 most flag (number_in ends U1 s at)
  value_at_lem U2 h = number_at_lem s U2 most flag (number_in ends U2 s at)
  value_at_lem U4 h = number_at_lem s U4 most flag (number_in ends U4 s at)
  value_at_lem Time h = number_at_lem s Time most flag (number_in ends Time s at)
  value_at_lem C1 h =
      let is = one_taken (drop at s) (omega (arith, length-drop at s)) in
      letter_at_lem s at (get_or (drop at s) 0 0) is ∙ sym (rw is)
  value_at_lem Cn h =
      let n = get_or (drop at s) 0 0 in
      name_at_lem s most at n (omega arith) ∙ sym (rw (name_behind n (drop at s), drop-drop 1 at s))

-- the field at a place says what the definition says
field_at_lem : (ends : Order) (s : List ℕ) (at : ℕ) (c : Column) → at ≤ length s
    → saying s (field_at ends c s at) ≡ field_said ends c (drop at s)
field_at_lem ends s at c h = go (leb (at + size c.form (drop at s)) (length s)) refl
  where
    go : (t : Bool) → leb (at + size c.form (drop at s)) (length s) ≡ t
        → saying s (field_at ends c s at) ≡ field_said ends c (drop at s)
    go true f =
        let fits = leb-true (at + size c.form (drop at s)) (length s) f in
        let here = le-leb (size c.form (drop at s)) (length (drop at s)) (omega (arith, length-drop at s)) in
        rw (f, here) (value_at_lem ends s at c.most c.flag c.form fits)
    go false f =
        let long = leb-false (at + size c.form (drop at s)) (length s) f in
        let here = lt-leb (size c.form (drop at s)) (length (drop at s)) (omega (arith, length-drop at s)) in
        rw (f, here)

-- ---- each reader, at a place

value_number : (ends : Order) (form : Form) (most : ℕ) (flag : Flag) (s : List ℕ) (at : ℕ) → is_number form ≡ true
    → value_at ends form most flag s at ≡ number_at form most flag (number_in ends form s at)
unfolding value_at
value_number ends U1 most flag s at e = refl
value_number ends U2 most flag s at e = refl
value_number ends U4 most flag s at e = refl
value_number ends Time most flag s at e = refl
value_number ends C1 most flag s at e = false_true e
value_number ends Cn most flag s at e = false_true e

module _ (ends : Order) (c : Column) (s : List ℕ) (at : ℕ) (number : is_number c.form ≡ true) where
  pub number_short : length s < at + width c.form → field_at ends c s at ≡ Misfit
  number_short h =
      rw (size_number c.form (drop at s) number, lt-leb (at + width c.form) (length s) h)

  module _ (fits : at + width c.form ≤ length s) where
    number_here : field_at ends c s at ≡ number_at c.form c.most c.flag (number_in ends c.form s at)
    number_here =
        rw (size_number c.form (drop at s) number, le-leb (at + width c.form) (length s) fits)
        (value_number ends c.form c.most c.flag s at number)

    module _ (n : ℕ) (is : n ≡ number_in ends c.form s at) where
      pub number_missing : is_flag c.form c.flag n ≡ true → field_at ends c s at ≡ Fits said.Missing
      number_missing f = number_here ∙ rw (← is, f)

      module _ (f : is_flag c.form c.flag n ≡ false) where
        pub number_value : n ≤ c.most → field_at ends c s at ≡ Fits (said.Number n)
        number_value h = number_here ∙ rw (← is, f, le-leb n c.most h)

        pub number_large : c.most < n → field_at ends c s at ≡ Misfit
        number_large h = number_here ∙ rw (← is, f, lt-leb n c.most h)

module _ (s : List ℕ) (at b : ℕ) (is : b ≡ get_or s at 0) where
  first : get_or (drop at s) 0 0 ≡ b
  first = get_or-drop at s 0 0 ∙ rw (add-zero at) (sym is)

  module _ (here : at < length s) (ends : Order) (c : Column) (letter : c.form ≡ C1) where
    pub letter_size : at + 1 ≡ at + size c.form (drop at s)
    unfolding size
    letter_size = rw letter

    letter_here : field_at ends c s at ≡ letter_at b at
    unfolding size value_at
    letter_here = rw (letter, le-leb (at + 1) (length s) (omega arith), first)

    pub letter_missing : b ≡ code " " → field_at ends c s at ≡ Fits said.Missing
    letter_missing e = letter_here ∙ rw e

    pub letter_text : (b ≡ code "F") ⊎ (b ≡ code "P") → field_at ends c s at ≡ Fits (said.Text (record { at = at; len = 1 }))
    letter_text (inl e) = letter_here ∙ rw e
    letter_text (inr e) = letter_here ∙ rw e

    pub letter_other : (b ≡ code " " → ⊥) → (b ≡ code "P" → ⊥) → (b ≡ code "F" → ⊥) → field_at ends c s at ≡ Misfit
    letter_other none pass fail =
        letter_here ∙ rw (ne_eqb b (code " ") none, ne_eqb b (code "P") pass, ne_eqb b (code "F") fail)

  module _ (most : ℕ) (ends : Order) (c : Column) (name : c.form ≡ Cn) (kept : c.most ≡ most) where
    some : (n : ℕ) → 1 ≤ n
        → name_at most n at ≡ cond (leb n most) (Fits (said.Text (record { at = at + 1; len = n }))) Misfit
    some zero h = absurd (omega arith)
    some (suc n) h = refl

    pub name_size : size c.form (drop at s) ≡ 1 + b
    unfolding size
    name_size = rw name (ap (λ (m : ℕ). 1 + m) first)

    pub name_short : at < length s → length s - at ≤ b → field_at ends c s at ≡ Misfit
    name_short h g = rw (name_size, lt-leb (at + (1 + b)) (length s) (omega arith))

    module _ (fits : b < length s - at) where
      name_here : field_at ends c s at ≡ name_at most b at
      unfolding value_at
      name_here = rw (name_size, le-leb (at + (1 + b)) (length s) (omega arith), name, kept, first)

      pub name_none : b ≡ 0 → field_at ends c s at ≡ Fits said.Missing
      name_none e = name_here ∙ rw e

      pub name_long : most < b → field_at ends c s at ≡ Misfit
      name_long h = name_here ∙ some b (omega arith) ∙ rw (lt-leb b most h)

      pub name_there : 1 ≤ b → b ≤ most
          → field_at ends c s at ≡ Fits (said.Text (record { at = at + 1; len = b }))
      name_there h g = name_here ∙ some b h ∙ rw (le-leb b most g)

pub letter_form : (form : Form) → is_number form ≡ false → is_name form ≡ false → form ≡ C1
letter_form U1 e f = false_true (sym e)
letter_form U2 e f = false_true (sym e)
letter_form U4 e f = false_true (sym e)
letter_form Time e f = false_true (sym e)
letter_form C1 e f = refl
letter_form Cn e f = false_true (sym f)

pub name_form : (form : Form) → is_name form ≡ true → form ≡ Cn
name_form U1 f = false_true f
name_form U2 f = false_true f
name_form U4 f = false_true f
name_form Time f = false_true f
name_form C1 f = false_true f
name_form Cn f = refl

-- bytes from a place on, as the readers of numbers have them
front_suc : (w k b : ℕ) (s : List ℕ) → front w (suc k) (b ∷ s) ≡ front w k s
front_suc zero k b s = refl
front_suc (suc w) k b s = ap (λ (l : List ℕ). get_or s k 0 ∷ l) (front_suc w (suc k) b s)

front_take : (w : ℕ) (s : List ℕ) → w ≤ length s → front w 0 s ≡ take w s
front_take zero s h = refl
front_take (suc w) [] h = absurd (omega arith)
front_take (suc w) (b ∷ s) h =
    ap (λ (l : List ℕ). b ∷ l) (front_suc w 0 b s ∙ front_take w s (omega arith))

pub front_at : (ends : Order) (w at : ℕ) (s : List ℕ) → at + w ≤ length s
    → number ends (front w 0 (take (length s - at) (drop at s))) ≡ number ends (take w (drop at s))
front_at ends w at s h =
    let all : take (length s - at) (drop at s) ≡ drop at s =
    take_all (length s - at) (drop at s) (omega (arith, length-drop at s)) in
    rw all (ap (number ends) (front_take w (drop at s) (omega (arith, length-drop at s))))

-- one byte is worth itself in either order
one_byte : (ends : Order) (b : ℕ) → number ends (b ∷ []) ≡ b
one_byte HighFirst b = omega arith
one_byte LowFirst b = omega arith

pub byte_at : (ends : Order) (at : ℕ) (s : List ℕ) → at + 1 ≤ length s
    → get_or s at 0 ≡ number ends (take 1 (drop at s))
byte_at ends at s h =
    let is = one_taken (drop at s) (omega (arith, length-drop at s)) in
    rw is (sym (one_byte ends (get_or (drop at s) 0 0) ∙ get_or-drop at s 0 0 ∙ rw (add-zero at)))

-- ---- the bytes that a field names are there, and no more than a count byte tells

within_number : (s : List ℕ) (form : Form) (most : ℕ) (flag : Flag) (n : ℕ) (f : Said)
    → number_at form most flag n ≡ Fits f → Within s f
within_number s form most flag n f says = go (is_flag form flag n) refl (leb n most) refl
  where
    go : (t : Bool) → is_flag form flag n ≡ t → (u : Bool) → leb n most ≡ u → Within s f
    go true i u j =
        let fit : Fits said.Missing ≡ Fits f = rw i at says in
        let same : said.Missing ≡ f = cc in
        rw (← same) tt
    go false i true j =
        let fit : Fits (said.Number n) ≡ Fits f = rw (i, j) at says in
        let same : said.Number n ≡ f = cc in
        rw (← same) tt
    go false i false j = fits_none f (rw (i, j) at says)

within_letter : (s : List ℕ) (b at : ℕ) (f : Said) → at + 1 ≤ length s → letter_at b at ≡ Fits f → Within s f
within_letter s b at f h says = go (eqb b (code " ")) refl (is_letter b) refl
  where
    go : (t : Bool) → eqb b (code " ") ≡ t → (u : Bool) → is_letter b ≡ u → Within s f
    go true i u j =
        let fit : Fits said.Missing ≡ Fits f = rw i at says in
        let same : said.Missing ≡ f = cc in
        rw (← same) tt
    go false i true j =
        let fit : Fits (said.Text (record { at = at; len = 1 })) ≡ Fits f = rw (i, j) at says in
        let same : said.Text (record { at = at; len = 1 }) ≡ f = cc in
        rw (← same) (h, omega arith)
    go false i false j = fits_none f (rw (i, j) at says)

within_name : (s : List ℕ) (most n at : ℕ) (f : Said) → most ≤ 255 → at + (1 + n) ≤ length s
    → name_at most n at ≡ Fits f → Within s f
within_name s most zero at f short h says =
    let same : said.Missing ≡ f = cc in
    rw (← same) tt
within_name s most (suc n) at f short h says = go (leb (suc n) most) refl
  where
    go : (t : Bool) → leb (suc n) most ≡ t → Within s f
    go true i =
        let fit : Fits (said.Text (record { at = at + 1; len = suc n })) ≡ Fits f = rw i at says in
        let same : said.Text (record { at = at + 1; len = suc n }) ≡ f = cc in
        let room = leb-true (suc n) most i in
        rw (← same) (omega arith, omega arith)
    go false i = fits_none f (rw i at says)

within_at : (ends : Order) (c : Column) (s : List ℕ) (at : ℕ) (f : Said) → (is_number c.form ≡ false → c.most ≤ 255)
    → field_at ends c s at ≡ Fits f → Within s f
unfolding value_at size
within_at ends c s at f short says = go (leb (at + size c.form (drop at s)) (length s)) refl
  where
    value : (form : Form) → (is_number form ≡ false → c.most ≤ 255) → at + size form (drop at s) ≤ length s
        → value_at ends form c.most c.flag s at ≡ Fits f → Within s f
    value U1 short h is = within_number s U1 c.most c.flag (number_in ends U1 s at) f is
    value U2 short h is = within_number s U2 c.most c.flag (number_in ends U2 s at) f is
    value U4 short h is = within_number s U4 c.most c.flag (number_in ends U4 s at) f is
    value Time short h is = within_number s Time c.most c.flag (number_in ends Time s at) f is
    value C1 short h is = within_letter s (get_or (drop at s) 0 0) at f h is
    value Cn short h is = within_name s c.most (get_or (drop at s) 0 0) at f (short refl) h is

    go : (t : Bool) → leb (at + size c.form (drop at s)) (length s) ≡ t → Within s f
    go true i = value c.form short (leb-true (at + size c.form (drop at s)) (length s) i) (rw i at says)
    go false i = fits_none f (rw i at says)

pub within_hidden : (s : List ℕ) (c : Column) (gone : Bool) (f : Said) → Within s f → Within s (hidden_said c gone f)
within_hidden s c gone f w = go (is_beside c.flag && gone)
  where
    go : (t : Bool) → Within s (cond t said.Missing f)
    go true = tt
    go false = w

-- ---- one step of the walk

module _ (k : ℕ) (ends : Order) (c : Column) (s : List ℕ) (at : ℕ) where
  module _ (here : at < length s) where
    goes : (cs : List Column) → walked k ends (c ∷ cs) (drop at s)
        ≡ put (saying s (field_at ends c s at)) (walked (k - 1) ends cs (drop (at + size c.form (drop at s)) s))
    goes cs =
        walked_on ends c cs k (drop at s) (omega (arith, length-drop at s))
        ∙ rw (field_at_lem ends s at c (omega arith), drop-drop (size c.form (drop at s)) at s)

    pub goes_field : (r : Option (Said × ℕ)) → Stepped ends c s at r → Going ends c s k at r
    goes_field None f = λ cs. goes cs ∙ rw f
    goes_field (Some (f, next)) g =
        let inside = lt-ltb at (length s) here in (
          (λ cs. goes cs ∙ rw (g.0, ← g.1)),
          g.2,
          (λ short. within_at ends c s at f short g.0),
          rw (inside, g.0),
          rw inside g.1,
        )

  -- the body stops
  module _ (end : length s ≤ at) where
    pub goes_short : 1 ≤ k → (cs : List Column) → walked k ends (c ∷ cs) (drop at s) ≡ Misfit
    unfolding walked
    goes_short some cs =
        let more : k ≡ suc (k - 1) = omega arith in
        rw (drop_of_length-le s {i = at} end, more)

    pub goes_missing : k ≡ 0 → (cs : List Column)
        → walked k ends (c ∷ cs) (drop at s) ≡ put (Fits Missing) (walked (k - 1) ends cs (drop at s))
    unfolding walked
    goes_missing e cs = rw (e, drop_of_length-le s {i = at} end)

-- ---- the loop, at column j and place `at`, behind the entries that are read already

hiding_put : (last : Entry) (c : Column) (cs : List Column) (e : Entry) (r : Fit (List Entry))
    → hiding last (c ∷ cs) (put (Fits e) r) ≡ put (Fits (hidden_one c last e)) (hiding (hidden_one c last e) cs r)
unfolding hidden
hiding_put last c cs e Misfit = refl
hiding_put last c cs e (Fits es) = refl

module _ (k : ℕ) (ends : Order) (cs : List Column) (s : List ℕ) where
  -- its invariant
  abbrev pub Rest : List Entry → Entry → ℕ → ℕ → Type 0
  Rest read last at j =
      meant_by k ends cs s ≡ behind read (hiding last (drop j cs) (walked (k - j) ends (drop j cs) (drop at s)))

  pub rest_first : Rest [] Missing 0 0
  unfolding meant_by
  rest_first =
      let all : k - 0 ≡ k = omega arith in
      rw all

  module _ (read : List Entry) (last : Entry) (at j : ℕ) (rest : Rest read last at j) where
    module _ (more : j < length cs) where
      pub rest_misfit : Going ends (get_or cs j no_column) s (k - j) at None → meant_by k ends cs s ≡ Misfit
      rest_misfit g = rest ∙ rw (drop-cons cs j no_column more, g (drop (suc j) cs), behind_misfit read)

      pub rest_on : (f : Said) (next : ℕ) → Going ends (get_or cs j no_column) s (k - j) at (Some (f, next))
          → Rest (read ++ hidden_one (get_or cs j no_column) last (entry_of s f) ∷ [])
          (hidden_one (get_or cs j no_column) last (entry_of s f)) next (j + 1)
      rest_on f next g =
          let less : k - j - 1 ≡ k - suc j = omega arith in
          let c = get_or cs j no_column in
          let left = walked (k - suc j) ends (drop (suc j) cs) (drop next s) in
          rest
          ∙ rw (
            drop-cons cs j no_column more,
            g.0 (drop (suc j) cs),
            less,
            hiding_put last c (drop (suc j) cs) (entry_of s f) left,
            add-one j,
            behind_more,
          )

    module _ (over : length cs ≤ j) where
      pub rest_done : length s ≤ at → meant_by k ends cs s ≡ Fits read
      unfolding walked hidden
      rest_done end =
          rest
          ∙ rw (drop_of_length-le cs {i = j} over, drop_of_length-le s {i = at} end, behind_fits read [], append-nil)

      pub rest_over : at < length s → meant_by k ends cs s ≡ Misfit
      unfolding walked
      rest_over here =
          rest ∙ rw (drop_of_length-le cs {i = j} over, drop-cons s at 0 here, behind_misfit read)

-- ---- a site under head 255, as this code holds it

pub none_missing : (s : List ℕ) (f : Said) → is_none (entry_of s f) ≡ is_missing f
none_missing s said.Missing = refl
none_missing s (said.Number n) = refl
none_missing s (said.Text name) = refl

pub hidden_said_lem : (s : List ℕ) (c : Column) (gone : Bool) (last : Entry) (f : Said) → is_none last ≡ gone
    → entry_of s (hidden_said c gone f) ≡ hidden_one c last (entry_of s f)
hidden_said_lem s c gone last f e = rw e (go (is_beside c.flag && gone))
  where
    go : (t : Bool) → entry_of s (cond t said.Missing f) ≡ cond t Missing (entry_of s f)
    go true = refl
    go false = refl

-- ---- the fields that it has filled

module _ (k : ℕ) (ends : Order) (cs : List Column) (s : List ℕ) where
  pub record Filled (fields : List Said) (at : ℕ) (gone : Bool) (j : ℕ) : Type 0 where
    pub last : Entry
    pub is_gone : is_none last ≡ gone
    pub rest : Rest k ends cs s (map (says s) (take j fields)) last at j

  pub filled_first : (fields : List Said) → Filled fields 0 true 0
  filled_first fields = record { last = Missing; is_gone = refl; rest = rest_first k ends cs s }

  module _ (fields : List Said) (at : ℕ) (gone : Bool) (j : ℕ) (filled : Filled fields at gone j) where
    abbrev read : List Entry
    read = map (says s) (take j fields)

    module _ (more : j < length cs) where
      pub filled_misfit : Going ends (get_or cs j no_column) s (k - j) at None → meant_by k ends cs s ≡ Misfit
      filled_misfit g = rest_misfit k ends cs s read filled.last at j filled.rest more g

      pub filled_on : (f : Said) (next : ℕ) → j < length fields
          → Going ends (get_or cs j no_column) s (k - j) at (Some (f, next))
          → Filled (set fields j (hidden_said (get_or cs j no_column) gone f)) next
          (is_missing (hidden_said (get_or cs j no_column) gone f)) (j + 1)
      filled_on f next room g =
          let c = get_or cs j no_column in
          let field : Said = hidden_said c gone f in
          let is = hidden_said_lem s c gone filled.last f filled.is_gone in
          let on = rest_on k ends cs s read filled.last at j filled.rest more f next g in
          record {
            last = hidden_one c filled.last (entry_of s f);
            is_gone = rw (← is) (none_missing s (hidden_said c gone f));
            rest = rw (says_more s fields j field room, is) on;
          }

    module _ (over : length cs ≤ j) where
      pub filled_done : length s ≤ at → meant_by k ends cs s ≡ Fits read
      filled_done end = rest_done k ends cs s read filled.last at j filled.rest over end

      pub filled_over : at < length s → meant_by k ends cs s ≡ Misfit
      filled_over here = rest_over k ends cs s read filled.last at j filled.rest over here
