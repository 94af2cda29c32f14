-- Where pieces stand is where their bytes are, so a line filled by places says what its pieces say.
-- Assumes nothing.
use mathlib.Core.Path.{◌≡◌, refl, ap, sym, ◌∙◌}
use mathlib.Core.Bool.{true}
use mathlib.Core.List.{List, [], ◌∷◌, map}
use Prim.Native.Nat.{ℕ, zero, suc, ◌+◌, ◌≤◌, ◌<◌}
use native.Mathlib.Omega.{arith}
use lib.ListN.{length, get_or, take, drop, length-append, length-drop, get_or-map}
use lib.Seq.{take_at, take-length, drop-drop, drop-append-add}
use Rattle.prelude.specs.Each.{each}
use Rattle.prelude.proofs.Both.{both_left, both_right}
use Rattle.values.specs.declared.Name.{Name}
use Rattle.line_layouts.specs.declared.Tag.{Tag}
use Rattle.line_layouts.specs.declared.Said.{Said}
use Rattle.line_layouts.specs.declared.Column.{Column}
use Rattle.line_layouts.specs.Columns.{columns, no_column, most_columns, back}
use Rattle.line_layouts.specs.Entries.{Entry, named, meaning_of, no_field, no_fields, padded, AllWithin}
use Rattle.line_layouts.proofs.Arranging.{length_arranged, arranged_in, arranged_at, arranged_same, map_arranged}
use Rattle.line_layouts.proofs.Tables.{turned}
use Rattle.line_layouts.proofs.Laid.{most_columns_lem, back_inside}
use Rattle.std.proofs.lemmas.List.{take-map}
use Rattle.line_layouts.proofs.Fills.{padded_at, length_padded, stored_all, says, Withins}
use Rattle.line_texts.specs.Pieces.{split, gathered, entry_in, entries_in}
use Rattle.line_texts.specs.Places.{no_place, places_from, places_of, places_in, said_in, fields_in, line_in}
use Rattle.line_texts.specs.Places.{short, CutInto}
use Rattle.line_texts.proofs.Joins.{joined, lined, split_lined}
use Rattle.line_texts.proofs.Fits.{said_holds, short_columns}

-- ---- a piece's bytes are at its place

module _ (s : List ℕ) where
  abbrev pub Inside : Name → Type 0
  Inside n = n.at + n.len ≤ length s

  stands : (sep : ℕ) (ps : List (List ℕ)) (at : ℕ) → drop at s ≡ lined sep ps → at ≤ length s → (i : ℕ)
      → Inside (get_or (places_from at ps) i no_place) × (named s (get_or (places_from at ps) i no_place)
      ≡ get_or ps i [])
  unfolding places_from joined
  stands sep [] at e h i = (omega arith, refl)
  stands sep (p ∷ []) at e h zero = (omega (arith, length-drop at s, ap length e), rw e (take-length p))
  stands sep (p ∷ []) at e h (suc i) = (omega arith, refl)
  stands sep (p ∷ q ∷ qs) at e h zero = (
    omega (arith, length-drop at s, ap length e, length-append p (sep ∷ joined sep q qs)),
    rw e (take_at p (sep ∷ joined sep q qs) (length p) refl),
  )
  stands sep (p ∷ q ∷ qs) at e h (suc i) =
      let behind : at + length p + 1 ≡ at + (length p + 1) = omega arith in
      stands sep (q ∷ qs) (at + length p + 1)
      (rw behind
      (sym (drop-drop (length p + 1) at s)
      ∙ ap (λ (l : List ℕ). drop (length p + 1) l) e
      ∙ drop-append-add p (sep ∷ joined sep q qs) 1))
      (omega (arith, length-drop at s, ap length e, length-append p (sep ∷ joined sep q qs))) i

  module _ (sep : ℕ) (long : 4 ≤ length s) where
    pub place_stands : (i : ℕ) → Inside (get_or (places_of sep s) i no_place)
        × (named s (get_or (places_of sep s) i no_place) ≡ get_or (split sep (drop 4 s)) i [])
    place_stands i = stands sep (split sep (drop 4 s)) 4 (sym (split_lined sep (drop 4 s))) long i

    -- in the order of the columns
    placed_in : (tag : Tag) (i : ℕ) → Inside (get_or (places_in sep s tag) i no_place)
    placed_in tag i =
        rw (arranged_at Name no_place (back tag) (places_of sep s) i)
        (place_stands (get_or (back tag) i (length (places_of sep s)))).0

    named_in : (tag : Tag) → map (named s) (places_in sep s tag) ≡ gathered tag (split sep (drop 4 s))
    named_in tag =
        map_arranged Name (List ℕ) (named s) no_place (back tag) (places_of sep s)
        ∙ arranged_same (List ℕ) [] (back tag) (map (named s) (places_of sep s)) (split sep (drop 4 s))
        (λ (i : ℕ). get_or-map (named s) (places_of sep s) i no_place ∙ (place_stands i).1)

-- ---- the piece that column j takes, where this code looks for it

pub length_gathered : (tag : Tag) (ps : List (List ℕ)) → length (gathered tag ps) ≡ length (columns tag)
length_gathered tag ps = length_arranged (List ℕ) [] (back tag) ps ∙ (turned tag).back_all

pub length_places_in : (sep : ℕ) (s : List ℕ) (tag : Tag) → length (places_in sep s tag) ≡ length (columns tag)
length_places_in sep s tag = length_arranged Name no_place (back tag) (places_of sep s) ∙ (turned tag).back_all

module _ (sep : ℕ) (s : List ℕ) (tag : Tag) (places : List Name) (cuts : CutInto sep s tag places) (j : ℕ)
    (h : j < length (columns tag)) where
  abbrev place : Name
  place = get_or places (get_or (back tag) j 0) no_place

  found : place ≡ get_or (places_of sep s) (get_or (back tag) j 0) no_place
  found = cuts.is (get_or (back tag) j 0) (back_inside tag j h)

  pub piece_inside : Inside s place
  piece_inside = rw found (place_stands s sep cuts.long (get_or (back tag) j 0)).0

  pub piece_is : named s place ≡ get_or (gathered tag (split sep (drop 4 s))) j []
  piece_is =
      ap (named s) found
      ∙ (place_stands s sep cuts.long (get_or (back tag) j 0)).1
      ∙ sym (arranged_in (List ℕ) [] (back tag) (split sep (drop 4 s)) j (omega (arith, (turned tag).back_all)))

  pub piece_at : place ≡ get_or (places_in sep s tag) j no_place
  piece_at =
      found ∙ sym (arranged_in Name no_place (back tag) (places_of sep s) j (omega (arith, (turned tag).back_all)))

-- ---- fields

module _ (s : List ℕ) where
  pub length_fields : (cs : List Column) (ns : List Name) → length ns ≡ length cs
      → length (fields_in s cs ns) ≡ length cs
  unfolding fields_in
  length_fields [] ns e = refl
  length_fields (c ∷ cs) [] e = absurd (omega arith)
  length_fields (c ∷ cs) (n ∷ ns) e = ap suc (length_fields cs ns (omega arith))

  pub field_at_lem : (cs : List Column) (ns : List Name) (j : ℕ) → length ns ≡ length cs → j < length cs
      → get_or (fields_in s cs ns) j no_field
      ≡ said_in (get_or cs j no_column) (get_or ns j no_place).at (named s (get_or ns j no_place))
  unfolding fields_in
  field_at_lem [] ns j e h = absurd (omega arith)
  field_at_lem (c ∷ cs) [] j e h = absurd (omega arith)
  field_at_lem (c ∷ cs) (n ∷ ns) zero e h = refl
  field_at_lem (c ∷ cs) (n ∷ ns) (suc j) e h = field_at_lem cs ns j (omega arith) (omega arith)

  fields_say : (cs : List Column) (ns : List Name) → each short cs ≡ true
      → ((i : ℕ) → Inside s (get_or ns i no_place))
      → map (says s) (fields_in s cs ns) ≡ entries_in cs (map (named s) ns)
  unfolding fields_in entries_in
  fields_say [] ns few all = refl
  fields_say (c ∷ cs) [] few all = refl
  fields_say (c ∷ cs) (n ∷ ns) few all =
      ap (λ (e : Entry). e ∷ map (says s) (fields_in s cs ns))
      (said_holds s c n (all 0) (both_left (short c) (each short cs) few)).says
      ∙ ap (λ (l : List Entry). entry_in c (named s n) ∷ l)
      (fields_say cs ns (both_right (short c) (each short cs) few) (λ (i : ℕ). all (suc i)))

  fields_within : (cs : List Column) (ns : List Name) → each short cs ≡ true
      → ((i : ℕ) → Inside s (get_or ns i no_place)) → Withins s (fields_in s cs ns)
  unfolding fields_in
  fields_within [] ns few all i = tt
  fields_within (c ∷ cs) [] few all i = tt
  fields_within (c ∷ cs) (n ∷ ns) few all zero =
      (said_holds s c n (all 0) (both_left (short c) (each short cs) few)).there
  fields_within (c ∷ cs) (n ∷ ns) few all (suc i) =
      fields_within cs ns (both_right (short c) (each short cs) few) (λ (k : ℕ). all (suc k)) i

-- ---- the line

module _ (sep : ℕ) (s : List ℕ) (tag : Tag) where
  abbrev pub fields : List Said
  fields = fields_in s (columns tag) (places_in sep s tag)

  pub length_all : length fields ≡ length (columns tag)
  length_all = length_fields s (columns tag) (places_in sep s tag) (length_places_in sep s tag)

  -- fields filled one by one, each where its column is, are those of the line
  pub filled_all : (fs : List Said) (j : ℕ) → length (columns tag) ≤ j → length fs ≡ most_columns
      → ((i : ℕ) → get_or fs i no_field ≡ get_or (take j fields) i no_field)
      → record { tag = tag; fields = fs } ≡ line_in sep s tag
  unfolding line_in
  filled_all fs j h full all =
      ap (λ (l : List Said). record { tag = tag; fields = l })
      (stored_all fields fs j (omega (arith, length_all)) (omega (arith, length_all, most_columns_lem tag)) full all)

  module _ (long : 4 ≤ length s) where
    pub line_means : meaning_of s (line_in sep s tag)
        ≡ record { tag = tag; entries = entries_in (columns tag) (gathered tag (split sep (drop 4 s))) }
    unfolding line_in
    line_means =
        ap (λ (l : List Entry). record { tag = tag; entries = l })
        (take-map (says s) (length (columns tag)) (padded fields)
        ∙ ap (map (says s)) (take_at fields (drop (length fields) no_fields) (length (columns tag)) length_all)
        ∙ fields_say s (columns tag) (places_in sep s tag) (short_columns tag) (placed_in s sep long tag)
        ∙ ap (entries_in (columns tag)) (named_in s sep long tag))

    pub line_within : AllWithin s (line_in sep s tag)
    unfolding line_in
    line_within =
        record {
          full = length_padded fields (omega (arith, length_all, most_columns_lem tag));
          within = λ (i : ℕ). rw (padded_at fields i)
              (fields_within s (columns tag) (places_in sep s tag) (short_columns tag) (placed_in s sep long tag) i);
        }
