-- Where the fields that the walk fills stand: they are the definition's, one after the other.
-- Assumes nothing.
use mathlib.Core.Path.{◌≡◌, refl, ap, sym, ◌∙◌}
use mathlib.Core.Bool.{Bool, true}
use mathlib.Core.List.{List, [], ◌∷◌}
use Prim.Native.Nat.{ℕ, suc, ◌+◌, ◌≤◌, ◌<◌}
use native.Mathlib.Numerals.{add-one}
use native.Mathlib.Omega.{arith}
use lib.ListN.{length, get_or, take, drop, set}
use lib.Seq.{drop-cons, drop-drop, get_or-drop}
use Rattle.numbers.specs.declared.Order.{Order}
use Rattle.line_layouts.specs.declared.Column.{Column}
use Rattle.line_layouts.specs.declared.Said.{Said}
use Rattle.line_layouts.specs.Columns.{no_column, most_columns}
use Rattle.line_layouts.specs.Entries.{no_field, no_fields, padded, is_missing}
use Rattle.line_layouts.proofs.Fills.{alike_at, stored_on, stored_all}
use Rattle.line_records.specs.Places.{step_said, step_next, hidden_said, place_said, fields_from}

pub length_from : (ends : Order) (s : List ℕ) (cs : List Column) (at : ℕ) (gone : Bool)
    → length (fields_from ends cs s at gone) ≡ length cs
unfolding fields_from
length_from ends s [] at gone = refl
length_from ends s (c ∷ cs) at gone =
    ap suc (length_from ends s cs (step_next c s at) (is_missing (place_said ends c s at gone)))

module _ (ends : Order) (cs : List Column) (s : List ℕ) where
  abbrev pub all_fields : List Said
  all_fields = fields_from ends cs s 0 true

  -- the fields filled are the first of all, and those to come the rest
  pub record Placing (fields : List Said) (at : ℕ) (gone : Bool) (j : ℕ) : Type 0 where
    pub first : (i : ℕ) → get_or fields i no_field ≡ get_or (take j all_fields) i no_field
    pub rest : drop j all_fields ≡ fields_from ends (drop j cs) s at gone

  pub placing_first : Placing no_fields 0 true 0
  placing_first = record { first = alike_at Said no_field most_columns; rest = refl }

  module _ (fields : List Said) (at : ℕ) (gone : Bool) (j : ℕ) (placing : Placing fields at gone j) where
    module _ (more : j < length cs) (f : Said) (next : ℕ) (is : f ≡ step_said ends (get_or cs j no_column) s at)
        (goes_on_lem : next ≡ step_next (get_or cs j no_column) s at) where
      abbrev stored : Said
      stored = hidden_said (get_or cs j no_column) gone f

      cut : drop j all_fields ≡ stored ∷ fields_from ends (drop (suc j) cs) s next (is_missing stored)
      unfolding fields_from
      cut = rw (is, goes_on_lem) (placing.rest ∙ rw (drop-cons cs j no_column more))

      pub placing_on : j < length fields → Placing (set fields j stored) next (is_missing stored) (j + 1)
      placing_on room =
          let here : j + 0 ≡ j = omega arith in
          let at_j : get_or all_fields j no_field ≡ stored =
          (rw here at (sym (get_or-drop j all_fields 0 no_field))) ∙ ap (λ (l : List Said). get_or l 0 no_field) cut in
          record {
            first = stored_on Said no_field all_fields j fields stored room at_j placing.first;
            rest =
                sym (drop-drop 1 j all_fields) ∙ ap (λ (l : List Said). drop 1 l) cut
                ∙ ap (λ (n : ℕ). fields_from ends (drop n cs) s next (is_missing stored)) (sym (add-one j));
          }

    pub placing_done : length cs ≤ j → length cs ≤ most_columns → length fields ≡ most_columns
        → fields ≡ padded all_fields
    placing_done over few full =
        let size = length_from ends s cs 0 true in
        stored_all all_fields fields j (omega arith) (omega arith) full placing.first
