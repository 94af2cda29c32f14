-- What a line can give fits its columns, and what fits them can be given where nothing that text must give is missing
-- and all of it can be written.
-- Assumes nothing.
use mathlib.Core.Path.{◌≡◌, refl}
use mathlib.Core.Bool.{true, ◌&&◌}
use mathlib.Core.List.{List, [], ◌∷◌}
use Prim.Native.Nat.{ℕ}
use Rattle.prelude.specs.Each.{each}
use Rattle.prelude.proofs.Never.{false_true}
use Rattle.prelude.proofs.Both.{both_left, both_right}
use Rattle.line_layouts.specs.declared.Column.{Column}
use Rattle.line_layouts.specs.Names.{entry_allowed}
use Rattle.line_layouts.specs.Entries.{Entry}
use Rattle.line_layouts.specs.Fitting.{entry_fits, entries_fit, given, all_given}
use Rattle.line_texts.specs.Laws.{tells, all_tell}

module _ (sep : ℕ) where
  pub tell_fits : (cs : List Column) (es : List Entry) → all_tell sep cs es ≡ true → entries_fit cs es ≡ true
  tell_fits [] [] t = refl
  tell_fits [] (e ∷ es) t = false_true t
  tell_fits (c ∷ cs) [] t = false_true t
  tell_fits (c ∷ cs) (e ∷ es) t =
      let one = both_left (tells sep c e) (all_tell sep cs es) t in
      rw (
        both_left (entry_fits c e) (given c e && entry_allowed sep e) one,
        tell_fits cs es (both_right (tells sep c e) (all_tell sep cs es) t),
      )

  pub tell_given : (cs : List Column) (es : List Entry) → all_tell sep cs es ≡ true → all_given cs es ≡ true
  tell_given [] [] t = refl
  tell_given [] (e ∷ es) t = refl
  tell_given (c ∷ cs) [] t = refl
  tell_given (c ∷ cs) (e ∷ es) t =
      let one = both_left (tells sep c e) (all_tell sep cs es) t in
      rw (
        both_left (given c e) (entry_allowed sep e) (both_right (entry_fits c e)
            (given c e && entry_allowed sep e) one),
        tell_given cs es (both_right (tells sep c e) (all_tell sep cs es) t),
      )

  pub tell_allowed : (cs : List Column) (es : List Entry) → all_tell sep cs es ≡ true
      → each (entry_allowed sep) es ≡ true
  tell_allowed [] [] t = refl
  tell_allowed [] (e ∷ es) t = false_true t
  tell_allowed (c ∷ cs) [] t = refl
  tell_allowed (c ∷ cs) (e ∷ es) t =
      let one = both_left (tells sep c e) (all_tell sep cs es) t in
      rw (
        both_right (given c e) (entry_allowed sep e) (both_right (entry_fits c e)
            (given c e && entry_allowed sep e) one),
        tell_allowed cs es (both_right (tells sep c e) (all_tell sep cs es) t),
      )

  pub fits_tell : (cs : List Column) (es : List Entry) → entries_fit cs es ≡ true → all_given cs es ≡ true
      → each (entry_allowed sep) es ≡ true → all_tell sep cs es ≡ true
  fits_tell [] [] f g a = refl
  fits_tell [] (e ∷ es) f g a = false_true f
  fits_tell (c ∷ cs) [] f g a = false_true f
  fits_tell (c ∷ cs) (e ∷ es) f g a =
      rw (
        both_left (entry_fits c e) (entries_fit cs es) f,
        both_left (given c e) (all_given cs es) g,
        both_left (entry_allowed sep e) (each (entry_allowed sep) es) a,
        fits_tell cs es (both_right (entry_fits c e) (entries_fit cs es) f) (both_right (given c e) (all_given cs es) g)
            (both_right (entry_allowed sep e) (each (entry_allowed sep) es) a),
      )
