-- Laws of words: the first word of a line and the rest, and a walk over a word.
-- Assumes nothing.
use Rattle.std.specs.Prelude.{not, Some, None, position}
use Rattle.std.specs.List.{position_or_len}
use mathlib.Core.Path.{◌≡◌, refl, sym, ap, ◌∙◌}
use mathlib.Core.Bool.{Bool, true, false, cond}
use mathlib.Core.List.{List, [], ◌∷◌}
use Prim.Native.Nat.{ℕ, suc, ◌+◌, ◌-◌, ◌≤◌, ◌<◌}
use native.Mathlib.Omega.{arith}
use borrow.Author.Tests.{ltb-false}
use lib.Dec.{eqb, ltb}
use lib.ListN.{length, take, drop, length-drop}
use lib.Seq.{drop-drop}
use Rattle.prelude.proofs.Parts.{part_from}
use Rattle.script.specs.Words.{space, word_length, word_end, before, words}

-- ---- where a word ends

-- the first space is where the word ends
pub word_position : (line : List ℕ) → word_length line ≡ position_or_len (λ b. eqb b space) line
word_position [] = refl
word_position (b ∷ bs) = go (eqb b space) (word_position bs)
  where
    go : (t : Bool) → word_length bs ≡ position_or_len (λ b. eqb b space) bs
        → cond t 0 (suc (word_length bs)) ≡ cond (not t) (1 + position_or_len (λ b. eqb b space) bs) 0
    go true e = refl
    go false e = omega (arith, e)

pub word_within : (line : List ℕ) → word_length line ≤ length line
word_within [] = omega arith
word_within (b ∷ bs) = go (eqb b space) (word_within bs)
  where
    go : (t : Bool) → word_length bs ≤ length bs → cond t 0 (suc (word_length bs)) ≤ suc (length bs)
    go true h = omega arith
    go false h = omega (arith, h)

-- .. or the line ends
module _ (line : List ℕ) (from : ℕ) (h : from ≤ length line) where
  abbrev rest : List ℕ
  rest = drop from line

  abbrev at : ℕ
  at = position_or_len (λ b. eqb b space) rest

  pub first_space : (n : ℕ) → Some n ≡ position (λ b. eqb b space) (take (length line - from) rest)
      → (from + n ≡ word_end line from) × (from + n ≤ length line)
  unfolding word_end
  first_space n e = go (ltb at (length rest)) refl (rw (part_from line from) at e)
    where
      go : (t : Bool) → ltb at (length rest) ≡ t → Some n ≡ cond t (Some at) None
          → (from + n ≡ from + word_length rest) × (from + n ≤ length line)
      go true l e =
          let is : n ≡ at = cc in
          (omega (arith, is, word_position rest), omega (arith, is, word_position rest, word_within rest, length-drop from line))
      go false l e = let never : ◌≡◌ {A = ℕ} 0 1 = cc in absurd (omega arith)

  pub no_space : None ≡ position (λ b. eqb b space) (take (length line - from) rest) → length line ≡ word_end line from
  unfolding word_end
  no_space e = go (ltb at (length rest)) refl (rw (part_from line from) at e)
    where
      go : (t : Bool) → ltb at (length rest) ≡ t → None ≡ cond t (Some at) None → length line ≡ from + word_length rest
      go true l e = let never : ◌≡◌ {A = ℕ} 0 1 = cc in absurd (omega arith)
      go false l e =
          omega (arith, ltb-false at (length rest) l, word_position rest, word_within rest, length-drop from line)

-- ---- the first word, and the rest

-- a line whose first word ends where it ends is one word
pub words_last : (line : List ℕ) → word_length line ≡ length line → words line ≡ line ∷ []
words_last [] e = refl
words_last (b ∷ bs) e = go (eqb b space) refl (λ r. words_last bs r)
  where
    go : (t : Bool) → eqb b space ≡ t → (word_length bs ≡ length bs → words bs ≡ bs ∷ [])
        → words (b ∷ bs) ≡ (b ∷ bs) ∷ []
    go true s rest = let never : 0 ≡ suc (length bs) = rw s at e in absurd (omega (arith, never))
    go false s rest =
        let fewer : suc (word_length bs) ≡ suc (length bs) = rw s at e in
        rw (s, rest (omega (arith, fewer)))

-- else what stands behind the space is words in turn
pub words_more : (line : List ℕ) → word_length line < length line
    → words line ≡ take (word_length line) line ∷ words (drop (suc (word_length line)) line)
words_more [] h = absurd (omega (arith, h))
words_more (b ∷ bs) h = go (eqb b space) refl (λ r. words_more bs r)
  where
    go : (t : Bool) → eqb b space ≡ t
        → (word_length bs < length bs → words bs ≡ take (word_length bs) bs ∷ words (drop (suc (word_length bs)) bs))
        → words (b ∷ bs) ≡ take (word_length (b ∷ bs)) (b ∷ bs) ∷ words (drop (suc (word_length (b ∷ bs))) (b ∷ bs))
    go true s rest = rw s
    go false s rest =
        let fewer : suc (word_length bs) < suc (length bs) = rw s at h in
        rw (s, rest (omega (arith, fewer)))

-- there is always a first word
pub words_some : (P : List (List ℕ) → Type 0) → ((w : List ℕ) (ws : List (List ℕ)) → P (w ∷ ws))
    → (line : List ℕ) → P (words line)
words_some P first [] = first [] []
words_some P first (b ∷ bs) = go (eqb b space) (words bs)
  where
    go : (t : Bool) (ws : List (List ℕ)) → P (before t b ws)
    go true ws = first [] ws
    go false [] = first (b ∷ []) []
    go false (w ∷ ws) = first (b ∷ w) ws

-- ---- a line cut where a word ends, as parts of a slice have it

module _ (line : List ℕ) (from e : ℕ) (h : from ≤ length line) (is : e ≡ word_end line from) where
  word_is : e ≡ from + word_length (drop from line)
  unfolding word_end
  word_is = is

  pub cut_last : length line ≤ e → words (drop from line) ≡ take (length line - from) (drop from line) ∷ []
  cut_last g =
      let whole : word_length (drop from line) ≡ length (drop from line) =
      omega (arith, word_is, length-drop from line, word_within (drop from line)) in
      words_last (drop from line) whole ∙ ap (λ (w : List ℕ). w ∷ []) (sym (part_from line from))

  pub cut_more : e < length line
      → words (drop from line) ≡ take (e - from) (drop from line) ∷ words (drop (e + 1) line)
  cut_more g =
      let rest : word_length (drop from line) < length (drop from line) =
      omega (arith, word_is, length-drop from line) in
      let long : word_length (drop from line) ≡ e - from = omega (arith, word_is) in
      let next : from + suc (e - from) ≡ e + 1 = omega (arith, word_is) in
      words_more (drop from line) rest
      ∙ rw (long, drop-drop (suc (e - from)) from line, next)
