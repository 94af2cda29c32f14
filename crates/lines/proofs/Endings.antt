-- The four endings of a line: the content of a line is the line without its ending (specs/Laws.antt, Endings).
-- Assumes nothing.
use mathlib.Core.Path.{◌≡◌, refl, ap, sym, subst, ◌∙◌}
use mathlib.Core.Bool.{false, true≢false}
use mathlib.Core.List.{List, [], ◌∷◌, ◌++◌, append-nil}
use Prim.Native.Nat.{ℕ, ◌+◌, ◌-◌, ◌≤◌}
use native.Mathlib.Omega.{arith}
use lib.ListN.{length, get_or, length-append, get_or-append}
use lib.Seq.{take_at, get_or-append-add}
use Rattle.line_layouts.specs.Columns.{separator, line_feed, carriage_return}
use Rattle.line_texts.specs.Texts.{is_break, from_end, ending, content, content_means}
use Rattle.line_texts.proofs.Whole.{ending_both, ending_feed, ending_return, ending_none}
use Rattle.lines.specs.Laws.{Ending, Nothing, Feed, Return, Both, ending_bytes, Endings}

-- ---- bytes counted from the end

-- .. of the list behind
back_in : (s t : List ℕ) (k : ℕ) → k ≤ length t → from_end k (s ++ t) ≡ get_or t (length t - k) 0
back_in s t k h =
    let place : length (s ++ t) - k ≡ length s + (length t - k) = omega (arith, length-append s t) in
    rw place (get_or-append-add s t (length t - k) 0)

-- .. and the one before a single byte
back_before : (s : List ℕ) (b : ℕ) → 1 ≤ length s → from_end 2 (s ++ b ∷ []) ≡ from_end 1 s
back_before s b some =
    let size : length (s ++ b ∷ []) ≡ length s + 1 = length-append s (b ∷ []) in
    let place : length (s ++ b ∷ []) - 2 ≡ length s - 1 = omega arith in
    rw place (get_or-append s (b ∷ []) 0 (length s - 1) (omega arith))

not_feed : (b : ℕ) → is_break b ≡ false → b ≡ line_feed → ⊥
not_feed b e i = true≢false (rw i at e)

not_return : (b : ℕ) → is_break b ≡ false → b ≡ carriage_return → ⊥
not_return b e i = true≢false (rw i at e)

-- ---- how many bytes an ending has

feed_ends : (s : List ℕ) → 1 ≤ length s → is_break (from_end 1 s) ≡ false → ending (s ++ line_feed ∷ []) ≡ 1
feed_ends s some e =
    let line = s ++ line_feed ∷ [] in
    ending_feed line
    (λ (i : from_end 2 line ≡ carriage_return). not_return (from_end 1 s) e (sym (back_before s line_feed some) ∙ i))
    (back_in s (line_feed ∷ []) 1 (omega arith))

return_ends : (s : List ℕ) → ending (s ++ carriage_return ∷ []) ≡ 1
return_ends s =
    let line = s ++ carriage_return ∷ [] in
    let last : from_end 1 line ≡ carriage_return = back_in s (carriage_return ∷ []) 1 (omega arith) in
    ending_return line (λ (i : from_end 1 line ≡ line_feed). omega (arith, last, i)) last

both_ends : (s : List ℕ) → ending (s ++ carriage_return ∷ line_feed ∷ []) ≡ 2
both_ends s =
    let t = carriage_return ∷ line_feed ∷ [] in
    ending_both (s ++ t) (back_in s t 2 (omega arith)) (back_in s t 1 (omega arith))

ends : (s : List ℕ) (e : Ending) → is_break (from_end 1 s) ≡ false
    → ending (s ++ ending_bytes e) ≡ length (ending_bytes e)
unfolding ending
ends s Nothing h =
    rw (append-nil s) (ending_none s (not_feed (from_end 1 s) h) (not_return (from_end 1 s) h))
ends [] Feed h = refl
ends (b ∷ bs) Feed h = feed_ends (b ∷ bs) (omega arith) h
ends s Return h = return_ends s
ends s Both h = both_ends s

-- ---- so the rest is the content

content_ended : (s : List ℕ) (e : Ending) → is_break (from_end 1 s) ≡ false → content (s ++ ending_bytes e) ≡ s
content_ended s e h =
    let t = ending_bytes e in
    let size : length (s ++ t) - ending (s ++ t) ≡ length s = omega (arith, length-append s t, ends s e h) in
    rw size (take_at s t (length s) refl)

pub endings : Endings
endings s e h =
    let bare = subst (λ (l : List ℕ). content l ≡ s) (append-nil s) (content_ended s Nothing h) in
    ap (content_means separator) (content_ended s e h ∙ sym bare)
