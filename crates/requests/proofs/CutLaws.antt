-- Laws of a line cut into its words: what is found behind the word that was cut off is found in the whole.
-- Assumes nothing.
use mathlib.Core.Path.{◌≡◌, refl, sym, ap, ◌∙◌}
use mathlib.Core.Bool.{true, false}
use mathlib.Core.List.{List, [], ◌∷◌}
use Prim.Native.Nat.{ℕ, ◌+◌, ◌-◌, ◌≤◌, ◌<◌}
use native.Mathlib.Omega.{arith}
use borrow.Author.Tests.{eq-eqb, ne_eqb}
use lib.ListN.{length, get_or, take, drop}
use lib.Seq.{drop-length}
use Rattle.prelude.proofs.Never.{false_true}
use Rattle.prelude.proofs.Parts.{part_from}
use Rattle.script.specs.declared.Verb.{Verb}
use Rattle.script.specs.declared.Verb.TheVariants as verb
use Rattle.script.specs.Words.{word_end, words, verb_of}
use Rattle.numerals.specs.Hex.{bytes_of}
use Rattle.script.proofs.WordLaws.{words_some, cut_last, cut_more}
use Rattle.asking.specs.declared.Asked.{Asked}
use Rattle.asking.specs.declared.Asked.TheVariants.{Nothing, Comment, NoCall}
use Rattle.asking.specs.Asks.{Word, asks}
use Rattle.requests.specs.Asked.{asked_by, asked, hands_over, last, handed, Found, Finds, FindsIn}

last_behind : (w : Word) (s : List ℕ) → last (w ∷ words s) ≡ last (words s)
last_behind w s = words_some (λ (ws : List Word). last (w ∷ ws) ≡ last ws) (λ v ws. refl) s

-- no verb that stands alone hands bytes over
alone_hands : (v : Verb) → hands_over (asks v []) ≡ false
alone_hands verb.Fresh = refl
alone_hands verb.Open = refl
alone_hands verb.Deliver = refl
alone_hands verb.Report = refl
alone_hands verb.Close = refl
alone_hands verb.Figures = refl
alone_hands verb.Feed = refl
alone_hands verb.End = refl
alone_hands verb.Write = refl
alone_hands verb.Read = refl
alone_hands verb.Help = refl
alone_hands verb.Other = refl

module _ (line : List ℕ) where
  pub found_none : (ask : Asked) (ws : List Word) (found : Asked) (from : ℕ) → found ≡ NoCall → from ≡ 0
      → NoCall ≡ ask → Found line ask ws found from
  found_none ask ws found from e z is =
      record {
        asks_for = e ∙ is;
        within = omega (arith, z);
        hex = λ h. false_true (sym (ap hands_over e) ∙ h);
      }

  -- the words up to the one that is cut off now stand before it
  module _ (from e : ℕ) (h : from ≤ length line) (is : e ≡ word_end line from) (v : Verb)
      (behind : List Word → List Word) where
    pub found_last : (found : Asked) → length line ≤ e
        → last (behind (take (length line - from) (drop from line) ∷ []))
        ≡ take (length line - from) (drop from line)
        → found ≡ asks v (behind (take (length line - from) (drop from line) ∷ []))
        → Finds line v (behind (words (drop from line))) found from
    found_last found g ends a =
        rw (cut_last line from e h is g)
        record { asks_for = a; within = h; hex = λ _. sym (ends ∙ part_from line from) }

    pub found_more : (found : Asked) (at : ℕ) → e < length line
        → Finds line v (behind (take (e - from) (drop from line) ∷ words (drop (e + 1) line))) found at
        → Finds line v (behind (words (drop from line))) found at
    found_more found at g f = rw (cut_more line from e h is g) f

  -- the verb itself
  module _ (e : ℕ) (is : e ≡ word_end line 0) (v : Verb) (reads : v ≡ verb_of (take (e - 0) (drop 0 line)))
      (found : Asked) where
    pub line_more : (at : ℕ) → e < length line → Finds line v (words (drop (e + 1) line)) found at
        → FindsIn line (asked_by (words line)) found at
    line_more at g f =
        let cut : words line ≡ take (e - 0) (drop 0 line) ∷ words (drop (e + 1) line) =
        cut_more line 0 e (omega arith) is g in
        rw cut
        record {
          asks_for = f.asks_for ∙ ap (λ (k : Verb). asks k (words (drop (e + 1) line))) reads;
          within = f.within;
          hex = λ t. f.hex t ∙ sym (last_behind (take (e - 0) (drop 0 line)) (drop (e + 1) line));
        }

    pub line_alone : e ≡ length line → found ≡ asks v [] → FindsIn line (asked_by (words line)) found 0
    line_alone g a =
        let cut : words line ≡ take (length line - 0) (drop 0 line) ∷ [] =
        cut_last line 0 e (omega arith) is (omega (arith, g)) in
        let read : v ≡ verb_of (take (length line - 0) (drop 0 line)) =
        reads ∙ ap (λ (n : ℕ). verb_of (take (n - 0) (drop 0 line))) g in
        record {
          asks_for = rw cut (a ∙ ap (λ (k : Verb). asks k []) read);
          within = omega arith;
          hex = λ t. false_true (sym (alone_hands v) ∙ sym (ap hands_over a) ∙ t);
        }

  -- ---- the whole line

  pub asked_nothing : length line ≡ 0 → Nothing ≡ asked line
  unfolding asked
  asked_nothing = go line
    where
      go : (s : List ℕ) → length s ≡ 0 → Nothing ≡ asked s
      go [] e = refl
      go (b ∷ bs) e = absurd (omega (arith, e))

  pub asked_comment : 0 < length line → get_or line 0 0 ≡ 35 → Comment ≡ asked line
  unfolding asked
  asked_comment = go line
    where
      go : (s : List ℕ) → 0 < length s → get_or s 0 0 ≡ 35 → Comment ≡ asked s
      go [] h e = absurd (omega (arith, h))
      go (b ∷ bs) h e = rw (eq-eqb b 35 e)

  pub asked_words : 0 < length line → (get_or line 0 0 ≡ 35 → ⊥) → asked_by (words line) ≡ asked line
  unfolding asked
  asked_words = go line
    where
      go : (s : List ℕ) → 0 < length s → (get_or s 0 0 ≡ 35 → ⊥) → asked_by (words s) ≡ asked s
      go [] h e = absurd (omega (arith, h))
      go (b ∷ bs) h e = rw (ne_eqb b 35 e)

  module _ (found : Asked) (is : found ≡ asked line) where
    pub hands_none : (end : ℕ) → end ≡ length line → hands_over found ≡ false
        → (found ≡ asked line) × (end ≤ length line) × (bytes_of (drop end line) ≡ handed line)
    unfolding handed
    hands_none end e kept = (is, omega (arith, e), rw (← is, kept, e, drop-length line))

    pub hands_some : (from : ℕ) → from ≤ length line → drop from line ≡ last (words line) → hands_over found ≡ true
        → (found ≡ asked line) × (from ≤ length line) × (bytes_of (drop from line) ≡ handed line)
    unfolding handed
    hands_some from h e over = (is, h, rw (← is, over, e))
