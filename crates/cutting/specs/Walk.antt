-- A stream walked byte after byte, over any state: a house, what one slot sees of it, a session. Document 01, "Tally
-- program"; #102 feeds any slot so.
--
--   Machine    when bytes are a whole record, and what a record does to the state
--   Walked     how far a stream was walked: it waits for the rest of a record, or has stopped at one, which is kept
--              with the reason and the bytes behind it
--   walked     any bytes more
--   cutting    the machine whose records are as long as their headers say
--   records    the records judged as bytes are walked;  accepted  those of them that were kept
--   heard_all   records heard one after the other, up to the first that is not kept
--   all_fit     whether each record that is judged passes a test
-- Assumes nothing.
use Rattle.std.specs.Prelude.{Bool, true, false, cond, ◌&&◌, List, [], ◌∷◌, ◌++◌, ℕ, leb, ltb, length}
use Rattle.session.specs.declared.Standing.{Standing}
use Rattle.cutting.specs.Needed.{needed, cut}

-- a record is kept, and makes a new state; or it stops the walk, with a reason, and changes nothing
pub data Heard (S F : Type 0) : Type 0 where
  Kept : S → Heard S F
  Turned : F → Heard S F

pub record Machine (S F : Type 0) : Type 0 where
  pub whole : S → List ℕ → Bool
  pub hear : S → List ℕ → Heard S F

pub data Walked (S F : Type 0) : Type 0 where
  Waits : S → List ℕ → Walked S F
  Stops : S → List ℕ → F → List ℕ → Walked S F

abbrev pub judged : {S F : Type 0} → Heard S F → S → List ℕ → Walked S F
judged (Kept t) s r = Waits t []
judged (Turned f) s r = Stops s r f []

-- a record is judged when it is whole
abbrev pub pushed : {S F : Type 0} → Bool → Heard S F → S → List ℕ → Walked S F
pushed false v s r = Waits s r
pushed true v s r = judged v s r

-- what stops a stream is final: later bytes are kept behind it, and none is judged
abbrev pub took : {S F : Type 0} → Machine S F → Walked S F → ℕ → Walked S F
took m (Waits s part) b = pushed (m.whole s (part ++ b ∷ [])) (m.hear s (part ++ b ∷ [])) s (part ++ b ∷ [])
took m (Stops s r f rest) b = Stops s r f (rest ++ b ∷ [])

unfoldable pub walked : {S F : Type 0} → Machine S F → Walked S F → List ℕ → Walked S F
walked m w [] = w
walked m w (b ∷ bs) = walked m (took m w b) bs

-- Records as long as their headers say, as the standing in the state reads them. One of more than `most` bytes is not
-- waited for: its header stops the walk, for the reason `long`. Who takes every record says `longest`.
abbrev pub cutting : {S F : Type 0} → (S → Standing) → ℕ → F → (S → List ℕ → Heard S F) → Machine S F
cutting stand most long hear =
    record {
      whole = λ s r. leb (cut most (stand s) r) (length r);
      hear = λ s r. cond (ltb most (needed (stand s) r)) (Turned long) (hear s r);
    }

-- ---- the records that bytes are cut into

abbrev pub joined : List (List ℕ) → List ℕ
joined [] = []
joined (c ∷ cs) = c ++ joined cs

abbrev pub record_at : {S F : Type 0} → Machine S F → Walked S F → ℕ → List (List ℕ)
record_at m (Waits s part) b = cond (m.whole s (part ++ b ∷ [])) ((part ++ b ∷ []) ∷ []) []
record_at m (Stops s r f rest) b = []

abbrev pub records : {S F : Type 0} → Machine S F → Walked S F → List ℕ → List (List ℕ)
records m w [] = []
records m w (b ∷ bs) = record_at m w b ++ records m (took m w b) bs

abbrev pub kept_of : {S F : Type 0} → Bool → Heard S F → List ℕ → List (List ℕ)
kept_of false v r = []
kept_of true (Kept t) r = r ∷ []
kept_of true (Turned f) r = []

abbrev pub accepted_at : {S F : Type 0} → Machine S F → Walked S F → ℕ → List (List ℕ)
accepted_at m (Waits s part) b = kept_of (m.whole s (part ++ b ∷ [])) (m.hear s (part ++ b ∷ [])) (part ++ b ∷ [])
accepted_at m (Stops s r f rest) b = []

abbrev pub accepted : {S F : Type 0} → Machine S F → Walked S F → List ℕ → List (List ℕ)
accepted m w [] = []
accepted m w (b ∷ bs) = accepted_at m w b ++ accepted m (took m w b) bs

-- to the end, or to a record that stops it
pub data Run (S F : Type 0) : Type 0 where
  Ran : S → Run S F
  Halted : S → F → Run S F

abbrev pub heard_on : {S F : Type 0} → Heard S F → S → (S → Run S F) → Run S F
heard_on (Kept t) s next = next t
heard_on (Turned f) s next = Halted s f

abbrev pub heard_all : {S F : Type 0} → Machine S F → S → List (List ℕ) → Run S F
heard_all m s [] = Ran s
heard_all {S} m s (r ∷ rs) = heard_on (m.hear s r) s (λ (t : S). heard_all m t rs)

abbrev pub outcome : {S F : Type 0} → Walked S F → Run S F
outcome (Waits s part) = Ran s
outcome (Stops s r f rest) = Halted s f

-- the bytes of a walk that are in no record kept; those behind the record that stopped it
abbrev pub left : {S F : Type 0} → Walked S F → List ℕ
left (Waits s part) = part
left (Stops s r f rest) = r ++ rest

abbrev pub behind : {S F : Type 0} → Walked S F → List ℕ
behind (Waits s part) = []
behind (Stops s r f rest) = rest

abbrev pub state_of : {S F : Type 0} → Walked S F → S
state_of (Waits s part) = s
state_of (Stops s r f rest) = s

-- ---- whether each record that is judged passes a test of it, in the state in which it is judged

abbrev pub fits_at : {S F : Type 0} → Machine S F → (S → List ℕ → Bool) → Walked S F → ℕ → Bool
fits_at m fits (Waits s part) b = cond (m.whole s (part ++ b ∷ [])) (fits s (part ++ b ∷ [])) true
fits_at m fits (Stops s r f rest) b = true

unfoldable pub all_fit : {S F : Type 0} → Machine S F → (S → List ℕ → Bool) → Walked S F → List ℕ → Bool
all_fit m fits w [] = true
all_fit m fits w (b ∷ bs) = fits_at m fits w b && all_fit m fits (took m w b) bs
