-- What is shown of the text of a stream: statements only. Each is proved in proofs/Laws.antt, or in proofs/Told.antt the
-- last, under its name in small letters.
--
--   TallyChunks   the text is that of all bytes, wherever they were cut into chunks
--   TallyStopped  what stops a stream decides its text: no byte behind it does
--   TallyTold     it is the text that the calls and their answers tell
-- Assumes nothing.
use Rattle.std.specs.Prelude.{◌≡◌, List, ◌++◌, ℕ, Some}
use Rattle.numbers.specs.Laws.{Bytes}
use Rattle.cutting.specs.Walk.{joined}
use Rattle.walking.specs.declared.Stop.{Stop}
use Rattle.following.specs.Following.{followed, begun}
use Rattle.following.specs.Laws.{followed_all}
use Rattle.tallying.specs.Text.{ended, tally_text}
use Rattle.tallying.specs.Told.{told_text}

abbrev pub TallyChunks : Type 0
TallyChunks = (chunks : List (List ℕ)) → ended (followed_all begun chunks) ≡ tally_text (joined chunks)

abbrev pub TallyStopped : Type 0
TallyStopped = (bytes more : List ℕ) (why : Stop) → (followed begun bytes).fate ≡ Some why
    → tally_text (bytes ++ more) ≡ tally_text bytes

-- no word of a house, a session or a walk: records cut by their headers, calls, answers and the rows of a report
abbrev pub TallyTold : Type 0
TallyTold = (bytes : List ℕ) → Bytes bytes → tally_text bytes ≡ told_text bytes
