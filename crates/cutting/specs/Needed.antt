-- How long a record is, as far as its first bytes tell. Document 01, "Tally program", the first record, and "Record
-- frame and kinds", REC_LEN.
--
--   needed    how many bytes the next record has
--   longest   no record has more
--   cut       how many bytes are judged at once: a record's, or the header of one that is longer than is taken
-- Assumes nothing.
use Rattle.std.specs.Prelude.{ℕ, ◌+◌, cond, List, ltb, length}
use Rattle.frames.specs.Frames.{header, rec_len}
use Rattle.session.specs.declared.Standing.{Standing}
use Rattle.session.specs.Session.{is_start}

-- the first record is the first six bytes
abbrev pub first_length : ℕ
first_length = 6

-- a header, and the most that REC_LEN says
abbrev pub longest : ℕ
longest = 65_539

-- the first record is six bytes; a later one its header and as many as REC_LEN says, once the header is there
unfoldable pub needed : Standing → List ℕ → ℕ
needed st bytes =
    cond (is_start st.place) first_length
    (cond (ltb (length bytes) header) header (header + rec_len st.order bytes))

-- a record of more than `most` bytes is judged by its header
unfoldable pub cut : ℕ → Standing → List ℕ → ℕ
cut most st bytes = cond (ltb most (needed st bytes)) header (needed st bytes)
