-- The text of a stream, as the calls and their answers tell it. Document 01, "Tally program". No definition here looks at
-- a house or a session: a stream is cut into records by its bytes, each is delivered, and the text is read off.
--
--   cut_all       a stream's records, and what stands behind the last of them
--   calls_of      the calls that open slot 0 and deliver them
--   first_refusal the first call that is refused: with what, and where
--   told_text     the text
-- Assumes nothing.
use Rattle.std.specs.Prelude.{ℕ, zero, suc, ◌+◌, Bool, true, false, cond, List, [], ◌∷◌, ◌++◌, map, leb, length, take, drop}
use Rattle.prelude.specs.Choice.{◌unless◌then◌}
use Rattle.answers.specs.declared.Answer.{Answer}
use Rattle.answers.specs.declared.Answer.TheVariants.{NotOneRecord}
use Rattle.numbers.specs.declared.Order.{Order}
use Rattle.kinds.specs.declared.Kind.{Kind}
use Rattle.kinds.specs.declared.Kind.TheVariants.{Mrr}
use Rattle.kinds.specs.Kinds.{kind_of}
use Rattle.frames.specs.Frames.{header, rec_len, rec_typ, rec_sub}
use Rattle.order.specs.Spelled.{is}
use Rattle.first_record.specs.First.{order_in}
use Rattle.house.specs.declared.Row.{Row}
use Rattle.house.specs.House.{row_count, fresh}
use Rattle.house.specs.History.{Call, Open, Deliver, Report, Reply, Told, Listed, Read, answer_of, reply, Said}
use Rattle.house.specs.History.{reached, history}
use Rattle.house.specs.Tally.{is_done}
use Rattle.cutting.specs.Needed.{first_length}
use Rattle.tally_lines.specs.Lines.{row_line, refused_line, too_long_line, unfinished_line}
use Rattle.following.specs.Following.{most_length}

-- ---- how a stream is cut

-- behind the last record: bytes that are no whole record, none at the stream's end; or a header that says too much
pub data Behind : Type 0 where
  Left : List ℕ → Behind
  Long : Behind

pub record Cut : Type 0 where
  pub records : List (List ℕ)
  pub behind : Behind

abbrev pub no_record : Behind → Cut
no_record b = record { records = []; behind = b }

abbrev pub first : List ℕ → Cut → Cut
first rec c = record { records = rec ∷ c.records; behind = c.behind }

-- a later record is its header and as many bytes as REC_LEN says; one whose header says over 65,536 bytes is too long,
-- before all else. Each takes a byte at least, so that as many turns as there are bytes are enough
unfoldable pub cut_later : ℕ → Order → List ℕ → Cut
cut_later zero order bytes = no_record (Left bytes)
cut_later (suc turns) order bytes =
    let size = header + rec_len order bytes in
    no_record (Left bytes) unless leb header (length bytes) then
    no_record Long unless leb size most_length then
    no_record (Left bytes) unless leb size (length bytes) then
    first (take size bytes) (cut_later turns order (drop size bytes))

-- the first record is all bytes, where they are fewer than six
abbrev pub cut_short : List ℕ → Cut
cut_short [] = no_record (Left [])
cut_short (b ∷ bs) = first (b ∷ bs) (no_record (Left []))

-- .. or else the first six; it tells the byte order of the headers behind it
abbrev pub cut_all : List ℕ → Cut
cut_all bytes =
    let far = take first_length bytes in
    cut_short bytes unless leb first_length (length bytes) then
    first far (cut_later (length bytes) (order_in far) (drop first_length bytes))

-- ---- what the calls are answered

-- slot 0, floor 1,024
abbrev pub calls_of : List (List ℕ) → List Call
calls_of records = Open 0 row_count ∷ map (Deliver 0) records

pub data Refusal : Type 0 where
  None : Refusal
  At : Answer → ℕ → Refusal

-- the first answer that is a refusal, and its place
abbrev pub first_refusal : ℕ → List Said → Refusal
first_refusal place [] = None
first_refusal place (e ∷ es) = cond (is_done e) (first_refusal (place + 1) es) (At (answer_of e.reply) place)

-- the rows that a report lists
abbrev pub rows_in : Reply → List Row
rows_in (Told a) = []
rows_in (Listed a rows) = rows
rows_in (Read f) = []

-- ---- the text

abbrev pub is_mrr : Kind → Bool
is_mrr k = is Mrr k

abbrev pub mrr_last : List (List ℕ) → Bool
mrr_last [] = false
mrr_last (r ∷ []) = is_mrr (kind_of (rec_typ r) (rec_sub r))
mrr_last (r ∷ (q ∷ rs)) = mrr_last (q ∷ rs)

-- one HBR line for each row
abbrev pub lines_of : List Row → List ℕ
lines_of [] = []
lines_of (r ∷ rs) = row_line r ++ lines_of rs

-- all records are accepted: bytes left over are N=3; with none, the rows after an MRR at the end, else unfinished
abbrev pub end_of : List (List ℕ) → Behind → List ℕ
end_of records Long = too_long_line (length records + 1)
end_of records (Left (b ∷ bs)) = refused_line NotOneRecord (length records + 1)
end_of records (Left []) =
    cond (mrr_last records) (lines_of (rows_in (reply (reached fresh (calls_of records)) (Report 0 row_count))))
    (unfinished_line (length records))

abbrev pub text_by : Refusal → Cut → List ℕ
text_by (At a k) c = refused_line a k
text_by None c = end_of c.records c.behind

-- the opening is call 0, so that records count from 1
abbrev pub told_text : List ℕ → List ℕ
told_text bytes =
    let c = cut_all bytes in
    text_by (first_refusal 0 (history fresh (calls_of c.records))) c
