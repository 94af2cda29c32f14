-- What is shown of a session by itself: statements only, each proved in proofs/Laws.antt, or in proofs/Keys.antt those
-- of parts and keys, in proofs/Wafers.antt those of wafers and in proofs/Cells.antt those of cells, under its name in
-- small letters.
-- Assumes nothing.
use Rattle.std.specs.Prelude.{◌≡◌, true, ◌&&◌, ◌||◌, List, map, ◌++◌, ℕ, ◌+◌, ◌*◌, ◌≤◌, ◌<◌, eqb, ltb, length, take, drop}
use Rattle.rising.specs.Rising.{rising, rank, held, insert_at, remove_at}
use Rattle.session.specs.declared.Session.{Session}
use Rattle.session.specs.Session.{part_of, part_head, part_site, smallest, key_of, past_parts, cell_count}
use Rattle.session.specs.Session.{wafer_number, wafer_head, begun, sound, LentParts}

-- a session that has followed nothing is sound
abbrev pub BegunSound : Type 0
BegunSound = sound begun ≡ true

-- a session's parts and wafers may be lent where it is sound
abbrev pub SoundLent : Type 0
SoundLent = (s : Session) → length s.parts ≡ cell_count → sound s ≡ true → LentParts s.standing s.parts

-- ---- a part and a key as numbers: a site is one byte and a bin is two

-- two parts are one number exactly if head and site are the same
abbrev pub PartSame : Type 0
PartSame = (head site head' site' : ℕ) → site < 256 → site' < 256
    → eqb (part_of head site) (part_of head' site') ≡ (eqb head head' && eqb site site')

-- the first of parts that rise is one of them, and the smallest
abbrev pub SmallestHeld : Type 0
SmallestHeld = (parts : List ℕ) → 0 < length parts → held (smallest parts) parts ≡ true

abbrev pub SmallestLeast : Type 0
SmallestLeast = (parts : List ℕ) (part : ℕ) → rising parts ≡ true → held part parts ≡ true → smallest parts ≤ part

-- parts rise as head, then site do
abbrev pub PartRises : Type 0
PartRises = (head site head' site' : ℕ) → site < 256 → site' < 256
    → ltb (part_of head site) (part_of head' site') ≡ (ltb head head' || (eqb head head' && ltb site site'))

-- a part's head and its site make its number
abbrev pub PartGives : Type 0
PartGives = (part : ℕ) → part < past_parts → part_of (part_head part) (part_site part) ≡ part

-- .. and two keys exactly if the bin is too
abbrev pub KeySame : Type 0
KeySame = (head site bin head' site' bin' : ℕ) → site < 256 → site' < 256 → bin < 65_536 → bin' < 65_536
    → eqb (key_of head site bin) (key_of head' site' bin') ≡ (eqb head head' && (eqb site site' && eqb bin bin'))

-- keys rise as head, then site, then bin do
abbrev pub KeyRises : Type 0
KeyRises = (head site bin head' site' bin' : ℕ) → site < 256 → site' < 256 → bin < 65_536 → bin' < 65_536
    → ltb (key_of head site bin) (key_of head' site' bin')
    ≡ (ltb head head' || (eqb head head' && (ltb site site' || (eqb site site' && ltb bin bin'))))

-- ---- #103, wafers: one a head, and a site group is one byte

-- wafers whose heads rise do so themselves
abbrev pub HeadsRise : Type 0
HeadsRise = (ws : List ℕ) → rising (map wafer_head ws) ≡ true → rising ws ≡ true

-- as many heads are below a head as wafers are below the first of that head
abbrev pub HeadRank : Type 0
HeadRank = (head : ℕ) (ws : List ℕ) → rank (head * 256) ws ≡ rank head (map wafer_head ws)

-- an open wafer is on its head ..
abbrev pub WaferOn : Type 0
WaferOn = (head group : ℕ) (ws : List ℕ) → group < 256 → held (wafer_number head group) ws ≡ true
    → held head (map wafer_head ws) ≡ true

-- .. and stands where its head does
abbrev pub WaferRank : Type 0
WaferRank = (head group : ℕ) (ws : List ℕ) → group < 256 → rising (map wafer_head ws) ≡ true
    → held (wafer_number head group) ws ≡ true
    → rank (wafer_number head group) ws ≡ rank head (map wafer_head ws)

-- ---- two lists in one row of cells, one at its start and one behind some cells

-- what is put into the first or taken out of it leaves the second alone
abbrev pub InsertBefore : Type 0
InsertBefore = (m : ℕ) (l : List ℕ) (used at v : ℕ) → at ≤ used → used < m → m ≤ length l
    → drop m (insert_at l used at v) ≡ drop m l

abbrev pub RemoveBefore : Type 0
RemoveBefore = (m : ℕ) (l : List ℕ) (used at n : ℕ) → at + n ≤ used → used ≤ m → m ≤ length l
    → drop m (remove_at l used at n) ≡ drop m l

-- what is put into the second or taken out of it leaves the first alone
abbrev pub InsertBehind : Type 0
InsertBehind = (m : ℕ) (l : List ℕ) (used at v : ℕ) → m ≤ length l
    → insert_at l (m + used) (m + at) v ≡ take m l ++ insert_at (drop m l) used at v

abbrev pub RemoveBehind : Type 0
RemoveBehind = (m : ℕ) (l : List ℕ) (used at n : ℕ) → n ≤ used → m ≤ length l
    → remove_at l (m + used) (m + at) n ≡ take m l ++ remove_at (drop m l) used at n
