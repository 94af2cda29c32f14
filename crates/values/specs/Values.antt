-- The value of a field at an offset of a body, and the rules of values. Document 01, "Record frame and kinds", value
-- rules and optional fields.
--
--   most_bin, no_bin, all_sites, most_head   the limits that the rules name, for all crates that keep them
--   count_at, pass_fail_at, name_at        an optional field: its value, or missing
--   bin_fits, soft_bin_fits, pass_fail_fits, flag_fits, part_head_fits   the value rules, each 7 if broken
-- Assumes nothing.
use Rattle.values.specs.declared.Name.{Name}
use Rattle.std.specs.Prelude.{ℕ, ◌+◌, ◌%◌, Bool, cond, not, ◌||◌, List, eqb, leb, length, get_or, Option, Some, None}
use Prim.Native.Char.{code}
use Rattle.numbers.specs.declared.Order.{Order}
use Rattle.numbers.specs.Numbers.{number, front}

-- bins 0 to 32,767
abbrev pub most_bin : ℕ
most_bin = 32_767

-- an absent soft bin
abbrev pub no_bin : ℕ
no_bin = 65_535

-- head 255 means all sites, and is no part's
abbrev pub all_sites : ℕ
all_sites = 255

abbrev pub most_head : ℕ
most_head = 254

-- a field of that width is not cut off
abbrev pub present : ℕ → ℕ → List ℕ → Bool
present width at body = leb (at + width) (length body)

-- the missing value of the last four counts of PCR
abbrev pub no_count : ℕ
no_count = 4_294_967_295

-- Missing: cut off, or 4,294,967,295
unfoldable pub count_at : Order → List ℕ → ℕ → Option ℕ
count_at order body at =
    let n = number order (front 4 at body) in
    cond (present 4 at body) (cond (eqb n no_count) None (Some n)) None

-- Missing: cut off, or P/F a space; else the byte itself
unfoldable pub pass_fail_at : List ℕ → ℕ → Option ℕ
pass_fail_at body at =
    let c = get_or body at 0 in
    cond (present 1 at body) (cond (eqb c (code " ")) None (Some c)) None

-- Missing: cut off, or of length 0; else its place and its length
unfoldable pub name_at : List ℕ → ℕ → Option Name
name_at body at =
    let n = get_or body at 0 in
    cond (present 1 at body)
    (cond (eqb n 0) None (Some (record { at = at + 1; len = n })))
    None

abbrev pub bin_fits : ℕ → Bool
bin_fits n = leb n most_bin

-- .. but an absent soft bin is 65,535
unfoldable pub soft_bin_fits : Order → List ℕ → ℕ → Bool
soft_bin_fits order body at =
    let n = number order (front 2 at body) in
    not (present 2 at body) || (bin_fits n || eqb n no_bin)

-- P/F is P, F or space
unfoldable pub pass_fail_fits : List ℕ → ℕ → Bool
pass_fail_fits body at =
    let c = get_or body at 0 in
    not (present 1 at body) || (eqb c (code "P") || (eqb c (code "F") || eqb c (code " ")))

-- PART_FLG bits 0 and 1 are not both set
abbrev pub flag_fits : ℕ → Bool
flag_fits flags = not (eqb (flags % 4) 3)

-- head in PIR and PRR is not 255, since 255 means all sites (house rule)
abbrev pub part_head_fits : ℕ → Bool
part_head_fits head = not (eqb head all_sites)
