-- What is left of a part at a place.
use Rattle.csv_rows.proofs.Imports.{◌≡◌, ◌≢◌, ℕ, zero, suc, ◌+◌, ◌-◌, ◌<◌, ◌≤◌, Bool, true, false, cond, List, [], ◌∷◌, length, drop, map, get_or, refl, sym, ap, ◌∙◌, arith, Some, RowsFault, Bad, Memory, AddsFirst, Column, FieldUpTo, FirstRecord, HasMore, IsBadRecordAt, OnBad, RowsLeft, SkipsEnds, StartsLine, StartsPart, TakesRow, at_end, dec_lt, default_config, drop_all, is_bom, column_type, nat_eq, ne_eqb, records, records_at, records_from, spelled_row-fits, starts_line, strip_bom}
use Rattle.std.proofs.Common.{length-drop, eq-eqb}
use Rattle.csv.specs.declared.parser.State.TheVariants as st
use Rattle.query_model.specs.Parts.{part_records, good_rows, bad_place}
use Rattle.csv_rows.proofs.MachineSteps.{record_left, record_starts, records_nil}

-- no record is left behind the end
none_left : (left : ℕ) (bytes : List ℕ) (at : ℕ) → length bytes ≤ at → records_at left bytes at ≡ []
none_left left bytes at le = rw (drop_all at bytes le) (records_nil left)

-- where a record is left, it is one of some
pub some_left : (left : ℕ) (bytes : List ℕ) (at : ℕ) → at_end (records_at left bytes at) ≡ false
    → 0 < left
unfolding records_from
some_left left bytes at h = grind arith

-- where a record is left, a line starts
pub line_there : (left : ℕ) (bytes : List ℕ) (at : ℕ) → StartsLine bytes at
    → at_end (records_at left bytes at) ≡ false → starts_line (drop at bytes) ≡ true
line_there left bytes at h some = grind (arith, dec_lt, none_left)

first_here : (left : ℕ) (bytes : List ℕ) (at : ℕ) {tail : List ℕ} {fields : List (List ℕ)}
    {rest : List (List (List ℕ))} → at_end rest ≡ false → records_at left bytes at ≡ rest
    → FirstRecord (drop at bytes) fields tail
    → rest ≡ fields ∷ records_from default_config (left - 1) st.StartRecord tail
first_here left bytes at some is h = grind (arith, some_left)

-- the first of the records that are left is a row
pub row_here : (left : ℕ) (bytes : List ℕ) (at next : ℕ) (old : RowsLeft) (number : ℕ)
    (before after : List Column) → at_end old.rest ≡ false → records_at left bytes at ≡ old.rest
    → number ≡ old.count + 1 → AddsFirst bytes at next before after
    → TakesRow old (record { rest = records_at (left - 1) bytes next; count = number })
    before after
unfolding good_rows bad_place
row_here left bytes at next old number before after some is n h =
    grind (arith, first_here, spelled_row-fits)

-- the first of them is no row
pub bad_here : (left : ℕ) (bytes : List ℕ) (at number : ℕ) (columns : List Column)
    (rest : List (List (List ℕ))) (fault : RowsFault) → at_end rest ≡ false
    → records_at left bytes at ≡ rest → OnBad fault (IsBadRecordAt columns bytes at number)
    → OnBad fault (λ place. bad_place number (map column_type columns) rest ≡ Some place)
unfolding bad_place
bad_here left bytes at number columns rest Memory some is h = tt
bad_here left bytes at number columns rest (Bad place) some is h =
    ap (bad_place number (map column_type columns)) (first_here left bytes at some is h.reads.is)
    ∙ rw h.unspelled (ap Some (sym h.is))

-- none can come, where none is left
pub over_none : (left : ℕ) (bytes : List ℕ) (at : ℕ) → left ≡ 0
    → nat_eq left 0 ≡ at_end (records_at left bytes at)
unfolding records_from
over_none left bytes at e = rw e refl

-- the test of the end is whether no record is left
pub over_is : (left : ℕ) (bytes : List ℕ) (at n : ℕ) → left ≢ 0 → StartsLine bytes at
    → n ≡ length bytes → nat_eq at n ≡ at_end (records_at left bytes at)
over_is zero bytes at n some h size = absurd (some refl)
over_is (suc left) bytes at n some h size =
    grind (arith, dec_lt, ne_eqb, record_left, eq-eqb, none_left)

-- a byte order mark, or none
pub bom_is : (bytes : List ℕ) (b : Bool) → 3 ≤ length bytes
    → is_bom (get_or bytes 0 0) (get_or bytes 1 0) (get_or bytes 2 0) ≡ b
    → drop (cond b 3 0) bytes ≡ strip_bom bytes
unfolding strip_bom
bom_is bytes b le h = grind arith

-- the records of a part behind a byte order mark
part_at : (bytes : List ℕ) (m at : ℕ) → m ≤ length bytes → drop m bytes ≡ strip_bom bytes
    → SkipsEnds bytes m at
    → records_at (length bytes - m + 1) bytes at ≡ records default_config (strip_bom bytes)
part_at bytes m at le e h = grind (arith, length-drop)

-- the rows of a part without a header
pub part_starts : (bytes : List ℕ) (m at : ℕ) → m ≤ length bytes → drop m bytes ≡ strip_bom bytes
    → SkipsEnds bytes m at → StartsPart false bytes at (length bytes - m + 1)
unfolding part_records
part_starts bytes m at le e h = record { is = part_at bytes m at le e h; starts = h.starts }

-- a part without a record
pub part_empty : (bytes : List ℕ) (m at : ℕ) → m ≤ length bytes → drop m bytes ≡ strip_bom bytes
    → SkipsEnds bytes m at → length bytes ≤ at → StartsPart true bytes at (length bytes - m + 1)
unfolding part_records
part_empty bytes m at le e h over = grind (arith, none_left, part_at)

-- behind a header they begin with the second record
pub part_headed : {bytes field : List ℕ} {m at end count next : ℕ} → m ≤ length bytes
    → drop m bytes ≡ strip_bom bytes → SkipsEnds bytes m at → at < length bytes
    → FieldUpTo bytes at field end → HasMore bytes end count next
    → StartsPart true bytes next (length bytes - m)
unfolding part_records
part_headed {bytes = bytes} {field = field} {m = m} {at = at} {next = next} le e h lt upto p =
    let one : length bytes - m + 1 ≡ suc (length bytes - m) = omega arith in
    let header = p.ends.ends (drop at bytes) (drop at bytes) [] field
    (record_starts (drop at bytes) (h.starts.line lt)) upto.begins in
    record {
      is = ap (drop 1) (sym (header.reads (length bytes - m))
          ∙ ap (λ n. records_at n bytes at) (sym one) ∙ part_at bytes m at le e h);
      starts = p.ends.starts;
    }

-- how the rows of a part begin
pub ruleset parts = (part_starts, part_empty)
