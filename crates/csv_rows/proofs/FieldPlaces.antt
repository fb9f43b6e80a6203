-- Fields by their places.
use Rattle.csv_rows.proofs.Imports.{◌≡◌, ℕ, ◌+◌, ◌<◌, ◌≤◌, ◌==◌, ◌||◌, Bool, true, false, List, [], ◌∷◌, ◌++◌, length, take, drop, get_or, sym, ap, ◌∙◌, arith, append_assoc, EndsRecord, FieldUpTo, HasMore, SkipsEnds, append-nil, at_mark, dec_lt, default_config, drop-drop, drop_all, drop_more, eqb-true, first_or, is_line_end, next_record, no_mark, no_quote, bytes_between, prefix_len, records_at, starts_with, is_mark}
use Rattle.std.proofs.Common.{length-append}
use Rattle.csv.specs.declared.parser.State.TheVariants as st
use Rattle.csv_rows.proofs.ByteRuns.{run_bound}
use Rattle.csv_rows.proofs.MachineSteps.{copies_join_field, quoted_copies, prefix_stops, plain_run, plain_field, one_more, records_skip, last_in_line, last_of_text}

-- a run of bytes that pass a test, by its places
run_part : (q : ℕ → Bool) (bytes : List ℕ) (at end : ℕ) → end ≡ at + prefix_len q (drop at bytes)
    → (take (prefix_len q (drop at bytes)) (drop at bytes) ≡ bytes_between bytes at end)
    × (drop (prefix_len q (drop at bytes)) (drop at bytes) ≡ drop end bytes)
run_part q bytes at end e = grind (arith, drop-drop)

-- the byte at a place
pub first_is : (none : Bool) (c : ℕ) (bytes : List ℕ) (at : ℕ) → at < length bytes
    → first_or none (λ x. x == c) (drop at bytes) ≡ true → drop at bytes ≡ c ∷ drop (at + 1) bytes
first_is none c bytes at lt h = grind (arith, eqb-true, drop_more bytes at 0 lt)

pub first_within : (c : ℕ) (bytes : List ℕ) (at : ℕ) → starts_with c (drop at bytes) ≡ true
    → at < length bytes
first_within c bytes at h = grind (arith, dec_lt, drop_all)

-- a field without quotes, up to the next mark
pub plain_upto : (bytes : List ℕ) (at end : ℕ) → end ≡ at + prefix_len no_mark (drop at bytes)
    → at ≤ length bytes → starts_with 34 (drop at bytes) ≡ false
    → FieldUpTo bytes at (bytes_between bytes at end) end
plain_upto bytes at end e le q =
    let run = run_part no_mark bytes at end e in
    record {
      low = omega (arith, e);
      high = omega (arith, e, run_bound no_mark bytes at le);
      begins = rw (sym run.0, sym run.1) (plain_field (drop at bytes) q);
    }

-- what was read inside the quotes of the field at a place
pub record QuotedSoFar (bytes : List ℕ) (at : ℕ) (field : List ℕ) (i : ℕ) : Type 0 where
  pub reads : (fields : List (List ℕ))
      → next_record default_config st.StartField fields [] (drop at bytes)
      ≡ next_record default_config st.InQuoted fields field (drop i bytes)
  pub low : at < i
  pub high : i ≤ length bytes

-- behind the closing quote the rest is read as if it had no quotes
closed_plain : (field : List ℕ) (fields : List (List ℕ)) (xs : List ℕ) → starts_with 34 xs ≡ false
    → next_record default_config st.AfterQuote fields field xs
    ≡ next_record default_config st.InField fields field xs
unfolding next_record
closed_plain field fields xs h = grind arith

-- the quote in front
pub quoted_starts : (bytes : List ℕ) (at : ℕ) (field : List ℕ) → at < length bytes
    → starts_with 34 (drop at bytes) ≡ true → field ≡ [] → QuotedSoFar bytes at field (at + 1)
unfolding next_record
quoted_starts bytes at field lt q e = grind (arith, first_is)

-- the bytes up to the next quote
quoted_run : {bytes : List ℕ} {at i : ℕ} {field : List ℕ} → (j : ℕ)
    → j ≡ i + prefix_len no_quote (drop i bytes) → QuotedSoFar bytes at field i
    → QuotedSoFar bytes at (field ++ bytes_between bytes i j) j
quoted_run {bytes = bytes} {i = i} {field = field} j e h = grind (
  arith,
  copies_join_field,
  quoted_copies,
  run_part no_quote bytes i j e,
  run_bound no_quote bytes i h.high,
)

-- there a quote stands
quote_stops : (bytes : List ℕ) (i j : ℕ) → j ≡ i + prefix_len no_quote (drop i bytes)
    → j < length bytes → drop j bytes ≡ 34 ∷ drop (j + 1) bytes
quote_stops bytes i j e lt = first_is true 34 bytes j lt
    (ap (first_or true (λ x. x == 34)) (sym (run_part no_quote bytes i j e).1)
    ∙ prefix_stops (λ x. x == 34) (drop i bytes))

-- two quotes are one
pub quoted_twice : {bytes : List ℕ} {at i : ℕ} {field : List ℕ} → (j : ℕ)
    → j ≡ i + prefix_len no_quote (drop i bytes) → j < length bytes
    → starts_with 34 (drop (j + 1) bytes) ≡ true → QuotedSoFar bytes at field i
    → QuotedSoFar bytes at ((field ++ bytes_between bytes i j) ++ 34 ∷ []) (j + 2)
unfolding next_record
quoted_twice {bytes = bytes} {i = i} {field = field} j e lt q before = grind (
  arith,
  first_is,
  quoted_run j e before,
  first_within 34 bytes (j + 1) q,
  quote_stops bytes i j e lt,
)

-- a quote that no other follows closes the field, and bytes up to the next mark join it
pub quoted_closes : {bytes : List ℕ} {at i : ℕ} {field : List ℕ} → (j end : ℕ)
    → j ≡ i + prefix_len no_quote (drop i bytes) → j < length bytes
    → starts_with 34 (drop (j + 1) bytes) ≡ false
    → end ≡ j + 1 + prefix_len no_mark (drop (j + 1) bytes) → QuotedSoFar bytes at field i
    → FieldUpTo bytes at ((field ++ bytes_between bytes i j) ++ bytes_between bytes (j + 1) end) end
unfolding next_record
quoted_closes {bytes = bytes} {i = i} {field = field} j end e lt q stop before = grind (
  arith,
  closed_plain,
  plain_run,
  quoted_run j e before,
  run_part no_mark bytes (j + 1) end stop,
  run_bound no_mark bytes (j + 1) (omega (arith, lt)),
  quote_stops bytes i j e lt,
  prefix_stops is_mark (drop (j + 1) bytes),
)

-- quotes that aren't closed end with the text
pub quoted_open : {bytes : List ℕ} {at i : ℕ} {field : List ℕ} → (j : ℕ)
    → j ≡ i + prefix_len no_quote (drop i bytes) → j ≡ length bytes → QuotedSoFar bytes at field i
    → FieldUpTo bytes at (field ++ bytes_between bytes i j) j
unfolding next_record
quoted_open {bytes = bytes} j e all before =
    grind (arith, quoted_run j e before, drop_all j bytes (omega (arith, all)))

-- the end of a line is passed over
pub skip_more : (bytes : List ℕ) (at i : ℕ) → i < length bytes
    → ((left : ℕ) → records_at left bytes at ≡ records_at left bytes i)
    → is_line_end (get_or bytes i 0) ≡ true
    → (left : ℕ) → records_at left bytes at ≡ records_at left bytes (i + 1)
skip_more bytes at i lt h e left = grind (arith, drop_more, records_skip)

-- the end of the text ends a record
pub text_ends : (bytes : List ℕ) (at : ℕ) → at ≤ length bytes → length bytes ≤ at
    → EndsRecord bytes at [] at
text_ends bytes at le ge = grind (arith, drop_all, last_of_text)

-- the end of a line ends a record
pub line_ends : (bytes : List ℕ) (at next : ℕ) → at < length bytes → at_mark (drop at bytes) ≡ true
    → starts_with 44 (drop at bytes) ≡ false → SkipsEnds bytes (at + 1) next
    → EndsRecord bytes at [] next
line_ends bytes at next lt m k skips =
    let whole = drop_more bytes at 0 lt in
    let line : is_line_end (get_or bytes at 0) ≡ true =
    go (get_or bytes at 0 == 44) _ (ap at_mark (sym whole) ∙ m)
    (ap (starts_with 44) (sym whole) ∙ k) in
    record {
      ends = λ xs mid fields field begins last. record {
        reads = λ n. (last_in_line (get_or bytes at 0) line begins (rw whole at last)).reads n
            ∙ ap (λ l. (fields ++ field ∷ []) ∷ l) (skips.same n);
      };
      starts = skips.starts;
    }
  where
    go : (a b : Bool) → (a || b) ≡ true → a ≡ false → b ≡ true
    go true b h k = absurd cc
    go false b h k = h

-- a comma ends a field, and the record goes on with the one behind it
pub ends_more : {bytes more-field : List ℕ} {end later next : ℕ} {more : List (List ℕ)}
    → starts_with 44 (drop end bytes) ≡ true → FieldUpTo bytes (end + 1) more-field later
    → EndsRecord bytes later more next → EndsRecord bytes end (more-field ∷ more) next
ends_more {bytes = bytes} {more-field = f} {end = end} {next = next} {more = more} comma upto h =
    let lt = first_within 44 bytes end comma in
    record {
      ends = λ xs mid fields field begins last. rw (append_assoc fields (field ∷ []) (f ∷ more)) at
          (h.ends xs (drop (end + 1) bytes) (fields ++ field ∷ []) f
          (one_more begins (rw (first_is false 44 bytes end lt comma) at last)) upto.begins);
      starts = h.starts;
    }

-- the fields that were read behind one, up to a place where the last of them ends
pub record MoreSoFar (bytes : List ℕ) (start end count : ℕ) : Type 0 where
  pub read : List (List ℕ)
  pub many : length read ≡ count
  pub few : count ≤ end
  pub within : end ≤ length bytes
  pub mark : at_mark (drop end bytes) ≡ true
  pub goes : (more : List (List ℕ)) (next : ℕ) → EndsRecord bytes end more next
      → EndsRecord bytes start (read ++ more) next

-- no field was read yet
pub more_none : (bytes : List ℕ) (at : ℕ) → at ≤ length bytes → at_mark (drop at bytes) ≡ true
    → MoreSoFar bytes at at 0
more_none bytes at le m = grind arith

-- one field more
pub more_next : {bytes field : List ℕ} {start end later count : ℕ} → MoreSoFar bytes start end count
    → starts_with 44 (drop end bytes) ≡ true → FieldUpTo bytes (end + 1) field later
    → MoreSoFar bytes start later (count + 1)
more_next {field = f} {end = end} {later = later} h comma upto = record {
  read = h.read ++ f ∷ [];
  many = length-append h.read (f ∷ []) ∙ ap (λ n. n + 1) h.many;
  few = omega (arith, h.few, upto.low);
  within = upto.high;
  mark = upto.begins.ends;
  goes = λ more next line. rw (append_assoc h.read (f ∷ []) more)
      (h.goes (f ∷ more) next (ends_more comma upto line));
}

-- the record ends
pub more_last : {bytes : List ℕ} {start end count next : ℕ} → MoreSoFar bytes start end count
    → EndsRecord bytes end [] next → HasMore bytes start count next
more_last {next = next} h line = record {
  more = h.read;
  many = h.many;
  few = omega (arith, h.few, h.within);
  ends = rw (append-nil h.read) at (h.goes [] next line);
}
