-- The command that words mean, as a function and as a relation.
use Rattle.command_line.proofs.Imports.{Bool, Command, OptionGives, GivesTables, IsWithinLimits, List, WordsMean, None, Option, OptionTexts, Some, TableDecl, [], ap, ap₂, arith, command_in, command_of, command_with, false, if◌then◌else◌, length, nat_le, number_given, number_in, numeral_below, option_and_then, options_of, refl, subst, sym, tables_given, true, ℕ, ◌&&◌, ◌^◌, ◌∙◌, ◌≡◌, ◌≤◌, none-some, same_Some, cond_some, and_parts}
use Rattle.command_line.proofs.Readings.{at_most, at_most_test}
use Rattle.command_line.proofs.WrittenLaws.{declared_read, tables_declared}

-- ---- numbers

number_read : (default most : ℕ) (text : Option (List ℕ)) (n : ℕ)
    → number_given default most text ≡ Some n → OptionGives default most text n
number_read default most None n e = sym (same_Some default n e)
number_read default most (Some text) n e = go (nat_le (length text) 5) (numeral_below (2 ^ 64) text)
    refl refl e
  where
    go : (short : Bool) (o : Option ℕ) → nat_le (length text) 5 ≡ short
        → numeral_below (2 ^ 64) text ≡ o
        → (if short then option_and_then (number_in most) o else None) ≡ Some n
        → OptionGives default most (Some text) n
    go false o short spelled e = absurd (none-some n e)
    go true None short spelled e = absurd (none-some n e)
    go true (Some m) short spelled e =
        let made = cond_some (nat_le 1 m && nat_le m most) m n e in
        let within = and_parts (nat_le 1 n) (nat_le n most)
        (subst (λ k. (nat_le 1 k && nat_le k most) ≡ true) made.1 made.0) in
        record {
          digits = at_most (length text) 5 short;
          spells = spelled ∙ ap Some made.1;
          some = at_most 1 n within.0;
          few = at_most n most within.1;
        }

number_whole : (default most : ℕ) (text : Option (List ℕ)) (n : ℕ) → OptionGives default most text n
    → number_given default most text ≡ Some n
number_whole default most None n is = ap Some (sym is)
number_whole default most (Some text) n h =
    ap₂ (λ (short : Bool) o. if short then option_and_then (number_in most) o else None)
    (at_most_test (length text) 5 h.digits) h.spells
    ∙ ap (λ (b : Bool). if b then Some n else None)
    (ap₂ (λ (a b : Bool). a && b) (at_most_test 1 n h.some) (at_most_test n most h.few))

-- ---- tables

given_read : (text : Option (List ℕ)) (tables : List TableDecl) → tables_given text ≡ Some tables
    → GivesTables text tables
given_read None tables e = sym (same_Some [] tables e)
given_read (Some text) tables e = tables_declared text tables e

given_whole : (text : Option (List ℕ)) (tables : List TableDecl) → GivesTables text tables
    → tables_given text ≡ Some tables
given_whole None tables is = ap Some (sym is)
given_whole (Some text) tables d = declared_read text tables d

-- ---- commands

-- the command that the function gives is the one that the words mean
pub command_means : (words : List (List ℕ)) (c : Command) → command_of words ≡ Some c
    → WordsMean words c
unfolding command_of
command_means words c e = texts_read (options_of words) refl e
  where
    parts_read : (texts : OptionTexts) (threads rows : Option ℕ) (tables : Option (List TableDecl))
        → options_of words ≡ Some texts
        → number_given 4 16 texts.threads ≡ threads → number_given 8192 65536 texts.chunk ≡ rows
        → tables_given texts.tables ≡ tables
        → command_with texts threads rows tables ≡ Some c → WordsMean words c
    parts_read texts None rows tables given has_threads has_rows has_tables e =
        absurd (none-some c e)
    parts_read texts (Some threads) None tables given has_threads has_rows has_tables e =
        absurd (none-some c e)
    parts_read texts (Some threads) (Some rows) None given has_threads has_rows has_tables e =
        absurd (none-some c e)
    parts_read texts (Some threads) (Some rows) (Some tables) given is_threads is_rows is_tables e =
        let made : Command = record {
          query = texts.query;
          tables = tables;
          threads = threads;
          chunk_rows = rows;
          header = texts.header;
        } in
        subst (WordsMean words) (same_Some made c e) (record {
          texts = texts;
          given = given;
          query = refl;
          tables = given_read texts.tables tables is_tables;
          threads = number_read 4 16 texts.threads threads is_threads;
          chunk_rows = number_read 8192 65536 texts.chunk rows is_rows;
          header = refl;
        })

    texts_read : (o : Option OptionTexts) → options_of words ≡ o
        → option_and_then command_in o ≡ Some c → WordsMean words c
    texts_read None given e = absurd (none-some c e)
    texts_read (Some texts) given e =
        parts_read texts (number_given 4 16 texts.threads) (number_given 8192 65536 texts.chunk)
        (tables_given texts.tables) given refl refl refl e

-- and the other way round
pub means_command : (words : List (List ℕ)) (c : Command) → WordsMean words c
    → command_of words ≡ Some c
unfolding command_of
means_command words c m =
    ap (option_and_then command_in) m.given
    ∙ ap₂ (λ threads rows. command_with m.texts threads rows (tables_given m.texts.tables))
    (number_whole 4 16 m.texts.threads c.threads m.threads)
    (number_whole 8192 65536 m.texts.chunk c.chunk_rows m.chunk_rows)
    ∙ ap (command_with m.texts (Some c.threads) (Some c.chunk_rows))
    (given_whole m.texts.tables c.tables m.tables)
    ∙ ap₂ (λ query header. Some (record {
      query = query;
      tables = c.tables;
      threads = c.threads;
      chunk_rows = c.chunk_rows;
      header = header;
    })) (sym m.query) (sym m.header)

-- words of which the function gives none mean nothing
pub means_none : (words : List (List ℕ)) → command_of words ≡ None → (c : Command)
    → WordsMean words c → ⊥
means_none words none c m = none-some c (sym none ∙ means_command words c m)

-- ---- what every command is

number_within : (default most : ℕ) (text : Option (List ℕ)) (n : ℕ) → 1 ≤ default → default ≤ most
    → OptionGives default most text n → (1 ≤ n) × (n ≤ most)
number_within default most None n some few is = (omega (arith, some, is), omega (arith, few, is))
number_within default most (Some text) n some few h = (h.some, h.few)

-- a command that words mean is within the limits
pub limits_kept : (words : List (List ℕ)) (c : Command) → WordsMean words c → IsWithinLimits c
limits_kept words c m =
    let threads = number_within 4 16 m.texts.threads c.threads (omega arith) (omega arith) m.threads
    in
    let rows = number_within 8192 65536 m.texts.chunk c.chunk_rows (omega arith) (omega arith)
    m.chunk_rows in
    record {
      some_threads = threads.0;
      few_threads = threads.1;
      some_rows = rows.0;
      few_rows = rows.1;
    }
