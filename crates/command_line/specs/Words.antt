-- The command that a list of words means.
use Rattle.std.specs.Prelude.{◌≡◌, ℕ, ◌^◌, ◌≤◌, nat_le, ◌&&◌, if◌then◌else◌, List, [], length, Option, Some, None, option_and_then}
use Rattle.query_model.specs.Fields.{numeral_below}
use Rattle.query_model.specs.declared.query.TableDecl.{TableDecl}
use Rattle.command_options.specs.Options.{options_of}
use Rattle.command_options.specs.declared.options.OptionTexts.{OptionTexts}
use Rattle.command_line.specs.Tables.{tables_of}
use Rattle.command_line.specs.Written.{Declares}
use Rattle.command_line.specs.declared.words.Command.{Command}

abbrev pub number_in : ℕ → ℕ → Option ℕ
number_in most n = if nat_le 1 n && nat_le n most then Some n else None

-- one to five digits, and the number that they spell, where it is one of 1 to `most`
abbrev pub number_up_to : ℕ → List ℕ → Option ℕ
number_up_to most text =
    if nat_le (length text) 5 then option_and_then (number_in most) (numeral_below (2 ^ 64) text)
    else None

abbrev pub number_given : ℕ → ℕ → Option (List ℕ) → Option ℕ
number_given default most None = Some default
number_given default most (Some text) = number_up_to most text

-- no tables where none are given
abbrev pub tables_given : Option (List ℕ) → Option (List TableDecl)
tables_given None = Some []
tables_given (Some text) = tables_of text

abbrev pub command_with : OptionTexts → Option ℕ → Option ℕ → Option (List TableDecl)
    → Option Command
command_with texts None chunk_rows tables = None
command_with texts (Some threads) None tables = None
command_with texts (Some threads) (Some chunk_rows) None = None
command_with texts (Some threads) (Some chunk_rows) (Some tables) = Some (record {
  query = texts.query;
  tables = tables;
  threads = threads;
  chunk_rows = chunk_rows;
  header = texts.header;
})

-- 4 workers and chunks of 8,192 rows where the words name none, 16 and 65,536 at most
abbrev pub command_in : OptionTexts → Option Command
command_in texts =
    command_with texts (number_given 4 16 texts.threads) (number_given 8192 65536 texts.chunk)
    (tables_given texts.tables)

-- the command that the words mean: what `clap` reads of them, where each text has its form
unfoldable pub command_of : List (List ℕ) → Option Command
command_of words = option_and_then command_in (options_of words)

-- ---- the same as a relation, by the parts of the words

-- one to five digits spell the number, which is one of 1 to `most`
pub record SpellsNumber (most : ℕ) (text : List ℕ) (n : ℕ) : Type 0 where
  pub digits : length text ≤ 5
  pub spells : numeral_below (2 ^ 64) text ≡ Some n
  pub some : 1 ≤ n
  pub few : n ≤ most

abbrev pub OptionGives : (default most : ℕ) → Option (List ℕ) → ℕ → Type 0
OptionGives default most None n = n ≡ default
OptionGives default most (Some text) n = SpellsNumber most text n

abbrev pub GivesTables : Option (List ℕ) → List TableDecl → Type 0
GivesTables None tables = tables ≡ []
GivesTables (Some text) tables = Declares text tables

-- the words give the texts of the options, and the command is what these spell
pub record WordsMean (words : List (List ℕ)) (c : Command) : Type 0 where
  pub texts : OptionTexts
  pub given : options_of words ≡ Some texts
  pub query : c.query ≡ texts.query
  pub tables : GivesTables texts.tables c.tables
  pub threads : OptionGives 4 16 texts.threads c.threads
  pub chunk_rows : OptionGives 8192 65536 texts.chunk c.chunk_rows
  pub header : c.header ≡ texts.header

-- ---- what every command is

pub record IsWithinLimits (c : Command) : Type 0 where
  pub some_threads : 1 ≤ c.threads
  pub few_threads : c.threads ≤ 16
  pub some_rows : 1 ≤ c.chunk_rows
  pub few_rows : c.chunk_rows ≤ 65536
