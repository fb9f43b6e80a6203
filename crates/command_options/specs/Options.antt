-- What `clap` reads from the words of the command line.
use Rattle.clap.specs.Words.{App, Kinds, Row, Rule, Text, fault_of, first_of, matches_of, new_app, new_rule, with_rule}
use Rattle.clap.specs.declared.builder.action.ArgAction.TheVariants.{Set, SetTrue}
use Rattle.clap.specs.declared.error.kind.ErrorKind.{ErrorKind}
use Rattle.command_options.specs.declared.options.OptionTexts.{OptionTexts}
use Rattle.std.specs.Prelude.{Bool, List, None, Option, Some, [], codes, false, true, ℕ, ◌∷◌}
use Rattle.std.specs.Str.{bytes_eq}
use Rattle.clap.specs.declared.error.kind.ErrorKind.TheVariants as kind

-- `--name VALUE`
abbrev pub option_rule : Text → Rule
option_rule name = record (new_rule name) { long = Some name; action = Some Set }

-- `--name VALUE` that has to be given
abbrev pub required_rule : Text → Rule
required_rule name = record (option_rule name) { required = true }

-- `--name`
abbrev pub flag_rule : Text → Rule
flag_rule name = record (new_rule name) { long = Some name; action = Some SetTrue }

-- a command without arguments, and without the flags for help and the version
abbrev pub bare_app : App
bare_app = record (new_app (codes "qrun")) {
  top = record (new_app (codes "qrun")).top {
    disable_help_flag = true;
    disable_version_flag = true;
  };
}

-- `qrun --query QUERY [--tables TABLES] [--threads N] [--chunk N] [--header]`
unfoldable pub qrun_app : App
qrun_app =
    with_rule (with_rule (with_rule (with_rule (with_rule bare_app
    (required_rule (codes "query")))
    (option_rule (codes "tables")))
    (option_rule (codes "threads")))
    (option_rule (codes "chunk")))
    (flag_rule (codes "header"))

-- the rows, where there is no cause to refuse them
abbrev pub rows_unless : Kinds → List Row → Option (List Row)
rows_unless [] rows = Some rows
rows_unless (k ∷ kinds) rows = None

-- what `clap` finds in the words behind the program's name, where it takes them
abbrev pub rows_given : List Text → Option (List Row)
rows_given words = rows_unless (fault_of qrun_app words) (matches_of qrun_app words)

abbrev pub is_memory_kind : ErrorKind → Bool
is_memory_kind kind.OutOfMemory = true
is_memory_kind _ = false

-- a flag that is given has the text `true`
abbrev pub is_true_text : Option Text → Bool
is_true_text None = false
is_true_text (Some text) = bytes_eq text (codes "true")

abbrev pub texts_with : List Row → Option Text → Option OptionTexts
texts_with rows None = None
texts_with rows (Some query) = Some (record {
  query = query;
  tables = first_of (codes "tables") rows;
  threads = first_of (codes "threads") rows;
  chunk = first_of (codes "chunk") rows;
  header = is_true_text (first_of (codes "header") rows);
})

-- the text of each option
abbrev pub texts_in : List Row → Option OptionTexts
texts_in rows = texts_with rows (first_of (codes "query") rows)

abbrev pub texts_if : Option (List Row) → Option OptionTexts
texts_if None = None
texts_if (Some rows) = texts_in rows

-- the texts of the options that the words give, where `clap` takes them with `qrun` in front
unfoldable pub options_of : List (List ℕ) → Option OptionTexts
options_of words = texts_if (rows_given (codes "qrun" ∷ words))
