-- The command of the program, and when it takes words.
use Rattle.clap.proofs.OnLiterals.{clap_on_literals}
use Rattle.clap.proofs.WalkLemmas.{first_value-rows}
use Rattle.clap.specs.Simple.{app_of_fields}
use Rattle.clap.specs.Words.{AddsArg, App, HasKind, IsAmong, Kinds, Row, Rule, Text, app_of, fault_of, first_of, first_value, found_of, is_simple, is_simple_and_free, kind_of, matches_of, new_app, rows_of, rule_of, with_rule}
use Rattle.clap.specs.declared.builder.arg.Arg.{Arg}
use Rattle.clap.specs.declared.builder.command.Command.{Command}
use Rattle.clap.specs.declared.builder.command.Command.TheOpen.{Command-F}
use Rattle.clap.specs.declared.builder.command.Command.TheViews.{out-Command as fields_of}
use Rattle.clap.specs.declared.error.Error.{Error}
use Rattle.clap.specs.declared.error.kind.ErrorKind.{ErrorKind}
use Rattle.clap.specs.declared.parser.matches.ArgMatches.{ArgMatches}
use Rattle.clap.specs.declared.parser.matches.Found.{Found}
use Rattle.command_options.specs.Options.{bare_app, is_memory_kind, options_of, qrun_app, rows_given, rows_unless, texts_if}
use Rattle.std.proofs.Common.{List, None, Option, Some, [], ap, ap₂, codes, false, inl, inr, map, option_map, refl, subst, sym, true, ◌∙◌, ◌∷◌, ◌≡◌}
use Rattle.std.specs.Borrow.{Bor}
use Rattle.clap.specs.declared.error.kind.ErrorKind.TheVariants as kind

simple : is_simple qrun_app ≡ true
unfolding qrun_app clap_on_literals
simple = refl

simple_and_free : is_simple_and_free qrun_app ≡ true
unfolding qrun_app clap_on_literals
simple_and_free = refl

-- a parse that succeeds finds what the words give
pub words_taken : (app : App) (words : List Text) (rows : List Row) → app ≡ qrun_app
    → (is_simple_and_free app ≡ true → fault_of app words ≡ [])
    → (is_simple app ≡ true → rows ≡ matches_of app words) → Some rows ≡ rows_given words
words_taken app words rows same kinds matches =
    let found = subst (λ a. is_simple a ≡ true → rows ≡ matches_of a words) same matches in
    let free = subst (λ a. is_simple_and_free a ≡ true → fault_of a words ≡ []) same kinds in
    ap Some (found simple)
    ∙ sym (ap (λ k. rows_unless k (matches_of qrun_app words)) (free simple_and_free))

among_some : (k : ErrorKind) (kinds : Kinds) (rows : List Row) → IsAmong k kinds
    → None ≡ rows_unless kinds rows
among_some k [] rows among = absurd among
among_some k (x ∷ xs) rows among = refl

memory_is_memory : (k : ErrorKind) → k ≡ kind.OutOfMemory → is_memory_kind k ≡ true
memory_is_memory k e = ap is_memory_kind e

-- a parse that fails for another cause than memory is of words that give nothing
pub words_refused : (app : App) (words : List Text) (e : Error) → app ≡ qrun_app
    → (is_simple_and_free app ≡ true → HasKind (fault_of app words) e)
    → is_memory_kind (kind_of e) ≡ false → None ≡ rows_given words
words_refused app words e same kinds other =
    let failed = subst (λ a. is_simple_and_free a ≡ true → HasKind (fault_of a words) e) same kinds
    simple_and_free in
    elim failed [
      | inl memory ↦ let bad : true ≡ false = sym (memory_is_memory (kind_of e) memory)
          ∙ other in absurd (cc)
      | inr among ↦ among_some (kind_of e) (fault_of qrun_app words) (matches_of qrun_app words)
          among
    ]

-- the text that a getter gives is the one in the rows
pub text_found : (f : Found) (id : Text) (o p : Option (Bor Text))
    → option_map (λ s. s.now) o ≡ first_value f id → o ≡ p
    → option_map (λ s. s.now) p ≡ first_of id (rows_of f)
text_found f id o p e is = sym (ap (option_map (λ s. s.now)) is) ∙ e ∙ first_value-rows f id

-- what the words give is what the parse found
pub options_found : (words : List Text) (texts slice : List (Bor Text)) (o p : Option ArgMatches)
    → map (λ t. t.now) texts ≡ codes "qrun" ∷ words → slice ≡ texts
    → option_map (λ m. rows_of (found_of m)) o ≡ rows_given (map (λ t. t.now) slice) → o ≡ p
    → texts_if (option_map (λ m. rows_of (found_of m)) p) ≡ options_of words
unfolding options_of
options_found words texts slice o p named same parsed is =
    ap texts_if (sym (ap (option_map (λ m. rows_of (found_of m))) is) ∙ parsed
    ∙ ap rows_given (ap (map (λ t. t.now)) same ∙ named))

abbrev flags_off : App → App
flags_off a = record a
    { top = record a.top { disable_help_flag = true; disable_version_flag = true } }

-- the command before its arguments are added
pub bare_command : (c d e : Command) → app_of c ≡ new_app (codes "qrun")
    → fields_of d ≡ record (fields_of c) { disable_help_flag = true }
    → fields_of e ≡ record (fields_of d) { disable_version_flag = true } → app_of e ≡ bare_app
bare_command c d e fresh help version =
    ap app_of_fields (version
    ∙ ap (λ (f : Command-F Command). record f { disable_version_flag = true }) help)
    ∙ ap flags_off fresh

-- the command with one argument more
pub argument_added : (old new : Command) (a : Arg) (app : App) (rule : Rule) → app_of old ≡ app
    → AddsArg old a new → a.global ≡ false → rule_of a ≡ rule → app_of new ≡ with_rule app rule
argument_added old new a app rule before adds local is = adds.shape local ∙ ap₂ with_rule before is
