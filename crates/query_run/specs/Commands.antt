-- What a command's text means: its checked query, or why it is refused.
use Rattle.std.specs.Prelude.{◌≡◌, ℕ, List, map, Some, None}
use Rattle.query_run.specs.Prelude.{Checked, Command, IsChecked, IsDueRefusal, IsReadFrom, IsRefused, IsTypedQuery, Query, Refusal, Refused, Schema, TableDecl, TableUse, command_of, from_types, query_tables, query_tree, refusal_of, use_of}
use Rattle.query_run.specs.declared.ending.Refused.TheVariants as refused

abbrev pub schemas_of : Command → List Schema
schemas_of command = map (λ (t : TableDecl). t.schema) command.tables

-- the words mean a command of which this is true
pub record OfCommand (words : List (List ℕ)) (P : Command → Type 0) : Type 0 where
  pub command : Command
  pub means : command_of words ≡ Some command
  pub holds : P command

-- the tables that a query uses
abbrev pub tables_used : Query → Command → List TableUse
tables_used q command = map (use_of (schemas_of command)) (query_tables (query_tree q))

-- a query is read from the command's text, and no condition refuses it
pub record IsAccepted (command : Command) : Type 0 where
  pub query : Query
  pub read : IsReadFrom query command.query
  pub accepted : refusal_of query (schemas_of command) ≡ None

-- a query is read from the command's text, not refused, and checked so
pub record IsCheckedCommand (command : Command) (checked : Checked) : Type 0 where
  pub accepted : IsAccepted command
  pub is : IsChecked accepted.query (schemas_of command) checked
  pub typed : IsTypedQuery (from_types accepted.query (schemas_of command)) checked

-- the command has a checked query, and this is true of it
pub record OfChecked (command : Command) (P : Checked → Type 0) : Type 0 where
  pub checked : Checked
  pub is : IsCheckedCommand command checked
  pub holds : P checked

-- the same of what words mean
abbrev pub OfQuery : List (List ℕ) → (Command → Checked → Type 0) → Type 0
OfQuery words P = OfCommand words (λ c. OfChecked c (P c))

-- a query is read from the command's text, and the refusal is the one that is due of it
pub record IsRefusedQuery (command : Command) (refusal : Refusal) : Type 0 where
  pub query : Query
  pub read : IsReadFrom query command.query
  pub due : IsDueRefusal query (schemas_of command) refusal

-- why a command has no checked query; want of memory is free
abbrev pub IsRefusedFor : Refused → Command → Type 0
IsRefusedFor (refused.Text refusal) command = IsRefused refusal command.query
IsRefusedFor (refused.Query refusal) command = IsRefusedQuery command refusal
