-- How tables are written on the command line.
use Rattle.command_line.specs.Tables.{are_distinct, is_plain_path}
use Rattle.query_model.specs.Prelude.{All, ColumnType, join_with_byte}
use Rattle.query_model.specs.declared.query.ColumnDecl.{ColumnDecl}
use Rattle.query_model.specs.declared.query.PartsDecl.{PartsDecl}
use Rattle.query_model.specs.declared.query.PartsDecl.TheVariants.{ListFile, Paths}
use Rattle.query_model.specs.declared.query.TableDecl.{TableDecl}
use Rattle.sql_grammar.specs.Tokens.{is_name}
use Rattle.std.specs.Prelude.{List, codes, length, map, true, ℕ, ◌++◌, ◌∷◌, ◌≡◌, ◌≤◌}
use Rattle.chunk_data.specs.declared.typed_value.ColumnType.TheVariants as column

-- ---- as text

abbrev pub type_text : ColumnType → List ℕ
type_text column.Int64 = codes "Int64"
type_text column.UInt64 = codes "UInt64"
type_text column.Text = codes "String"
type_text column.NullInt64 = codes "Nullable(Int64)"
type_text column.NullUInt64 = codes "Nullable(UInt64)"
type_text column.NullText = codes "Nullable(String)"

-- a name, one space and a type
abbrev pub column_text : ColumnDecl → List ℕ
column_text c = c.name ++ (32 ∷ type_text c.kind)

-- `+` between paths, or `@` and the path of a list file
abbrev pub parts_text : PartsDecl → List ℕ
parts_text (Paths paths) = join_with_byte 43 paths
parts_text (ListFile path) = 64 ∷ path

-- `name=parts:columns`, with commas between columns
abbrev pub table_text : TableDecl → List ℕ
table_text t =
    t.schema.name ++ (61 ∷ (parts_text
    t.parts ++ (58 ∷ join_with_byte 44 (map column_text t.schema.columns))))

-- `;` between declarations
abbrev pub tables_text : List TableDecl → List ℕ
tables_text tables = join_with_byte 59 (map table_text tables)

-- ---- what may be declared

-- one to `most`, each of them good, whose names differ
pub record AreFew {X : Type 0} (Good : X → Type 0) (name : X → List ℕ) (most : ℕ)
    (xs : List X) : Type 0 where
  pub each : All Good xs
  pub some : 1 ≤ length xs
  pub few : length xs ≤ most
  pub distinct : are_distinct (map name xs) ≡ true

abbrev pub IsColumnDecl : ColumnDecl → Type 0
IsColumnDecl c = is_name c.name ≡ true

abbrev pub IsPath : List ℕ → Type 0
IsPath path = is_plain_path path ≡ true

abbrev pub AreParts : PartsDecl → Type 0
AreParts (Paths paths) = All IsPath paths × (1 ≤ length paths)
AreParts (ListFile path) = IsPath path

pub record IsTableDecl (t : TableDecl) : Type 0 where
  pub name : is_name t.schema.name ≡ true
  pub parts : AreParts t.parts
  pub columns : AreFew IsColumnDecl (λ c. c.name) 64 t.schema.columns

-- one to eight tables whose names differ, and the text is what they are written as
pub record Declares (text : List ℕ) (tables : List TableDecl) : Type 0 where
  pub are : AreFew IsTableDecl (λ t. t.schema.name) 8 tables
  pub written : tables_text tables ≡ text
