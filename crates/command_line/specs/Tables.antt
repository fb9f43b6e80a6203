-- The tables that `--tables` declares.
use Rattle.std.specs.Prelude.{ℕ, Bool, true, false, not, nat_le, ◌==◌, ◌&&◌, ◌||◌, if◌then◌else◌, List, [], ◌∷◌, length, map, bytes_eq, codes, Option, Some, None, option_map}
use Rattle.std.specs.List.{list_all, list_any, before_first, after_first}
use Rattle.chunk_data.specs.declared.typed_value.ColumnType.{ColumnType}
use Rattle.chunk_data.specs.declared.typed_value.ColumnType.TheVariants as column
use Rattle.query_model.specs.declared.query.ColumnDecl.{ColumnDecl}
use Rattle.query_model.specs.declared.query.PartsDecl.{PartsDecl}
use Rattle.query_model.specs.declared.query.TableDecl.{TableDecl}
use Rattle.query_model.specs.declared.query.PartsDecl.TheVariants.{Paths, ListFile}
use Rattle.sql_grammar.specs.Tokens.{is_name}
use Rattle.command_line.specs.Pieces.{pieces_of}

-- whether no name stands twice
abbrev pub are_distinct : List (List ℕ) → Bool
are_distinct [] = true
are_distinct (name ∷ names) = not (list_any (bytes_eq name) names) && are_distinct names

-- the types, spelled so
abbrev pub type_named : List ℕ → Option ColumnType
type_named text =
    if bytes_eq text (codes "Int64") then Some column.Int64
    else if bytes_eq text (codes "UInt64") then Some column.UInt64
    else if bytes_eq text (codes "String") then Some column.Text
    else if bytes_eq text (codes "Nullable(Int64)") then Some column.NullInt64
    else if bytes_eq text (codes "Nullable(UInt64)") then Some column.NullUInt64
    else if bytes_eq text (codes "Nullable(String)") then Some column.NullText
    else None

abbrev pub column_with : List ℕ → Option ColumnType → Option ColumnDecl
column_with name None = None
column_with name (Some kind) = if is_name name then Some (record { name = name; kind = kind })
    else None

-- a name, one space and a type
abbrev pub column_of : List ℕ → Option ColumnDecl
column_of text = column_with (before_first (λ b. b == 32) text)
    (type_named (after_first (λ b. b == 32) text))

module _ {X : Type 0} where
  -- at most so many, whose names differ
  abbrev pub few_named : (X → List ℕ) → ℕ → List X → Bool
  few_named name most xs = nat_le (length xs) most && are_distinct (map name xs)

  abbrev pub few_of : (X → List ℕ) → ℕ → Option (List X) → Option (List X)
  few_of name most None = None
  few_of name most (Some xs) = if few_named name most xs then Some xs else None

-- one to 64 entries that commas separate
abbrev pub columns_of : List ℕ → Option (List ColumnDecl)
columns_of text = few_of (λ c. c.name) 64 (pieces_of column_of 44 text)

-- a byte other than `+`, `:` and `;`
abbrev pub is_path_byte : ℕ → Bool
is_path_byte b = not ((b == 43) || (b == 58) || (b == 59))

-- one or more such bytes, of which the first isn't `@`
abbrev pub is_plain_path : List ℕ → Bool
is_plain_path [] = false
is_plain_path (b ∷ bytes) = not (b == 64) && list_all is_path_byte (b ∷ bytes)

abbrev pub path_of : List ℕ → Option (List ℕ)
path_of text = if is_plain_path text then Some text else None

-- `@` and the path of a list file, or paths that `+` separates
abbrev pub parts_spelled : List ℕ → Option PartsDecl
parts_spelled [] = None
parts_spelled (b ∷ bytes) =
    if b == 64 then option_map ListFile (path_of bytes) else option_map Paths
    (pieces_of path_of 43 (b ∷ bytes))

abbrev pub table_if : List ℕ → Option PartsDecl → Option (List ColumnDecl) → Option TableDecl
table_if name None columns = None
table_if name (Some parts) None = None
table_if name (Some parts) (Some columns) =
    Some (record { schema = record { name = name; columns = columns }; parts = parts })

abbrev pub table_with : List ℕ → Option PartsDecl → Option (List ColumnDecl) → Option TableDecl
table_with name parts columns = if is_name name then table_if name parts columns else None

-- `name=parts:columns`
abbrev pub table_of : List ℕ → Option TableDecl
table_of text =
    let behind = after_first (λ b. b == 61) text in
    table_with (before_first (λ b. b == 61) text)
    (parts_spelled (before_first (λ b. b == 58) behind))
    (columns_of (after_first (λ b. b == 58) behind))

-- one to eight declarations that `;` separates
abbrev pub tables_of : List ℕ → Option (List TableDecl)
tables_of text = few_of (λ t. t.schema.name) 8 (pieces_of table_of 59 text)
