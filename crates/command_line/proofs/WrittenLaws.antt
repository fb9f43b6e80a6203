-- Tables are read from exactly what they are written as.
use Rattle.command_line.proofs.Imports.{All, All-head, All-map, All-weaker, AreFew, AreParts, Bool, ColumnDecl, ColumnType, Declares, IsColumnDecl, IsPath, IsTableDecl, List, ListFile, None, Option, PartsDecl, Paths, Some, TableDecl, [], after_first, all_read, ap, ap₂, arith, before_first, bytes_eq, bytes_eq-Decides, column_of, column_text, column_with, columns_of, eqb-true, false, if◌then◌else◌, is_name, is_plain_path, is_path_byte, is_word_byte, join_with_byte, length, list_all, map, not, option_map, parts_spelled, parts_text, path_of, pieces_of, refl, subst, sym, table_if, table_of, table_text, table_with, tables_of, true, type_named, type_text, ℕ, ◌&&◌, ◌++◌, ◌==◌, ◌∙◌, ◌∷◌, ◌≡◌, ◌≤◌, none-some, same_Some, cond_some, and_parts, not-true, map-id, append-nil, begins_with_letter, or_parts, ◌||◌}
use Rattle.chunk_data.specs.declared.typed_value.ColumnType.TheVariants as column
use Rattle.command_line.proofs.Cuts.{Lacks, after_at, before_at, cut_at, lacks_both, lacks_by, lacks_joined, lacks_more}
use Rattle.command_line.proofs.Readings.{few_whole, few_written, mapped_is_some, pieces_whole, pieces_written}

-- ---- names

name_lacks : (s : ℕ) (name : List ℕ) → is_word_byte s ≡ false → is_name name ≡ true → Lacks s name
unfolding is_name
name_lacks s name f e = lacks_by is_word_byte s name f
    (and_parts (begins_with_letter name) (list_all is_word_byte name)
    (and_parts (begins_with_letter name && list_all is_word_byte name) _ e).0).1

-- ---- columns

module _ (text : List ℕ) (kind : ColumnType) where
  named_by : (k : ColumnType) (more : Option ColumnType)
      → (more ≡ Some kind → type_text kind ≡ text)
      → (if bytes_eq text (type_text k) then Some k else more) ≡ Some kind → type_text kind ≡ text
  named_by k more others e = go (bytes_eq text (type_text k))
      (bytes_eq-Decides text (type_text k)).0 e
    where
      go : (b : Bool) → (b ≡ true → text ≡ type_text k) → (if b then Some k else more) ≡ Some kind
          → type_text kind ≡ text
      go true is e = ap type_text (sym (same_Some k kind e)) ∙ sym (is refl)
      go false is e = others e

  type_read : type_named text ≡ Some kind → type_text kind ≡ text
  type_read = named_by column.Int64 _ (named_by column.UInt64 _
      (named_by column.Text _ (named_by column.NullInt64 _ (named_by column.NullUInt64 _
      (named_by column.NullText None (λ e. absurd (none-some kind e)))))))

type_whole : (kind : ColumnType) → type_named (type_text kind) ≡ Some kind
type_whole column.Int64 = refl
type_whole column.UInt64 = refl
type_whole column.Text = refl
type_whole column.NullInt64 = refl
type_whole column.NullUInt64 = refl
type_whole column.NullText = refl

-- a byte of a word or a parenthesis
abbrev is_type_byte : ℕ → Bool
is_type_byte b = is_word_byte b || ((b == 40) || (b == 41))

type_lacks : (s : ℕ) (kind : ColumnType) → is_type_byte s ≡ false → Lacks s (type_text kind)
type_lacks s column.Int64 f = lacks_by is_type_byte s (type_text column.Int64) f refl
type_lacks s column.UInt64 f = lacks_by is_type_byte s (type_text column.UInt64) f refl
type_lacks s column.Text f = lacks_by is_type_byte s (type_text column.Text) f refl
type_lacks s column.NullInt64 f = lacks_by is_type_byte s (type_text column.NullInt64) f refl
type_lacks s column.NullUInt64 f = lacks_by is_type_byte s (type_text column.NullUInt64) f refl
type_lacks s column.NullText f = lacks_by is_type_byte s (type_text column.NullText) f refl

column_read : (text : List ℕ) (c : ColumnDecl) → column_of text ≡ Some c
    → IsColumnDecl c × (column_text c ≡ text)
column_read text c e = go (type_named (after_first (λ b. b == 32) text)) refl e
  where
    name : List ℕ
    name = before_first (λ b. b == 32) text

    go : (o : Option ColumnType) → type_named (after_first (λ b. b == 32) text) ≡ o
        → column_with name o ≡ Some c → IsColumnDecl c × (column_text c ≡ text)
    go None is e = absurd (none-some c e)
    go (Some kind) is e =
        let made = cond_some (is_name name) (record { name = name; kind = kind }) c e in (
          subst IsColumnDecl made.1 made.0,
          ap column_text (sym made.1)
              ∙ ap (λ t. name ++ (32 ∷ t)) (type_read (after_first (λ b. b == 32) text) kind is)
              ∙ cut_at 32 text (λ none. none-some kind (sym (ap type_named none) ∙ is)),
        )

column_whole : (c : ColumnDecl) → IsColumnDecl c → column_of (column_text c) ≡ Some c
column_whole c good =
    let lacks = name_lacks 32 c.name refl good in
    ap₂ (λ n t. column_with n (type_named t)) (before_at 32 c.name (type_text c.kind) lacks)
    (after_at 32 c.name (type_text c.kind) lacks)
    ∙ ap (column_with c.name) (type_whole c.kind)
    ∙ ap (λ (b : Bool). if b then Some c else None) good

column_lacks : (s : ℕ) → is_type_byte s ≡ false → (32 == s) ≡ false → (c : ColumnDecl)
    → IsColumnDecl c → Lacks s (column_text c)
column_lacks s byte space c good =
    let word : is_word_byte s ≡ false = (or_parts (is_word_byte s) _ byte).0 in
    lacks_both s c.name (32 ∷ type_text c.kind) (name_lacks s c.name word good)
    (lacks_more s 32 (type_text c.kind) space (type_lacks s c.kind byte))

-- ---- parts

path_read : (text path : List ℕ) → path_of text ≡ Some path → IsPath path × (path ≡ text)
path_read text path e =
    let made = cond_some (is_plain_path text) text path e in
    (subst IsPath made.1 made.0, sym made.1)

path_whole : (path : List ℕ) → IsPath path → path_of path ≡ Some path
path_whole path good = ap (λ (b : Bool). if b then Some path else None) good

path_lacks : (s : ℕ) → is_path_byte s ≡ false → (path : List ℕ) → IsPath path → Lacks s path
path_lacks s f [] good = absurd cc
path_lacks s f (b ∷ bytes) good = lacks_by is_path_byte s (b ∷ bytes) f
    (and_parts (not (b == 64)) (list_all is_path_byte (b ∷ bytes)) good).1

-- the text doesn't begin with `@`
abbrev begins_plain : List ℕ → Bool
begins_plain [] = false
begins_plain (b ∷ bytes) = not (b == 64)

path_begins : (path more : List ℕ) → IsPath path → begins_plain (path ++ more) ≡ true
path_begins [] more good = absurd cc
path_begins (b ∷ bytes) more good =
    (and_parts (not (b == 64)) (list_all is_path_byte (b ∷ bytes)) good).0

paths_begin : (paths : List (List ℕ)) → All IsPath paths → 1 ≤ length paths
    → begins_plain (join_with_byte 43 paths) ≡ true
paths_begin [] h some = absurd (omega (arith, some))
paths_begin (path ∷ []) h some =
    rw append-nil at (path_begins path [] (All-head IsPath path [] h))
paths_begin (path ∷ next ∷ more) h some = path_begins path (43 ∷ join_with_byte 43 (next ∷ more))
    (All-head IsPath path (next ∷ more) h)

plain_parts : (text : List ℕ) → begins_plain text ≡ true
    → parts_spelled text ≡ option_map Paths (pieces_of path_of 43 text)
plain_parts [] e = absurd cc
plain_parts (b ∷ bytes) e =
    ap (λ (a : Bool). if a then option_map ListFile (path_of bytes) else option_map Paths
    (pieces_of path_of 43 (b ∷ bytes))) (not-true (b == 64) e)

parts_read : (text : List ℕ) (parts : PartsDecl) → parts_spelled text ≡ Some parts
    → AreParts parts × (parts_text parts ≡ text)
parts_read [] parts e = absurd (none-some parts e)
parts_read (b ∷ bytes) parts e = go (b == 64) refl e
  where
    go : (a : Bool) → (b == 64) ≡ a
        → (if a then option_map ListFile (path_of bytes) else option_map Paths
        (pieces_of path_of 43 (b ∷ bytes))) ≡ Some parts
        → AreParts parts × (parts_text parts ≡ b ∷ bytes)
    go true is e =
        let m = mapped_is_some ListFile (path_of bytes) parts e in
        let path = path_read bytes m.of m.some in (
          subst AreParts m.is path.0,
          ap parts_text (sym m.is) ∙ ap (λ t. 64 ∷ t) path.1
              ∙ ap (λ c. c ∷ bytes) (sym (eqb-true b 64 is)),
        )
    go false is e =
        let m = mapped_is_some Paths (pieces_of path_of 43 (b ∷ bytes)) parts e in
        let paths = pieces_written path_of (λ p. p) IsPath path_read 43 (b ∷ bytes) m.of m.some in (
          subst AreParts m.is (paths.0, paths.1),
          ap parts_text (sym m.is)
              ∙ ap (join_with_byte 43) (sym (map-id m.of)) ∙ paths.2,
        )

parts_whole : (parts : PartsDecl) → AreParts parts → parts_spelled (parts_text parts) ≡ Some parts
parts_whole (Paths paths) good =
    plain_parts (join_with_byte 43 paths) (paths_begin paths good.0 good.1)
    ∙ ap (option_map Paths) (ap (λ ps. pieces_of path_of 43 (join_with_byte 43 ps))
    (sym (map-id paths))
    ∙ pieces_whole path_of (λ p. p) IsPath path_whole 43 paths (path_lacks 43 refl) good.0 good.1)
parts_whole (ListFile path) good = ap (option_map ListFile) (path_whole path good)

parts_lack : (s : ℕ) → is_path_byte s ≡ false → (43 == s) ≡ false → (64 == s) ≡ false
    → (parts : PartsDecl) → AreParts parts → Lacks s (parts_text parts)
parts_lack s f plus at (Paths paths) good = lacks_joined s 43 paths plus
    (All-weaker IsPath (Lacks s) (path_lacks s f) paths good.0)
parts_lack s f plus at (ListFile path) good = lacks_more s 64 path at (path_lacks s f path good)

-- ---- tables

columns_lack : (s : ℕ) → is_type_byte s ≡ false → (32 == s) ≡ false → (44 == s) ≡ false
    → (columns : List ColumnDecl) → All IsColumnDecl columns
    → Lacks s (join_with_byte 44 (map column_text columns))
columns_lack s byte space comma columns h =
    lacks_joined s 44 (map column_text columns) comma
    (All-map (Lacks s) column_text columns (All-weaker IsColumnDecl (λ c. Lacks s (column_text c))
    (column_lacks s byte space) columns h))

abbrev columns_text : List ColumnDecl → List ℕ
columns_text columns = join_with_byte 44 (map column_text columns)

columns_read : (text : List ℕ) (columns : List ColumnDecl) → columns_of text ≡ Some columns
    → AreFew IsColumnDecl (λ c. c.name) 64 columns × (columns_text columns ≡ text)
columns_read = few_written column_of column_text IsColumnDecl column_read (λ c. c.name) 64 44

columns_whole : (columns : List ColumnDecl) → AreFew IsColumnDecl (λ c. c.name) 64 columns
    → columns_of (columns_text columns) ≡ Some columns
columns_whole columns h =
    few_whole column_of column_text IsColumnDecl column_whole (λ c. c.name) 64 44
    columns (column_lacks 44 refl refl) h

no_columns : (columns : List ColumnDecl) → columns_of [] ≡ Some columns → ⊥
unfolding all_read
no_columns columns e = none-some columns e

table_read : (text : List ℕ) (t : TableDecl) → table_of text ≡ Some t
    → IsTableDecl t × (table_text t ≡ text)
table_read text t e = go (is_name name) (parts_spelled parts) (columns_of columns) refl refl refl e
  where
    name : List ℕ
    name = before_first (λ b. b == 61) text

    behind : List ℕ
    behind = after_first (λ b. b == 61) text

    parts : List ℕ
    parts = before_first (λ b. b == 58) behind

    columns : List ℕ
    columns = after_first (λ b. b == 58) behind

    go : (good : Bool) (p : Option PartsDecl) (c : Option (List ColumnDecl)) → is_name name ≡ good
        → parts_spelled parts ≡ p → columns_of columns ≡ c
        → (if good then table_if name p c else None) ≡ Some t → IsTableDecl t
        × (table_text t ≡ text)
    go false p c named has_parts has_columns e = absurd (none-some t e)
    go true None c named has_parts has_columns e = absurd (none-some t e)
    go true (Some ps) None named has_parts has_columns e = absurd (none-some t e)
    go true (Some ps) (Some cs) named has_parts has_columns e =
        let made : TableDecl = record { schema = record { name = name; columns = cs }; parts = ps }
        in
        let same : made ≡ t = same_Some made t e in
        let first = parts_read parts ps has_parts in
        let second = columns_read columns cs has_columns in
        let cut = cut_at 58 behind (λ none. no_columns cs (sym (ap columns_of none) ∙ has_columns))
        in (
          subst IsTableDecl same (record { name = named; parts = first.0; columns = second.0 }),
          ap table_text (sym same)
              ∙ ap₂ (λ ps cs. name ++ (61 ∷ (ps ++ (58 ∷ cs)))) first.1 second.1
              ∙ ap (λ rest. name ++ (61 ∷ rest)) cut
              ∙ cut_at 61 text (λ none. none-some ps
              (sym (ap (λ rest. parts_spelled (before_first (λ b. b == 58) rest)) none)
              ∙ has_parts)),
        )

table_whole : (t : TableDecl) → IsTableDecl t → table_of (table_text t) ≡ Some t
table_whole t good =
    let columns = columns_text t.schema.columns in
    let behind = parts_text t.parts ++ (58 ∷ columns) in
    let named = name_lacks 61 t.schema.name refl good.name in
    let plain = parts_lack 58 refl refl refl t.parts good.parts in
    ap₂ (λ name rest. table_with name (parts_spelled (before_first (λ b. b == 58) rest))
    (columns_of (after_first (λ b. b == 58) rest)))
    (before_at 61 t.schema.name behind named) (after_at 61 t.schema.name behind named)
    ∙ ap₂ (λ ps cs. table_with t.schema.name (parts_spelled ps) (columns_of cs))
    (before_at 58 (parts_text t.parts) columns plain)
    (after_at 58 (parts_text t.parts) columns plain)
    ∙ ap₂ (table_with t.schema.name) (parts_whole t.parts good.parts)
    (columns_whole t.schema.columns good.columns)
    ∙ ap (λ (b : Bool). if b then Some t else None) good.name

table_lacks : (t : TableDecl) → IsTableDecl t → Lacks 59 (table_text t)
table_lacks t good =
    let columns = columns_text t.schema.columns in
    lacks_both 59 t.schema.name (61 ∷ (parts_text t.parts ++ (58 ∷ columns)))
    (name_lacks 59 t.schema.name refl good.name)
    (lacks_more 59 61 (parts_text t.parts ++ (58 ∷ columns)) refl
    (lacks_both 59 (parts_text t.parts) (58 ∷ columns)
    (parts_lack 59 refl refl refl t.parts good.parts)
    (lacks_more 59 58 columns refl (columns_lack 59 refl refl refl t.schema.columns
    good.columns.each))))

-- what is read is declared
pub tables_declared : (text : List ℕ) (tables : List TableDecl) → tables_of text ≡ Some tables
    → Declares text tables
tables_declared text tables e =
    let few = few_written table_of table_text IsTableDecl table_read (λ t. t.schema.name) 8 59 text
    tables e in
    record { are = few.0; written = few.1 }

-- what is declared is read
pub declared_read : (text : List ℕ) (tables : List TableDecl) → Declares text tables
    → tables_of text ≡ Some tables
declared_read text tables d =
    ap tables_of (sym d.written)
    ∙ few_whole table_of table_text IsTableDecl table_whole (λ t. t.schema.name) 8 59 tables
    table_lacks d.are
