-- The parts that the sources of a used table read, and the lists that name them.
use Rattle.std.proofs.lemmas.Grind.{common_steps}
use Rattle.plan_laws.proofs.Imports.{Bool, IfSome, List, None, Option, Some, [], ap, arith, flat_map, part_source, refl, slice_get, suc, sym, true, ℕ, ◌++◌, ◌+◌, ◌∙◌, ◌∷◌, ◌≡◌, ◌⊎◌, All, All-append, All-cons, All-nil, AllByRecursion, CheckedJoin, Contains, Contains-append_left, Contains-append_right, Declared, Files, HasEnoughRows, IsCut, IsListUsed, IsValidPart, IsValidUsed, ListFile, Numbers, SourceRows, PartSpec, RowsOfSources, PartsDecl, Paths, PlanJoin, SourceReading, Row, SelectPlan, Span, Spec, TableDecl, TableUse, UsedPart, all_valid, and_parts, both_ways, column_types, declared_sources, file_bytes, join_of, join_use, join_valid, numbered_parts, part_paths, part_sources, part_spec, parts_declared, parts_used, path_sources, paths_in, plan_valid, read_valid, table_reading, table_sources, IsListDeclared, IsValidList, SourceHas, is_valid_list, part_of, sources_of_files, used_part}
use Rattle.plan_laws.proofs.meaning.KindLaws.{enough-some}

-- ---- the parts that are read

-- a part of a declared table, which is among the used parts and read as it is said
pub record IsPartOf (header : Bool) (tables : List TableDecl) (used : Files → List UsedPart)
    (part : PartSpec) : Type 0 where
  pub header_is : part.header ≡ header
  pub table : TableDecl
  pub declared : slice_get tables part.table ≡ Some table
  pub among : (files : Files) → Contains (used files) (used_part part)

-- the list of a declared table that is used; what is read of its parts is among the used parts
pub record IsListOf (header : Bool) (tables : List TableDecl) (uses : List TableUse)
    (used : Files → List UsedPart) (list : PartSpec) : Type 0 where
  pub header_is : list.header ≡ header
  pub part_is : list.part ≡ 0
  pub table : TableDecl
  pub declared : slice_get tables list.table ≡ Some table
  pub names_list : table.parts ≡ ListFile list.path
  pub is_used : Contains uses (Declared list.table)
  pub among : (files : Files) (p : UsedPart)
      → Contains (numbered_parts list.table list.types 1 (paths_in (file_bytes files list.path))) p
      → Contains (used files) p

-- what is among the first of a list is among all
pub in-front : {A : Type 0} (y : A) (xs ys : List A) → Contains xs y → Contains (xs ++ ys) y
in-front y xs ys m = Contains-append_left xs ys y m

module _ (header : Bool) (tables : List TableDecl) (rows : ℕ) (uses : List TableUse)
    (used : Files → List UsedPart) where
  abbrev pub ReadsUsed : Spec → Type 0
  ReadsUsed = SourceHas (IsPartOf header tables used) (IsListOf header tables uses used)

  path-parts : (r : SourceReading) (k : ℕ) (paths : List (List ℕ))
      → ((part : PartSpec) → part.header ≡ r.header → part.table ≡ r.table
      → Contains (numbered_parts r.table r.types k paths) (used_part part)
      → IsPartOf header tables used part)
      → AllByRecursion ReadsUsed (path_sources r k paths)
  path-parts r k [] h = tt
  path-parts r k (path ∷ paths) h =
      let next : suc k ≡ k + 1 = omega arith in (
        h (part_spec r k path) refl refl (0, omega arith, refl),
        path-parts r (suc k) paths (λ part a b m. h part a b
            (Contains-append_right (used_part (part_spec r k path) ∷ [])
            (numbered_parts r.table r.types (k + 1) paths) (used_part part)
            (rw next at m))),
      )

  declared-parts : (t : ℕ) (table : TableDecl) (d : PartsDecl) → slice_get tables t ≡ Some table
      → table.parts ≡ d → Contains uses (Declared t)
      → ((files : Files) (p : UsedPart)
      → Contains (numbered_parts t (column_types table.schema) 1 (part_paths files d)) p
      → Contains (used files) p)
      → AllByRecursion ReadsUsed (part_sources (table_reading header rows t table) d)
  declared-parts t table (Paths paths) is names use' among =
      path-parts (table_reading header rows t table) 1 paths
      (λ part a b m. record {
        header_is = a;
        table = table;
        declared = ap (slice_get tables) b ∙ is;
        among = λ files. among files (used_part part) m;
      })
  declared-parts t table (ListFile path) is names use' among = grind arith

  -- the sources of a used table read its parts
  pub table-parts : (u : TableUse) → Contains uses u
      → ((files : Files) (p : UsedPart) → Contains (parts_used files tables u) p
      → Contains (used files) p)
      → AllByRecursion ReadsUsed (table_sources tables header rows u)
  table-parts u use' among = grind (arith, declared-parts)

  -- and so do those of a joined table
  pub joined-parts : (from : TableUse) (j : Option CheckedJoin)
      → ((u : TableUse) → Contains (join_use j) u → Contains uses u)
      → ((files : Files) (p : UsedPart)
      → Contains (flat_map (parts_used files tables) (join_use j)) p
      → Contains (used files) p)
      → IfSome (join_of tables header rows from j)
      (λ (j : PlanJoin). AllByRecursion ReadsUsed j.sources)
  joined-parts from j use' among = grind (arith, common_steps, table-parts, in-front)

-- ---- valid parts

-- a part that gives all its rows is there and valid
part-valid : (r : SourceReading) (k : ℕ) (path : List ℕ) (files : Files)
    → (part_of files (part_spec r k path)).valid ≡ true
    → IsValidPart r.header r.types files path
part-valid r k path files e = grind (arith, both_ways)

paths-valid : (files : Files) (parts : RowsOfSources)
    → ((part : PartSpec) → parts (part_source part) ≡ part_of files part) → (r : SourceReading)
    (k : ℕ) (paths : List (List ℕ)) → all_valid parts (path_sources r k paths) ≡ true
    → All (IsValidUsed r.header files) (numbered_parts r.table r.types k paths)
paths-valid files parts same r k [] e = All-nil (IsValidUsed r.header files)
paths-valid files parts same r k (path ∷ paths) e =
    let both = and_parts _ _ e in
    let next : suc k ≡ k + 1 = omega arith in
    All-cons (IsValidUsed r.header files) _ (numbered_parts r.table r.types (k + 1) paths)
    (part-valid r k path files
    (sym (ap (λ (p : SourceRows). p.valid) (same (part_spec r k path))) ∙ both.0))
    (rw next at (paths-valid files parts same r (suc k) paths both.1))

-- a list that gives all its rows is there and valid, and so is each of its parts
pub record IsValidTable (tables : List TableDecl) (header : Bool) (files : Files) (u : TableUse)
    : Type 0 where
  pub parts : All (IsValidUsed header files) (parts_used files tables u)
  pub list : IsListUsed files tables u

list-valid : (files : Files) (path : List ℕ)
    → is_valid_list (file_bytes files path) ≡ true → IsValidList files (ListFile path)
list-valid files path e = grind (arith, both_ways)

-- where all sources of a used table are valid, its parts and its list are
pub table-valid : (tables : List TableDecl) (header : Bool) (rows : ℕ) (files : Files)
    (u : TableUse) → all_valid (sources_of_files files) (table_sources tables header rows u) ≡ true
    → IsValidTable tables header files u
table-valid tables header rows files (Numbers n) e = grind arith
table-valid tables header rows files (Declared t) e =
    let r = go (slice_get tables t) e in record { parts = r.0; list = r.1 }
  where
    of-parts : (r : SourceReading) (d : PartsDecl)
        → all_valid (sources_of_files files) (part_sources r d) ≡ true
        → All (IsValidUsed r.header files) (numbered_parts r.table r.types 1 (part_paths files d))
        × IsValidList files d
    of-parts r (Paths paths) e = search (arith, paths-valid)
    of-parts r (ListFile path) e =
        let both = and_parts _ _ (and_parts _ _ e).0 in (
          search (arith, paths-valid),
          list-valid files path both.0,
        )

    go : (o : Option TableDecl)
        → all_valid (sources_of_files files) (declared_sources header rows t o) ≡ true
        → All (IsValidUsed header files) (parts_declared files t o) × IsListDeclared files o
    go None e = (All-nil (IsValidUsed header files), tt)
    go (Some decl) e = of-parts (table_reading header rows t decl) decl.parts e

-- where all sources of a joined table are valid, its parts are
pub joined-valid : (tables : List TableDecl) (header : Bool) (rows : ℕ) (files : Files)
    (from : TableUse) (j : Option CheckedJoin)
    → join_valid (sources_of_files files) (join_of tables header rows from j) ≡ true
    → All (IsValidUsed header files) (flat_map (parts_used files tables) (join_use j))
    × All (IsListUsed files tables) (join_use j)
joined-valid tables header rows files from None e = grind arith
joined-valid tables header rows files from (Some j) e =
    let one = table-valid tables header rows files j.table e in (
      All-append (IsValidUsed header files) (parts_used files tables j.table) [] one.parts
          (All-nil (IsValidUsed header files)),
      All-cons (IsListUsed files tables) j.table [] one.list (All-nil (IsListUsed files tables)),
    )

-- where all that is read is valid, both tables are
pub both-valid : (parts : RowsOfSources) (sources : List Spec) (j : Option PlanJoin)
    → read_valid parts sources j ≡ true
    → (all_valid parts sources ≡ true) × (join_valid parts j ≡ true)
both-valid parts sources j e = grind (arith, and_parts)

-- ---- bad lists

-- a limit that has enough has a row
some-row : (limit : Option Span) (rows : List Row) → HasEnoughRows limit rows → rows ≡ [] → ⊥
some-row limit rows h e = grind (arith, enough-some)

-- A run that answered has all parts that must be valid, and found each of its lists valid: a bad
-- one has no row, so that no limit has enough.
pub lists-valid : (tables : List TableDecl) (header : Bool) (rows : ℕ) (files : Files)
    (from : TableUse) (j : Option CheckedJoin) (p : SelectPlan)
    → p.sources ≡ table_sources tables header rows from
    → p.join ≡ join_of tables header rows from j
    → (plan_valid (sources_of_files files) p ≡ true) ⊎ IsCut (sources_of_files files) p
    → All (IsListUsed files tables) (from ∷ join_use j)
lists-valid tables header rows files from j p sources join h =
    grind (arith, table-valid, joined-valid, both-valid, some-row)
