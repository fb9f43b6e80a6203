-- Why a query is not planned.
use Rattle.std.specs.Prelude.{List, None, Option, Some, [], cond, length, nat_lt, slice_get, ℕ, ⊤, ◌∷◌, ◌≡◌}
use Rattle.plan_laws.specs.Prelude.{Checked, Declared, ListFile, Numbers, PartsDecl, Paths, TableDecl, TableUse, used_tables}
use Rattle.plan_laws.specs.declared.plan.PlanRefusal.{PlanRefusal}
use Rattle.plan_laws.specs.declared.plan.PlanRefusal.TheVariants.{TooManyParts, Memory}

-- a table's name, and how many paths it names
pub record NamedPaths : Type 0 where
  pub name : List ℕ
  pub count : ℕ

abbrev pub path_count : PartsDecl → ℕ
path_count (Paths paths) = length paths
path_count (ListFile path) = 0

abbrev pub crowded_decl : Option TableDecl → Option NamedPaths
crowded_decl None = None
crowded_decl (Some decl) = cond (nat_lt 32 (path_count decl.parts))
    (Some (record { name = decl.schema.name; count = path_count decl.parts })) None

-- a used table that names more than 32 paths
abbrev pub crowded : List TableDecl → TableUse → Option NamedPaths
crowded tables (Declared t) = crowded_decl (slice_get tables t)
crowded tables (Numbers n) = None

abbrev pub or_else : Option NamedPaths → Option NamedPaths → Option NamedPaths
or_else None other = other
or_else (Some table) other = Some table

-- the first of the used tables that names more than 32 paths
abbrev pub first_crowded : List TableDecl → List TableUse → Option NamedPaths
first_crowded tables [] = None
first_crowded tables (use' ∷ uses) = or_else (crowded tables use') (first_crowded tables uses)

-- the refusal names this table; want of memory is free
abbrev pub IsCrowdedTable : Option NamedPaths → PlanRefusal → Type 0
IsCrowdedTable table (TooManyParts name count) =
    table ≡ Some (record { name = name; count = count })
IsCrowdedTable table Memory = ⊤

-- the refusal is due: it names the first table that names more than 32 paths
abbrev pub IsDuePlanRefusal : Checked → List TableDecl → PlanRefusal → Type 0
IsDuePlanRefusal q tables = IsCrowdedTable (first_crowded tables (used_tables q))
