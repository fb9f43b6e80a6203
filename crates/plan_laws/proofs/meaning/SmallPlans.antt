-- A plan whose tables name few paths is small.
use Rattle.plan_laws.proofs.Imports.{Bool, List, None, Some, [], ap, arith, length, refl, suc, sum_by, sym, ℕ, ◌∙◌, ◌∷◌, ◌≡◌, ◌≤◌, Checked, FewSources, IsSmall, PartsDecl, TableDecl, TableUse, kept_for, nat_tests, sum_by-cons, used_tables, path_count, crowded_decl, crowded, first_crowded, SourceReading, path_sources, part_sources, select_plan}

-- as many sources as paths
pub paths-length : (r : SourceReading) (k : ℕ) (paths : List (List ℕ))
    → length (path_sources r k paths) ≡ length paths
paths-length r k [] = refl
paths-length r k (path ∷ paths) = ap suc (paths-length r (suc k) paths)

-- a declaration that isn't crowded names few paths
pub few-paths : (decl : TableDecl) → crowded_decl (Some decl) ≡ None → path_count decl.parts ≤ 32
few-paths decl e = grind (arith, nat_tests)

paths-kept : (r : SourceReading) (k : ℕ) (paths : List (List ℕ))
    → sum_by kept_for (path_sources r k paths) ≡ 0
paths-kept r k [] = refl
paths-kept r k (path ∷ paths) = grind (arith, sum_by-cons, paths-kept r (suc k) paths)

few-parts : (r : SourceReading) (d : PartsDecl) → path_count d ≤ 32 → FewSources (part_sources r d)
few-parts r d few = grind (arith, paths-length, paths-kept)

-- where no used table names too many paths, neither that of FROM nor that of JOIN does
pub few-uses : (tables : List TableDecl) (u : TableUse) (us : List TableUse)
    → first_crowded tables (u ∷ us) ≡ None
    → (crowded tables u ≡ None) × (first_crowded tables us ≡ None)
few-uses tables u us e = grind arith

pub is-small : (q : Checked) (tables : List TableDecl) (lanes rows : ℕ) (header : Bool)
    → first_crowded tables (used_tables q) ≡ None → lanes ≤ 16
    → IsSmall (select_plan q tables lanes rows header)
is-small q tables lanes rows header few le = grind (arith, few-uses, few-parts, few-paths)

-- a small plan, by the tables as the code reads them
pub small-plan : (q : Checked) (tables read : List TableDecl) (lanes rows : ℕ) (header : Bool)
    → read ≡ tables → lanes ≤ 16 → first_crowded read (used_tables q) ≡ None
    → IsSmall (select_plan q tables lanes rows header)
small-plan q tables read lanes rows header e le few =
    is-small q tables lanes rows header
    (ap (λ t. first_crowded t (used_tables q)) (sym e) ∙ few) le
