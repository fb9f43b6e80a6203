-- A filter makes of its chunks the rows at which its condition is true.
use Rattle.flow_procs.proofs.Imports.{Bool, Cond, IsTypedCond, List, Row, Some, Table, Takes, [], ap, cond, filter, filter_maker, holds, idle_own, kept, map, refl, takes-each, ℕ, ◌∙◌, ◌∷◌, ◌≡◌}
use Rattle.query_model.specs.declared.processor_spec.Spec.TheVariants as spec

-- rows kept by the mask of a condition are those at which it is true
kept-filter : (c : Cond) (rows : List Row)
    → kept (map (holds c) rows) rows ≡ filter (holds c) rows
kept-filter c [] = refl
kept-filter c (row ∷ rows) = ap (λ l. cond (holds c row) (row ∷ l) l) (kept-filter c rows)

pub takes : (c : Cond) (i : ℕ) (t u : Table) (mask : List Bool) → i ≡ 0 → IsTypedCond t.types c
    → mask ≡ map (holds c) t.rows → u.types ≡ t.types → u.rows ≡ kept mask t.rows
    → Takes (spec.Filter c) idle_own i t idle_own (Some u)
takes c i t u mask z typed m types rows =
    takes-each (spec.Filter c) (filter (holds c)) (filter_maker c) idle_own i t (Some u) z typed
    (rows ∙ ap (λ l. kept l t.rows) m ∙ kept-filter c t.rows)
    (λ ins pulled. record { pulled = rw types pulled; fits = rw types typed }) tt
