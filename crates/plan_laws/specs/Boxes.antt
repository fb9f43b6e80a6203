-- How many nodes are kept for growth.
use Rattle.std.specs.Prelude.{List, length, sum_by, ℕ}
use Rattle.plan_laws.specs.declared.plan.PlanReserve.{PlanReserve}

-- the nodes that are kept for nodes that grow
abbrev pub reserved_nodes : List PlanReserve → ℕ
reserved_nodes reserves = sum_by (λ (r : PlanReserve). length r.kinds) reserves
