-- The names from outside that this crate's proofs use, in one place.
pub use Rattle.plan_laws.proofs.Imports.{AggCall, Bool, Checked, ColumnDecl, Declared, Expr, IsSmall, Kind, List, None, PartSpec, PartsDecl, Paths, SourceReading, Spec, TableDecl, TableUse, [], append-nil, append_assoc, arith, boxes_reserved, boxes_taken, call_arguments, column_items, count_by-le-length, first_crowded, forms, formula, get_or, kept_at, lane_nodes, length, length-take-le, map, map-append, nodes_behind, part_source, part_sources, part_spec, path_sources, plan_nodes, refl, reserved_nodes, reserves_from, select_plan, slice_get, source_nodes, spec_form, state_call, suc, sum_by, table_reading, table_sources, take, take_more, used_tables, zero, ℕ, ◌*◌, ◌++◌, ◌+◌, ◌<◌, ◌∙◌, ◌∷◌, ◌≡◌, ◌≤◌}
pub use Rattle.plan_laws.proofs.meaning.BoxCounts.{reserved-le}
pub use Rattle.plan_laws.proofs.meaning.PlanGraphs.{plan-graph}
pub use Rattle.plan_laws.proofs.meaning.SmallPlans.{paths-length, small-plan}
pub use Rattle.plan_laws.specs.Queries.{with_argument}
pub use Rattle.plan_laws.specs.declared.nodes.DraftNode.{DraftNode}
pub use Rattle.plan_laws.specs.declared.plan.PlanNode.{PlanNode}
pub use Rattle.plan_laws.specs.declared.plan.PlanReserve.{PlanReserve}
pub use Rattle.std.proofs.lemmas.List.Sums.{sum_by-take-le, sum_by_more}
pub use Rattle.std.proofs.lemmas.Option.{slice_get_past}
