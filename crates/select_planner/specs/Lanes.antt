-- What each lane has a copy of.
use Rattle.query_model.specs.declared.processor_spec.Spec.{Spec}
use Rattle.query_model.specs.declared.processor_spec.Spec.TheVariants as spec
use Rattle.select_planner.specs.declared.lanes.LaneStep.{LaneStep}
use Rattle.select_planner.specs.declared.lanes.LaneStep.TheVariants as step

-- the spec of a step
abbrev pub lane_spec : LaneStep → Spec
lane_spec (step.Filter cond) = spec.Filter cond.now
lane_spec (step.Expression items) = spec.Expression items.now
lane_spec (step.PartialAggregate groups) = spec.PartialAggregate groups.now
lane_spec (step.Sort order) = spec.Sort order.now
