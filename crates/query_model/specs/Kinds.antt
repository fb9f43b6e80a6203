-- The kind of processor that a spec is for.
use Rattle.query_model.specs.Prelude.{Kind, Spec}
use Rattle.query_model.specs.declared.processor_spec.Kind.TheVariants as kind
use Rattle.query_model.specs.declared.processor_spec.Spec.TheVariants as spec

abbrev pub kind_of : Spec → Kind
kind_of (spec.Csv part) = kind.Csv
kind_of (spec.List part) = kind.List
kind_of (spec.Numbers n rows) = kind.Numbers
kind_of (spec.Filter c) = kind.Filter
kind_of (spec.Expression items) = kind.Expression
kind_of spec.Resize = kind.Resize
kind_of (spec.PartialAggregate groups) = kind.PartialAggregate
kind_of (spec.MergeAggregate groups) = kind.MergeAggregate
kind_of (spec.HashJoin join) = kind.HashJoin
kind_of (spec.Sort order) = kind.Sort
kind_of (spec.MergeSorted order) = kind.MergeSorted
kind_of (spec.Limit span) = kind.Limit
kind_of spec.Collect = kind.Collect
