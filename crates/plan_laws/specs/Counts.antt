-- What the nodes of a plan count together, where each counts by its spec and how many ends it
-- takes.
use Rattle.std.specs.Prelude.{List, cond, sum_by, ℕ, ◌+◌}
use Rattle.plan_laws.specs.Prelude.{Kind, Spec, kind_of, row_of, same_kind}
use Rattle.plan_laws.specs.declared.nodes.DraftNode.{DraftNode}

-- what a node counts, by its spec and its number of inputs
abbrev pub Count : Type 0
Count = Spec → ℕ → ℕ

abbrev pub count_over : Count → List DraftNode → ℕ
count_over w nodes = sum_by (λ (n : DraftNode). w n.spec n.takes) nodes

-- a source for each of the parts that a list may name is kept for it
abbrev pub kept_for : Spec → ℕ
kept_for s = cond (row_of (kind_of s)).reads_list 32 0

-- 1 for each node, and 1 for each that is kept for it
abbrev pub each_kept : Count
each_kept s takes = 1 + kept_for s

-- 1 for each input
abbrev pub each_input : Count
each_input s takes = takes

-- 1 for each node of the kind
abbrev pub of_kind : Kind → Count
of_kind k s takes = cond (same_kind (kind_of s) k) 1 0

abbrev pub sources_count : Count → List Spec → ℕ
sources_count w specs = sum_by (λ s. w s 0) specs
