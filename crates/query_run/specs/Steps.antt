-- What the steps of an answer give: the plan's graph, the text of what it gives, and why it fails.
use Rattle.std.specs.Prelude.{◌≡◌, ◌⊎◌, ℕ, ◌+◌, ◌++◌, ◌∷◌, Bool, List, [], flat_map, length, map, replicate, slice_get, slice_index_or, sum_by, Option, Some, None}
use Rattle.std.specs.List.{range_with_len}
use Rattle.query_run.specs.Prelude.{BoxPicture, Checked, Command, DraftNode, FileRead, GivesRows, GraphBegins, GraphForm, IsSoundPlan, Kind, LaysDown, NoFile, PartFile, PartName, PartPlace, PartsFile, Plan, PlanFailure, PlanFault, PlanGraph, PlanNode, PlanReserve, Reserve, RunsPlan, Spec, Table, TableDecl, answer_text, chunk_rows, file_read, kinds_taken, no_draft, no_spec, plan_nodes, plan_ranks, reserved_nodes, reserves_from, with_nodes}
use Rattle.query_run.specs.Racks.{kinds_reserved, plan_of}
use Rattle.plan_run.specs.declared.run.PlanFault.TheVariants as end
use Rattle.query_run.specs.declared.ending.PlanFailure.TheVariants as plan

-- ---- the plan

-- what a plan's nodes are loaded with, in order
abbrev pub node_specs : List PlanNode → List Spec
node_specs nodes = map (λ (n : PlanNode). n.spec) nodes

abbrev pub file_place : FileRead → PartPlace
file_place NoFile = record { table = 0; part = 0 }
file_place (PartFile part) = record { table = part.table; part = part.part }
file_place (PartsFile list) = record { table = list.table; part = list.part }

-- the part that a source reads, by the places of its table and of itself, 0 of a list; no other
-- kind reads one
abbrev pub part_place : Spec → PartPlace
part_place s = file_place (file_read (Some s))

abbrev pub name_of : Option TableDecl → List ℕ
name_of None = []
name_of (Some table) = table.schema.name

abbrev pub name_at : List TableDecl → Option PartPlace → PartName
name_at tables None = record { table = []; part = 0 }
name_at tables (Some place) = record {
  table = name_of (slice_get tables place.table);
  part = place.part;
}

abbrev pub spec_read : List Spec → ℕ → Spec
spec_read specs n = slice_index_or specs n no_spec

-- the parts of so many boxes that are kept for the list of a table, from part k on
abbrev pub kept_places : (table k count : ℕ) → List PartPlace
kept_places table k count =
    map (λ part. record { table = table; part = part }) (range_with_len k count)

-- The parts that the nodes of a plan read, and those that are kept for lists: the box at place P of
-- a list's reserve, from 1, serves its part P.
abbrev pub places_in : List Spec → List PlanReserve → List PartPlace
places_in specs reserves = map part_place specs ++ flat_map
    (λ (r : PlanReserve). kept_places (part_place (spec_read specs r.node)).table 1
    (length r.kinds)) reserves

-- the edges that are kept for nodes that grow
abbrev pub edges_kept : List PlanReserve → ℕ
edges_kept reserves = sum_by (λ (r : PlanReserve). r.edges) reserves

-- the reserves with their nodes and edges numbered behind so many
abbrev pub reserves_behind : (nodes edges : ℕ) → List PlanReserve → List Reserve
reserves_behind nodes edges [] = []
reserves_behind nodes edges (r ∷ reserves) = record {
  node = r.node;
  first_node = nodes;
  nodes = length r.kinds;
  first_edge = edges;
  edges = r.edges;
} ∷ reserves_behind (nodes + length r.kinds) (edges + r.edges) reserves

-- the graph of these nodes, with what is kept for them
abbrev pub formed : List DraftNode → GraphForm
formed nodes = record {
  ranks = map (λ (n : DraftNode). n.rank) nodes
      ++ replicate (reserved_nodes (reserves_from 0 nodes)) 0;
  wires = (with_nodes nodes no_draft).wires;
  reserves = reserves_behind (length nodes) (length (with_nodes nodes no_draft).wires)
      (reserves_from 0 nodes);
}

-- the plan is that of the query
pub record IsPlanned (c : Command) (q : Checked) (p : Plan) : Type 0 where
  pub laid : LaysDown (plan_nodes (plan_of c q)) p
  pub sound : IsSoundPlan q c.tables c.threads p

-- the graph of a plan: its nodes and edges, and what it keeps
pub record IsGraphOf (p : Plan) (g : PlanGraph) : Type 0 where
  pub specs_are : g.specs.items ≡ node_specs p.nodes
  pub ranks_are : g.form.ranks ≡ plan_ranks p ++ replicate (length (kinds_reserved p.reserves)) 0
  pub wires_are : g.form.wires ≡ p.edges
  pub kept_are : g.kept ≡ kinds_reserved p.reserves
  pub reserves_are : g.form.reserves
      ≡ reserves_behind (length p.nodes) (length p.edges) p.reserves

-- ---- what it gives

-- a run of these specs over this graph gave chunks, and this is the text of their rows
pub record GivesText (header : Bool) (names : List (List ℕ)) (specs : List Spec) (kept : List Kind)
    (form : GraphForm) (before after : List BoxPicture) (text : List ℕ) : Type 0 where
  pub chunks : List Table
  pub gives : GraphBegins form (kinds_taken specs kept)
      (GivesRows (RunsPlan specs kept before after) (length specs) chunks)
  pub is : text ≡ answer_text header names (chunk_rows chunks)

-- ---- why it gives nothing

-- why a plan gave nothing, where these are the names of the parts that its nodes read
abbrev pub failure_of : PlanFault → (ℕ → PartName) → PlanFailure
failure_of (end.Fault node f) names = plan.Part (names node) f
failure_of (end.Stuck k) names = plan.Unlawful k
failure_of (end.BadGrowth k) names = plan.Unlawful k
failure_of end.Memory names = plan.Memory

-- the failure, or want of memory
abbrev pub Tells : PlanFailure → PlanFailure → Type 0
Tells told due = (told ≡ due) ⊎ (told ≡ plan.Memory)
