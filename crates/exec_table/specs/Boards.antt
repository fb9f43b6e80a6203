-- The whole state of a table as plain data: a state of the core, and beside it the chunks that it
-- names by numbers, where they lie, and how far each node is.
use Rattle.std.specs.Prelude.{◌≡◌, ℕ, ◌||◌, ◌&&◌, cond, Bool, true, false, is_some, is_none, List, [], ◌∷◌, ◌++◌, map, length, Option, Some, None, slice_index_or, slice_set}
use Rattle.std.specs.List.{range_with_len}
use mathlib.Core.Option as maybe
use Rattle.core_laws.specs.declared.types.Step.TheVariants as step
use Rattle.exec_table.specs.Words.{edge_count}
pub use Rattle.exec_table.specs.declared.types.EdgeEnd.{EdgeEnd}
pub use Rattle.exec_table.specs.declared.types.NodeView.{NodeView}
pub use Rattle.exec_table.specs.declared.types.View.{View}
pub use Rattle.exec_table.specs.declared.types.Stage.{Stage}
pub use Rattle.exec_table.specs.declared.types.Stage.TheVariants.{Unborn, Born, Begun, Over}
use Rattle.exec_table.specs.CoreNames.{CoreState, NodeState, PortState, Sizes, Step, Wire, node_at, port_at, is_end, knows, is_set, is_unborn, is_over, after, has_output_edge, Laws, Chunk}

-- an edge: the chunks pushed and pulled so far, the one that is between, and whether the slot is
-- out with a seat
pub record Lane : Type 0 where
  pub pushed : List Chunk
  pub pulled : List Chunk
  pub content : Option Chunk
  pub taken : Bool

pub record Board : Type 0 where
  pub core : CoreState
  pub lanes : List Lane
  pub stages : List Stage

abbrev pub no_lane : Lane
no_lane = record { pushed = []; pulled = []; content = None; taken = false }

abbrev pub lane_at : Board → ℕ → Lane
lane_at b e = slice_index_or b.lanes e no_lane

abbrev pub stage_at : Board → ℕ → Stage
stage_at b n = slice_index_or b.stages n Begun

abbrev pub chunks_in : Option Chunk → List Chunk
chunks_in None = []
chunks_in (Some x) = x ∷ []

-- ---- what a node's seat knows

abbrev pub no_end : EdgeEnd
no_end = record { wire = None; chunks = []; turn = None }

-- the content goes to the end that may take it: a chunk to the consumer, none to the producer
abbrev pub fits_end : Bool → Option Chunk → Bool
fits_end true x = is_some x
fits_end false x = is_none x

abbrev pub chunks_at : Bool → Lane → List Chunk
chunks_at true l = l.pulled
chunks_at false l = l.pushed

abbrev pub turn_at : Bool → Lane → Option (Option Chunk)
turn_at b l = cond (l.taken && fits_end b l.content) (Some l.content) None

abbrev pub end_at : Bool → Option Wire → Lane → EdgeEnd
end_at b w l = record { wire = w; chunks = chunks_at b l; turn = turn_at b l }

-- what the node n knows of an edge, which it has learned or not
abbrev pub end_for : ℕ → Bool → Option Wire → Lane → EdgeEnd
end_for n known w l = cond (is_end true n w) (end_at true (cond known w None) l)
    (cond (is_end false n w) (end_at false (cond known w None) l) no_end)

abbrev pub end_view : Board → ℕ → ℕ → EdgeEnd
end_view b n e = end_for n (knows e (node_at b.core n).seen) (port_at b.core e).wire (lane_at b e)

abbrev pub node_view : Board → ℕ → NodeView
node_view b n = record {
  sizes = b.core.sizes;
  number = n;
  state = record (node_at b.core n) { word = 0 };
  stage = stage_at b n;
  ends = map (end_view b n) (range_with_len 0 (edge_count b.core.sizes));
}

-- ---- laws

-- the chunk pushed as the kth has the number k, counted from 0
abbrev pub chunk_numbers : ℕ → List ℕ
chunk_numbers k = range_with_len 0 k

abbrev pub number_in_slot : ℕ → Option Chunk → Option ℕ
number_in_slot k None = None
number_in_slot k (Some x) = Some k

pub record LaneHolds (p : PortState) (l : Lane) : Type 0 where
  pub chunks : l.pushed ≡ l.pulled ++ chunks_in l.content
  pub pushed : p.pushed ≡ chunk_numbers (length l.pushed)
  pub pulled : p.pulled ≡ chunk_numbers (length l.pulled)
  pub slot : p.slot ≡ number_in_slot (length l.pulled) l.content
  pub bare : p.wire ≡ None → l ≡ no_lane

abbrev pub is_unborn_stage : Stage → Bool
is_unborn_stage Unborn = true
is_unborn_stage g = false

abbrev pub is_over_stage : Stage → Bool
is_over_stage Over = true
is_over_stage g = false

-- the word tells the stage; a live node that hasn't begun has the bit first, or an output from the
-- start
pub record StageHolds (s : Sizes) (n : ℕ) (nd : NodeState) (g : Stage) : Type 0 where
  pub unborn : is_unborn nd.word ≡ is_unborn_stage g
  pub over : is_over nd.word ≡ is_over_stage g
  pub held : nd.held ≡ true → g ≡ Begun
  pub first : g ≡ Born → (is_set nd.word 60 || has_output_edge n s.wires) ≡ true

pub record Holds (b : Board) : Type 0 where
  pub laws : Laws b.core
  pub lane_count : length b.lanes ≡ length b.core.ports
  pub stage_count : length b.stages ≡ length b.core.nodes
  pub lanes : (e : ℕ) → LaneHolds (port_at b.core e) (lane_at b e)
  pub stages : (n : ℕ) → StageHolds b.core.sizes n (node_at b.core n) (stage_at b n)

-- ---- steps

abbrev pub looked_at : Bool → Lane → Lane
looked_at b l = record l { taken = l.taken || fits_end b l.content }

abbrev pub pushed_to : Option Chunk → Lane → Lane
pushed_to x l = record {
  pushed = l.pushed ++ chunks_in x;
  pulled = l.pulled;
  content = x;
  taken = false;
}

abbrev pub pulled_from : Lane → Lane
pulled_from l = record {
  pushed = l.pushed;
  pulled = l.pulled ++ chunks_in l.content;
  content = None;
  taken = false;
}

-- the lanes after a step of the node n, which puts x into the slot
abbrev pub lanes_after : Board → ℕ → Step → Option Chunk → List Lane
lanes_after b n (step.Look e) x =
    slice_set b.lanes e (looked_at (is_end true n (port_at b.core e).wire) (lane_at b e))
lanes_after b n (step.Push e k) x = slice_set b.lanes e (pushed_to x (lane_at b e))
lanes_after b n (step.Pull e) x = slice_set b.lanes e (pulled_from (lane_at b e))
lanes_after b n s x = b.lanes

abbrev pub stages_after : Board → ℕ → Step → List Stage
stages_after b n step.Begin = slice_set b.stages n Begun
stages_after b n step.Over = slice_set b.stages n Over
stages_after b n step.Birth = slice_set b.stages n Born
stages_after b n s = b.stages

abbrev pub board_after : Board → ℕ → Step → Option Chunk → Board
board_after b n s x = record {
  core = after b.core n s;
  lanes = lanes_after b n s x;
  stages = stages_after b n s;
}

-- what lies in the slot of an edge, where it is at home
abbrev pub home_of : Lane → maybe.Option (Option Chunk)
home_of l = cond l.taken maybe.none (maybe.some l.content)
