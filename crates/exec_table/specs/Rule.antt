-- The rule of the table: words, slots and views show one board, which meets the laws.
use Rattle.std.specs.Prelude.{◌≡◌, ◌≢◌, ℕ, ◌<◌, ◌≤◌, List, [], ◌∷◌, map, Option, Some, None, slice_index_or, cond, false}
use Rattle.std.specs.List.{range_with_len}
use mathlib.Core.Option.{some}
use lib.ListN.{get_elem?}
use Rattle.atomic_table.specs.Table.{State, Me, Step as TableStep}
use Rattle.exec_table.specs.Words.{words_of}
use Rattle.exec_table.specs.Boards.{Board, View, NodeView, Stage, Holds, node_view, home_of, no_lane, Unborn, Born}
use Rattle.exec_table.specs.CoreNames.{CoreState, Sizes, start, is_reserved_node, Chunk}

-- a seat, with the slots that are out with it
abbrev pub Sat : Type 0
Sat = Me (Option Chunk) View

abbrev pub Stp : Type 0
Stp = TableStep (Option Chunk)

-- a state in which nobody has stopped the run: its words don't show whether somebody did
abbrev pub unstopped : CoreState → CoreState
unstopped c = record c { stopped = false }

-- no node stands twice in a list
abbrev pub NotIn : ℕ → List NodeView → Type 0
NotIn n xs = (i : ℕ) (x : NodeView) → get_elem? xs i ≡ some x → n ≢ x.number

abbrev pub Distinct : List NodeView → Type 0
Distinct [] = Unit {0}
Distinct (x ∷ xs) = NotIn x.number xs × Distinct xs

-- the node is seen as it is, by the seat that has it
pub record IsSeen (b : Board) (owner : ℕ → ℕ) (j : ℕ) (x : NodeView) : Type 0 where
  pub is : x ≡ node_view b x.number
  pub inside : x.number < b.core.sizes.nodes
  pub owned : owner x.number ≡ j

-- the words that a seat noted are as they were while it has every node
pub record IsNoted (b : Board) (owner : ℕ → ℕ) (j i w : ℕ) : Type 0 where
  pub is : slice_index_or (words_of (unstopped b.core)) i 0 ≡ w
  pub all : (n : ℕ) → n < b.core.sizes.nodes → owner n ≡ j

-- what the view of the seat j says is so
pub record ViewFits (b : Board) (owner : ℕ → ℕ) (j : ℕ) (v : View) : Type 0 where
  pub each : (i : ℕ) (x : NodeView) → get_elem? v.nodes i ≡ some x → IsSeen b owner j x
  pub apart : Distinct v.nodes
  pub noted : (i w : ℕ) → get_elem? v.noted i ≡ some w → IsNoted b owner j i w
  pub made : v.made ≤ b.core.sizes.workers
  pub worker : (k : ℕ) → v.worker ≡ Some k → k < b.core.sizes.workers

pub record Shown (key : Sizes) (s : State (Option Chunk) View) : Type 0 where
  pub board : Board
  pub holds : Holds board
  pub sizes : board.core.sizes ≡ key
  pub words : s.words ≡ words_of board.core
  pub homes : s.homes ≡ map home_of board.lanes
  pub owner : ℕ → ℕ
  pub seats : (j : ℕ) (v : View) → get_elem? s.views j ≡ some v → ViewFits board owner j v

-- ---- views

abbrev pub no_sizes : Sizes
no_sizes = record { nodes = 0; wires = []; reserves = []; workers = 0 }

abbrev pub no_view : View
no_view = record {
  nodes = [];
  noted = [];
  aim = 0;
  found = 0;
  made = 0;
  worker = None;
  sizes = no_sizes;
}

abbrev pub one : NodeView → View
one x = record no_view { nodes = x ∷ [] }

-- a view of one node that has looked up the wire of the edge e
abbrev pub aiming : ℕ → NodeView → View
aiming e x = record (one x) { aim = e }

-- a view of one node whose step found the word w
abbrev pub finding : ℕ → NodeView → View
finding w x = record (one x) { found = w }

-- ---- the start

abbrev pub start_stage : Sizes → ℕ → Stage
start_stage s n = cond (is_reserved_node n s.reserves) Unborn Born

abbrev pub start_board : Sizes → Board
start_board s = record {
  core = start s;
  lanes = map (λ _. no_lane) (start s).ports;
  stages = map (start_stage s) (range_with_len 0 s.nodes);
}

abbrev pub first_view : Sizes → View
first_view s = record no_view {
  nodes = map (node_view (start_board s)) (range_with_len 0 s.nodes);
  sizes = s;
}
