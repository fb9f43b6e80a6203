-- What each atomic step tells the seat that makes it.
use Rattle.std.specs.Prelude.{◌≡◌, ℕ, ◌+◌, ◌-◌, ◌^◌, ◌==◌, cond, List, [], ◌∷◌, length, Some, None, true, false}
use Rattle.core_laws.specs.declared.types.Step.TheVariants as step
use Rattle.exec_table.specs.CoreNames.{Sizes, Step, wire_ok, may}
use Rattle.exec_table.specs.Words.{first_word, port_place, wire_place, wire_of}
use Rattle.exec_table.specs.Boards.{Board, Holds, NodeView, View, board_after, Begun}
use Rattle.exec_table.specs.Rule.{Sat, Stp, aiming, no_sizes, no_view}
use Rattle.exec_table.specs.Ready.{Did, end_of_view}

abbrev pub no_node_view : NodeView
no_node_view = record {
  sizes = no_sizes;
  number = 0;
  state = record { word = 0; held = false; tokens = 0; seen = []; unlooked = []; owes = [] };
  stage = Begun;
  ends = [];
}

abbrev pub first_or_none : List NodeView → NodeView
first_or_none [] = no_node_view
first_or_none (x ∷ xs) = x

-- the node of a seat that has one
abbrev pub first_node : View → NodeView
first_node v = first_or_none v.nodes

-- the step of the seat's node that the atomic step is
abbrev pub does : (Stp → NodeView → Step) → Stp → Sat → ℕ → Sat → Type 0
does s st m found m' = Did (first_node m.0) (s st (first_node m.0)) m.1 found m'

-- the edge whose port word it is
abbrev pub played_edge : Stp → NodeView → ℕ
played_edge st x = st.word - port_place x.sizes 0

-- the edge whose wire word it is
abbrev pub wire_edge : Stp → NodeView → ℕ
wire_edge st x = st.word - wire_place x.sizes 0

-- the step at a port, by the operand: 0 of a look, the flag that is set, or all but the one unset;
-- of any other operand a step that no node's seat may make
abbrev pub port_step : Stp → NodeView → Step
port_step st x = let e = played_edge st x in let k = st.first in cond (k == 0) (step.Look e)
    (cond (k == 1) (step.Want e) (cond (k == 2 ^ 64 - 2) (step.Unwant e)
    (cond (k == 2) (step.Push e (length (end_of_view x e).chunks)) (cond (k == 2 ^ 64 - 3)
    (step.Pull e) (cond (k == 4) (step.Finish e) (cond (k == 8) (step.ClosePort e) step.See))))))

abbrev pub wire_step : Stp → NodeView → Step
wire_step st x = step.Wire (wire_edge st x) (wire_of st.second)

-- the peer is told of the edge whose wire the seat looked up last
abbrev pub marks : Stp → Sat → ℕ → Sat → Type 0
marks st m found m' = Did (first_node m.0) (step.Mark m.0.aim) m.1 found m'

-- a look-up of an edge's wire: no step of the core
abbrev pub aims : Stp → Sat → ℕ → Sat → Type 0
aims st m found m' = let x = first_node m.0 in let e = wire_edge st x in
    (m' ≡ (aiming e x, m.1)) × ((end_of_view x e).wire ≡ Some (wire_of found))
    × (wire_ok x.sizes.nodes (wire_of found) ≡ true)

-- ---- workers

-- a step of the worker k of a table of these sizes: the state before it, and the word 0 that it
-- found
pub record Worked (z : Sizes) (k : ℕ) (s : Step) (found : ℕ) : Type 0 where
  pub before : Board
  pub holds : Holds before
  pub sizes : before.core.sizes ≡ z
  pub may : may before.core (z.nodes + k) s ≡ true
  pub kept : Holds (board_after before (z.nodes + k) s None)
  pub word : found ≡ first_word before.core

-- a worker looks at word 0, or sets its stop bit
abbrev pub works : Stp → Sat → ℕ → Sat → Type 0
works st m found m' = (m' ≡ (record m.0 { found = found }, m.1)) × ((k : ℕ) → m.0.worker ≡ Some k
    → Worked m.0.sizes k (cond (st.first == 0) step.See step.Stop) found)

-- the root's view with one more worker made, and the view of that worker
abbrev pub with_worker : View → View
with_worker v = record no_view { made = v.made + 1; sizes = v.sizes }

abbrev pub next_worker : View → View
next_worker v = record no_view { worker = Some v.made; sizes = v.sizes }
