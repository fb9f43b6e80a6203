-- What each end of a run says of the boxes.
use Rattle.exec_laws.specs.Names.{AsksToGrow, IsBorn, KeepsFault, StaysBox}
use Rattle.node_cells.specs.Stops.{GrowthStays}
use Rattle.node_cells.specs.declared.stop_cause.StopCause.{StopCause}
use Rattle.node_cells.specs.declared.stop_cause.StopCause.TheVariants as stop_cause
use Rattle.node_ends.specs.CellLists.{AreCells, CellGraph, boxes_in}
use Rattle.node_ends.specs.Prelude.{BoxPicture, Identity, IsDone, IsStuck, NodeCell, NodesEnd, Wire, box_at}
use Rattle.node_ends.specs.declared.node_ends.EndCause.{EndCause}
use Rattle.node_ends.specs.declared.node_ends.EndCause.TheVariants as cause
use Rattle.node_ends.specs.declared.node_ends.NodesEnd.TheVariants as end
use Rattle.std.specs.Prelude.{List, None, Option, Some, length, ℕ, ⊤, ◌<◌, ◌≡◌}

-- what visits at the end leave of a box: a blank one is left alone
pub record BoxStays (p q : BoxPicture) : Type 0 where
  pub born : IsBorn p → StaysBox p q
  pub blank : p.spec ≡ None → q ≡ p

pub record BoxesStay (before after : List BoxPicture) : Type 0 where
  pub count : length after ≡ length before
  pub each : (n : ℕ) → n < length before → BoxStays (box_at before n) (box_at after n)

-- what calls that stop nothing leave of the growths that the boxes keep
abbrev pub GrowthsStay : (before after : List BoxPicture) → Type 0
GrowthsStay before after =
    (n : ℕ) → n < length before → GrowthStays None (box_at before n) (box_at after n)

-- why the calls of a processor end, if they do: one that asks for the graph to grow waits for that
abbrev pub stop_cause_of : Option EndCause → Option StopCause
stop_cause_of None = None
stop_cause_of (Some (cause.Fault f)) = Some (stop_cause.Fault f)
stop_cause_of (Some cause.Growth) = None

-- what the box keeps of the node at which the run ends before nothing is pending
abbrev pub KeepsCause : EndCause → BoxPicture → Type 0
KeepsCause (cause.Fault f) p = KeepsFault f p
KeepsCause cause.Growth p = AsksToGrow p

-- the run ends at a node, and the growths that all boxes keep stay
pub record StopsAt (n : ℕ) (s : EndCause) (before after : List BoxPicture) : Type 0 where
  pub in_range : n < length after
  pub stop : KeepsCause s (box_at after n)
  pub growth : GrowthsStay before after

module _ {P : Type 0} (seen : P → BoxPicture) where
  -- visits that stopped nothing left the cells of all nodes of the same graph: the boxes stay, and
  -- keep their growths
  pub record AreVisited (t : Identity) (old new : List (NodeCell P)) : Type 0 where
    pub cells : (g : CellGraph) → AreCells seen t g old → AreCells seen t g new
    pub count : length new ≡ length old
    pub back : BoxesStay (boxes_in seen old) (boxes_in seen new)
    pub growth : GrowthsStay (boxes_in seen old) (boxes_in seen new)

  -- the run ends at a node, and the boxes stay
  pub record AreStoppedAt (n : ℕ) (s : EndCause) (old new : List (NodeCell P)) : Type 0 where
    pub count : length new ≡ length old
    pub back : BoxesStay (boxes_in seen old) (boxes_in seen new)
    pub stop : StopsAt n s (boxes_in seen old) (boxes_in seen new)

-- the run ended at no node
abbrev pub IsSettledEnd : NodesEnd → Type 0
IsSettledEnd end.Done = ⊤
IsSettledEnd (end.Stuck report n) = ⊤
IsSettledEnd (end.Fault n f) = ⊥
IsSettledEnd (end.Grows n) = ⊥

-- the end of a run in which nothing is pending
abbrev pub SettledEndHolds : NodesEnd → List Wire → List BoxPicture → Type 0
SettledEndHolds end.Done wires boxes = IsDone wires boxes
SettledEndHolds (end.Stuck report n) wires boxes = IsStuck wires boxes report n
SettledEndHolds (end.Fault n f) wires boxes = ⊥
SettledEndHolds (end.Grows n) wires boxes = ⊥

abbrev pub NodesEndHolds : NodesEnd → List Wire → (before after : List BoxPicture) → Type 0
NodesEndHolds end.Done wires before after = IsDone wires after × GrowthsStay before after
NodesEndHolds (end.Stuck report n) wires before after =
    IsStuck wires after report n × GrowthsStay before after
NodesEndHolds (end.Fault n f) wires before after = StopsAt n (cause.Fault f) before after
NodesEndHolds (end.Grows n) wires before after = StopsAt n cause.Growth before after
