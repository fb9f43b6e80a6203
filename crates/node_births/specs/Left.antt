-- What is left of the reserve of a node, and what is named of the node before a run.
use Rattle.std.specs.List.{list_any}
use Rattle.std.specs.Prelude.{Bool, List, filter, not, ℕ, ◌+◌, ◌-◌, ◌==◌, ◌≡◌}
use Rattle.exec_laws.specs.Growths.{Left}
use Rattle.exec_laws.specs.Prelude.{BoxPicture}
use Rattle.exec_laws.specs.declared.growth.Blank.{Blank}
use Rattle.node_cells.specs.Stops.{left_in}
use Rattle.node_cells.specs.declared.cell.NodeReserve.{NodeReserve}

-- what a node may grow by, as data: its rank in a graph of so many nodes, its unborn blanks, and
-- its edges from the next one on
pub record ReserveForm : Type 0 where
  pub rank : ℕ
  pub nodes : ℕ
  pub left : Left
  pub next_edge : ℕ

abbrev pub reserve_form : NodeReserve → ReserveForm
reserve_form r =
    record { rank = r.rank; nodes = r.nodes; left = left_in r; next_edge = r.next_edge }

-- what is named of a node: what its box was before the run, and what it might grow by
pub record NamedNode : Type 0 where
  pub box : BoxPicture
  pub reserve : ReserveForm

-- whether the blank lies at none of the places
abbrev pub is_left : List ℕ → Blank → Bool
is_left places b = not (list_any (λ (k : ℕ). k == b.node) places)

-- the node of the reserve grew by new nodes at these places and by so many edges
pub record LosesGrowth (places : List ℕ) (edges : ℕ) (old new : NodeReserve) : Type 0 where
  pub rank : new.rank ≡ old.rank
  pub nodes : new.nodes ≡ old.nodes
  pub blanks : new.blanks.items ≡ filter (is_left places) old.blanks.items
  pub next_edge : new.next_edge ≡ old.next_edge + edges
  pub left : new.edges ≡ old.edges - edges
