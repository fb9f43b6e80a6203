-- The cells of all nodes before a run and after it.
use Rattle.std.specs.Prelude.{List, [], length, map, slice_index_or, ℕ, ◌≡◌, ◌≤◌}
use Rattle.atomic_table.specs.Seated.{TableId}
use mathlib.Core.Option.{some}
use lib.ListN.{get_elem?}
use Rattle.exec_laws.specs.Prelude.{BoxPicture}
use Rattle.exec_table.specs.Seats.{Identity}
use Rattle.node_births.specs.Left.{NamedNode}
use Rattle.node_cells.specs.Cells.{cell_ports}
use Rattle.node_cells.specs.Ends.{HasPlaces}
use Rattle.node_cells.specs.Stored.{IsStored}
use Rattle.node_cells.specs.declared.cell.NodeCell.{NodeCell}
use Rattle.node_workers.specs.Named.{AreNamedReserves, CellFits, named_node}
use Rattle.node_workers.specs.Names.{Names}
use Rattle.node_workers.specs.declared.named_cell.EndedCell.{EndedCell}
use Rattle.proc_api.specs.Names.{no_box}

abbrev no_table : TableId
no_table = record {
  words = 0;
  slots = 0;
  views_name = 0;
  atom = 0;
  block = 0;
  offset = 0;
  slot_names = [];
}

abbrev pub no_node : NamedNode
no_node = record {
  box = no_box;
  reserve = record {
    rank = 0;
    nodes = 0;
    left = record { blanks = []; edges = 0 };
    next_edge = 0;
  };
}

-- what stands where no run is named
abbrev pub no_names : Names
no_names = record {
  identity = record {
    id = no_table;
    sizes = record { nodes = 0; wires = []; reserves = []; workers = 0 };
  };
  notes = no_table;
  node = λ n. no_node;
}

module _ {P : Type 0} (seen : P → BoxPicture) where
  -- what the boxes and the reserves of the cells are
  abbrev pub named_by : List (NodeCell P) → ℕ → NamedNode
  named_by cells n = slice_index_or (map (named_node seen) cells) n no_node

  -- The cells of the first nodes, in order of their numbers, of which none is in a turn. Each node
  -- that grows by a reserve has all of it.
  pub record AreStored (t : Identity) (cells : List (NodeCell P)) : Type 0 where
    pub few : length cells ≤ 256
    pub stored : (n : ℕ) (c : NodeCell P) → get_elem? cells n ≡ some c → IsStored seen t c
    pub numbers : (n : ℕ) (c : NodeCell P) → get_elem? cells n ≡ some c → c.seat.node ≡ n
    pub places : (n : ℕ) (c : NodeCell P) → get_elem? cells n ≡ some c → HasPlaces t.sizes.wires
        (λ e. e) n c.ports.inputs.items c.ports.outputs.items (cell_ports c)
    pub reserves : AreNamedReserves t.sizes (named_by cells)

  -- each cell has what is named of its node
  abbrev pub AreNamed : (ℕ → NamedNode) → List (NodeCell P) → Type 0
  AreNamed named cells =
      (n : ℕ) (c : NodeCell P) → get_elem? cells n ≡ some c → named n ≡ named_node seen c

  -- each cell is that of its node, with what visits leave of the box and the reserve that were
  -- named, by its note of growths
  pub record AreEnded (t : Identity) (named : ℕ → NamedNode) (count : ℕ)
      (cells : List (EndedCell P)) : Type 0 where
    pub notes : TableId
    pub many : length cells ≡ count
    pub each : (n : ℕ) (d : EndedCell P) → get_elem? cells n ≡ some d
        → CellFits (record { identity = t; notes = notes; node = named }) seen n d.cell d.stopped
        d.note
