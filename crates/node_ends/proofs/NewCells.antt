-- The cells of a new table, before any worker ran.
use Rattle.node_ends.proofs.Imports.{BoxPicture, List, NodeCell, Wire, [], ap, get_elem?, identity_of, length, length-map, some, subst, sym, ℕ, ◌∙◌, ◌≡◌, cell_ports}
use Rattle.core_laws.specs.declared.types.Sizes.{Sizes}
use Rattle.exec_laws.specs.Prelude.{Reserve}
use Rattle.exec_laws.specs.declared.edges.NodeMark.{NodeMark}
use Rattle.exec_laws.specs.declared.edges.NodeStatus.TheVariants as node
use Rattle.node_cells.specs.Ends.{HasPlaces}
use Rattle.node_cells.specs.NewCells.{AreNewCells, IsGraphOfNodes, first_mark, sizes_of}
use Rattle.node_cells.specs.declared.new_cells.Cells.{Cells}
use Rattle.node_ends.proofs.Lists.{read-map}
use Rattle.proc_api.specs.Graphs.{IsGraph}
use Rattle.proc_api.specs.Reserves.{is_reserved}
use Rattle.node_ends.specs.CellLists.{AreOwnCells, own_graph}

-- a cell that has its places as its own numbers has them in the graph of these cells
pub own-places : {P : Type 0} (wires : List Wire) (cells : List (NodeCell P)) (n : ℕ)
    (x : NodeCell P) → get_elem? cells n ≡ some x
    → HasPlaces wires (λ e. e) n x.ports.inputs.items x.ports.outputs.items (cell_ports x)
    → HasPlaces wires (λ e. e) n ((own_graph wires cells).inputs n)
    ((own_graph wires cells).outputs n) (cell_ports x)
own-places {P} wires cells n x at h = subst (λ (z : List ℕ × List ℕ).
    HasPlaces wires (λ e. e) n z.0 z.1 (cell_ports x)) (λ j. (
      sym (read-map (λ (c : NodeCell P). c.ports.inputs.items) cells n x [] at) j,
      sym (read-map (λ (c : NodeCell P). c.ports.outputs.items) cells n x [] at) j,
    )) h

-- they are the cells of all nodes of a graph that doesn't grow
pub new-cells : {P : Type 0} (seen : P → BoxPicture) (boxes : List P) (wires : List Wire)
    (reserves : List Reserve) (workers : ℕ) (c : Cells P)
    → IsGraphOfNodes (length boxes) wires reserves → reserves ≡ []
    → AreNewCells seen (sizes_of (length boxes) wires reserves workers) boxes c
    → AreOwnCells seen (identity_of c.table) c.cells.items
new-cells {P} seen boxes wires reserves workers c g bare new =
    let count : length c.cells.items ≡ length boxes =
    sym (length-map c.cells.items (λ (x : NodeCell P). x.processor))
    ∙ ap length new.processors in
    record {
      count = count ∙ sym (ap (λ (z : Sizes). z.nodes) new.key);
      graph = record {
        ranks = g.ranks;
        reserves = reserves;
        graph = subst (λ ws. IsGraph g.ranks ws reserves)
            (sym (ap (λ (z : Sizes). z.wires) new.key)) g.graph;
        nodes_len = count ∙ g.nodes_are;
      };
      each = λ n x at. let y = new.each n x at in record {
        stored = y.stored;
        number = y.number;
        places = λ born. own-places (identity_of c.table).sizes.wires c.cells.items n x at y.places;
      };
      joined = λ e n p x h at unborn. let y = new.each n x at in
          let due : node.Due ≡ node.Unborn = sym (ap (λ (m : NodeMark). m.state) (y.mark
          ∙ ap (λ (rs : List Reserve). first_mark (is_reserved rs n))
          (ap (λ (z : Sizes). z.reserves) new.key ∙ bare))) ∙ unborn in cc;
    }
