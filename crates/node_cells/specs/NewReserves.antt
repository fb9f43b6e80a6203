-- What each node may grow by in a graph that wasn't run.
use Rattle.std.specs.Prelude.{List, [], length, ℕ, ◌+◌, ◌<◌, ◌≡◌, ◌≤◌}
use Rattle.exec_laws.specs.Names.{blanks_of, reserve_of}
use Rattle.exec_laws.specs.Prelude.{BoxPicture, IsBlank, Reserve}
use Rattle.node_cells.specs.declared.cell.NodeReserve.{NodeReserve}
unfoldable use Rattle.exec_laws.specs.Names.{box_at}
unfoldable use Rattle.proc_api.specs.Names.{rank_at}

-- the nodes of the reserve are among few ones, and blank
pub record IsBlankReserve (boxes : List BoxPicture) (r : Reserve) : Type 0 where
  pub few : length boxes ≤ 256
  pub within : r.first_node + r.nodes ≤ length boxes
  pub blank : (k : ℕ) → k < r.nodes → IsBlank (box_at boxes (r.first_node + k))

-- node n has all of its reserve, in a graph with these ranks and boxes
pub record IsNewReserve (ranks : List ℕ) (reserves : List Reserve) (boxes : List BoxPicture)
    (n : ℕ) (r : NodeReserve) : Type 0 where
  pub rank : r.rank ≡ rank_at ranks n
  pub nodes : r.nodes ≡ length boxes
  pub blanks : r.blanks.items
      ≡ blanks_of boxes [] (reserve_of reserves n).first_node (reserve_of reserves n).nodes
  pub next_edge : r.next_edge ≡ (reserve_of reserves n).first_edge
  pub edges : r.edges ≡ (reserve_of reserves n).edges
