-- The next birth of a node that grows while others run: what its reserve in the table gives for it.
use Rattle.std.specs.Prelude.{List, [], count_by, length, true, ℕ, ◌<◌, ◌==◌, ◌≡◌, ◌≤◌}
use Rattle.std.specs.List.{list_any}
use Rattle.core_laws.specs.declared.types.Sizes.{Sizes}
use Rattle.exec_laws.specs.Births.{Birth, births_of}
use Rattle.exec_laws.specs.Prelude.{Reserve, holds_node}
use Rattle.exec_laws.specs.declared.growth.Blank.{Blank}
use Rattle.node_births.specs.Left.{ReserveForm}
use Rattle.node_births.specs.OwnBirths.{AreSoundBirths, IsSoundBirth}
use Rattle.proc_api.specs.Reserves.{AreReserves, reserve_at}

-- What is named of the node that may grow by this reserve is all of it: its edges, and blanks that
-- it holds, each once.
pub record IsNamedReserve (z : Sizes) (r : Reserve) (named : ReserveForm) : Type 0 where
  pub held : (m : ℕ) → list_any (λ (b : Blank). b.node == m) named.left.blanks ≡ true
      → holds_node m r ≡ true
  pub once : (m : ℕ) → count_by (λ (b : Blank). b.node == m) named.left.blanks ≤ 1
  pub next_edge : named.next_edge ≡ r.first_edge
  pub edges : named.left.edges ≡ r.edges
  pub nodes : named.nodes ≡ z.nodes

-- Node n of a table of these sizes, which has the reserve with this number, grew by these births,
-- and may grow by one more.
pub record IsNextBirth (z : Sizes) (k n : ℕ) (named : ReserveForm) (births : List Birth)
    (b : Birth) : Type 0 where
  pub in_range : k < length z.reserves
  pub node : (reserve_at z.reserves k).node ≡ n
  pub fit : AreReserves z.nodes (length z.wires) z.wires z.reserves
  pub reserve : IsNamedReserve z (reserve_at z.reserves k) named
  pub own : births_of n births ≡ births
  pub earlier : AreSoundBirths z.wires n named [] births
  pub next : IsSoundBirth z.wires n named births b
