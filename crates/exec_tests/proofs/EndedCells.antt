-- Cells of graphs, and all cells after a run.
use Rattle.std.proofs.Common.{All, List, [], length, refl, subst, suc, sym, ℕ, ◌∷◌, ◌≡◌}
use Rattle.std.proofs.lemmas.List.Elements.{All-cons, All-nil}
use Rattle.node_cells.specs.NewCells.{IsGraphOfNodes}
use Rattle.port_word.specs.declared.flags.Reserve.{Reserve}
use Rattle.port_word.specs.declared.flags.Wire.{Wire}
use Rattle.proc_api.specs.Graphs.{IsGraph}
use Rattle.proc_api.specs.Reserves.{AreReserves}
use lib.ListN.{get_elem?}
use mathlib.Core.Option.{some}

-- a graph of so many nodes
pub graph-of : (nodes : ℕ) (ranks : List ℕ) (wires : List Wire) (reserves : List Reserve)
    → IsGraph ranks wires reserves → nodes ≡ length ranks
    → AreReserves (length ranks) (length wires) wires reserves → IsGraphOfNodes nodes wires reserves
graph-of nodes ranks wires reserves g many kept = record {
  ranks = ranks;
  graph = g;
  nodes_are = many;
  reserves_are = subst (λ k. AreReserves k (length wires) wires reserves) (sym many) kept;
}

-- what is true of each element at its place is true of all
pub all-at : {A : Type 0} (p : A → Type 0) (l : List A)
    → ((n : ℕ) (a : A) → get_elem? l n ≡ some a → p a) → All p l
all-at p [] h = All-nil p
all-at p (x ∷ xs) h = All-cons p x xs (h 0 x refl) (all-at p xs (λ n a at. h (suc n) a at))
