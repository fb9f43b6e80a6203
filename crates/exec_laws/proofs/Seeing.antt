-- Ports in range, and a view that shows them.
use Rattle.exec_laws.proofs.Imports.{arith, HasEdge, HasPort, HoldsGraph, IsPort, List, Picture, Port, ViewHolds, Wire, input-below-count, input_count, output-below-count, output_count, rules, ℕ}

pub port-below : (count : ℕ) (wires : List Wire) → HoldsGraph count wires → (n e : ℕ) (p : Port)
    → HasEdge wires n p e → IsPort (input_count wires n) (output_count wires n) p
port-below count wires g n e p h = grind (arith, input-below-count, output-below-count)

pub port-shown : (inputs outputs : ℕ) (v : Picture) (p : Port) → ViewHolds inputs outputs v
    → IsPort inputs outputs p → HasPort v p
port-shown inputs outputs v p h1 h2 = search rules
