-- The wires at one node, as the node itself knows them: by the nodes at their other ends.
use Rattle.std.specs.Prelude.{Bool, List, [], false, suc, true, ℕ, ◌++◌, ◌∷◌}
use Rattle.port_word.specs.declared.flags.Wire.{Wire}

-- the wire at the k-th input of node n, or at its k-th output; its port at the other end is unknown
abbrev pub own_wire : (consumer : Bool) → (n peer k : ℕ) → Wire
own_wire true n peer k = record { from = peer; out = 0; to = n; input = k }
own_wire false n peer k = record { from = n; out = k; to = peer; input = 0 }

-- wires made for these peers, from the port k on
abbrev pub wires_for : (ℕ → ℕ → Wire) → ℕ → List ℕ → List Wire
wires_for make k [] = []
wires_for make k (peer ∷ peers) = make peer k ∷ wires_for make (suc k) peers

-- the wires at node n, with these nodes at its inputs' other ends and at its outputs'
abbrev pub own_wires : ℕ → (sources targets : List ℕ) → List Wire
own_wires n sources targets =
    wires_for (own_wire true n) 0 sources ++ wires_for (own_wire false n) 0 targets
