-- Ports that a node gets have the wires of a growth.
use Rattle.node_births.proofs.Imports.{Bool, EdgeRange, GainsPorts, HasNewWire, HasWiresOf, Input, List, Output, Port, PortsPicture, Wire, arith, cases_lt, false, get_or-append_right, get_or_append_left, inl, inr, is_own_port, length, length-append, longer_range, no_wire, true, wire_at, ℕ, ◌++◌, ◌+◌, ◌-◌, ◌≡◌, ◌⊎◌}
use Rattle.node_births.proofs.GainLaws.{kept-wire}

-- a port with so many more of a side is one of those before, or one of these
split-side : (consumer : Bool) (first : ℕ) (wires : List Wire) (n : ℕ) (c d : PortsPicture)
    → GainsPorts consumer first wires n c d → (p : Port) → is_own_port d p
    → is_own_port c p ⊎ HasNewWire first wires d p
split-side true first wires n c d g (Input i) lt = grind (arith, cases_lt)
split-side true first wires n c d g (Output o) lt = grind arith
split-side false first wires n c d g (Input i) lt = grind arith
split-side false first wires n c d g (Output o) lt = grind (arith, cases_lt)

module _ (r : EdgeRange) (more : List Wire) (c : PortsPicture) (p : Port) where
  -- a wire of a range is one of the longer one
  wire-before : HasNewWire r.first r.wires c p
      → HasNewWire (longer_range r more).first (longer_range r more).wires c p
  unfolding wire_at
  wire-before x = let same = get_or_append_left r.wires more no_wire x.place x.has_edge.in_range in
      let len = length-append r.wires more in
      grind (arith, x.has_edge.in_range, x.place, x.has_edge.at_port, x.edge_is, x.wire_is)

  -- and so is one of those behind it
  wire-behind : HasNewWire (r.first + length r.wires) more c p
      → HasNewWire (longer_range r more).first (longer_range r more).wires c p
  unfolding wire_at
  wire-behind x = let same = get_or-append_right r.wires more (length r.wires + x.place) no_wire
      (omega arith) in
      let less : (length r.wires + x.place) - length r.wires ≡ x.place = omega arith in
      let len = length-append r.wires more in
      grind (arith, x.has_edge.in_range, x.edge_is, x.has_edge.at_port, x.wire_is)

-- the node has the wires of the graph and of its growths
module _ (graph grown : EdgeRange) (more : List Wire) where
  -- and so among those of more growths
  pub longer-wires : (c : PortsPicture) → HasWiresOf graph grown c
      → HasWiresOf graph (longer_range grown more) c
  longer-wires c h = grind (arith, wire-before, h.each)

  -- with the ports that it gets of the last of them
  pub gained-wires : (consumer : Bool) (n : ℕ) (c d : PortsPicture)
      → HasWiresOf graph (longer_range grown more) c
      → GainsPorts consumer (grown.first + length grown.wires) more n c d
      → HasWiresOf graph (longer_range grown more) d
  gained-wires consumer n c d h g = record {
    each = λ p own. elim (split-side _ _ _ _ _ _ g _ own) [
      | inl old ↦ elim (h.each p old) [
        | inl a ↦ inl (kept-wire graph.first graph.wires c d g.gains p old a)
        | inr b ↦ inr (kept-wire grown.first (grown.wires ++ more) c d g.gains p old b)
      ]
      | inr new ↦ inr (wire-behind grown more d p new)
    ];
  }
