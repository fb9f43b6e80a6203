-- When sizes fit, and the state at the start.
use Rattle.std.specs.Prelude.{ℕ, ◌+◌, ◌^◌, ◌==◌, ◌||◌, ◌&&◌, not, cond, Bool, true, false, nat_lt, nat_le, List, [], ◌∷◌, map, length, Some, None, slice_index_or}
use Rattle.std.specs.List.{list_any, list_all, filter, range_with_len, sum_by}
use Rattle.core_laws.specs.Views.{Wire, Reserve, Sizes, Sight, PortState, NodeState, CoreState, no_port, names, edges_of, wire_ok, reserved_edge_count, counts}
use Rattle.port_word.specs.Pictures.{no_flags, no_wire}

-- ---- sizes that fit

-- the test holds of each two
abbrev pub each_two : {A : Type 0} → (A → A → Bool) → List A → Bool
each_two t [] = true
each_two t (x ∷ xs) = list_all (t x) xs && each_two t xs

abbrev pub is_reserved_node : ℕ → List Reserve → Bool
is_reserved_node n rs =
    list_any (λ r. nat_le r.first_node n && nat_lt n (r.first_node + r.nodes)) rs

-- the wire joins two nodes that no reserve holds, at ports within the limits
abbrev pub wire_fits : Sizes → Wire → Bool
wire_fits s w = wire_ok s.nodes w
    && (not (is_reserved_node w.from s.reserves) && not (is_reserved_node w.to s.reserves))

abbrev pub share_no_port : Wire → Wire → Bool
share_no_port v w = not ((v.from == w.from) && (v.out == w.out))
    && not ((v.to == w.to) && (v.input == w.input))

-- its nodes are within the number of nodes, its edges follow the wires, no reserve holds its node
abbrev pub reserve_fits : Sizes → Reserve → Bool
reserve_fits s r = (nat_lt r.node s.nodes && nat_le (r.first_node + r.nodes) s.nodes)
    && (not (is_reserved_node r.node s.reserves) && (nat_le (length s.wires) r.first_edge
    && nat_le (r.first_edge + r.edges) (length s.wires + reserved_edge_count s.reserves)))

-- the k numbers from a on, and the l numbers from b on
abbrev pub share_none : ℕ → ℕ → ℕ → ℕ → Bool
share_none a k b l = nat_le (a + k) b || (nat_le (b + l) a || ((k == 0) || (l == 0)))

abbrev pub are_disjoint : Reserve → Reserve → Bool
are_disjoint r q = not (r.node == q.node)
    && (share_none r.first_node r.nodes q.first_node q.nodes
    && share_none r.first_edge r.edges q.first_edge q.edges)

abbrev pub fits : Sizes → Bool
fits s = (nat_le s.nodes 256 && (nat_le s.workers 17
    && nat_le (length s.wires + reserved_edge_count s.reserves) 1024))
    && ((list_all (wire_fits s) s.wires && each_two share_no_port s.wires)
    && (list_all (reserve_fits s) s.reserves && each_two are_disjoint s.reserves))

-- ---- the state

abbrev pub has_output_edge : ℕ → List Wire → Bool
has_output_edge n ws = list_any (λ w. w.from == n) ws

-- an edge of the wires has its wire
abbrev pub start_port : Sizes → ℕ → PortState
start_port s e = record no_port {
  wire = cond (nat_lt e (length s.wires)) (Some (slice_index_or s.wires e no_wire)) None;
}

abbrev pub fresh_sight : ℕ → Sight
fresh_sight e = record { edge = e; flags = no_flags }

-- the node is an end of the edge seen, which is one of the wires
abbrev pub is_end_among : ℕ → List Wire → Sight → Bool
is_end_among n ws f = names n (Some (slice_index_or ws f.edge no_wire))

abbrev pub sights_of : ℕ → List Wire → List Sight
sights_of n ws = filter (is_end_among n ws) (map fresh_sight (range_with_len 0 (length ws)))

-- a node of a reserve is unborn, and a live one without output is charged
abbrev pub start_word : Sizes → ℕ → ℕ
start_word s n = cond (is_reserved_node n s.reserves) (2 ^ 61)
    (cond (has_output_edge n s.wires) 0 (2 ^ 60))

abbrev pub start_node : Sizes → ℕ → NodeState
start_node s n = record {
  word = start_word s n;
  held = false;
  tokens = 0;
  seen = sights_of n s.wires;
  unlooked = edges_of (sights_of n s.wires);
  owes = [];
}

-- how many of the first k nodes are charged
abbrev pub charged : Sizes → ℕ → ℕ
charged s k = sum_by counts (map (start_word s) (range_with_len 0 k))

abbrev pub start : Sizes → CoreState
start s = record {
  sizes = s;
  ports = map (start_port s)
      (range_with_len 0 (length s.wires + reserved_edge_count s.reserves));
  nodes = map (start_node s) (range_with_len 0 s.nodes);
  pending = charged s s.nodes;
  stopped = false;
}
