-- What a seat may do by its view it may do by the core.
use Rattle.exec_table.proofs.Imports.{Close, Finish, Pull, Push, Unwant, Want, Act, Board, Holds, Step, arith, can_act, edge_count, end_of_view, end_view, get_or-map-range_with_len, has, knows, length, may, may_act, no_end, node_at, node_view, ready, true, Act, ℕ, ◌<◌, ◌≡◌, no_port, cases_lt, get_or_past, length-map-range_with_len, and_parts, and_from, lt-ltb}
use Rattle.core_laws.specs.declared.types.Step.TheVariants as step

-- there is a node for each number below the nodes' count, and an edge for each below the edges'
pub node-count : (b : Board) → Holds b → length b.core.nodes ≡ b.core.sizes.nodes
node-count b h = h.laws.nodes.number

pub edge-count : (b : Board) → Holds b → length b.core.ports ≡ edge_count b.core.sizes
edge-count b h = h.laws.edges.count

-- what a view says of an edge
pub view-end : (b : Board) (n e : ℕ) → Holds b → end_of_view (node_view b n) e ≡ end_view b n e
view-end b n e h = let many = edge_count b.core.sizes in let f = end_view b n in
    let in_map = get_or-map-range_with_len f 0 many e e no_end in
    let none = get_or_past (node_view b n).ends e no_end in let cases = cases_lt e many in
    let past = get_or_past b.core.ports e no_port in let count = edge-count b h in
    let long = length-map-range_with_len f 0 many in
    grind (arith, cases, in_map, past, none, long, count)

act-may : (a : Act) (b : Board) (n e : ℕ) → Holds b → n < b.core.sizes.nodes
    → can_act a (node_view b n) e ≡ true → may_act a b.core n e ≡ true
act-may a b n e h i g = grind (arith, and_from, and_parts, node-count, lt-ltb, edge-count, view-end)

pub ready-may : (b : Board) (n : ℕ) (s : Step) → Holds b → n < b.core.sizes.nodes
    → ready (node_view b n) s ≡ true → may b.core n s ≡ true
ready-may b n (step.Look e) h i g = let k : knows e (node_at b.core n).seen ≡ true = grind arith in
    let inside = h.laws.edges.known n e k in let nodes = node-count b h in
    grind (arith, nodes, i, inside)
ready-may b n (step.Want e) h i g = act-may Want b n e h i g
ready-may b n (step.Unwant e) h i g = act-may Unwant b n e h i g
ready-may b n (step.Push e x) h i g = act-may (Push x) b n e h i
    (and_parts (can_act (Push x) (node_view b n) e) _ g).0
ready-may b n (step.Pull e) h i g = act-may Pull b n e h i g
ready-may b n (step.Finish e) h i g = act-may Finish b n e h i g
ready-may b n (step.ClosePort e) h i g = act-may Close b n e h i g
ready-may b n (step.Mark e) h i g = let o : has e (node_at b.core n).owes ≡ true =
    (and_parts _ _ g).0 in let k : knows e (node_at b.core n).seen ≡ true = (and_parts _ _
    ((h.laws.nodes.each n).owes e o)).1 in
    let inside = h.laws.edges.known n e k in let nodes = node-count b h in
    grind (arith, nodes, i, inside)
ready-may b n s h i g = let nodes = node-count b h in let edges = edge-count b h in
    let stage = h.stages n in grind (arith, nodes, edges, i, stage.unborn, stage.over)
