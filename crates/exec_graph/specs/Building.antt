-- Why an edge or a graph is refused.
use Rattle.std.specs.Prelude.{◌≡◌, ℕ, ◌+◌, ◌<◌, ◌≤◌, not, nat_lt, ◌&&◌, ◌||◌, if◌then◌else◌, true, false, List, length, Option, Some, None}
use Rattle.port_word.specs.declared.flags.Reserve.{Reserve}
use Rattle.port_word.specs.declared.flags.Wire.{Wire}
use Rattle.proc_api.specs.Graphs.{rank_at, has_input, has_output, is_gapless, reserved_edges}
use Rattle.exec_graph.specs.declared.causes.AddCause.{AddCause}
use Rattle.exec_graph.specs.declared.causes.AddCause.TheVariants as add
use Rattle.exec_graph.specs.declared.causes.ReserveCause.{ReserveCause}
use Rattle.exec_graph.specs.declared.causes.ReserveCause.TheVariants as reserve
use Rattle.exec_graph.specs.declared.causes.BuildRefusal.{BuildRefusal}
use Rattle.exec_graph.specs.declared.causes.BuildRefusal.TheVariants as refusal
use Rattle.exec_graph.specs.declared.causes.BuildCause.{BuildCause}
use Rattle.exec_graph.specs.declared.causes.BuildCause.TheVariants as build

-- why a node is refused beside so many; want of memory is free where there is room
abbrev pub IsAddRefused : AddCause → ℕ → Type 0
IsAddRefused add.TooManyNodes nodes = 256 ≤ nodes
IsAddRefused add.Memory nodes = nodes < 256

-- why a reserve is refused with which there would be so many nodes and edges
abbrev pub IsReserveRefused : ReserveCause → (nodes edges : ℕ) → Type 0
IsReserveRefused reserve.TooManyNodes nodes edges = 256 < nodes
IsReserveRefused reserve.TooManyEdges nodes edges = (nodes ≤ 256) × (1024 < edges)
IsReserveRefused reserve.Memory nodes edges = (nodes ≤ 256) × (edges ≤ 1024)

-- the first of the refusals that is due to an edge, if one is; reserved edges count among the edges
abbrev pub edge_refusal : List ℕ → List Wire → List Reserve → Wire → Option BuildRefusal
edge_refusal ranks wires reserves w =
    if not (nat_lt (rank_at ranks w.from) (rank_at ranks w.to)) then Some refusal.RankOrder
    else if not (nat_lt w.input 32 && nat_lt w.out 16) then Some refusal.TooManyPorts
    else if has_input wires w.to w.input || has_output wires w.from w.out
    then Some refusal.PortTaken
    else if not (nat_lt (length wires + reserved_edges reserves) 1024)
    then Some refusal.TooManyEdges
    else None

-- an edge is refused by the refusal that is due; want of memory is free where none is
abbrev pub IsEdgeRefused : BuildRefusal → List ℕ → List Wire → List Reserve → Wire → Type 0
IsEdgeRefused refusal.Memory ranks wires reserves w = edge_refusal ranks wires reserves w ≡ None
IsEdgeRefused r ranks wires reserves w = edge_refusal ranks wires reserves w ≡ Some r

-- a graph is refused at the first of its nodes whose ports in use have a gap
abbrev pub IsBuildRefused : BuildCause → ℕ → List Wire → Type 0
IsBuildRefused (build.PortGap n) nodes wires = (n < nodes) × (is_gapless wires n ≡ false)
    × ((m : ℕ) → m < n → is_gapless wires m ≡ true)
IsBuildRefused build.Memory nodes wires = ⊥
