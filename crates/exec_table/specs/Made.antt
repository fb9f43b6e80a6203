-- What `make` gives, and how views are cut and joined.
use Rattle.std.specs.Prelude.{◌≡◌, ℕ, [], ◌∷◌, length, List, Vec}
use Rattle.std.specs.declared.alloc.Global.{Global}
use mathlib.Core.Option.{some}
use lib.ListN.{get_elem?}
use Rattle.exec_table.specs.CoreNames.{Sizes}
use Rattle.exec_table.specs.Boards.{NodeView, View, node_view}
use Rattle.exec_table.specs.Rule.{no_view, one, start_board}
use Rattle.exec_table.specs.Plays.{first_node}
use Rattle.exec_table.specs.Seats.{Identity, IsRootOf, IsSeatOf, identity_of, sizes_in, slots, view, NodeSeat}
use Rattle.exec_table.specs.declared.make.Made.{Made}

-- the seat of the node k, as at the start
abbrev pub IsOpen : Identity → ℕ → NodeSeat → Type 0
IsOpen t k s = IsSeatOf t s × (view s ≡ node_view (start_board t.sizes) k) × (slots s ≡ [])

abbrev pub AreOpenSeats : Identity → Vec NodeSeat Global → Type 0
AreOpenSeats t nodes = (length nodes.items ≡ t.sizes.nodes)
    × ((k : ℕ) (s : NodeSeat) → get_elem? nodes.items k ≡ some s → IsOpen t k s)

pub record IsNewTable (z : Sizes) (m : Made) : Type 0 where
  pub key : sizes_in m.table ≡ z
  pub nodes : AreOpenSeats (identity_of m.table) m.nodes
  pub root : IsRootOf (identity_of m.table) m.root
  pub none_made : m.root.seat.me.0.made ≡ 0

-- ---- views cut and joined

abbrev pub rest_of : List NodeView → List NodeView
rest_of [] = []
rest_of (x ∷ xs) = xs

-- the first node of a seat goes to another seat
abbrev pub without_first_node : View → View
without_first_node v = record no_view { nodes = rest_of v.nodes; made = v.made; sizes = v.sizes }

abbrev pub just_first : View → View
just_first v = one (first_node v)
