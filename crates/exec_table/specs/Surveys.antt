-- What a seat that has every node learns of all words.
use Rattle.std.specs.Prelude.{◌≡◌, ℕ, ◌<◌, ◌%◌, ◌^◌, ◌==◌, cond, List, [], ◌∷◌, ◌++◌, length, map}
use mathlib.Core.Option.{some}
use lib.ListN.{get_elem?}
use Rattle.exec_table.specs.Words.{words_of}
use Rattle.exec_table.specs.Boards.{Board, Holds, NodeView, View, node_view}
use Rattle.exec_table.specs.Rule.{Sat, Stp}
use Rattle.exec_table.specs.Seats.{Identity, IsSeatOf, slots, view, NodeSeat}

-- a seat takes in the nodes of another
abbrev pub joined_views : View → View → View
joined_views v w = record v { nodes = v.nodes ++ w.nodes; noted = []; aim = 0 }

-- a word as it is noted: without the stop bit
abbrev pub noted_word : ℕ → ℕ → ℕ
noted_word i n = cond (i == 0) (n % 2 ^ 63) n

abbrev pub noting : ℕ → ℕ → View → View
noting i n v = record v { noted = v.noted ++ noted_word i n ∷ [] }

-- the words and the views show a state that meets the laws
pub record Surveyed (words : List ℕ) (nodes : List NodeView) : Type 0 where
  pub board : Board
  pub holds : Holds board
  pub all : words ≡ words_of board.core
  pub seen : (i : ℕ) (x : NodeView) → get_elem? nodes i ≡ some x → x ≡ node_view board x.number

-- the view has each of the nodes
abbrev pub HasAll : ℕ → View → Type 0
HasAll count v = (n : ℕ) → n < count
    → (i : ℕ) × (x : NodeView) × (get_elem? v.nodes i ≡ some x) × (x.number ≡ n)

abbrev pub notes : Stp → Sat → ℕ → Sat → Type 0
notes st m n m' = m' ≡ (noting st.word n m.0, m.1)

abbrev pub surveys : Stp → Sat → ℕ → Sat → Type 0
surveys st m n m' = (m' ≡ m) × Surveyed m.0.noted m.0.nodes

-- ---- seats surveyed together

-- each of the seats is, to the one that stood at its place, as P says
abbrev pub EachSeat : (NodeSeat → NodeSeat → Type 0) → List NodeSeat → List NodeSeat → Type 0
EachSeat P olds news = (k : ℕ) (s : NodeSeat) → get_elem? news k ≡ some s
    → (was : NodeSeat) × (get_elem? olds k ≡ some was) × P was s

-- the seat gave its node away
abbrev pub IsLent : NodeSeat → NodeSeat → Type 0
IsLent was s = (s.seat.table_id ≡ was.seat.table_id) × (s.seat.me.0.nodes ≡ [])
    × (s.seat.me.1 ≡ was.seat.me.1) × (s.node ≡ was.node) × (s.held ≡ was.held)

-- the seats are those of all nodes of the table, in order of their numbers
abbrev pub AreAll : Identity → List NodeSeat → Type 0
AreAll t seats = (length seats ≡ t.sizes.nodes)
    × ((k : ℕ) (s : NodeSeat) → get_elem? seats k ≡ some s → IsSeatOf t s × ((view s).number ≡ k))

-- the seat is one of the table again, and knows what it knew
abbrev pub IsBack : Identity → NodeSeat → NodeSeat → Type 0
IsBack t was s = IsSeatOf t s × (view s ≡ view was) × (slots s ≡ slots was)

abbrev pub views : List NodeSeat → List NodeView
views seats = map view seats
