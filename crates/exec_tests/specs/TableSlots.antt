-- What the seats of a table of two nodes and three edges know.
use Rattle.std.specs.Prelude.{◌≡◌, ℕ, ◌==◌, cond, Bool, true, false, Option, Some, None}
use Rattle.core_laws.specs.Views.{edges_of, flags_at, has}
use Rattle.port_word.specs.Pictures.{no_flags}
use Rattle.exec_table.specs.CoreNames.{Flags}
use Rattle.exec_table.specs.Ready.{end_of_view}
use Rattle.exec_table.specs.Seats.{Identity, IsSeatOf, slot_of, view}
use Rattle.exec_tests.specs.TableRows.{NodeSeat, content, edge_wire, edges_in, seen_as, test_sizes}

-- the held node n, with what it sees of each edge and the content of the edge's slot
pub record SeesEdges (n : ℕ) (f : ℕ → Flags) (y : ℕ → Option Bool) (t : Identity)
    (s : NodeSeat) : Type 0 where
  pub sizes : t.sizes ≡ test_sizes true
  pub seat : IsSeatOf t s
  pub number : (view s).number ≡ n
  pub held : (view s).state.held ≡ true
  pub learned : edges_of (view s).state.seen ≡ edges_in true
  pub wire : (d : ℕ) → has d (edges_in true) ≡ true
      → (end_of_view (view s) d).wire ≡ Some (edge_wire d)
  pub flags : (d : ℕ) → flags_at d (view s).state.seen ≡ f d
  pub slot : (d : ℕ) → content (slot_of s d) ≡ y d

-- f, but x at the edge e
abbrev pub put : {A : Type 0} (f : ℕ → A) (e : ℕ) (x : A) → ℕ → A
put f e x d = cond (d == e) x (f d)

-- after looks at two ports with data, or at two without
abbrev pub both_seen : Bool → ℕ → Flags
both_seen b = put (put (λ _. no_flags) 0 (seen_as false b)) 1 (seen_as false b)

abbrev pub both_out : Bool → ℕ → Option Bool
both_out b = put (put (λ _. None) 0 (Some b)) 1 (Some b)
