-- What a table that was shut came to.
use Rattle.std.specs.Prelude.{◌≡◌, ℕ, false, List, None, slice_index_or}
use Rattle.exec_table.specs.Boards.{NodeView, lane_at}
use Rattle.exec_table.specs.Surveys.{Surveyed}
use Rattle.exec_table.specs.declared.shut.Final.{Final}

-- the last words and what the seats knew show a state that meets the laws, and a slot that no seat
-- held has what its port has
pub record IsFinal (nodes : List NodeView) (f : Final) : Type 0 where
  pub shown : Surveyed f.words nodes
  pub slots : (e : ℕ) → (lane_at shown.board e).taken ≡ false
      → slice_index_or f.left.items e None ≡ (lane_at shown.board e).content
