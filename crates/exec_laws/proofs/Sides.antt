-- One end of an edge, as its node's view shows it, when an end sees the edge or acts on it.
use Rattle.exec_laws.proofs.Imports.{CellPicture, EdgeEndHolds, EdgeState, Flags, Input, InputFollows, InputHolds, Output, OutputHolds, Picture, Port, [], input_at, output_at, rules, ◌≡◌}

-- ---- flags follow themselves

pub input-itself : (f : Flags) → InputFollows f f
input-itself f = search rules

-- ---- an end without actions

-- an end of an edge, where none of its node's actions waits
abbrev pub QuietEnd : Port → CellPicture → EdgeState → Type 0
QuietEnd (Input i) c e = InputHolds c.mark.state (input_at c.view i) e.flags e.chunk
QuietEnd (Output o) c e = OutputHolds c.mark.state (output_at c.view o) e.flags

pub end-quiet : (p : Port) (c : CellPicture) (e : EdgeState) → c.view.actions ≡ []
    → EdgeEndHolds p c e → QuietEnd p c e
end-quiet p c e h1 h2 = search rules

-- ---- the own end of an edge

-- a port shows the same
abbrev pub SamePort : Port → Picture → Picture → Type 0
SamePort (Input i) u v = input_at u i ≡ input_at v i
SamePort (Output o) u v = output_at u o ≡ output_at v o
