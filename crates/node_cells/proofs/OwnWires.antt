-- The wires that a node knows of take the same ports of it as all wires of a graph do.
use Rattle.node_cells.proofs.Imports.{[], ℕ, ◌<◌, ◌∙◌, ◌≢◌}
use Rattle.std.proofs.Common.{◌∷◌}
