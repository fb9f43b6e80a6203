-- An action of a node is carried out on its edge, and the node at the other end is told.
use Rattle.exec_laws.proofs.Imports.{Action, BoxPicture, List, MarkHolds, NodeStatus, Option, Picture, Status, in_count, input_at, out_count, output_at, rules, with_actions, ℕ}

pub mark-taken : (s : NodeStatus) (last : Option Status) (m n : ℕ) (p : BoxPicture) (v : Picture)
    (xs : List Action) → MarkHolds s last m n p v → MarkHolds s last m n p (with_actions v xs)
unfolding with_actions input_at output_at in_count out_count
mark-taken s last m n p v xs h1 = search rules
