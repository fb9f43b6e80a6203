use Rattle.node_workers.proofs.Imports.{All, HasSpare, IsDequeFor, IsWorkerAt, all_shares, identity_of, length, parts_of, places, total_over, vec_capacity, ◌+◌, ◌≡◌, ◌≤◌}
use Rattle.node_workers.proofs.run.make_workers.Given as goal

abbrev pub invariant-loop-held : goal.invariant-loop-held
invariant-loop-held g l = record {
  root : HasSpare (identity_of l.shared.table) (length l.held.items) l.root;
  first : IsWorkerAt l.shared l.first;
  whole : total_over parts_of l.workers.items + parts_of l.first ≡ all_shares;
  parts : parts_of l.first + length l.workers.items ≡ all_shares;
  many : length l.workers.items + length l.held.items ≡ length l.fn.held.items;
  held : All (IsDequeFor (places l.shared.shelf)) l.held.items;
  room : length l.fn.held.items + 1 ≤ vec_capacity l.workers;
  workers : All (IsWorkerAt l.shared) l.workers.items;
}

abbrev pub decreases-loop-held : goal.decreases-loop-held
decreases-loop-held g l = length l.held.items
