-- Where nothing is due: either each born node is over, or some resting node's view contradicts its
-- last status.
use Rattle.exec_laws.proofs.Imports.{CellPicture, ContradictsStatus, EdgeState, EndSettled, HasEdge, Input, IsBorn, IsNodeOver, IsNothingDue, IsStuck, IsTrue, List, MarkTells, Output, Port, Running, Snapshot, StuckNode, SupportsStatus, Wire, [], append-nil, append_assoc, box_at, boxes_of, cell_at, false, input_count, is_out_finished, is_resting, kept_flags, length, length-map, no_cell, output_count, port_flags, pushes_to, refl, rules, stuck_from, true, wire_at, ℕ, ◌<◌, ◌≡◌}
use Rattle.exec_laws.proofs.Settled.{all-over, end-here, end-node, end-open, end-shown, node-there, over-holds, rests-so}
use Rattle.exec_laws.proofs.Sides.{QuietEnd}
use Rattle.exec_laws.specs.Ends.{IsDone}
use Rattle.exec_laws.specs.declared.edges.NodeStatus.TheVariants as node
use Rattle.std.proofs.Math.ListN.{get_or-map}

-- the box of a cell
pub box-of : (cells : List CellPicture) (n : ℕ) → box_at (boxes_of cells) n ≡ (cell_at cells n).box
unfolding box_at
box-of cells n = get_or-map (λ (c : CellPicture). c.box) cells n no_cell

-- an end of an edge, as the mark of its node says
end-settled : (q : Port) (c : CellPicture) (e : EdgeState) → QuietEnd q c e → MarkTells c
    → (c.mark.state ≡ node.Resting → kept_flags c.box q ≡ port_flags c.view q)
    → (is_out_finished e.flags ≡ false → is_resting c.mark.state ≡ true)
    → EndSettled q c.box e.flags
end-settled q c e h1 h2 h3 h4 = search (rules, rests-so)

-- Where no action waits, the lists of chunks are known.
module _ (wires : List Wire) (cells : List CellPicture) (edges : ℕ → EdgeState)
    (r : Running (length cells) wires (cell_at cells) edges)
    (quiet : (m : ℕ) → (cell_at cells m).view.actions ≡ []) where
  pub snapshot-holds : Snapshot wires (boxes_of cells)
  unfolding pushes_to
  snapshot-holds = record {
    pulled = r.pulled;
    pushed = r.pushed;
    ports = λ e. (edges e).flags;
    each = λ n lt. rw (box-of cells n) (λ born l.
        let holds = (r.each n (rw length-map at lt) born).box in
        record {
          still = holds.still l;
          keeps = holds.keeps l;
          nothing_past = holds.nothing_past;
          nothing_pushed_past = holds.nothing_pushed_past;
        });
    joined = λ e lt.
        let w : Wire = wire_at wires e in
        let from : HasEdge wires w.from (Output w.out) e =
        record { in_range = lt; at_port = (refl, refl) } in
        let to : HasEdge wires w.to (Input w.input) e =
        record { in_range = lt; at_port = (refl, refl) } in
        let passed = rw (quiet w.from, append-nil, append_assoc) at (r.lists e lt) in
        let from_kept = λ (l : IsTrue (cell_at cells w.from).box.lawful).
        (end-node r quiet from).kept (λ _. l) in
        let to_kept = λ (l : IsTrue (cell_at cells w.to).box.lawful).
        (end-node r quiet to).kept (λ _. l) in
        let from_end = end-here r quiet from in
        let to_end = end-here r quiet to in
        let from_shown = end-shown r quiet from in
        let to_shown = end-shown r quiet to in
        rw (box-of cells w.from, box-of cells w.to)
        (search (rules, passed, from_kept, to_kept, from_end, to_end));
  }

module _ (wires : List Wire) (cells : List CellPicture) (edges : ℕ → EdgeState)
    (r : Running (length cells) wires (cell_at cells) edges)
    (quiet : (m : ℕ) → (cell_at cells m).view.actions ≡ []) (due : IsNothingDue cells) where
  boxes-len : length (boxes_of cells) ≡ length cells
  boxes-len = rw length-map refl

  -- what the marks say
  pub marks-tell : (n : ℕ) → n < length cells → MarkTells (cell_at cells n)
  marks-tell n h1 = search (rules, over-holds r quiet due)

  -- where each resting node's view supports its last status, the run is done
  module _ (rest : (n : ℕ) → n < length cells → SupportsStatus (cell_at cells n)) where
    over : (n : ℕ) → n < length cells → IsBorn (cell_at cells n).box
        → IsNodeOver (input_count wires n) (output_count wires n) (cell_at cells n).box
        (cell_at cells n).view
    over n lt born = over-holds r quiet due n lt born (all-over r quiet due rest n lt)

    below : (n : ℕ) → n < length (boxes_of cells) → n < length cells
    below n lt = rw boxes-len at lt

    pub run-done : IsDone wires (boxes_of cells)
    unfolding pushes_to snapshot-holds
    run-done = record {
      snapshot = snapshot-holds wires cells edges r quiet;
      over = record {
        answers = λ n lt. rw (box-of cells n) (λ born. (over n (below n lt) born).answer);
        running = λ n lt. rw (box-of cells n) (λ born. (r.each n (below n lt) born).box.running);
        finished = λ n lt. rw (box-of cells n) (λ born. (over n (below n lt) born).kept);
        all = λ e lt.
            let w : Wire = wire_at wires e in
            let to : HasEdge wires w.to (Input w.input) e =
            record { in_range = lt; at_port = (refl, refl) } in
            let passed = rw (quiet w.from, append-nil, append_assoc) at (r.lists e lt) in
            let born = r.born e w.to (Input w.input) to in
            let ports = (over w.to (node-there r quiet to) born).ports in
            let to_end = end-here r quiet to in
            let to_shown = end-shown r quiet to in
            search (rules, passed, ports, to_end, to_shown);
      };
    }

  -- nothing is left to be told of an edge's port
  settled : (e n : ℕ) (q : Port) → HasEdge wires n q e
      → EndSettled q (box_at (boxes_of cells) n) (edges e).flags
  settled e n q h = rw (box-of cells n) (end-settled q (cell_at cells n) (edges e)
      (end-here r quiet h) (marks-tell n (node-there r quiet h))
      (λ s. (rw s at (end-node r quiet h).mark).kept q (end-shown r quiet h))
      (end-open r quiet due h))

  -- Where the view of a resting node contradicts its last status, its box isn't lawful, and the run
  -- is stuck there.
  pub run-stuck : (n : ℕ) (report : List StuckNode) → n < length cells → ContradictsStatus
      (cell_at cells n) → report ≡ stuck_from 0 (boxes_of cells) → IsStuck wires
      (boxes_of cells) report n
  run-stuck n report h1 h2 h3 = record {
    ports = λ e. (edges e).flags;
    settled = settled;
    lists = h3;
    at_rest = search (rules, boxes-len, box-of, marks-tell);
    in_range = search (rules, boxes-len);
    listed = search (rules, box-of, marks-tell);
    unlawful = search (rules, box-of);
  }
