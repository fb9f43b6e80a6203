-- Where nothing is due, and each node at rest rests as its view supports, every node is over.
use Rattle.exec_laws.proofs.Imports.{Bool, CellPicture, EdgeState, HasEdge, HasPort, Input, IsBorn, IsNodeOver, List, NodeHolds, NodeStatus, Option, Output, Picture, Port, Rests, Running, Status, WaitsForData, WaitsForRoom, Wire, [], arith, false, false_from_ne_true, get_or-le-sum_by, input_count, is_out_finished, is_resting, is_waiting, number_at, output_count, rank_at, refl, rules, suc, sum_by, true, wire_at, zero, ℕ, ◌+◌, ◌<◌, ◌≡◌, ◌≤◌}
use Rattle.exec_laws.proofs.Nodes.{busy-born}
use Rattle.exec_laws.proofs.Seeing.{port-below, port-shown}
use Rattle.exec_laws.proofs.Sides.{QuietEnd, end-quiet}
use Rattle.exec_laws.specs.declared.edges.NodeStatus.TheVariants as node

unless : (b c : Bool) → (b ≡ false → c ≡ true) → c ≡ false → b ≡ true
unless b c h1 h2 = grind arith

pub rests-so : (s : NodeStatus) → is_resting s ≡ true → s ≡ node.Resting
rests-so s h1 = grind arith

-- a node that rests waits for data or for room
rests-case : (last : Option Status) (view : Picture) → Rests last view → (WaitsForData view → ⊥)
    → (WaitsForRoom view → ⊥) → ⊥
rests-case last view h1 h2 h3 = search rules

-- an end of an edge
module _ {count : ℕ} {wires : List Wire} {cells : ℕ → CellPicture} {edges : ℕ → EdgeState}
    (r : Running count wires cells edges) (quiet : (m : ℕ) → (cells m).view.actions ≡ [])
    {e n : ℕ} {p : Port} (h : HasEdge wires n p e) where
  pub node-there : n < count
  node-there = search rules

  pub end-node : NodeHolds wires n (cells n) (r.pulled n) (r.pushed n)
  end-node = r.each n node-there (r.born e n p h)

  pub end-here : QuietEnd p (cells n) (edges e)
  end-here = end-quiet p (cells n) (edges e) (quiet n) (r.ends e n p h)

  pub end-shown : HasPort (cells n).view p
  end-shown = port-shown _ _ (cells n).view p end-node.view
      (port-below count wires r.graph n e p h)

module _ {count : ℕ} {wires : List Wire} {cells : ℕ → CellPicture} {edges : ℕ → EdgeState}
    (r : Running count wires cells edges) (quiet : (m : ℕ) → (cells m).view.actions ≡ [])
    (due : (n : ℕ) → n < count → is_waiting (cells n).mark.state ≡ false) where
  abbrev is_open : ℕ → Bool
  is_open n = is_resting (cells n).mark.state

  pub over-holds : (n : ℕ) → n < count → IsBorn (cells n).box → is_open n ≡ false
      → IsNodeOver (input_count wires n) (output_count wires n) (cells n).box (cells n).view
  over-holds n h1 h2 h3 = search rules

  open-node : (n : ℕ) → n < count → is_open n ≡ true
      → NodeHolds wires n (cells n) (r.pulled n) (r.pushed n)
  open-node n h1 h2 = search (rules, busy-born, rests-so)

  -- where a port isn't finished, the node at its end is at rest
  pub end-open : {e n : ℕ} {p : Port} → HasEdge wires n p e
      → is_out_finished (edges e).flags ≡ false → is_open n ≡ true
  end-open {e} {n} {p} h unfinished = unless (is_open n) (is_out_finished (edges e).flags) (λ over.
      let there = node-there r quiet h in
      let ports = (over-holds n there (r.born e n p h) over).ports in
      search (rules, ports, end-shown r quiet h, end-here r quiet h)) unfinished

  -- ---- no node waits

  abbrev rank : ℕ → ℕ
  rank n = rank_at r.graph.ranks n

  rank-bound : (n : ℕ) → n < count → rank n ≤ sum_by (λ x. x) r.graph.ranks
  unfolding rank_at
  rank-bound n lt = get_or-le-sum_by (λ x. x) r.graph.ranks n 0 (rw r.graph.nodes_len at lt)

  module _ (rests : (n : ℕ) → n < count → is_open n ≡ true
      → Rests (cells n).mark.last (cells n).view) where
    -- A wait for data goes down the ranks: the producer of a needed, empty, unfinished input isn't
    -- over and doesn't wait for room.
    no-data-wait : (k n : ℕ) → n < count → rank n < k → is_open n ≡ true
        → WaitsForData (cells n).view → ⊥
    no-data-wait zero n lt below open_now d = absurd (omega (arith, below))
    no-data-wait (suc k) n lt below open_now d =
        let own = open-node n lt open_now in
        let e : ℕ = number_at (cells n).inputs d.input in
        let here : HasEdge wires n (Input d.input) e =
        own.numbers.at (Input d.input) (rw own.view.ins at d.in_range) in
        let w : Wire = wire_at wires e in
        let far : HasEdge wires w.from (Output w.out) e =
        record { in_range = here.in_range; at_port = (refl, refl) } in
        let sees = (end-here r quiet here).known (rests-so _ open_now) in
        let unfinished : is_out_finished (edges e).flags ≡ false =
        grind (arith, sees, d.empty, d.unfinished) in
        let waits = end-open far unfinished in
        let ranked : rank w.from < rank n =
        rw here.at_port.0 at (r.graph.graph.so_far.edges e here.in_range).ranked in
        rests-case _ _ (rests w.from (node-there r quiet far) waits)
        (λ f. no-data-wait k w.from (node-there r quiet far) (omega (arith, ranked, below)) waits f)
        (λ room.
        let knows = (end-here r quiet far).known (rests-so _ waits) in
        let full = room.full w.out (end-shown r quiet far) in
        grind (arith, sees, knows, full, d.needed, d.empty, unfinished))

    -- A wait for room goes up the ranks: the consumer of an unfinished output isn't over and
    -- doesn't wait for data.
    no-room-wait : (k n : ℕ) → n < count → sum_by (λ x. x) r.graph.ranks < rank n + k
        → is_open n ≡ true → WaitsForRoom (cells n).view → ⊥
    no-room-wait zero n lt above open_now q = absurd (omega (arith, above, rank-bound n lt))
    no-room-wait (suc k) n lt above open_now q =
        let own = open-node n lt open_now in
        let e : ℕ = number_at (cells n).outputs q.output in
        let here : HasEdge wires n (Output q.output) e =
        own.numbers.at (Output q.output) (rw own.view.outs at q.in_range) in
        let w : Wire = wire_at wires e in
        let far : HasEdge wires w.to (Input w.input) e =
        record { in_range = here.in_range; at_port = (refl, refl) } in
        let knows = (end-here r quiet here).known (rests-so _ open_now) in
        let unfinished : is_out_finished (edges e).flags ≡ false =
        grind (arith, knows, q.unfinished) in
        let waits = end-open far unfinished in
        let ranked : rank n < rank w.to =
        rw here.at_port.0 at (r.graph.graph.so_far.edges e here.in_range).ranked in
        rests-case _ _ (rests w.to (node-there r quiet far) waits)
        (λ f. no-data-wait (suc (rank w.to)) w.to (node-there r quiet far) (omega arith) waits f)
        (λ f. no-room-wait k w.to (node-there r quiet far) (omega (arith, ranked, above)) waits f)

    -- every node is over
    pub all-over : (n : ℕ) → n < count → is_open n ≡ false
    all-over n lt = false_from_ne_true (is_open n) (λ open_now. rests-case _ _ (rests n lt open_now)
        (λ f. no-data-wait (suc (rank n)) n lt (omega arith) open_now f)
        (λ f. no-room-wait (suc (sum_by (λ x. x) r.graph.ranks)) n lt (omega arith) open_now f))
