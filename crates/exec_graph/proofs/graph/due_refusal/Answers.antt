use Rattle.std.proofs.Common.{ap, length, sym, ◌+◌, ◌∙◌, arith}
use Rattle.std.proofs.lemmas.Bool.{lt-ltb, le-ltb}
use Rattle.proc_api.specs.Graphs.{reserved_edges}
use Rattle.exec_graph.proofs.Refusals.{due-rank, due-ports, due-taken, due-edges, due-nothing}
use Rattle.exec_graph.proofs.graph.due_refusal.Goals as goal

pub returns-then-not-is_ranked : goal.returns-then-not-is_ranked
returns-then-not-is_ranked c = sym (due-rank c.args.ranks.now c.args.wires.now c.args.reserves.now
    c.args.wire.now (sym c.is_ranked.ensures ∙ c.if-not-is_ranked.true))

pub returns-then-not-has_small_ports : goal.returns-then-not-has_small_ports
returns-then-not-has_small_ports c = sym (due-ports c.args.ranks.now c.args.wires.now
    c.args.reserves.now c.args.wire.now (sym c.is_ranked.ensures ∙ c.if-not-is_ranked.false)
    (sym c.has_small_ports.ensures ∙ c.if-not-has_small_ports.true))

pub returns-then-is_port_taken : goal.returns-then-is_port_taken
returns-then-is_port_taken c =
    sym (due-taken c.args.ranks.now c.args.wires.now c.args.reserves.now c.args.wire.now
    (sym c.is_ranked.ensures ∙ c.if-not-is_ranked.false) (sym c.has_small_ports.ensures
    ∙ c.if-not-has_small_ports.false) (sym c.is_port_taken.ensures ∙ c.if-is_port_taken.true))

pub returns-then-len-reserved_edges-ge-MAX_EDGES : goal.returns-then-len-reserved_edges-ge-MAX_EDGES
returns-then-len-reserved_edges-ge-MAX_EDGES c = sym (due-edges c.args.ranks.now c.args.wires.now
    c.args.reserves.now c.args.wire.now (sym c.is_ranked.ensures ∙ c.if-not-is_ranked.false)
    (sym c.has_small_ports.ensures ∙ c.if-not-has_small_ports.false) (sym c.is_port_taken.ensures
    ∙ c.if-is_port_taken.false) (le-ltb (length c.args.wires.now + reserved_edges
    c.args.reserves.now) 1024 (omega (
      arith,
      c.if-len-reserved_edges-ge-MAX_EDGES.true,
      c.len.ensures,
      c.reserved_edges.ensures,
      ap (λ rs. reserved_edges rs) c.as_slice.ensures,
    ))))

pub returns : goal.returns
returns c = sym (due-nothing c.args.ranks.now c.args.wires.now c.args.reserves.now c.args.wire.now
    (sym c.is_ranked.ensures ∙ c.if-not-is_ranked.false) (sym c.has_small_ports.ensures
    ∙ c.if-not-has_small_ports.false) (sym c.is_port_taken.ensures ∙ c.if-is_port_taken.false)
    (lt-ltb (length c.args.wires.now + reserved_edges c.args.reserves.now) 1024
    (omega (
      arith,
      c.if-len-reserved_edges-ge-MAX_EDGES.false,
      c.len.ensures,
      c.reserved_edges.ensures,
      ap (λ rs. reserved_edges rs) c.as_slice.ensures,
    ))))
