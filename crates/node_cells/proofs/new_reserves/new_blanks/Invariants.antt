use Rattle.std.proofs.Common.{[], map, ◌≡◌}
use Rattle.exec_laws.specs.Names.{blanks_of}
use Rattle.node_cells.proofs.new_reserves.new_blanks.Given as goal

abbrev pub invariant-loop-k : goal.invariant-loop-k
invariant-loop-k g l = l.all.items
    ≡ blanks_of (map g.P.Processor.seen l.boxes.items) [] l.reserve.first_node l.k
