use Rattle.std.proofs.Common.{drop, ◌≡◌}
use Rattle.exec_laws.specs.Names.{reserve_of}
use Rattle.node_cells.proofs.new_reserves.reserve_of.Given as goal

abbrev pub invariant-loop-reserve : goal.invariant-loop-reserve
invariant-loop-reserve l =
    reserve_of l.reserves l.n ≡ reserve_of (drop l.reserve-index l.reserves) l.n
