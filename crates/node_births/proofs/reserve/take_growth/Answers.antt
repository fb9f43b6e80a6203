use Rattle.node_births.proofs.Imports.{arith, count_by-le-length, length-filter}
use Rattle.node_births.proofs.reserve.take_growth.Goals as goal

pub invariant_of-reserve : goal.invariant_of-reserve
invariant_of-reserve c =
    grind (arith, length-filter, count_by-le-length, c.args.places.now, c.remove_blanks.ensures)
