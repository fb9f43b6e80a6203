use Rattle.query_model.proofs.Imports.{arith, means}
use Rattle.query_model.proofs.PlaceLaws.{place_of-le}
use Rattle.query_model.proofs.analysis.placing.column_place.Goals as goal

pub overflow_cast-result : goal.overflow_cast-result
overflow_cast-result c = let le = place_of-le (means c.args.c.now) c.args.columns.now in
    omega (arith, le, c.meant_place.ensures, c.requires)
