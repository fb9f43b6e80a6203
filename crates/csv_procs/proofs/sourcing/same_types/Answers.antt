use Rattle.csv_procs.proofs.Imports.{same_true, slice_eq-Decides, true_same}
use Rattle.chunk_data.specs.contracts.typed_value.ColumnType as column_type
use Rattle.csv_procs.proofs.sourcing.same_types.Goals as goal

pub returns : goal.returns
returns c = slice_eq-Decides
    (λ a b. (same_true column_type.the_type tt a b, true_same column_type.the_type a b))
    c.args.types.now c.args.others.now c.eq.result c.eq.ensures
