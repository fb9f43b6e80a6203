use Rattle.join_proc.proofs.Imports.{Row, arith, common_steps, get_or, get_or-map, map, no_null, [], row_at, value_at, ◌≡◌}
use Rattle.join_proc.proofs.AgreeLaws.{full-next, null-found}
use Rattle.join_proc.proofs.join_index.is_full.Goals as goal

pub loop-column-preserved : goal.loop-column-preserved
loop-column-preserved c = grind (arith, common_steps, full-next, no_null)

pub returns-then-not-is_valid : goal.returns-then-not-is_valid
returns-then-not-is_valid c =
    let columns = c.args.columns.now in
    let k = c.loop-column.column-index in
    let rows = c.args.chunk.now.rows in
    let row = row_at rows c.args.i in
    let f = λ (r : Row). value_at r (get_or columns k 0) in
    let v : value_at (map f rows) c.args.i ≡ f row =
    get_or-map f rows c.args.i [] _ c.requires.row in
    let found = null-found columns k row in
    grind (arith, v, found)
