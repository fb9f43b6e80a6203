use Rattle.key_codes.proofs.Imports.{◌<◌, ◌++◌, length, get_or, ap, ◌∙◌, arith, column_type, row_at, value_at, value_bytes, values}
use Rattle.key_codes.proofs.KeyLaws.{bytes-next, cell-type, cell-value, cells-next, null-next}
use Rattle.key_codes.proofs.places.write_code.Goals as goal

pub loop-place-preserved : goal.loop-place-preserved
loop-place-preserved c =
    let types = c.args.chunk.now.types in
    let places = c.args.places.now in
    let k = c.loop-place.place-index in
    let lt : k < length places = omega (arith, c.loop-place-test.true) in
    let at = get_or places k 0 in
    let within = c.requires.within k 0 lt in
    let row = row_at c.args.chunk.now.rows c.args.i in
    let cell = value_at (values c.column.result.now) c.args.i in
    let is = cell-value c.args.chunk.now.rows at c.args.i (values c.column.result.now)
    c.column.ensures.values c.requires.row in (
      bytes-next places k row c.push_value.new.code.items cell lt (c.in_ok-null.ensures.code
          ∙ ap (λ l. l ++ value_bytes cell) c.loop-place.invariant.0) is,
      c.either-some_null.ensures ∙ null-next places k row c.loop-place.some_null c.in_ok-null.null
          cell lt c.loop-place.invariant.1 c.in_ok-null.ensures.null is,
      cells-next types places k row c.loop-place.invariant.2 lt
          (cell-type types at (column_type c.column.result.now) cell _ c.column.ensures.kind within
          is c.push_value.ensures.cell),
    )
