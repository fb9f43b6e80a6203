use Rattle.chunk_data.proofs.Imports.{All, false, length, plain_values, ◌<◌, ◌≡◌}
use Rattle.chunk_data.proofs.Nulls.{length-values, with_nulls-places}
use Rattle.chunk_data.proofs.typed_column.Column.gather.Goals as goal

pub returns-in_ok-gather_bools-in-Some-clause-values :
    goal.returns-in_ok-gather_bools-in-Some-clause-values
returns-in_ok-gather_bools-in-Some-clause-values c =
    let column = c.args.self.now in
    let vs = plain_values column.plain in
    let validity = c.in-Some.validity.items in
    let long : length validity ≡ length vs = rw c.in-Some.is at column.one_each in
    let inside : All (λ p. p < length vs) c.args.places.now =
    rw (length-values column) at c.requires in
    rw (c.in-Some.is, c.in_ok-gather_bools-in-Some.ensures, c.in_ok-plain.ensures.values)
    (with_nulls-places validity vs c.args.places.now false long inside)
