use Rattle.query_model.proofs.Imports.{Schema, ap, bytes_eq, sym, ◌∙◌, arith}
use Rattle.query_model.proofs.PlaceLaws.{place_found, place_at_end}
use Rattle.query_model.proofs.analysis.placing.schema_place.Goals as goal

pub returns-then-eq : goal.returns-then-eq
returns-then-eq c =
    place_found (λ (s : Schema). bytes_eq s.name c.args.name.now) c.args.tables.now c.loop-i.i
    c.index-tables-i.result c.loop-i.invariant c.loop-i-test.true
    (ap (λ n. bytes_eq n c.args.name.now) (sym c.as_slice.ensures) ∙ sym c.if-eq.ensures)

pub returns : goal.returns
returns c = grind (arith, place_at_end)
