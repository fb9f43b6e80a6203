use Rattle.flow_procs.proofs.Imports.{IfOk, UInt, [], ap, map, rules, subst, ◌∙◌, ◌∷◌, ◌≡◌}
use Rattle.flow_procs.proofs.CountingLaws.{column-long, column-rows}
use Rattle.flow_procs.proofs.numbers.chunk_from.Goals as goal

pub of_columns-requires : goal.of_columns-requires
of_columns-requires c =
    let alone : c.from_vec.result ≡ c.of_uints.result ∷ [] = search rules in
    column-long c.from_vec.result c.of_uints.result c.args.first c.args.count alone
    (c.of_uints.ensures.values ∙ ap (map UInt) c.in_ok-numbers.ensures)

pub returns-clause-rows : goal.returns-clause-rows
returns-clause-rows c =
    let alone : c.from_vec.result ≡ c.of_uints.result ∷ [] = search rules in
    subst (λ rows. IfOk c.of_columns.result (λ d. d.rows ≡ rows))
    (column-rows c.from_vec.result c.of_uints.result c.args.first c.args.count alone
    (c.of_uints.ensures.values ∙ ap (map UInt) c.in_ok-numbers.ensures))
    c.of_columns.ensures.rows
