use Rattle.expr_eval.proofs.Imports.{get_or_default, type_of, value_of, arith}
use Rattle.expr_eval.proofs.expression.column_at.Goals as goal

pub column-requires : goal.column-requires
column-requires c = rw c.in-Column.is at c.requires.typed

pub returns-in-Column-clause-kind : goal.returns-in-Column-clause-kind
unfolding type_of
returns-in-Column-clause-kind c = grind (arith, get_or_default)

pub returns-in-Column-clause-values : goal.returns-in-Column-clause-values
unfolding value_of
returns-in-Column-clause-values c = rw c.in-Column.is c.column.ensures.values
