-- The types of queries that the model has, in one place.
pub use Rattle.query_model.specs.Formulas.{CallForm, CondForm, Formula, OperandForm, arith, both, call, column, compare, either, negated, null, null_test, number, plain, text}
pub use Rattle.query_model.specs.Trees.{ItemTree, ItemWhat, QueryTree, Selection, call_item, item_tree, listed, plain_item, query_tree, star}
pub use Rattle.query_model.specs.declared.query.AggOp.{AggOp}
pub use Rattle.query_model.specs.declared.query.ColumnRef.{ColumnRef}
pub use Rattle.query_model.specs.declared.query.CompareOp.{CompareOp}
pub use Rattle.query_model.specs.declared.query.Join.{Join}
pub use Rattle.query_model.specs.declared.query.NamePair.{NamePair}
pub use Rattle.query_model.specs.declared.query.OrderKey.{OrderKey}
pub use Rattle.query_model.specs.declared.query.Query.{Query}
pub use Rattle.query_model.specs.declared.query.Span.{Span}
pub use Rattle.query_model.specs.declared.query.TableRef.{TableRef}

-- what stands in a query, over the names of columns
abbrev pub Expression : Type 0
Expression = Formula ColumnRef

abbrev pub CallTree : Type 0
CallTree = CallForm ColumnRef

abbrev pub QueryOperand : Type 0
QueryOperand = OperandForm ColumnRef

abbrev pub Condition : Type 0
Condition = CondForm QueryOperand
