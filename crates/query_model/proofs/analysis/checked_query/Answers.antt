use Rattle.query_model.proofs.Imports.{arith, BothOrNone, CheckedJoin, FromColumn, IsCheckedJoin, IsPlacedJoin, Join, List, None, Option, Query, Schema, Some, append-nil, refl, table_columns, ◌∙◌, ◌≡◌, join_columns}
use Rattle.query_model.proofs.Accepted.{unrefused_is_accepted, narrow, ungrouped_items, are_keys}
use Rattle.query_model.proofs.TypedGroups.{checked_is_typed}
use Rattle.query_model.proofs.analysis.checked_query.Goals as goal

-- the join over the columns of the two tables
checked_join : (q : Query) (schemas : List Schema) (left right : List FromColumn) (o : Option Join)
    (j : Option CheckedJoin) → left ≡ table_columns schemas q.from
    → right ≡ join_columns schemas o
    → BothOrNone (IsPlacedJoin schemas left right) o j → BothOrNone (IsCheckedJoin q schemas) o j
checked_join q schemas left right None None l r h = tt
checked_join q schemas left right (Some a) (Some b) l r h =
    (h.table, rw (l, r ∙ append-nil (table_columns schemas a.table)) at h.pairs)
checked_join q schemas left right o j l r h = absurd h

pub place_join-requires-clause-few : goal.place_join-requires-clause-few
place_join-requires-clause-few c =
    rw c.requires.left (narrow c.args.query.now c.args.tables.now c.requires.accepted).left

pub place_join-requires-clause-few_right : goal.place_join-requires-clause-few_right
place_join-requires-clause-few_right c =
    rw c.requires.right (narrow c.args.query.now c.args.tables.now c.requires.accepted).right

pub place_where-requires : goal.place_where-requires
place_where-requires c =
    rw c.requires.columns (narrow c.args.query.now c.args.tables.now c.requires.accepted).width

pub made_shape-requires-clause-few : goal.made_shape-requires-clause-few
made_shape-requires-clause-few c =
    rw c.requires.columns (narrow c.args.query.now c.args.tables.now c.requires.accepted).width

pub made_shape-requires-clause-few_keys : goal.made_shape-requires-clause-few_keys
made_shape-requires-clause-few_keys c =
    (narrow c.args.query.now c.args.tables.now c.requires.accepted).keys

pub made_shape-requires-clause-plain : goal.made_shape-requires-clause-plain
made_shape-requires-clause-plain c = λ h. ungrouped_items c.args.query.now h

pub made_shape-requires-clause-grouped : goal.made_shape-requires-clause-grouped
made_shape-requires-clause-grouped c = search (arith, are_keys, unrefused_is_accepted)

pub returns-clause-checked : goal.returns-clause-checked
returns-clause-checked c = record {
  from = c.in_ok-from.ensures;
  join = checked_join c.args.query.now c.args.tables.now c.args.left.now c.args.right.now
      c.args.query.now.join c.in_ok-join.join c.requires.left c.requires.right c.in_ok-join.ensures;
  filter = rw c.requires.columns at c.in_ok-filter.ensures;
  shape = rw c.requires.columns at c.in_ok-shape.ensures;
  names = rw c.requires.columns at c.requires.names;
  types = c.in_ok-types.ensures
      ∙ rw (c.as_slice-3.ensures, c.in_ok-from_types.ensures, c.requires.columns) refl;
  order = c.in_ok-order.ensures
      ∙ rw (c.as_slice.ensures, c.as_slice-2.ensures, c.requires.names, c.requires.columns) refl;
  limit = refl;
}

pub returns-clause-typed : goal.returns-clause-typed
returns-clause-typed c =
    checked_is_typed c.args.query.now c.args.tables.now _ c.requires.analysable c.requires.accepted
    (returns-clause-checked c)
