-- An expression makes of each row the row of its items' values.
use Rattle.flow_procs.specs.Prelude.{Expr, IsMaker, IsShelled, List, Spec, item_row, map, map-append, refl, shelled-of}

pub expression_maker : (items : List Expr) → IsMaker (Spec.Expression items) (map (item_row items))
expression_maker items = record {
  both = map-append (item_row items);
  into = λ x own worked outs wait h. h;
  from = λ x own worked outs wait h. h;
}

pub expression_shelled : (items : List Expr) → IsShelled (Spec.Expression items)
expression_shelled items =
    shelled-of (Spec.Expression items) 1 refl (record { ports = λ growth m n h. h })
