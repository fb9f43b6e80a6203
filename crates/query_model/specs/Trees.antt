-- Queries apart from where their boxes lie.
use Rattle.query_model.specs.Prelude.{ColumnRef, Item, ItemKind, Items, Join, List, Option, OrderKey, Query, [], map, option_map, ℕ}
use Rattle.query_model.specs.Formulas.{CallForm, CondForm, Formula, OperandForm, call_form, cond_form, formula}
use Rattle.query_model.specs.declared.query.ItemKind.TheVariants as kind
use Rattle.query_model.specs.declared.query.Items.TheVariants as items
use Rattle.query_model.specs.declared.query.Span.{Span}
use Rattle.query_model.specs.declared.query.TableRef.{TableRef}

pub data ItemWhat : Type 0 where
  plain_item : Formula ColumnRef → ItemWhat
  call_item : CallForm ColumnRef → ItemWhat

pub record ItemTree : Type 0 where
  pub what : ItemWhat
  pub alias : Option (List ℕ)

pub data Selection : Type 0 where
  star : Selection
  listed : List ItemTree → Selection

-- the items that are listed; `*` lists none
abbrev pub items_in : Selection → List ItemTree
items_in star = []
items_in (listed is) = is

pub record QueryTree : Type 0 where
  pub items : Selection
  pub from : TableRef
  pub join : Option Join
  pub filter : Option (CondForm (OperandForm ColumnRef))
  pub keys : List ColumnRef
  pub having : Option (CondForm (OperandForm ColumnRef))
  pub order : List OrderKey
  pub limit : Option Span

abbrev pub item_what : ItemKind → ItemWhat
item_what (kind.Plain e) = plain_item (formula e)
item_what (kind.Agg c) = call_item (call_form c)

abbrev pub item_tree : Item → ItemTree
item_tree i = record { what = item_what i.what; alias = i.alias }

abbrev pub selection : Items → Selection
selection items.Star = star
selection (items.Listed is) = listed (map item_tree is)

abbrev pub query_tree : Query → QueryTree
query_tree q = record {
  items = selection q.items;
  from = q.from;
  join = q.join;
  filter = option_map cond_form q.filter;
  keys = q.keys;
  having = option_map cond_form q.having;
  order = q.order;
  limit = q.limit;
}
