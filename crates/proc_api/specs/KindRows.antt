-- What is said of a kind by itself, in one row; `src/kind_rows.rt` has the same for the program.
use Rattle.proc_api.specs.Prelude.{Kind, List, Table, [], cond, false, true, Bool, ℕ}
use Rattle.query_model.specs.declared.processor_spec.Kind.TheVariants as kind
use Rattle.proc_api.specs.Boxes.{WorkState}
use Rattle.std.specs.Prelude.{◌∷◌, ◌≡◌, codes}

pub record KindFacts : Type 0 where
  -- its place in the order of kinds
  pub place : ℕ
  -- as lines print it
  pub name : List ℕ
  -- how many boxes of it the standard stock has
  pub stock : ℕ
  -- its work is longer than a thread takes to start
  pub works_long : Bool
  -- what it pulls leaves as it is, so that there is nothing to work
  pub passes_on : Bool
  -- it hands out the chunks that it gathered
  pub hands_out : Bool
  -- it reads a part's file, whose rows it makes
  pub reads_part : Bool
  -- it reads a list's file, and boxes are kept for the parts that this names
  pub reads_list : Bool

abbrev pub usual_row : (place : ℕ) → (name : List ℕ) → (stock : ℕ) → KindFacts
usual_row place name stock = record {
  place = place;
  name = name;
  stock = stock;
  works_long = true;
  passes_on = false;
  hands_out = false;
  reads_part = false;
  reads_list = false;
}

abbrev pub row_of : Kind → KindFacts
row_of kind.Csv = record (usual_row 0 (codes "Csv") 64) { reads_part = true }
row_of kind.List = record (usual_row 1 (codes "List") 2) { reads_list = true }
row_of kind.Numbers = usual_row 2 (codes "Numbers") 2
row_of kind.Filter = record (usual_row 3 (codes "Filter") 17) { works_long = false }
row_of kind.Expression = record (usual_row 4 (codes "Expression") 17) { works_long = false }
row_of kind.Resize = record (usual_row 5 (codes "Resize") 4) { passes_on = true }
row_of kind.PartialAggregate = usual_row 6 (codes "PartialAggregate") 16
row_of kind.MergeAggregate = usual_row 7 (codes "MergeAggregate") 1
row_of kind.HashJoin = usual_row 8 (codes "HashJoin") 1
row_of kind.Sort = usual_row 9 (codes "Sort") 16
row_of kind.MergeSorted = usual_row 10 (codes "MergeSorted") 1
row_of kind.Limit = usual_row 11 (codes "Limit") 1
row_of kind.Collect = record (usual_row 12 (codes "Collect") 1) { hands_out = true }

-- all kinds, in their order
abbrev pub all_kinds : List Kind
all_kinds =
    kind.Csv ∷ kind.List ∷ kind.Numbers ∷ kind.Filter ∷ kind.Expression ∷ kind.Resize
    ∷ kind.PartialAggregate ∷ kind.MergeAggregate ∷ kind.HashJoin ∷ kind.Sort ∷ kind.MergeSorted
    ∷ kind.Limit ∷ kind.Collect ∷ []

-- the kind of the boxes that are kept for growth: a list grows by a source for each of its parts
abbrev pub grown_kind : Kind
grown_kind = kind.Csv

abbrev pub ReadsPart : Kind → Type 0
ReadsPart k = (row_of k).reads_part ≡ true

abbrev pub ReadsList : Kind → Type 0
ReadsList k = (row_of k).reads_list ≡ true

-- the place of a kind in the order of kinds
abbrev pub kind_place : Kind → ℕ
kind_place k = (row_of k).place

-- its name, as lines print it
abbrev pub kind_name : Kind → List ℕ
kind_name k = (row_of k).name

-- how many boxes of a kind the standard stock has
abbrev pub stock_of : Kind → ℕ
stock_of k = (row_of k).stock

-- what `take_rows` gives: the chunks of a collector, and none of any other kind
abbrev pub handed_out_by : Kind → WorkState → List Table
handed_out_by k w = cond (row_of k).hands_out w.gathered []
