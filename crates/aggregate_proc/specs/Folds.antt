-- What a column of a group table has of each group, and how rows change it.
use Rattle.std.specs.Prelude.{ℕ, zero, suc, List, [], ◌∷◌, map}
use Rattle.aggregate_proc.specs.Prelude.{ColumnType, Row, Value, added, chosen, combined, counted, counts_added, greatest, least, value_at}
use Rattle.aggregate_proc.specs.declared.fold.Fold.{Fold}
use Rattle.aggregate_proc.specs.declared.fold.Fold.TheVariants as fold

abbrev pub earlier : Value → Value → Value
earlier a b = a

-- what is made of one or more values
abbrev pub folded : Fold → List Value → Value
folded fold.First vs = chosen earlier vs
folded fold.Count vs = combined counted vs
folded fold.Add vs = combined added vs
folded fold.AddCounts vs = combined counts_added vs
folded fold.Least vs = combined least vs
folded fold.Greatest vs = combined greatest vs

-- what is made of what was made, and one value more
abbrev pub next_folded : Fold → Value → Value → Value
next_folded fold.First s v = s
next_folded fold.Count s v = combined counts_added (s ∷ combined counted (v ∷ []) ∷ [])
next_folded fold.Add s v = combined added (s ∷ combined added (v ∷ []) ∷ [])
next_folded fold.AddCounts s v = combined counts_added (s ∷ combined counts_added (v ∷ []) ∷ [])
next_folded fold.Least s v = combined least (s ∷ combined least (v ∷ []) ∷ [])
next_folded fold.Greatest s v = combined greatest (s ∷ combined greatest (v ∷ []) ∷ [])

-- a value goes to the group at a place, or to a new group at the end
abbrev pub put_folded : Fold → List Value → ℕ → Value → List Value
put_folded op [] p v = folded op (v ∷ []) ∷ []
put_folded op (s ∷ states) zero v = next_folded op s v ∷ states
put_folded op (s ∷ states) (suc p) v = s ∷ put_folded op states p v

-- each value goes to the group at its place
abbrev pub put_all : Fold → List Value → List ℕ → List Value → List Value
put_all op states [] vs = states
put_all op states (p ∷ ps) [] = states
put_all op states (p ∷ ps) (v ∷ vs) = put_all op (put_folded op states p v) ps vs

-- a column of a group table: what it makes of the values of which column of the input
pub record FoldColumn : Type 0 where
  pub op : Fold
  pub input : ℕ
  pub kind : ColumnType
  pub values : List Value

-- rows go to the groups at their places
abbrev pub with_rows : List ℕ → List Row → FoldColumn → FoldColumn
with_rows places rows column = record column {
  values =
      put_all column.op column.values places (map (λ (row : Row). value_at row column.input) rows);
}
