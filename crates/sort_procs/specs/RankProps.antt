-- That a rank is one is a proposition, so that sorts and merges may keep it.
use Rattle.chunk_data.specs.Names.{FitsTypes, Row, value_at}
use Rattle.chunk_data.specs.declared.typed_value.ColumnType.{ColumnType}
use Rattle.query_model.specs.Prelude.{Int, Null, SortKey, Text, UInt, Value}
use Rattle.sort_procs.specs.Ranks.{HasValueRank, IsRank, value_behind}
use Rattle.std.specs.Prelude.{List, [], suc, zero, ℕ, ◌∷◌}
use Rattle.std.proofs.Props.{props}
unfoldable use Rattle.sort_procs.specs.Ranks.{AreBytes}

AreBytes-prop : (n : ℕ) (bytes : List ℕ) → IsProp (AreBytes n bytes)
unfolding AreBytes
AreBytes-prop n [] = Prim.hlevel props
AreBytes-prop zero (byte ∷ bytes) = Prim.hlevel props
AreBytes-prop (suc n) (byte ∷ bytes) = Prim.hlevel (props, AreBytes-prop n bytes)

HasValueRank-prop : (v : Value) → IsProp (HasValueRank v)
HasValueRank-prop (Int z) = Prim.hlevel props
HasValueRank-prop (UInt n) = Prim.hlevel props
HasValueRank-prop (Text bytes) = AreBytes-prop 7 bytes
HasValueRank-prop Null = Prim.hlevel props

pub IsRank-prop : (keys : List SortKey) (told : ℕ) (row : Row) (r : ℕ)
    → IsProp (IsRank keys told row r)
IsRank-prop [] told row r = Prim.hlevel props
IsRank-prop (key ∷ keys) told row r =
    Prim.hlevel (props, HasValueRank-prop (value_behind told (value_at row key.column)))

pub FitsTypes-prop : (types : List ColumnType) (row : Row) → IsProp (FitsTypes types row)
FitsTypes-prop [] [] = Prim.hlevel props
FitsTypes-prop [] (v ∷ row) = Prim.hlevel props
FitsTypes-prop (t ∷ types) [] = Prim.hlevel props
FitsTypes-prop (t ∷ types) (Int z ∷ row) = Prim.hlevel (props, FitsTypes-prop types row)
FitsTypes-prop (t ∷ types) (UInt n ∷ row) = Prim.hlevel (props, FitsTypes-prop types row)
FitsTypes-prop (t ∷ types) (Text bytes ∷ row) = Prim.hlevel (props, FitsTypes-prop types row)
FitsTypes-prop (t ∷ types) (Null ∷ row) = Prim.hlevel (props, FitsTypes-prop types row)

-- for ghost fields of ranks
pub ruleset rank_props = (props, IsRank-prop, FitsTypes-prop)
