-- Reading a part field by field and record by record.
use Rattle.query_model.proofs.Imports.{ColumnType, Fields, FitsType, FitsTypes, List, None, Option, Row, Some, Value, [], ap, arith, bad_field, both_spelled, length, refl, spelled_row, spelled_value, subst, suc, ℕ, ◌∷◌, ◌≡◌, ◌≢◌, none-some, same_Some}
use Rattle.chunk_data.specs.declared.typed_value.ColumnType.TheVariants as column

-- another number of fields

pub bad_field-lengths : (types : List ColumnType) (fields : List (List ℕ))
    → length fields ≢ length types → bad_field types fields ≡ Fields (length fields)
bad_field-lengths types fields other = search (arith)

-- what a spelled row is like

spelled_value-fits : (t : ColumnType) (f : List ℕ) (v : Value) → spelled_value t f ≡ Some v
    → FitsType t v
spelled_value-fits column.Int64 f v h = search (arith, none-some, same_Some)
spelled_value-fits column.UInt64 f v h = search (arith, none-some, same_Some)
spelled_value-fits column.Text f v h = search (arith, same_Some)
spelled_value-fits column.NullInt64 f v h = search (arith, none-some, same_Some)
spelled_value-fits column.NullUInt64 f v h = search (arith, none-some, same_Some)
spelled_value-fits column.NullText f v h = search (arith, same_Some)

-- a row of the types, from as many fields
pub record IsSpelled (types : List ColumnType) (fields : List (List ℕ)) (row : Row) : Type 0 where
  pub fits : FitsTypes types row
  pub long : length fields ≡ length types

pub spelled_row-is : (types : List ColumnType) (fields : List (List ℕ)) (row : Row)
    → spelled_row types fields ≡ Some row → IsSpelled types fields row
unfolding spelled_row
spelled_row-is [] [] row h = search (arith, same_Some)
spelled_row-is (t ∷ types) (f ∷ fields) row h = go (spelled_value t f) (spelled_row types fields)
    refl (λ r e. spelled_row-is types fields r e) h
  where
    go : (o : Option Value) (p : Option Row) → spelled_value t f ≡ o
        → ((r : Row) → p ≡ Some r → IsSpelled types fields r) → both_spelled o p ≡ Some row
        → IsSpelled (t ∷ types) (f ∷ fields) row
    go (Some v) (Some r) e more k =
        let rest = more r refl in
        subst (IsSpelled (t ∷ types) (f ∷ fields)) (same_Some _ _ k)
        (record { fits = (spelled_value-fits t f v e, rest.fits); long = ap suc rest.long })
    go o p e more k = absurd cc
spelled_row-is types fields row h = absurd cc

pub spelled_row-fits : (types : List ColumnType) (fields : List (List ℕ)) (row : Row)
    → spelled_row types fields ≡ Some row → FitsTypes types row
spelled_row-fits types fields row h = (spelled_row-is types fields row h).fits

pub spelled_row-length : (types : List ColumnType) (fields : List (List ℕ)) (row : Row)
    → spelled_row types fields ≡ Some row → length fields ≡ length types
spelled_row-length types fields row h = (spelled_row-is types fields row h).long

pub spelled_row-lengths : (types : List ColumnType) (fields : List (List ℕ))
    → length fields ≢ length types → spelled_row types fields ≡ None
spelled_row-lengths types fields other = search (arith, spelled_row-length)
