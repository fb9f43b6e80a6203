-- Rows and columns: how columns of one length are read as rows.
use Rattle.std.specs.Prelude.{◌≡◌, ℕ, Bool, cond, List, [], ◌∷◌, ◌++◌, length, slice_index_or, replicate}

-- the elements whose place in the mask has true
abbrev pub kept : {X : Type 0} → List Bool → List X → List X
kept [] xs = []
kept (m ∷ ms) [] = []
kept (m ∷ ms) (x ∷ xs) = cond m (x ∷ kept ms xs) (kept ms xs)

-- each column's value put in front of the row beside it
abbrev pub adds : {X : Type 0} → List X → List (List X) → List (List X)
adds [] rows = []
adds (x ∷ xs) [] = []
adds (x ∷ xs) (row ∷ rows) = (x ∷ row) ∷ adds xs rows

-- the rows of columns of n values each
abbrev pub rows_of : {X : Type 0} → ℕ → List (List X) → List (List X)
rows_of n [] = replicate n []
rows_of n (column ∷ columns) = adds column (rows_of n columns)

-- each column has n values
abbrev pub AreLong : {X : Type 0} → ℕ → List (List X) → Type 0
AreLong n [] = Unit {0}
AreLong n (column ∷ columns) = (length column ≡ n) × AreLong n columns

-- each column with the values of the one beside it after its own, or each row with those of the row
-- beside it
abbrev pub append_each : {X : Type 0} → List (List X) → List (List X) → List (List X)
append_each [] others = []
append_each (column ∷ columns) [] = []
append_each (column ∷ columns) (other ∷ others) = (column ++ other) ∷ append_each columns others

-- the row at a place, which is in range
abbrev pub row_at : {X : Type 0} → List (List X) → ℕ → List X
row_at rows i = slice_index_or rows i []
