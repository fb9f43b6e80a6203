-- The columns that are built for a spec.
use Rattle.aggregate_proc.proofs.Imports.{◌≡◌, ℕ, ◌+◌, ◌<◌, ◌≤◌, Bool, true, false, List, [], ◌∷◌, ◌++◌, length, map, take, get_or, refl, sym, ap, ◌∙◌, subst, arith, AreLong-made, rows_of-made, common_steps, All, AreLong, Column, ColumnType, FoldColumn, Folding, GroupSpec, IsGroupTableFor, StateCall, GroupTableView, argument_types, call_foldings, call_types, count_up, default_value, empty_column, folding_of, foldings_for, get_or-map, get_or_default, spec_group_types, key_foldings, fold_types, length-append, length-map, map-append, map-id, map-map, rows_of, take_all, take_at, types_for, values}
use Rattle.chunk_data.specs.declared.typed_value.ColumnType.TheVariants as type
use Rattle.aggregate_proc.proofs.ListLaws.{map_of_places_is_take}
use Rattle.aggregate_proc.specs.declared.fold.Fold.TheVariants as fold

arguments : (calls : List StateCall) → call_types false calls ≡ argument_types calls
arguments [] = refl
arguments (call ∷ calls) = grind (arith, arguments calls)

kinds : (calls : List StateCall) → call_types true calls ≡ map (λ (c : StateCall). c.kind) calls
kinds calls = grind (arith, common_steps)

pub types-are : (merges : Bool) (g : GroupSpec)
    → g.keys ++ call_types merges g.calls ≡ types_for merges g
types-are merges g = grind (arith, arguments, kinds)

pub no-keys : (types : List ColumnType) → [] ≡ map empty_column (key_foldings types 0)
unfolding count_up
no-keys types = refl

pub key-push : (types : List ColumnType) (c : ℕ) (columns : List FoldColumn) (d : ColumnType)
    → columns ≡ map empty_column (key_foldings types c)
    → (column : FoldColumn)
    → column ≡ empty_column (record { op = fold.First; input = c; kind = get_or types c d })
    → c < length types
    → columns ++ column ∷ [] ≡ map empty_column (key_foldings types (c + 1))
unfolding count_up
key-push types c columns d e column is lt = grind (arith, get_or_default, map-append)

pub all-empty : (fs : List Folding) (columns : List FoldColumn) → columns ≡ map empty_column fs
    → All (λ (c : FoldColumn). c.values ≡ []) columns
all-empty fs columns e = λ k d lt.
    let l = ap length e ∙ length-map fs empty_column in
    let f = folding_of d in
    subst (λ (l : List FoldColumn). (get_or l k d).values ≡ []) (sym e)
    (subst (λ (c : FoldColumn). c.values ≡ [])
    (sym (get_or-map empty_column fs k f d (omega (arith, l, lt)))) refl)

pub foldings-are : (merges : Bool) (g : GroupSpec) (columns : List FoldColumn)
    → columns ≡ map empty_column (foldings_for merges g)
    → map folding_of columns ≡ foldings_for merges g
foldings-are merges g columns e =
    ap (map folding_of) e ∙ map-map folding_of empty_column (foldings_for merges g)
    ∙ map-id (foldings_for merges g)

pub built-columns : (merges : Bool) (g : GroupSpec) (types : List ColumnType)
    (keys now : List FoldColumn) → types ≡ types_for merges g
    → keys ≡ map empty_column (key_foldings types (length g.keys))
    → now ≡ keys ++ map empty_column (call_foldings merges (length g.keys) g.calls)
    → now ≡ map empty_column (foldings_for merges g)
built-columns merges g types keys now t k n = grind (arith, map-append)

-- ---- the types of a table's rows

call-kinds : (merges : Bool) (c : ℕ) (calls : List StateCall)
    → map (λ (f : Folding). f.kind) (call_foldings merges c calls)
    ≡ map (λ (s : StateCall). s.kind) calls
call-kinds merges c [] = refl
call-kinds merges c (call ∷ calls) = ap (λ l. call.kind ∷ l) (call-kinds merges _ calls)

front-keys : (merges : Bool) (g : GroupSpec)
    → (take (length g.keys) (types_for merges g) ≡ g.keys)
    × (length g.keys ≤ length (types_for merges g))
front-keys merges g = grind (arith, length-append, types-are, take_at)

pub table-types : (merges : Bool) (g : GroupSpec) (t : GroupTableView) → IsGroupTableFor merges g t
    → fold_types t ≡ spec_group_types g
table-types merges g t h =
    let front = front-keys merges g in
    sym (map-map (λ (f : Folding). f.kind) folding_of t.columns)
    ∙ ap (map (λ (f : Folding). f.kind)) h.foldings
    ∙ map-append (λ (f : Folding). f.kind) (key_foldings (types_for merges g) (length g.keys))
    (call_foldings merges (length g.keys) g.calls)
    ∙ ap (λ l. l ++ map (λ (f : Folding). f.kind) (call_foldings merges (length g.keys) g.calls))
    (map-map (λ (f : Folding). f.kind) _ (count_up (length g.keys))
    ∙ map_of_places_is_take (length g.keys) (types_for merges g) type.Text front.1 ∙ front.0)
    ∙ ap (λ l. g.keys ++ l) (call-kinds merges (length g.keys) g.calls)

-- the one row of defaults
pub default-rows : (calls : List StateCall)
    → rows_of 1 (map (λ (c : StateCall). default_value c.kind ∷ []) calls)
    ≡ map (λ (c : StateCall). default_value c.kind) calls ∷ []
default-rows calls = rows_of-made (λ (c : StateCall) (one : ℕ). default_value c.kind) calls (0 ∷ [])

pub default-long : (calls : List StateCall)
    → AreLong 1 (map (λ (c : StateCall). default_value c.kind ∷ []) calls)
default-long calls = AreLong-made (λ (c : StateCall) (one : ℕ). default_value c.kind) calls (0 ∷ [])

pub default-values : (calls : List StateCall) (columns given : List Column) (index : ℕ)
    → length calls ≤ index → given ≡ columns
    → map values columns ≡ map (λ (c : StateCall). default_value c.kind ∷ []) (take index calls)
    → map values given ≡ map (λ (c : StateCall). default_value c.kind ∷ []) calls
default-values calls columns given index le is e = grind (arith, take_all)
