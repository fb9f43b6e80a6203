-- Lists that are placed one by one.
use Rattle.query_model.proofs.Imports.{All, All-cons, All-head, All-nil, All-tail, AreColumnsFrom, EachWith, Expr, FromColumn, Item, ItemTree, item_tree, item_what, map, List, [], ap, arith, get_or, item_names, length, length-take, name_or, plain_name, refl, subst, suc, sym, take, take_more, ℕ, ◌++◌, ◌+◌, ◌<◌, ◌∷◌, ◌≡◌}
use Rattle.chunk_data.specs.declared.typed_value.ColumnType.TheVariants as column
use Rattle.query_model.specs.declared.query.ExprOf.TheVariants as expr

pub All-front : {A : Type 0} (P : A → Type 0) (xs ys : List A) → All P (xs ++ ys) → All P xs
All-front P [] ys h = All-nil P
All-front P (x ∷ xs) ys h =
    All-cons P x xs (All-head P x (xs ++ ys) h) (All-front P xs ys (All-tail P x (xs ++ ys) h))

pub All-behind : {A : Type 0} (P : A → Type 0) (xs ys : List A) → All P (xs ++ ys) → All P ys
All-behind P [] ys h = h
All-behind P (x ∷ xs) ys h = All-behind P xs ys (All-tail P x (xs ++ ys) h)

each_last : {A B : Type 0} (R : A → B → Type 0) (xs : List A) (ys : List B) (x : A) (y : B)
    → EachWith R xs ys → R x y → EachWith R (xs ++ x ∷ []) (ys ++ y ∷ [])
each_last R [] [] x y h r = (r, tt)
each_last R (a ∷ xs) (b ∷ ys) x y h r = (h.0, each_last R xs ys x y h.1 r)
each_last R xs ys x y h r = absurd h

pub each_more : {A B : Type 0} (R : A → B → Type 0) (xs : List A) (ys : List B) (i : ℕ) (d : A)
    (y : B) → i < length xs → EachWith R (take i xs) ys → R (get_or xs i d) y
    → EachWith R (take (i + 1) xs) (ys ++ y ∷ [])
each_more R xs ys i d y lt h r = search (arith, take_more, each_last)

columns_last : (k n : ℕ) (cs : List FromColumn) (es : List Expr) (c : FromColumn) → AreColumnsFrom k
    cs es → n ≡ k + length cs → AreColumnsFrom k (cs ++ c ∷ []) (es ++ expr.Column n ∷ [])
columns_last k n (x ∷ cs) (expr.Column m ∷ es) c h e = grind (arith, columns_last (k + 1) n cs es c)
columns_last k n cs es c h e = grind arith

pub columns_more : (cs : List FromColumn) (es : List Expr) (i : ℕ) → i < length cs → AreColumnsFrom
    0 (take i cs) es → AreColumnsFrom 0 (take (i + 1) cs) (es ++ expr.Column i ∷ [])
columns_more cs es i lt h =
    subst (λ l. AreColumnsFrom 0 l (es ++ expr.Column i ∷ [])) (sym (take_more cs i none lt))
    (columns_last 0 i (take i cs) es (get_or cs i none) h
    (let e = length-take i cs in omega (arith, e, lt)))
  where
    none : FromColumn
    none = record { table = []; name = []; type = column.Text }

-- names of items, of which the last has a place behind them
pub names_last : (k n : ℕ) (items : List Item) (i : Item) → n ≡ k + length items
    → item_names k (map item_tree (items ++ i ∷ []))
    ≡ item_names k (map item_tree items) ++ name_or i.alias (plain_name (item_what i.what) n) ∷ []
names_last k n [] i e =
    ap (λ m. name_or i.alias (plain_name (item_what i.what) m) ∷ []) (omega (arith, e))
names_last k n (x ∷ items) i e = search (arith, names_last (k + 1) n items i (omega (arith, e)))

pub length-item_names : (k : ℕ) (items : List ItemTree) → length (item_names k items) ≡ length items
length-item_names k [] = refl
length-item_names k (x ∷ items) = ap suc (length-item_names (k + 1) items)
