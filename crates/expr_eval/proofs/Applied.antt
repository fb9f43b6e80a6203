-- Operators on numbers are those on values.
use Rattle.expr_eval.proofs.Imports.{arith, ArithOp, Bool, Int, List, Sub, UInt, arith_value, exact_result, int_wrap, map, plain_value, pos, refl, residue, result_type, swap_if, w64, wrapped, zip, ℕ, ℤ, ◌-ℤ◌, ◌≡◌}
use Rattle.chunk_data.specs.declared.typed_value.ColumnType.TheVariants as column
use Rattle.expr_eval.proofs.Onto.{map-map, same_maps, zip-map}

-- one list under a constructor
pub under_one : {A X Z W : Type 0} (f : A → X) (w : Z → W) (h : X → W) (k : A → Z) (us : List A)
    {zs : List Z} → zs ≡ map k us → ((a : A) → h (f a) ≡ w (k a)) → map w zs ≡ map h (map f us)
under_one f w h k us e q = search (arith, map-map, same_maps)

pub int_pair_at : (op : ArithOp) (x y : ℤ)
    → arith_value op (Int x) (Int y) ≡ Int (int_wrap w64 (exact_result op x y))
unfolding wrapped
int_pair_at op x y = grind arith

pub uint_pair_at : (op : ArithOp) (x y : ℕ) → (op ≡ Sub → ⊥)
    → arith_value op (UInt x) (UInt y) ≡ UInt (residue (exact_result op (pos x) (pos y)))
unfolding wrapped
uint_pair_at op x y not = grind arith

pub uint_difference_at : (op : ArithOp) (x y : ℕ) → op ≡ Sub
    → arith_value op (UInt x) (UInt y) ≡ Int (int_wrap w64 (pos x -ℤ pos y))
unfolding wrapped
uint_difference_at op x y e = rw e refl

pub uint_type : (op : ArithOp) → (op ≡ Sub → ⊥) → result_type op column.UInt64 ≡ column.UInt64
uint_type op not = grind arith

int_before_plain : (op : ArithOp) (x z : ℤ)
    → arith_value op (Int x) (plain_value z) ≡ Int (int_wrap w64 (exact_result op x z))
unfolding wrapped
int_before_plain op x z = grind arith

int_behind_plain : (op : ArithOp) (x z : ℤ)
    → arith_value op (plain_value z) (Int x) ≡ Int (int_wrap w64 (exact_result op z x))
unfolding wrapped
int_behind_plain op x z = grind arith

pub int_beside_at : (swapped : Bool) (op : ArithOp) (x z : ℤ) → swap_if swapped (arith_value op)
    (Int x) (plain_value z) ≡ Int (int_wrap w64 (swap_if swapped (exact_result op) x z))
int_beside_at swapped op x z = grind (arith, int_before_plain, int_behind_plain)

pub uint_beside_at : (swapped : Bool) (op : ArithOp) (x y : ℕ) → (op ≡ Sub → ⊥)
    → swap_if swapped (arith_value op) (UInt x) (UInt y)
    ≡ UInt (residue (swap_if swapped (exact_result op) (pos x) (pos y)))
uint_beside_at swapped op x y not = grind (arith, uint_pair_at)

pub uint_difference_beside_at : (swapped : Bool) (op : ArithOp) (x y : ℕ) → op ≡ Sub
    → swap_if swapped (arith_value op) (UInt x) (UInt y)
    ≡ Int (int_wrap w64 (swap_if swapped (λ a b. a -ℤ b) (pos x) (pos y)))
uint_difference_beside_at swapped op x y e = grind (arith, uint_difference_at)

-- what one list gives, seen under a constructor
pub masked_one : {A X Z : Type 0} (f : A → X) (h : X → Z) (k : A → Z) (us : List A) {zs : List Z}
    {xs : List X} → zs ≡ map k us → xs ≡ map f us → ((a : A) → h (f a) ≡ k a) → zs ≡ map h xs
masked_one f h k us e x q = search (arith, same_maps, map-map)

-- what two lists give, each seen under a constructor
pub masked_pairs : {A B X Y Z : Type 0} (f : A → X) (g : B → Y) (h : X → Y → Z) (k : A → B → Z)
    (us : List A) (bs : List B) {zs : List Z} {xs : List X} {ys : List Y}
    → zs ≡ map (λ p. k p.0 p.1) (zip us bs) → xs ≡ map f us → ys ≡ map g bs
    → ((a : A) (b : B) → h (f a) (g b) ≡ k a b) → zs ≡ map (λ p. h p.0 p.1) (zip xs ys)
masked_pairs f g h k us bs {xs = xs} e x y q = search (arith, same_maps, zip-map)
