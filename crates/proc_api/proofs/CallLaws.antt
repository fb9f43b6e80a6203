-- What the actions of a view push.
use Rattle.proc_api.proofs.Imports.{arith, Action, Bool, EachAction, IsSound, List, Option, Picture, ShowsInFlags, Table, [], both_ways, eqb-true, false, input_at, noted_want, output_at, pulled_at, pushed_at, pushes_to, refl, taken_out, ℕ, ◌++◌, ◌==◌, ◌∙◌, ◌∷◌, ◌≡◌}

pub pushes_to-append : (o : ℕ) (xs ys : List Action)
    → pushes_to o (xs ++ ys) ≡ pushes_to o xs ++ pushes_to o ys
unfolding pushes_to
pushes_to-append o [] ys = refl
pushes_to-append o (a ∷ xs) ys = grind (arith, pushes_to-append o xs ys)

pub pushes_to-noted_want : (o i : ℕ) (b : Bool) (xs : List Action)
    → pushes_to o (noted_want i b xs) ≡ pushes_to o xs
unfolding pushes_to
pushes_to-noted_want o i b [] = grind arith
pushes_to-noted_want o i b (a ∷ xs) = grind (arith, pushes_to-noted_want o i b xs)

-- a port without data has no push among actions that show
pushes-shown : (p : Picture) (o : ℕ) (xs : List Action) → (output_at p o).has_data ≡ false
    → EachAction (ShowsInFlags p) xs → pushes_to o xs ≡ []
unfolding pushes_to
pushes-shown p o [] e h = refl
pushes-shown p o (a ∷ xs) e h = grind (arith, both_ways, eqb-true, pushes-shown p o xs e)

pub no-pushes : (p : Picture) (o : ℕ) → IsSound p → (output_at p o).has_data ≡ false
    → pushes_to o p.actions ≡ []
no-pushes p o s e = pushes-shown p o p.actions e s.done

pub taken_out-same : (c : Option Table) → taken_out c c ≡ []
taken_out-same c = grind arith

-- nothing was pushed where the actions push the same as before
pub none-pushed : (v w : Picture) (o : ℕ) → IsSound v
    → pushes_to o w.actions ≡ pushes_to o v.actions → pushed_at v w o ≡ []
none-pushed v w o s e = grind (arith, no-pushes)

-- the chunks that were added to the pushes of an empty port were pushed
pub just-pushed : (v w : Picture) (o : ℕ) (chunks : List Table) → IsSound v
    → (output_at v o).has_data ≡ false → pushes_to o w.actions ≡ pushes_to o v.actions ++ chunks
    → pushed_at v w o ≡ chunks
just-pushed v w o chunks s d e = grind (arith, no-pushes)

-- nothing was pulled where the chunk is the same
pub none-pulled : (v w : Picture) (i : ℕ) → (input_at w i).chunk ≡ (input_at v i).chunk
    → pulled_at v w i ≡ []
none-pulled v w i e = grind (arith, taken_out-same)
