-- Lists side by side.
use Rattle.plan_laws.proofs.Imports.{AllZip, DraftNode, given_by, taken_by, List, arith, drop, suc, take, ℕ, ◌++◌, ◌∷◌}

zip-take : {A B : Type 0} (R : A → B → Type 0) (n : ℕ) (xs : List A) (ys : List B)
    → AllZip R xs ys → AllZip R (take n xs) (take n ys)
zip-take R (suc n) (x ∷ xs) (y ∷ ys) h = (h.0, zip-take R n xs ys h.1)
zip-take R n xs ys h = grind arith

zip-drop : {A B : Type 0} (R : A → B → Type 0) (n : ℕ) (xs : List A) (ys : List B)
    → AllZip R xs ys → AllZip R (drop n xs) (drop n ys)
zip-drop R (suc n) (x ∷ xs) (y ∷ ys) h = zip-drop R n xs ys h.1
zip-drop R n xs ys h = grind arith

zip-append : {A B : Type 0} (R : A → B → Type 0) (xs us : List A) (ys vs : List B)
    → AllZip R xs ys → AllZip R us vs → AllZip R (xs ++ us) (ys ++ vs)
zip-append R (x ∷ xs) us (y ∷ ys) vs h k = (h.0, zip-append R xs us ys vs h.1 k)
zip-append R xs us ys vs h k = grind arith

pub zip-taken : {A B : Type 0} (R : A → B → Type 0) (node : DraftNode) (xs : List A) (ys : List B)
    → AllZip R xs ys → AllZip R (taken_by node xs) (taken_by node ys)
zip-taken R node xs ys h = search (arith, zip-take, zip-drop)

pub zip-given : {A B : Type 0} (R : A → B → Type 0) (node : DraftNode) (us xs : List A)
    (vs ys : List B) → AllZip R us vs → AllZip R xs ys
    → AllZip R (given_by node us xs) (given_by node vs ys)
zip-given R node us xs vs ys new h = search (arith, zip-append, zip-take, zip-drop)

pub zip-chain : {A B C : Type 0} (R : A → B → Type 0) (S : B → C → Type 0) (T : A → C → Type 0)
    → ((a : A) (b : B) (c : C) → R a b → S b c → T a c)
    → (xs : List A) (ys : List B) (zs : List C) → AllZip R xs ys → AllZip S ys zs → AllZip T xs zs
zip-chain R S T step (x ∷ xs) (y ∷ ys) (z ∷ zs) h k =
    (step x y z h.0 k.0, zip-chain R S T step xs ys zs h.1 k.1)
zip-chain R S T step xs ys zs h k = grind arith
