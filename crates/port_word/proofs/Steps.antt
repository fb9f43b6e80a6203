-- How actions carried out one after another go together.
use Rattle.port_word.proofs.Imports.{arith, Action, Bool, Close, EachAction, Finish, Flags, InputAllows, IsOnce, List, Option, OutputAllows, Pull, Push, Table, Unwant, Want, [], action_slot, cases_Bool, chunk_after, chunk_step, cond, eqb-true, false, input_after, input_allows, input_step, is_want, not, noted_want, output_after, output_allows, output_step, refl, true, want_of, ℕ, ◌*◌, ◌++◌, ◌==◌, ◌||◌, ◌∷◌, ◌≡◌, ◌≢◌}
use Rattle.port_word.proofs.Slots.{each-map, slot-is_want}

pub cond-ap : {A B : Type 0} (h : A → B) (b : Bool) (x y : A) → h (cond b x y) ≡ cond b (h x) (h y)
cond-ap h true x y = refl
cond-ap h false x y = refl

pub cond-same : {A B : Type 0} (h : A → B) (b : Bool) (x y : A) → h x ≡ h y → h (cond b x y) ≡ h y
cond-same h true x y e = e
cond-same h false x y e = refl

-- a list and one more action

pub input_after-append : (i : ℕ) (xs : List Action) (a : Action) (f : Flags)
    → input_after i (xs ++ a ∷ []) f ≡ input_step i a (input_after i xs f)
input_after-append i [] a f = refl
input_after-append i (x ∷ xs) a f = input_after-append i xs a (input_step i x f)

pub chunk_after-append : (i : ℕ) (xs : List Action) (a : Action) (c : Option Table)
    → chunk_after i (xs ++ a ∷ []) c ≡ chunk_step i a (chunk_after i xs c)
chunk_after-append i [] a c = refl
chunk_after-append i (x ∷ xs) a c = chunk_after-append i xs a (chunk_step i x c)

pub output_after-append : (o : ℕ) (xs : List Action) (a : Action) (f : Flags)
    → output_after o (xs ++ a ∷ []) f ≡ output_step o a (output_after o xs f)
output_after-append o [] a f = refl
output_after-append o (x ∷ xs) a f = output_after-append o xs a (output_step o x f)

pub inputs_allow-append : (i : ℕ) (xs : List Action) (a : Action) (f : Flags) → InputAllows i xs f
    → input_allows i a (input_after i xs f) ≡ true → InputAllows i (xs ++ a ∷ []) f
inputs_allow-append i [] a f h k = (k, tt)
inputs_allow-append i (x ∷ xs) a f h k = (h.0, inputs_allow-append i xs a (input_step i x f) h.1 k)

pub outputs_allow-append : (o : ℕ) (xs : List Action) (a : Action) (f : Flags) → OutputAllows o xs f
    → output_allows o a (output_after o xs f) ≡ true → OutputAllows o (xs ++ a ∷ []) f
outputs_allow-append o [] a f h k = (k, tt)
outputs_allow-append o (x ∷ xs) a f h k =
    (h.0, outputs_allow-append o xs a (output_step o x f) h.1 k)

-- what stays: a finished flag only rises, and the bits of the other end don't change

-- Want or Unwant in the place of an earlier one

after-needed : (i : ℕ) (xs : List Action) (f : Flags) (b : Bool)
    → EachAction (λ a. action_slot a ≢ 5 * i) xs
    → input_after i xs (record f { needed = b }) ≡ record (input_after i xs f) { needed = b }
after-needed i [] f b h = refl
after-needed i (x ∷ xs) f b h =
    search (arith, cases_Bool, eqb-true, after-needed i xs (input_step i x f) b h.1)

allows-needed : (i : ℕ) (xs : List Action) (f : Flags) (b : Bool) → EachAction (λ a.
    action_slot a ≢ 5 * i) xs → InputAllows i xs f → InputAllows i xs (record f { needed = b })
allows-needed i [] f b h k = tt
allows-needed i (x ∷ xs) f b h k =
    search (arith, cases_Bool, eqb-true, allows-needed i xs (input_step i x f) b h.1 k.1)

-- the flags with needed as asked for, at input j alone
unfoldable pub needs : ℕ → ℕ → Bool → Flags → Flags
needs i j b f = cond (i == j) (record f { needed = b }) f

step-want_of : (i j : ℕ) (b : Bool) (f : Flags) → input_step i (want_of b j) f ≡ needs i j b f
unfolding needs
step-want_of i j true f = refl
step-want_of i j false f = refl

-- a Want or Unwant of input j asks for something
asks : Action → Bool
asks (Want j) = true
asks (Unwant j) = false
asks (Pull j) = false
asks (Close j) = false
asks (Push j chunk) = false
asks (Finish j) = false

replaced-at : (i : ℕ) (b c : Bool) (xs : List Action) (f : Flags) (t : Bool)
    → (t ≡ true → EachAction (λ a. action_slot a ≢ 5 * i) xs) → input_after i xs (cond t (record f
    { needed = b }) f) ≡ cond t (record (input_after i xs (cond t (record f { needed = c }) f))
    { needed = b }) (input_after i xs (cond t (record f { needed = c }) f))
replaced-at i b c xs f true h = after-needed i xs (record f { needed = c }) b (h refl)
replaced-at i b c xs f false h = refl

apart : (i j : ℕ) (x : Action) (xs : List Action) → action_slot x ≡ 5 * j → IsOnce (x ∷ xs)
    → (i == j) ≡ true → EachAction (λ a. action_slot a ≢ 5 * i) xs
apart i j x xs s o e = search (arith, each-map, eqb-true)

input_after-want-at : (i j : ℕ) (b : Bool) (x : Action) (xs : List Action) (f : Flags) (t : Bool)
    → is_want j x ≡ t → IsOnce (x ∷ xs) → input_after i (noted_want j b xs) (input_step i x f)
    ≡ needs i j b (input_after i xs (input_step i x f)) → input_after i (cond t (want_of b j ∷ xs)
    (x ∷ noted_want j b xs)) f ≡ needs i j b (input_after i xs (input_step i x f))
unfolding needs
input_after-want-at i j b x xs f true e o r =
    search (arith, step-want_of, replaced-at, asks, apart, slot-is_want, eqb-true)
input_after-want-at i j b x xs f false e o r = r

pub input_after-want : (i j : ℕ) (b : Bool) (xs : List Action) (f : Flags) → IsOnce xs
    → input_after i (noted_want j b xs) f ≡ needs i j b (input_after i xs f)
input_after-want i j b [] f o = step-want_of i j b f
input_after-want i j b (x ∷ xs) f o = input_after-want-at i j b x xs f (is_want j x) refl o
    (input_after-want i j b xs (input_step i x f) o.1)

pub chunk_after-want : (i j : ℕ) (b : Bool) (xs : List Action) (c : Option Table)
    → chunk_after i (noted_want j b xs) c ≡ chunk_after i xs c
chunk_after-want i j true [] c = refl
chunk_after-want i j false [] c = refl
chunk_after-want i j b (x ∷ xs) c = search (arith, chunk_after-want i j b xs (chunk_step i x c))

pub output_after-want : (o j : ℕ) (b : Bool) (xs : List Action) (f : Flags)
    → output_after o (noted_want j b xs) f ≡ output_after o xs f
output_after-want o j true [] f = refl
output_after-want o j false [] f = refl
output_after-want o j b (x ∷ xs) f = search (arith, output_after-want o j b xs (output_step o x f))

pub outputs_allow-want : (o j : ℕ) (b : Bool) (xs : List Action) (f : Flags) → OutputAllows o xs f
    → OutputAllows o (noted_want j b xs) f
outputs_allow-want o j true [] f h = (refl, tt)
outputs_allow-want o j false [] f h = (refl, tt)
outputs_allow-want o j b (x ∷ xs) f h =
    search (arith, outputs_allow-want o j b xs (output_step o x f) h.1)

allows-replaced-at : (i : ℕ) (b c : Bool) (xs : List Action) (f : Flags) (t : Bool)
    → (t ≡ true → EachAction (λ a. action_slot a ≢ 5 * i) xs) → InputAllows i xs
    (cond t (record f { needed = c }) f) → InputAllows i xs (cond t (record f { needed = b }) f)
allows-replaced-at i b c xs f true h k = allows-needed i xs (record f { needed = c }) b (h refl) k
allows-replaced-at i b c xs f false h k = k

pub inputs_allow-want : (i j : ℕ) (b : Bool) (xs : List Action) (f : Flags) → IsOnce xs
    → InputAllows i xs f → (not (i == j) || not (input_after i xs f).fin_in) ≡ true
    → InputAllows i (noted_want j b xs) f
inputs_allow-want i j b [] f o h k = search (arith)
inputs_allow-want i j b (x ∷ xs) f o h k = search (
  arith,
  step-want_of,
  allows-replaced-at,
  asks,
  apart,
  slot-is_want,
  eqb-true,
  inputs_allow-want i j b xs (input_step i x f) o.1 h.1 k,
)
