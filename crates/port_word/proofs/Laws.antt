-- How the words of a picture go together; crates above name `picture_laws` in their root attribute.
use Rattle.port_word.proofs.Imports.{Action, Flags, InputPort, List, Picture, get_or-set_other, get_or-set_same, in_count, input_at, length-set, out_count, output_at, refl, with_actions, with_input, with_output, ℕ, ◌<◌, ◌≡◌, ◌≢◌}

pub input_at-with_input : (p : Picture) (i : ℕ) (x : InputPort) → i < in_count p
    → input_at (with_input p i x) i ≡ x
unfolding input_at with_input in_count
input_at-with_input p i x h = rw get_or-set_same refl

pub input_at-with_input-other : (p : Picture) (i j : ℕ) (x : InputPort) → j ≢ i
    → input_at (with_input p i x) j ≡ input_at p j
unfolding input_at with_input
input_at-with_input-other p i j x h = rw get_or-set_other refl

pub output_at-with_output : (p : Picture) (o : ℕ) (f : Flags) → o < out_count p
    → output_at (with_output p o f) o ≡ f
unfolding output_at with_output out_count
output_at-with_output p o f h = rw get_or-set_same refl

pub output_at-with_output-other : (p : Picture) (o j : ℕ) (f : Flags) → j ≢ o
    → output_at (with_output p o f) j ≡ output_at p j
unfolding output_at with_output
output_at-with_output-other p o j f h = rw get_or-set_other refl

pub output_at-with_input : (p : Picture) (i o : ℕ) (x : InputPort)
    → output_at (with_input p i x) o ≡ output_at p o
unfolding output_at with_input
output_at-with_input p i o x = refl

pub input_at-with_output : (p : Picture) (o i : ℕ) (f : Flags)
    → input_at (with_output p o f) i ≡ input_at p i
unfolding input_at with_output
input_at-with_output p o i f = refl

pub in_count-with_input : (p : Picture) (i : ℕ) (x : InputPort)
    → in_count (with_input p i x) ≡ in_count p
unfolding in_count with_input
in_count-with_input p i x = length-set p.inputs i x

pub out_count-with_input : (p : Picture) (i : ℕ) (x : InputPort)
    → out_count (with_input p i x) ≡ out_count p
unfolding out_count with_input
out_count-with_input p i x = refl

pub in_count-with_output : (p : Picture) (o : ℕ) (f : Flags)
    → in_count (with_output p o f) ≡ in_count p
unfolding in_count with_output
in_count-with_output p o f = refl

pub out_count-with_output : (p : Picture) (o : ℕ) (f : Flags)
    → out_count (with_output p o f) ≡ out_count p
unfolding out_count with_output
out_count-with_output p o f = length-set p.outputs o f

pub input_at-with_actions : (p : Picture) (actions : List Action) (i : ℕ)
    → input_at (with_actions p actions) i ≡ input_at p i
unfolding input_at with_actions
input_at-with_actions p actions i = refl

pub output_at-with_actions : (p : Picture) (actions : List Action) (o : ℕ)
    → output_at (with_actions p actions) o ≡ output_at p o
unfolding output_at with_actions
output_at-with_actions p actions o = refl

pub in_count-with_actions : (p : Picture) (actions : List Action)
    → in_count (with_actions p actions) ≡ in_count p
unfolding in_count with_actions
in_count-with_actions p actions = refl

pub out_count-with_actions : (p : Picture) (actions : List Action)
    → out_count (with_actions p actions) ≡ out_count p
unfolding out_count with_actions
out_count-with_actions p actions = refl

pub actions-with_input : (p : Picture) (i : ℕ) (x : InputPort)
    → (with_input p i x).actions ≡ p.actions
unfolding with_input
actions-with_input p i x = refl

pub actions-with_output : (p : Picture) (o : ℕ) (f : Flags)
    → (with_output p o f).actions ≡ p.actions
unfolding with_output
actions-with_output p o f = refl
