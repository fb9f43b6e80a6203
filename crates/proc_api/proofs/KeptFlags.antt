-- The flags that a box keeps are those of the view that its last prepare left.
use Rattle.proc_api.proofs.Imports.{BoxPicture, MayBeInput, None, Picture, Some, all_port_flags, ap, arith, get_or-eq_default, get_or-map, get_or_default, in_count, input_at, kept_input, kept_inputs, kept_output, kept_outputs, kept_ports, length, length-map, no_flags, out_count, output_at, refl, ℕ, ◌<◌, ◌∙◌, ◌≡◌, ◌≤◌, ◌⊎◌}

module _ (q : BoxPicture) (w : Picture) (e : q.notes.view ≡ Some (all_port_flags w)) where
  pub kept_inputs-of : kept_inputs q ≡ in_count w
  unfolding kept_inputs in_count
  kept_inputs-of = ap (λ p. length (kept_ports p).inputs) e ∙ rw length-map refl

  pub kept_outputs-of : kept_outputs q ≡ out_count w
  unfolding kept_outputs out_count
  kept_outputs-of = ap (λ p. length (kept_ports p).outputs) e

  pub kept_input-of : (i : ℕ) → i < in_count w → kept_input q i ≡ (input_at w i).flags
  unfolding kept_input in_count input_at
  kept_input-of i lt = search (arith, length-map, get_or-map)

  pub kept_input-past : (i : ℕ) → in_count w ≤ i → kept_input q i ≡ no_flags
  unfolding kept_input in_count
  kept_input-past i le = search (arith, length-map, get_or-eq_default)

  pub kept_output-of : (o : ℕ) → o < out_count w → kept_output q o ≡ output_at w o
  unfolding kept_output out_count output_at
  kept_output-of o lt = search (arith, get_or_default)

  pub kept_output-past : (o : ℕ) → out_count w ≤ o → kept_output q o ≡ no_flags
  unfolding kept_output out_count
  kept_output-past o le = search (arith, get_or-eq_default)

-- an input in the range of the kept view
pub may-be-input : (p : BoxPicture) (n i : ℕ) → (p.notes.view ≡ None) ⊎ (kept_inputs p ≡ n) → i < n
    → MayBeInput p.notes.view i
unfolding kept_inputs
may-be-input p n i e lt = grind arith
