-- Flags of a view, port by port.
use Rattle.proc_api.proofs.Imports.{ap, arith, Flags, InputPort, List, Picture, [], all_port_flags, common_steps, get_or-map, in_count, input_at, length-map, map, no_input, out_count, output_at, over_flags, take, take_all, take_more, ℕ, ◌++◌, ◌+◌, ◌<◌, ◌∙◌, ◌∷◌, ◌≡◌, ◌≤◌}

pub next_input : (v : Picture) (i : ℕ) → i < in_count v
    → take (i + 1) (all_port_flags v).inputs ≡ take i (all_port_flags v).inputs
    ++ (input_at v i).flags ∷ []
unfolding input_at in_count
next_input v i lt =
    let flags = λ (x : InputPort). x.flags in
    take_more (map flags v.inputs) i over_flags (rw length-map lt)
    ∙ ap (λ f. take i (map flags v.inputs) ++ f ∷ [])
    (get_or-map flags v.inputs i no_input over_flags lt)

pub next_output : (v : Picture) (o : ℕ) → o < out_count v
    → take (o + 1) v.outputs ≡ take o v.outputs ++ output_at v o ∷ []
unfolding output_at out_count
next_output v o lt = take_more v.outputs o over_flags lt

pub all_inputs : (v : Picture) (flags : List Flags) (n : ℕ) → flags
    ≡ take n (all_port_flags v).inputs → in_count v ≤ n → flags ≡ (all_port_flags v).inputs
unfolding in_count
all_inputs v flags n e le = grind (arith, take_all, length-map)

pub all_outputs : (v : Picture) (flags : List Flags) (n : ℕ) → flags ≡ take n v.outputs
    → out_count v ≤ n → flags ≡ v.outputs
unfolding out_count
all_outputs v flags n e le = e ∙ take_all n v.outputs le

pub ruleset copy_steps = (next_input, next_output, all_inputs, all_outputs, common_steps)
