-- What actions leave at one port.
use Rattle.exec_laws.proofs.Imports.{Action, ChangedByCalls, EachAction, Flags, Input, InputAllows, InputPort, List, None, Option, Output, OutputAllows, Picture, Port, PortCall, ShowsInFlags, Table, [], action_port, after_call, after_calls, ap, arith, chunk_after, chunk_step, eqb-true, holds_data, in_count, in_count-with_actions, in_count-with_input, in_count-with_output, input_after, input_allows, input_step, is_some, out_count, out_count-with_actions, out_count-with_input, out_count-with_output, output_allows, output_step, pushes_to, refl, rules, true, with_actions, with_input, with_output, ℕ, ◌||◌, ◌∙◌, ◌∷◌, ◌≡◌, ◌≤◌, ◌⊎◌}

-- ---- an input and its chunk, while its node acts

-- The flags f and the chunk c at an input that had chunk d, where x lies in the edge: there is data
-- exactly where a chunk lies, in one of the two places, and at an open input in this one. The chunk
-- is the one it had, or is pulled.
pub record Lies (d x : Option Table) (f : Flags) (c : Option Table) : Type 0 where
  pub there : f.has_data ≡ (is_some c || is_some x)
  pub one : is_some c ≡ true → x ≡ None
  pub held : holds_data f ≡ true → is_some c ≡ true
  pub left : (c ≡ d) ⊎ (c ≡ None)

module _ (d x : Option Table) (i : ℕ) where
  lies-on : (a : Action) (f : Flags) (c : Option Table) → input_allows i a f ≡ true → Lies d x f c
      → Lies d x (input_step i a f) (chunk_step i a c)
  lies-on a f c h1 h2 = search rules

  pub lies-after : (xs : List Action) (f : Flags) (c : Option Table) → InputAllows i xs f
      → Lies d x f c → Lies d x (input_after i xs f) (chunk_after i xs c)
  lies-after [] f c allows h = h
  lies-after (a ∷ xs) f c allows h = lies-after xs _ _ allows.1 (lies-on a f c allows.0 h)

-- ---- pushes

-- an output that has data isn't pushed to, and has it still
full-on : (o : ℕ) (a : Action) (xs : List Action) (f : Flags) → output_allows o a f ≡ true
    → f.has_data ≡ true
    → (pushes_to o (a ∷ xs) ≡ pushes_to o xs) × ((output_step o a f).has_data ≡ true)
unfolding pushes_to
full-on o a xs f h1 h2 = search rules

-- nothing is pushed to an output that has data
pub full-unpushed : (o : ℕ) (xs : List Action) (f : Flags) → OutputAllows o xs f → f.has_data ≡ true
    → pushes_to o xs ≡ []
unfolding pushes_to
full-unpushed o [] f allows full = refl
full-unpushed o (a ∷ xs) f allows full =
    let on = full-on o a xs f allows.0 full in on.0 ∙ full-unpushed o xs _ allows.1 on.1

past-on : (p : Picture) (o : ℕ) (a : Action) (xs : List Action) → out_count p ≤ o → ShowsInFlags p a
    → pushes_to o (a ∷ xs) ≡ pushes_to o xs
unfolding pushes_to
past-on p o a xs h1 h2 = search (rules, eqb-true)

-- an action pushes to none but the outputs that there are
pub past-unpushed : (p : Picture) (o : ℕ) → out_count p ≤ o → (xs : List Action)
    → EachAction (ShowsInFlags p) xs → pushes_to o xs ≡ []
unfolding pushes_to
past-unpushed p o le [] h = refl
past-unpushed p o le (a ∷ xs) h = past-on p o a xs le h.0 ∙ past-unpushed p o le xs h.1

-- ---- one action, at its port and at others

abbrev pub port_step : Port → Action → Flags → Flags
port_step (Input i) = input_step i
port_step (Output o) = output_step o

pub push-away : (o : ℕ) (a : Action) (xs : List Action) → (Output o ≡ action_port a → ⊥)
    → pushes_to o (a ∷ xs) ≡ pushes_to o xs
unfolding pushes_to
push-away o a xs h1 = grind arith

-- ---- calls keep the number of ports

module _ (h : Picture → ℕ) (ins : (p : Picture) (i : ℕ) (x : InputPort) → h (with_input p i x)
    ≡ h p) (outs : (p : Picture) (o : ℕ) (f : Flags) → h (with_output p o f) ≡ h p)
    (acts : (p : Picture) (xs : List Action) → h (with_actions p xs) ≡ h p) where
  call-keeps : (c : PortCall) (p : Picture) → h (after_call c p) ≡ h p
  call-keeps c p = search rules

  calls-keep : (cs : List PortCall) (p : Picture) → h (after_calls cs p) ≡ h p
  calls-keep [] p = refl
  calls-keep (c ∷ cs) p = calls-keep cs (after_call c p) ∙ call-keeps c p

pub changed-inputs : (v w : Picture) → ChangedByCalls v w → in_count w ≡ in_count v
changed-inputs v w c =
    ap in_count c.gives
    ∙ calls-keep in_count in_count-with_input in_count-with_output in_count-with_actions c.calls v

pub changed-outputs : (v w : Picture) → ChangedByCalls v w → out_count w ≡ out_count v
changed-outputs v w c =
    ap out_count c.gives
    ∙ calls-keep out_count out_count-with_input out_count-with_output out_count-with_actions c.calls
    v
