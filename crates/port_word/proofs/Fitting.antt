-- Each call leaves room for the actions that may still come.
use Rattle.port_word.proofs.Imports.{Action, Bool, Close, Finish, Fits, Flags, InputPort, IsSound, List, Picture, Pull, Push, ShowsInFlags, Table, [], action_room, arith, closed, emptied, false, get_or, get_or_append_left, get_or_default, holds_data, in_count, input_at, is_some, length, length-append, length-replicate, length-set, new_input, new_picture, no_flags, no_input, noted, noted_want, out_count, output_at, over_flags, replicate, set, subst, suc, sym, true, with_actions, with_input, with_needed, with_output, zero, ℕ, ◌++◌, ◌+◌, ◌<◌, ◌∙◌, ◌∷◌, ◌≡◌, ◌≤◌}
use Rattle.port_word.proofs.Slots.{each-map}
use Rattle.port_word.proofs.Soundness.{Follows, done-follows, actions-fit, sound-pull, sound-close, sound-push, sound-finish, sound-want}

pub input-in-range : (p q : Picture) (i : ℕ) → p ≡ q → i < in_count q → i < length p.inputs
unfolding in_count
input-in-range p q i e h = subst (λ r. i < length r.inputs) (sym e) h

pub output-in-range : (p q : Picture) (o : ℕ) → p ≡ q → o < out_count q → o < length p.outputs
unfolding out_count
output-in-range p q o e h = subst (λ r. o < length r.outputs) (sym e) h

pub inputs-below : (p q : Picture) (n : ℕ) → p ≡ q → in_count q ≤ n → length p.inputs ≤ n
unfolding in_count
inputs-below p q n e h = subst (λ r. length r.inputs ≤ n) (sym e) h

pub outputs-below : (p q : Picture) (n : ℕ) → p ≡ q → out_count q ≤ n → length p.outputs ≤ n
unfolding out_count
outputs-below p q n e h = subst (λ r. length r.outputs ≤ n) (sym e) h

-- what a call makes of an input fits, where it is sound with the actions that are noted
pub fits-input : (p : Picture) (i : ℕ) (x : InputPort) (noted actions : List Action) (old new : ℕ)
    → Fits p old → IsSound (with_actions (with_input p i x) noted) → actions ≡ noted → old ≤ new
    → Fits (record { inputs = set p.inputs i x; outputs = p.outputs; actions = actions }) new
unfolding with_input with_actions
fits-input p i x noted actions old new f s e le = search (arith, length-set)

pub fits-output : (p : Picture) (o : ℕ) (x : Flags) (noted actions : List Action) (old new : ℕ)
    → Fits p old → IsSound (with_actions (with_output p o x) noted) → actions ≡ noted → old ≤ new
    → Fits (record { inputs = p.inputs; outputs = set p.outputs o x; actions = actions }) new
unfolding with_output with_actions
fits-output p o x noted actions old new f s e le = search (arith, length-set)

pub room-input : (p : Picture) (i : ℕ) (x : InputPort) (actions : List Action) (old : ℕ)
    → Fits p old → IsSound (with_actions (with_input p i x) actions) → length actions ≤ old
unfolding with_input with_actions in_count out_count
room-input p i x actions old f s =
    grind (arith, actions-fit (with_actions (with_input p i x) actions) s, length-set p.inputs i x)

pub room-output : (p : Picture) (o : ℕ) (x : Flags) (actions : List Action) (old : ℕ) → Fits p old
    → IsSound (with_actions (with_output p o x) actions) → length actions ≤ old
unfolding with_output with_actions in_count out_count
room-output p o x actions old f s = grind (
  arith,
  actions-fit (with_actions (with_output p o x) actions) s,
  length-set p.outputs o x,
)

-- an action more finds room where those with it do
pub room-behind : (actions : List Action) (a : Action) (old : ℕ) → length (actions ++ a ∷ []) ≤ old
    → length actions < old
room-behind actions a old le = omega (arith, le, length-append actions (a ∷ []))

here-input : (p : Picture) (i : ℕ) (x : InputPort) → i < length p.inputs → x ≡ get_or p.inputs i x
    → input_at p i ≡ x
unfolding input_at
here-input p i x lt e = get_or_default p.inputs i no_input x lt ∙ sym e

here-output : (p : Picture) (o : ℕ) (f : Flags) → o < length p.outputs → f ≡ get_or p.outputs o f
    → output_at p o ≡ f
unfolding output_at
here-output p o f lt e = get_or_default p.outputs o over_flags f lt ∙ sym e

pub pulled : (p : Picture) (i : ℕ) (x : InputPort) (old : ℕ) → Fits p old → i < length p.inputs
    → x ≡ get_or p.inputs i x → x.flags.has_data ≡ true
    → IsSound (noted (with_input p i (emptied x)) (Pull i))
unfolding in_count
pulled p i x old f lt e h = search (arith, here-input, sound-pull)

pub shut : (p : Picture) (i : ℕ) (x : InputPort) (old : ℕ) → Fits p old → i < length p.inputs
    → x ≡ get_or p.inputs i x → x.flags.fin_in ≡ false
    → IsSound (noted (with_input p i (closed x)) (Close i))
unfolding in_count
shut p i x old f lt e h = search (arith, here-input, sound-close)

pub wanted : (p : Picture) (i : ℕ) (x : InputPort) (b : Bool) (old : ℕ) → Fits p old
    → i < length p.inputs → x ≡ get_or p.inputs i x
    → IsSound (with_actions (with_input p i (with_needed x b)) (noted_want i b p.actions))
unfolding in_count
wanted p i x b old f lt e = search (arith, here-input, sound-want)

pub pushed : (p : Picture) (o : ℕ) (x : Flags) (chunk : Table) (old : ℕ) → Fits p old
    → o < length p.outputs → x ≡ get_or p.outputs o x → x.has_data ≡ false
    → IsSound (noted (with_output p o (record x { has_data = true })) (Push o chunk))
unfolding out_count
pushed p o x chunk old f lt e h = search (arith, here-output, sound-push)

pub finished : (p : Picture) (o : ℕ) (x : Flags) (old : ℕ) → Fits p old → o < length p.outputs
    → x ≡ get_or p.outputs o x → x.fin_out ≡ false
    → IsSound (noted (with_output p o (record x { fin_out = true })) (Finish o))
unfolding out_count
finished p o x old f lt e h = search (arith, here-output, sound-finish)

-- what holds of a new port, of a port past the end, and of each port that was there
repeated-at : {X : Type 0} (P : X → Type 0) (n i : ℕ) (new past : X) → P new → P past
    → P (get_or (replicate n new) i past)
repeated-at P zero i new past h k = k
repeated-at P (suc n) zero new past h k = h
repeated-at P (suc n) (suc i) new past h k = repeated-at P n i new past h k

grown-at : {X : Type 0} (P : X → Type 0) (xs : List X) (n i : ℕ) (new past : X) → P new → P past
    → P (get_or xs i past) → P (get_or (xs ++ replicate n new) i past)
grown-at P [] n i new past h k here = repeated-at P n i new past h k
grown-at P (x ∷ xs) n zero new past h k here = here
grown-at P (x ∷ xs) n (suc i) new past h k here = grown-at P xs n i new past h k here

follows-grow : (p : Picture) (m n : ℕ) → Follows p (record {
  inputs = p.inputs
      ++ replicate m new_input;
  outputs = p.outputs ++ replicate n no_flags;
  actions = p.actions;
})
unfolding in_count out_count input_at output_at
follows-grow p m n = search (arith, length-append, get_or_append_left, shut)

pub sound-grow : (p : Picture) (m n : ℕ) → IsSound p → IsSound (record {
  inputs = p.inputs
      ++ replicate m new_input;
  outputs = p.outputs ++ replicate n no_flags;
  actions = p.actions;
})
unfolding input_at
sound-grow p m n s =
    let q : Picture = record {
      inputs = p.inputs ++ replicate m new_input;
      outputs =
          p.outputs ++ replicate n no_flags;
      actions = p.actions;
    } in
    record {
      done =
          each-map (ShowsInFlags p) (ShowsInFlags q) p.actions
          (done-follows p q (follows-grow p m n)) s.done;
      once = s.once;
      held = λ i. grown-at (λ x. holds_data x.flags ≡ true → is_some x.chunk ≡ true) p.inputs m i
          new_input no_input (λ e. cc) (λ e. cc) (s.held i);
      shown = λ i. grown-at (λ x. is_some x.chunk ≡ true → x.flags.has_data ≡ true) p.inputs m i
          new_input no_input (λ e. cc) (λ e. cc) (s.shown i);
    }

-- a new picture is sound
pub sound-new : (inputs outputs : ℕ) → IsSound (new_picture inputs outputs)
unfolding input_at
sound-new inputs outputs = record {
  done = tt;
  once = tt;
  held = λ i. repeated-at (λ x. holds_data x.flags ≡ true → is_some x.chunk ≡ true) inputs i
      new_input no_input (λ e. cc) (λ e. cc);
  shown = λ i. repeated-at (λ x. is_some x.chunk ≡ true → x.flags.has_data ≡ true) inputs i
      new_input no_input (λ e. cc) (λ e. cc);
}

pub fits-grown : (p : Picture) (inputs outputs old new m n : ℕ) (ins : List InputPort)
    (outs : List Flags) (actions : List Action) → Fits p old → length p.inputs + m ≡ inputs
    → length p.outputs + n ≡ outputs → inputs ≤ 32 → outputs ≤ 16 → action_room inputs outputs ≤ new
    → ins ≡ p.inputs ++ replicate m new_input → outs ≡ p.outputs ++ replicate n no_flags
    → actions ≡ p.actions → Fits (record { inputs = ins; outputs = outs; actions = actions }) new
fits-grown p inputs outputs old new m n ins outs actions f mi mo fi fo room ei eo ea =
    grind (arith, length-append, length-replicate, sound-grow p m n f.sound)
