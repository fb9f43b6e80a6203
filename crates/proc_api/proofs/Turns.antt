-- What each call of a view changes, port by port. A processor's proof takes these in the place of
-- the calls' pictures.
use Rattle.proc_api.proofs.Imports.{sym, cond_both, ap, Action, Bool, Changes, Changes-set, Close, Finish, Flags, InputPort, List, Picture, Pull, Push, Table, [], after_close, after_finish, after_need, after_pull, after_push, append-nil, arith, can_push, closed, cond, emptied, eq-eqb, holds_data, in_count, input_at, is_out_finished, ne_eqb, no_input, noted, noted_want, out_count, output_at, over_flags, pushes_to, refl, true, with_actions, with_input, with_needed, with_output, ℕ, ◌++◌, ◌<◌, ◌||◌, ◌∙◌, ◌∷◌, ◌≡◌, ◌≢◌}
use Rattle.proc_api.proofs.CallLaws.{pushes_to-append, pushes_to-noted_want}

-- input i alone is changed, to x, and nothing is pushed
pub record TurnsInput (p : Picture) (i : ℕ) (x : InputPort) (q : Picture) : Type 0 where
  pub inputs : Changes no_input i (λ was now. now ≡ x) p.inputs q.inputs
  pub outputs : q.outputs ≡ p.outputs
  pub pushes : (o : ℕ) → pushes_to o q.actions ≡ pushes_to o p.actions

-- output o alone is changed, to f, and these chunks are pushed there
pub record TurnsOutput (p : Picture) (o : ℕ) (f : Flags) (chunks : List Table)
    (q : Picture) : Type 0 where
  pub outputs : Changes over_flags o (λ was now. now ≡ f) p.outputs q.outputs
  pub inputs : q.inputs ≡ p.inputs
  pub pushes : pushes_to o q.actions ≡ pushes_to o p.actions ++ chunks
  pub other_pushes : (j : ℕ) → j ≢ o → pushes_to j q.actions ≡ pushes_to j p.actions

pub same-input : (p : Picture) (i : ℕ) (x : InputPort) → input_at p i ≡ x → TurnsInput p i x p
unfolding input_at
same-input p i x e = search arith

-- input i is set to x, and the actions become others that push the same
set-input : (p : Picture) (i : ℕ) (x : InputPort) (actions : List Action) → i < in_count p
    → ((o : ℕ) → pushes_to o actions ≡ pushes_to o p.actions)
    → TurnsInput p i x (with_actions (with_input p i x) actions)
unfolding with_actions with_input in_count
set-input p i x actions lt same =
    grind (arith, Changes-set no_input i (λ was now. now ≡ x) p.inputs x lt refl)

pub nothing-more : (o : ℕ) (a : Action) (xs : List Action) → pushes_to o (a ∷ []) ≡ []
    → pushes_to o (xs ++ a ∷ []) ≡ pushes_to o xs
nothing-more o a xs e = grind (arith, pushes_to-append, append-nil)

noted-input : (p : Picture) (i : ℕ) (x : InputPort) (a : Action) → i < in_count p
    → ((o : ℕ) → pushes_to o (a ∷ []) ≡ []) → TurnsInput p i x (noted (with_input p i x) a)
unfolding with_input
noted-input p i x a lt e = search (arith, set-input, nothing-more)

closed-already : (x : InputPort) → x.flags.fin_in ≡ true → x ≡ closed x
closed-already x e = λ i. record { flags = record x.flags { fin_in = e i }; chunk = x.chunk }

pub close-turns : (p : Picture) (i : ℕ) → i < in_count p
    → TurnsInput p i (closed (input_at p i)) (after_close p i)
unfolding pushes_to
close-turns p i lt = cond_both _ _ _ (TurnsInput p i (closed (input_at p i)))
    (λ e. same-input p i (closed (input_at p i)) (closed-already (input_at p i) e))
    (λ e. noted-input p i (closed (input_at p i)) (Close i) lt (λ o. refl))

-- an input once needed is set, where it is open
abbrev pub needing : InputPort → Bool → InputPort
needing x b = cond x.flags.fin_in x (with_needed x b)

needed-already : (x : InputPort) (b : Bool) → x.flags.needed ≡ b → x ≡ with_needed x b
needed-already x b e = λ i. record { flags = record x.flags { needed = e i }; chunk = x.chunk }

pub need-turns : (p : Picture) (i : ℕ) (b : Bool) → i < in_count p
    → TurnsInput p i (needing (input_at p i) b) (after_need p i b)
unfolding with_input
need-turns p i b lt = grind (
  arith,
  same-input p i (input_at p i),
  set-input p i (with_needed (input_at p i) b) (noted_want i b p.actions) lt
      (λ o. pushes_to-noted_want o i b p.actions),
  needed-already (input_at p i) b,
)

pub pull-turns : (p : Picture) (i : ℕ) → i < in_count p → holds_data (input_at p i).flags ≡ true
    → TurnsInput p i (emptied (input_at p i)) (after_pull p i)
unfolding pushes_to
pull-turns p i lt h = rw h (noted-input p i (emptied (input_at p i)) (Pull i) lt (λ o. refl))

same-output : (p : Picture) (o : ℕ) (f : Flags) → output_at p o ≡ f → TurnsOutput p o f [] p
unfolding output_at
same-output p o f e = search (arith, append-nil)

noted-output : (p : Picture) (o : ℕ) (f : Flags) (a : Action) → o < out_count p
    → ((j : ℕ) → j ≢ o → pushes_to j (a ∷ []) ≡ [])
    → TurnsOutput p o f (pushes_to o (a ∷ [])) (noted (with_output p o f) a)
unfolding with_actions with_output out_count
noted-output p o f a lt e = search (arith, Changes-set, pushes_to-append, nothing-more)

pushes-here : (o : ℕ) (chunk : Table) → pushes_to o (Push o chunk ∷ []) ≡ chunk ∷ []
unfolding pushes_to
pushes-here o chunk = rw (eq-eqb o o refl) refl

pub pushes-elsewhere : (o j : ℕ) (chunk : Table) → j ≢ o → pushes_to j (Push o chunk ∷ []) ≡ []
unfolding pushes_to
pushes-elsewhere o j chunk ne = rw (ne_eqb j o ne) refl

pub push-turns : (p : Picture) (o : ℕ) (chunk : Table) → o < out_count p
    → can_push (output_at p o) ≡ true → TurnsOutput p o (record (output_at p o) { has_data = true })
    (chunk ∷ []) (after_push p o chunk)
push-turns p o chunk lt h =
    rw h (rw (← pushes-here o chunk) (noted-output p o (record (output_at p o) { has_data = true })
    (Push o chunk) lt (λ j ne. pushes-elsewhere o j chunk ne)))

-- an output once it is finished, where neither end had finished it
abbrev pub finishing : Flags → Flags
finishing f = cond (is_out_finished f) f (record f { fin_out = true })

pub finish-turns : (p : Picture) (o : ℕ) → o < out_count p
    → TurnsOutput p o (finishing (output_at p o)) [] (after_finish p o)
unfolding pushes_to
finish-turns p o lt = cond_both _ _ _ (TurnsOutput p o (finishing (output_at p o)) [])
    (λ e. same-output p o (finishing (output_at p o))
    (ap (λ t. cond t (output_at p o) (record (output_at p o) { fin_out = true })) (sym e))) (λ e. rw
    e (noted-output p o (record (output_at p o) { fin_out = true }) (Finish o) lt (λ j ne. refl)))

pub finishing-leaves : (f : Flags) → (finishing f).fin_in ≡ f.fin_in
finishing-leaves f = grind arith
