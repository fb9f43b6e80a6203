-- What several calls of a view pull and push: over two steps it is what the first did, and then
-- what the second did.
use Rattle.proc_api.proofs.Imports.{cases_Bool, cases_eq, Action, ChangedByCalls, Close, Finish, Flags, InputPort, IsSound, List, Lists, None, Option, Picture, PortCall, Pull, Push, Table, [], after_call, after_calls, and_parts, append-nil, append_assoc, arith, both_ways, can_push, cases_lt, close_call, closed, cond_both, emptied, false, finish_call, holds_data, in_count, in_count-with_input, inl, input_at, input_at-with_input, input_at-with_input-other, inr, is_out_finished, need_call, not-true, noted_want, out_count, out_count-with_output, output_at, output_at-with_output, output_at-with_output-other, pull_call, pulled_at, push_call, pushed_at, pushes_to, refl, rows_pulled, set_past, subst, sym, taken_out, true, with_actions, with_input, with_needed, with_output, with_pulled, with_pushed, ℕ, ◌++◌, ◌+◌, ◌||◌, ◌∙◌, ◌∷◌, ◌≡◌, ◌≢◌, ◌⊎◌}
use Rattle.proc_api.proofs.CallLaws.{no-pushes, pushes_to-noted_want, taken_out-same}
use Rattle.proc_api.proofs.Keeping.{total-append}
use Rattle.proc_api.proofs.Turns.{nothing-more, pushes-elsewhere}

-- A chunk that lay at an input lies there or was pulled, and where data lay at an output no more
-- was pushed.
pub record ShowsSame (v w : Picture) : Type 0 where
  pub ins : in_count w ≡ in_count v
  pub outs : out_count w ≡ out_count v
  pub chunk : (i : ℕ) → ((input_at w i).chunk ≡ (input_at v i).chunk)
      ⊎ ((input_at w i).chunk ≡ None)
  pub full : (o : ℕ) → (output_at v o).has_data ≡ true
      → ((output_at w o).has_data ≡ true) × (pushes_to o w.actions ≡ pushes_to o v.actions)

goes-none : (v : Picture) → ShowsSame v v
goes-none v = record { ins = refl; outs = refl; chunk = λ i. inl refl; full = λ o d. (d, refl) }

pub empty-of : (f : Flags) → can_push f ≡ true → f.has_data ≡ false
empty-of f e = grind (arith, and_parts, not-true)

-- an input alone is changed, its chunk stays or is pulled, and nothing is pushed
goes-input : (p : Picture) (i : ℕ) (x : InputPort) (actions : List Action)
    → (x.chunk ≡ (input_at p i).chunk) ⊎ (x.chunk ≡ None)
    → ((o : ℕ) → pushes_to o actions ≡ pushes_to o p.actions)
    → ShowsSame p (with_actions (with_input p i x) actions)
unfolding with_actions with_input input_at output_at in_count out_count
goes-input p i x actions c same =
    grind (
      arith,
      in_count-with_input,
      cases_lt,
      input_at-with_input,
      set_past,
      input_at-with_input-other,
      cases_eq,
    )

-- an output alone is changed, and pushed to where no data lay there
goes-output : (p : Picture) (o : ℕ) (f : Flags) (actions : List Action)
    → ((output_at p o).has_data ≡ true
    → (f.has_data ≡ true) × (pushes_to o actions ≡ pushes_to o p.actions))
    → ((j : ℕ) → j ≢ o → pushes_to j actions ≡ pushes_to j p.actions)
    → ShowsSame p (with_actions (with_output p o f) actions)
unfolding with_actions with_output input_at output_at in_count out_count
goes-output p o f actions c same =
    grind (
      arith,
      out_count-with_output,
      cases_lt,
      output_at-with_output,
      set_past,
      output_at-with_output-other,
      cases_eq,
    )

one-call : (c : PortCall) (p : Picture) → ShowsSame p (after_call c p)
unfolding with_input with_output pushes_to
one-call (pull_call i) p = cond_both (holds_data (input_at p i).flags) _ p (ShowsSame p)
    (λ e. goes-input p i (emptied (input_at p i)) (p.actions ++ Pull i ∷ []) (inr refl)
    (λ o. nothing-more o (Pull i) p.actions refl)) (λ e. goes-none p)
one-call (need_call i b) p = grind (
  arith,
  goes-none p,
  goes-input p i (with_needed (input_at p i) b) (noted_want i b p.actions) (inl refl)
      (λ o. pushes_to-noted_want o i b p.actions),
)
one-call (close_call i) p =
    cond_both (input_at p i).flags.fin_in p _ (ShowsSame p) (λ e. goes-none p)
    (λ e. goes-input p i (closed (input_at p i)) (p.actions ++ Close i ∷ []) (inl refl)
    (λ o. nothing-more o (Close i) p.actions refl))
one-call (push_call o t) p = cond_both (can_push (output_at p o)) _ p (ShowsSame p)
    (λ e. goes-output p o (record (output_at p o) { has_data = true }) (p.actions ++ Push o t ∷ [])
    (λ d. absurd (both_ways _ (empty-of (output_at p o) e) d))
    (λ j ne. nothing-more j (Push o t) p.actions (pushes-elsewhere o j t ne))) (λ e. goes-none p)
one-call (finish_call o) p = cond_both (is_out_finished (output_at p o)) p _ (ShowsSame p)
    (λ e. goes-none p) (λ e. goes-output p o (record (output_at p o) { fin_out = true })
    (p.actions ++ Finish o ∷ []) (λ d. (d, nothing-more o (Finish o) p.actions refl))
    (λ j ne. nothing-more j (Finish o) p.actions refl))

goes-calls : (calls : List PortCall) (p : Picture) → ShowsSame p (after_calls calls p)
goes-calls [] p = goes-none p
goes-calls (c ∷ calls) p = grind (arith, one-call, goes-calls calls (after_call c p))

pub goes-on : (v w : Picture) → ChangedByCalls v w → ShowsSame v w
goes-on v w c = subst (ShowsSame v) (sym c.gives) (goes-calls c.calls v)

-- ---- two steps

taken-both : (a b c : Option Table) → (b ≡ a) ⊎ (b ≡ None) → (c ≡ b) ⊎ (c ≡ None)
    → taken_out a c ≡ taken_out a b ++ taken_out b c
taken-both a b c x y = grind (arith, append-nil, taken_out-same)

module _ (v u w : Picture) (sound : IsSound u) (a : ChangedByCalls v u)
    (b : ChangedByCalls u w) where
  pub pulled-both : (i : ℕ) → pulled_at v w i ≡ pulled_at v u i ++ pulled_at u w i
  pulled-both i =
      taken-both (input_at v i).chunk (input_at u i).chunk (input_at w i).chunk
      ((goes-on v u a).chunk i) ((goes-on u w b).chunk i)

  pushed-both : (o : ℕ) → pushed_at v w o ≡ pushed_at v u o ++ pushed_at u w o
  pushed-both o =
      grind (arith, goes-on v u a, goes-on u w b, append-nil, no-pushes u o sound, cases_Bool)

  pub lists-pulled : (ins : Lists) → with_pulled u w (with_pulled v u ins) ≡ with_pulled v w ins
  lists-pulled ins = search (arith, append_assoc, pulled-both)

  pub lists-pushed : (outs : Lists) → with_pushed u w (with_pushed v u outs) ≡ with_pushed v w outs
  lists-pushed outs = search (arith, append_assoc, pushed-both)

  pub rows-both : rows_pulled v w ≡ rows_pulled v u + rows_pulled u w
  rows-both = grind (arith, pulled-both, total-append 32 (pulled_at v u) (pulled_at u w))
