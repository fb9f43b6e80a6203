-- Each call keeps the law of a list of actions, and what is true of every picture.
use Rattle.port_word.proofs.Imports.{arith, Action, Bool, ChangedByCalls, Close, Explains, Finish, Flags, InputPort, IsDifference, IsOnce, IsSound, List, Option, Picture, PortCall, Pull, Push, Table, [], after_call, after_calls, ap, can_push, cases_lt, chunk_step, close_call, closed, cond, emptied, eqb-false, eqb-true, false, finish_call, get_or-eq_default, holds_data, in_count, input_allows, input_at, input_step, is_out_finished, need_call, not, noted, noted_want, out_count, output_allows, output_at, output_step, pull_call, push_call, refl, subst, sym, true, with_actions, with_input, with_needed, with_output, ℕ, ◌&&◌, ◌++◌, ◌<◌, ◌==◌, ◌||◌, ◌∙◌, ◌∷◌, ◌≡◌}
use Rattle.port_word.proofs.Laws.{input_at-with_input, input_at-with_input-other, output_at-with_output, output_at-with_output-other}
use Rattle.port_word.proofs.Soundness.{sound-pull, sound-close, sound-push, sound-finish, sound-want}
use Rattle.port_word.proofs.Steps.{cond-ap, cond-same, needs, input_after-append, chunk_after-append, output_after-append, inputs_allow-append, outputs_allow-append, input_after-want, chunk_after-want, output_after-want, inputs_allow-want, outputs_allow-want}

-- the picture q is p after the action, which each port allows
record StepsTo (p : Picture) (a : Action) (q : Picture) : Type 0 where
  flags : (i : ℕ) → (input_at q i).flags ≡ input_step i a (input_at p i).flags
  chunk : (i : ℕ) → (input_at q i).chunk ≡ chunk_step i a (input_at p i).chunk
  output : (o : ℕ) → output_at q o ≡ output_step o a (output_at p o)
  input_may : (i : ℕ) → input_allows i a (input_at p i).flags ≡ true
  output_may : (o : ℕ) → output_allows o a (output_at p o) ≡ true

explains-step : (ins : ℕ → Flags) (chunks : ℕ → Option Table) (outs : ℕ → Flags) (p q : Picture)
    (a : Action) → StepsTo p a q → Explains ins chunks outs p.actions p
    → Explains ins chunks outs (p.actions ++ a ∷ []) q
explains-step ins chunks outs p q a s e = search (
  arith,
  input_after-append,
  chunk_after-append,
  output_after-append,
  inputs_allow-append,
  outputs_allow-append,
)

turned : (g : InputPort → InputPort) (p : Picture) (j i : ℕ) → j < in_count p → input_at
    (with_input p j (g (input_at p j))) i ≡ cond (i == j) (g (input_at p i)) (input_at p i)
turned g p j i lt =
    search (arith, eqb-true, input_at-with_input, input_at-with_input-other, eqb-false)

allowed : (P : ℕ → Bool) (i j : ℕ) → P j ≡ true → (not (i == j) || P i) ≡ true
allowed P i j h = search (arith, eqb-true)

steps-pull : (p : Picture) (j : ℕ) → j < in_count p → holds_data (input_at p j).flags ≡ true
    → StepsTo p (Pull j) (noted (with_input p j (emptied (input_at p j))) (Pull j))
unfolding with_actions with_input input_at output_at
steps-pull p j lt h = record {
  flags = λ i. ap (λ y. y.flags) (turned emptied p j i lt)
      ∙ cond-ap (λ y. y.flags) (i == j) (emptied (input_at p i)) (input_at p i);
  chunk = λ i. ap (λ y. y.chunk) (turned emptied p j i lt)
      ∙ cond-ap (λ y. y.chunk) (i == j) (emptied (input_at p i)) (input_at p i);
  output = λ o. refl;
  input_may = λ i. allowed (λ n. holds_data (input_at p n).flags) i j h;
  output_may = λ o. refl;
}

steps-close : (p : Picture) (j : ℕ) → j < in_count p → (input_at p j).flags.fin_in ≡ false
    → StepsTo p (Close j) (noted (with_input p j (closed (input_at p j))) (Close j))
unfolding with_actions with_input input_at output_at
steps-close p j lt h = record {
  flags = λ i. ap (λ y. y.flags) (turned closed p j i lt)
      ∙ cond-ap (λ y. y.flags) (i == j) (closed (input_at p i)) (input_at p i);
  chunk = λ i. ap (λ y. y.chunk) (turned closed p j i lt)
      ∙ cond-same (λ y. y.chunk) (i == j) (closed (input_at p i)) (input_at p i) refl;
  output = λ o. refl;
  input_may = λ i. allowed (λ n. not (input_at p n).flags.fin_in) i j (ap not h);
  output_may = λ o. refl;
}

steps-push : (p : Picture) (j : ℕ) (chunk : Table) → j < out_count p
    → can_push (output_at p j) ≡ true → StepsTo p (Push j chunk)
    (noted (with_output p j (record (output_at p j) { has_data = true })) (Push j chunk))
unfolding with_actions with_output input_at output_at
steps-push p j chunk lt h =
    search (arith, allowed, eqb-true, output_at-with_output, output_at-with_output-other, eqb-false)

steps-finish : (p : Picture) (j : ℕ) → j < out_count p → is_out_finished (output_at p j) ≡ false
    → StepsTo p (Finish j)
    (noted (with_output p j (record (output_at p j) { fin_out = true })) (Finish j))
unfolding with_actions with_output input_at output_at
steps-finish p j lt h =
    search (arith, allowed, eqb-true, output_at-with_output, output_at-with_output-other, eqb-false)

explains-want : (ins : ℕ → Flags) (chunks : ℕ → Option Table) (outs : ℕ → Flags) (p : Picture)
    (j : ℕ) (b : Bool) → IsOnce p.actions → j < in_count p → (input_at p j).flags.fin_in ≡ false
    → Explains ins chunks outs p.actions p → Explains ins chunks outs (noted_want j b p.actions)
    (with_actions (with_input p j (with_needed (input_at p j) b)) (noted_want j b p.actions))
unfolding with_actions with_input input_at output_at needs
explains-want ins chunks outs p j b once lt h e = record {
  input_flags = λ i.
      ap (λ y. y.flags) (turned (λ y. with_needed y b) p j i lt)
      ∙ cond-ap (λ y. y.flags) (i == j) (with_needed (input_at p i) b) (input_at p i)
      ∙ ap (λ f. needs i j b f) (e.input_flags i)
      ∙ sym (input_after-want i j b p.actions (ins i) once);
  input_chunks = λ i.
      ap (λ y. y.chunk) (turned (λ y. with_needed y b) p j i lt)
      ∙ cond-same (λ y. y.chunk) (i == j) (with_needed (input_at p i) b) (input_at p i) refl
      ∙ e.input_chunks i ∙ sym (chunk_after-want i j b p.actions (chunks i));
  output_flags = λ o. e.output_flags o ∙ sym (output_after-want o j b p.actions (outs o));
  inputs_allow = λ i. inputs_allow-want i j b p.actions (ins i) once (e.inputs_allow i)
      (ap (λ f. not (i == j) || not f.fin_in) (sym (e.input_flags i))
      ∙ allowed (λ n. not (input_at p n).flags.fin_in) i j (ap not h));
  outputs_allow = λ o. outputs_allow-want o j b p.actions (outs o) (e.outputs_allow o);
}

cond-case : (P : Picture → Type 0) (b : Bool) (x y : Picture) → (b ≡ true → P x) → (b ≡ false → P y)
    → P (cond b x y)
cond-case P true x y h k = h refl
cond-case P false x y h k = k refl

open-in-range : (p : Picture) (i : ℕ) → (input_at p i).flags.fin_in ≡ false → i < in_count p
unfolding input_at in_count
open-in-range p i h = search (arith, cases_lt, get_or-eq_default)

open-out-range : (p : Picture) (o : ℕ) → (output_at p o).fin_out ≡ false → o < out_count p
unfolding output_at out_count
open-out-range p o h = search (arith, cases_lt, get_or-eq_default)

both : (a b : Bool) → (a && not b) ≡ true → (a ≡ true) × (b ≡ false)
both true true e = absurd (cc)
both true false e = (refl, refl)
both false b e = absurd (cc)

may : (f : Flags) → can_push f ≡ true → (f.has_data ≡ false) × (f.fin_out ≡ false)
may f e = search (arith)

neither : (a b : Bool) → (a || b) ≡ false → (a ≡ false) × (b ≡ false)
neither true b e = absurd (cc)
neither false b e = (refl, e)

-- a picture that is sound, and whose actions explain it
pub record PictureHolds (ins : ℕ → Flags) (chunks : ℕ → Option Table) (outs : ℕ → Flags)
    (p : Picture) : Type 0 where
  pub sound : IsSound p
  pub explains : Explains ins chunks outs p.actions p

pub holds-call : (ins : ℕ → Flags) (chunks : ℕ → Option Table) (outs : ℕ → Flags) (c : PortCall)
    (p : Picture) → PictureHolds ins chunks outs p → PictureHolds ins chunks outs (after_call c p)
unfolding with_actions with_input with_output
holds-call ins chunks outs (pull_call i) p h =
    cond-case (PictureHolds ins chunks outs) (holds_data (input_at p i).flags)
    (noted (with_input p i (emptied (input_at p i))) (Pull i)) p
    (λ e. let b = both (input_at p i).flags.has_data (input_at p i).flags.fin_in e in
    let lt : i < in_count p = open-in-range p i b.1 in
    record {
      sound = sound-pull p i h.sound lt b.0;
      explains =
          explains-step ins chunks outs p (noted (with_input p i (emptied (input_at p i))) (Pull i))
          (Pull i) (steps-pull p i lt e) h.explains;
    })
    (λ e. h)
holds-call ins chunks outs (need_call i true) p h =
    cond-case (PictureHolds ins chunks outs)
    ((input_at p i).flags.fin_in || (input_at p i).flags.needed) p
    (with_actions (with_input p i (with_needed (input_at p i) true))
    (noted_want i true p.actions))
    (λ e. h)
    (λ e. let b = neither (input_at p i).flags.fin_in (input_at p i).flags.needed e in
    let lt : i < in_count p = open-in-range p i b.0 in
    record {
      sound = sound-want p i true h.sound lt;
      explains =
          explains-want ins chunks outs p i true h.sound.once lt b.0 h.explains;
    })
holds-call ins chunks outs (need_call i false) p h =
    cond-case (PictureHolds ins chunks outs)
    ((input_at p i).flags.fin_in || not (input_at p i).flags.needed) p (with_actions
    (with_input p i (with_needed (input_at p i) false)) (noted_want i false p.actions))
    (λ e. h)
    (λ e. let b = neither (input_at p i).flags.fin_in (not (input_at p i).flags.needed) e in
    let lt : i < in_count p = open-in-range p i b.0 in
    record {
      sound = sound-want p i false h.sound lt;
      explains =
          explains-want ins chunks outs p i false h.sound.once lt b.0 h.explains;
    })
holds-call ins chunks outs (close_call i) p h =
    cond-case (PictureHolds ins chunks outs) (input_at p i).flags.fin_in p
    (noted (with_input p i (closed (input_at p i))) (Close i))
    (λ e. h)
    (λ e. let lt : i < in_count p = open-in-range p i e in
    record {
      sound = sound-close p i h.sound lt e;
      explains =
          explains-step ins chunks outs p (noted (with_input p i (closed (input_at p i))) (Close i))
          (Close i) (steps-close p i lt e) h.explains;
    })
holds-call ins chunks outs (push_call o chunk) p h =
    cond-case (PictureHolds ins chunks outs) (can_push (output_at p o))
    (noted (with_output p o (record (output_at p o) { has_data = true })) (Push o chunk)) p
    (λ e. let b = may (output_at p o) e in
    let lt : o < out_count p = open-out-range p o b.1 in
    record {
      sound = sound-push p o chunk h.sound lt b.0;
      explains = explains-step ins chunks outs p
          (noted (with_output p o (record (output_at p o) { has_data = true })) (Push o chunk))
          (Push o chunk) (steps-push p o chunk lt e) h.explains;
    })
    (λ e. h)
holds-call ins chunks outs (finish_call o) p h =
    cond-case (PictureHolds ins chunks outs) (is_out_finished (output_at p o)) p
    (noted (with_output p o (record (output_at p o) { fin_out = true })) (Finish o))
    (λ e. h)
    (λ e. let b = neither (output_at p o).fin_out (output_at p o).fin_in e in
    let lt : o < out_count p = open-out-range p o b.0 in
    record {
      sound = sound-finish p o h.sound lt b.0;
      explains = explains-step ins chunks outs p
          (noted (with_output p o (record (output_at p o) { fin_out = true })) (Finish o))
          (Finish o) (steps-finish p o lt e) h.explains;
    })

pub holds-calls : (ins : ℕ → Flags) (chunks : ℕ → Option Table) (outs : ℕ → Flags) (calls : List
    PortCall) (p : Picture) → PictureHolds ins chunks outs p
    → PictureHolds ins chunks outs (after_calls calls p)
holds-calls ins chunks outs [] p h = h
holds-calls ins chunks outs (c ∷ calls) p h =
    holds-calls ins chunks outs calls (after_call c p) (holds-call ins chunks outs c p h)

-- a picture without actions is explained by its own ports
pub explains-itself : (p : Picture) → p.actions ≡ [] → IsDifference p p
explains-itself p e = search (arith)

-- from a picture without actions, calls leave a sound picture whose actions are all that changed
pub difference-calls : (before after : Picture) → IsSound before → before.actions ≡ []
    → ChangedByCalls before after → PictureHolds (λ i. (input_at before i).flags)
    (λ i. (input_at before i).chunk) (λ o. output_at before o) after
difference-calls before after s e c =
    subst (λ p. PictureHolds (λ i. (input_at before i).flags) (λ i. (input_at before i).chunk)
    (λ o. output_at before o) p) (sym c.gives)
    (holds-calls _ _ _ c.calls before (record { sound = s; explains = explains-itself before e }))

-- changes by calls go together

pub after_calls-append : (xs ys : List PortCall) (p : Picture)
    → after_calls (xs ++ ys) p ≡ after_calls ys (after_calls xs p)
after_calls-append [] ys p = refl
after_calls-append (x ∷ xs) ys p = after_calls-append xs ys (after_call x p)

pub changed-by-none : (p : Picture) → ChangedByCalls p p
changed-by-none p = record { calls = []; gives = refl }

pub changed-by-one : (p q : Picture) (c : PortCall) → q ≡ after_call c p → ChangedByCalls p q
changed-by-one p q c e = record { calls = c ∷ []; gives = e }

pub changed-by-both : (p q r : Picture) → ChangedByCalls p q → ChangedByCalls q r
    → ChangedByCalls p r
changed-by-both p q r c d = grind (arith, after_calls-append c.calls d.calls p)
