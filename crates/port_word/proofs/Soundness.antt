-- Each call keeps what is true of every picture.
use Rattle.port_word.proofs.Imports.{Action, Bool, Close, EachAction, Finish, Flags, InputPort, IsOnce, IsSound, List, Picture, Pull, Push, ShowsInFlags, Table, Unwant, Want, [], action_room, action_slot, ap, arith, cases_eq, closed, emptied, false, holds_data, in_count, input_at, is_some, length, noted, noted_want, out_count, output_at, refl, sym, true, with_actions, with_input, with_needed, with_output, ℕ, ◌*◌, ◌++◌, ◌+◌, ◌<◌, ◌∙◌, ◌∷◌, ◌≡◌, ◌≢◌, ◌≤◌}
use Rattle.port_word.proofs.Laws.{input_at-with_input, input_at-with_input-other, output_at-with_output, output_at-with_output-other, output_at-with_input, input_at-with_output, in_count-with_input, out_count-with_input, in_count-with_output, out_count-with_output, input_at-with_actions, output_at-with_actions, in_count-with_actions, out_count-with_actions}
use Rattle.port_word.proofs.Slots.{each-append, each-map, once-append, once-fits, each-noted_want, once-noted_want}

-- what q shows goes on from what p shows: an emptied, closed, filled or finished port stays so
pub record Follows (p q : Picture) : Type 0 where
  pub ins : in_count p ≤ in_count q
  pub outs : out_count p ≤ out_count q
  pub empty : (i : ℕ) → i < in_count p → (input_at p i).flags.has_data ≡ false
      → (input_at q i).flags.has_data ≡ false
  pub shut : (i : ℕ) → i < in_count p → (input_at p i).flags.fin_in ≡ true
      → (input_at q i).flags.fin_in ≡ true
  pub full : (o : ℕ) → o < out_count p → (output_at p o).has_data ≡ true
      → (output_at q o).has_data ≡ true
  pub over : (o : ℕ) → o < out_count p → (output_at p o).fin_out ≡ true
      → (output_at q o).fin_out ≡ true

pub done-follows : (p q : Picture) → Follows p q → (a : Action) → ShowsInFlags p a
    → ShowsInFlags q a
done-follows p q f (Want i) d = omega (arith, f.ins)
done-follows p q f (Unwant i) d = omega (arith, f.ins)
done-follows p q f (Pull i) d = (omega (arith, f.ins, d.0), f.empty i d.0 d.1)
done-follows p q f (Close i) d = (omega (arith, f.ins, d.0), f.shut i d.0 d.1)
done-follows p q f (Push o chunk) d = (omega (arith, f.outs, d.0), f.full o d.0 d.1)
done-follows p q f (Finish o) d = (omega (arith, f.outs, d.0), f.over o d.0 d.1)

-- the actions of a sound picture fit into the room for its ports
pub actions-fit : (p : Picture) → IsSound p
    → length p.actions ≤ action_room (in_count p) (out_count p)
actions-fit p s = search (arith, once-fits, each-map)

-- what holds of the new input i and of each other input
picked : (P : InputPort → Type 0) (p : Picture) (i : ℕ) (x : InputPort) (actions : List Action)
    (j : ℕ) → i < in_count p → (j ≡ i → P x) → P (input_at p j)
    → P (input_at (with_actions (with_input p i x) actions) j)
unfolding with_actions input_at
picked P p i x actions j lt px pj =
    search (arith, cases_eq, input_at-with_input, input_at-with_input-other)

picked-output : (P : Flags → Type 0) (p : Picture) (i : ℕ) (x : Flags) (actions : List Action)
    (j : ℕ) → i < out_count p → (j ≡ i → P x) → P (output_at p j)
    → P (output_at (with_actions (with_output p i x) actions) j)
unfolding with_actions output_at
picked-output P p i x actions j lt px pj =
    search (arith, cases_eq, output_at-with_output, output_at-with_output-other)

-- input i becomes x, and the actions become these: no data comes, and a closed input stays so
pub record InputTurns (p : Picture) (i : ℕ) (x : InputPort) : Type 0 where
  pub in_range : i < in_count p
  pub empty : (input_at p i).flags.has_data ≡ false → x.flags.has_data ≡ false
  pub shut : (input_at p i).flags.fin_in ≡ true → x.flags.fin_in ≡ true
  pub held : holds_data x.flags ≡ true → is_some x.chunk ≡ true
  pub shown : is_some x.chunk ≡ true → x.flags.has_data ≡ true

pub record OutputTurns (p : Picture) (o : ℕ) (f : Flags) : Type 0 where
  pub in_range : o < out_count p
  pub full : (output_at p o).has_data ≡ true → f.has_data ≡ true
  pub over : (output_at p o).fin_out ≡ true → f.fin_out ≡ true

follows-input : (p : Picture) (i : ℕ) (x : InputPort) (actions : List Action) → InputTurns p i x
    → Follows p (with_actions (with_input p i x) actions)
follows-input p i x actions t = record {
  ins = omega (arith, in_count-with_actions (with_input p i x) actions, in_count-with_input p i x);
  outs =
      omega (arith, out_count-with_actions (with_input p i x) actions, out_count-with_input p i x);
  empty = λ j h d. picked (λ y. y.flags.has_data ≡ false) p i x actions j t.in_range
      (λ k. t.empty (ap (λ n. (input_at p n).flags.has_data) (sym k) ∙ d)) d;
  shut = λ j h d. picked (λ y. y.flags.fin_in ≡ true) p i x actions j t.in_range
      (λ k. t.shut (ap (λ n. (input_at p n).flags.fin_in) (sym k) ∙ d)) d;
  full = λ o h d. ap (λ f. f.has_data)
      (output_at-with_actions (with_input p i x) actions o ∙ output_at-with_input p i o x) ∙ d;
  over = λ o h d. ap (λ f. f.fin_out)
      (output_at-with_actions (with_input p i x) actions o ∙ output_at-with_input p i o x) ∙ d;
}

follows-output : (p : Picture) (o : ℕ) (x : Flags) (actions : List Action) → OutputTurns p o x
    → Follows p (with_actions (with_output p o x) actions)
follows-output p o x actions t = record {
  ins =
      omega (arith, in_count-with_actions (with_output p o x) actions, in_count-with_output p o x);
  outs = omega
      (arith, out_count-with_actions (with_output p o x) actions, out_count-with_output p o x);
  empty = λ j h d. ap (λ y. y.flags.has_data)
      (input_at-with_actions (with_output p o x) actions j ∙ input_at-with_output p o j x) ∙ d;
  shut = λ j h d. ap (λ y. y.flags.fin_in)
      (input_at-with_actions (with_output p o x) actions j ∙ input_at-with_output p o j x) ∙ d;
  full = λ j h d. picked-output (λ f. f.has_data ≡ true) p o x actions j t.in_range
      (λ k. t.full (ap (λ n. (output_at p n).has_data) (sym k) ∙ d)) d;
  over = λ j h d. picked-output (λ f. f.fin_out ≡ true) p o x actions j t.in_range
      (λ k. t.over (ap (λ n. (output_at p n).fin_out) (sym k) ∙ d)) d;
}

sound-input : (p : Picture) (i : ℕ) (x : InputPort) (actions : List Action) → IsSound p → InputTurns
    p i x → IsOnce actions → EachAction (ShowsInFlags (with_actions (with_input p i x) actions))
    actions
    → IsSound (with_actions (with_input p i x) actions)
unfolding with_actions
sound-input p i x actions s t once done = record {
  done = done;
  once = once;
  held = λ j. picked (λ y. holds_data y.flags ≡ true → is_some y.chunk ≡ true) p i x actions j
      t.in_range (λ k. t.held) (s.held j);
  shown = λ j. picked (λ y. is_some y.chunk ≡ true → y.flags.has_data ≡ true) p i x actions j
      t.in_range (λ k. t.shown) (s.shown j);
}

sound-output : (p : Picture) (o : ℕ) (f : Flags) (actions : List Action) → IsSound p
    → IsOnce actions → EachAction (ShowsInFlags (with_actions (with_output p o f) actions)) actions
    → IsSound (with_actions (with_output p o f) actions)
unfolding with_actions with_output input_at
sound-output p o f actions s once done = search (arith)

-- an action whose slot no other has goes last
sound-noted-input : (p : Picture) (i : ℕ) (x : InputPort) (a : Action) → IsSound p
    → InputTurns p i x → ((b : Action) → ShowsInFlags p b → action_slot b ≢ action_slot a)
    → ShowsInFlags (noted (with_input p i x) a) a → IsSound (noted (with_input p i x) a)
unfolding with_input
sound-noted-input p i x a s t fresh d =
    search (arith, sound-input, once-append, each-map, each-append, done-follows, follows-input)

sound-noted-output : (p : Picture) (o : ℕ) (f : Flags) (a : Action) → IsSound p → OutputTurns p o f
    → ((b : Action) → ShowsInFlags p b → action_slot b ≢ action_slot a)
    → ShowsInFlags (noted (with_output p o f) a) a → IsSound (noted (with_output p o f) a)
unfolding with_output
sound-noted-output p o f a s t fresh d =
    search (arith, sound-output, once-append, each-map, each-append, done-follows, follows-output)

pub sound-want : (p : Picture) (i : ℕ) (b : Bool) → IsSound p → i < in_count p → IsSound
    (with_actions (with_input p i (with_needed (input_at p i) b)) (noted_want i b p.actions))
sound-want p i b s lt = search
    (arith, follows-input, sound-input, once-noted_want, each-noted_want, each-map, done-follows)

fresh-push : (p : Picture) (o : ℕ) → (output_at p o).has_data ≡ false → (a : Action)
    → ShowsInFlags p a → action_slot a ≢ 5 * o + 3
fresh-push p i h (Want j) d = λ e. omega arith
fresh-push p i h (Unwant j) d = λ e. omega arith
fresh-push p i h (Pull j) d = λ e. omega arith
fresh-push p i h (Close j) d = λ e. omega arith
fresh-push p i h (Push j chunk) d = λ e. let k : j ≡ i = omega arith in cc (h, d.1, k)
fresh-push p i h (Finish j) d = λ e. omega arith

fresh-finish : (p : Picture) (o : ℕ) → (output_at p o).fin_out ≡ false → (a : Action)
    → ShowsInFlags p a → action_slot a ≢ 5 * o + 4
fresh-finish p i h (Want j) d = λ e. omega arith
fresh-finish p i h (Unwant j) d = λ e. omega arith
fresh-finish p i h (Pull j) d = λ e. omega arith
fresh-finish p i h (Close j) d = λ e. omega arith
fresh-finish p i h (Push j chunk) d = λ e. omega arith
fresh-finish p i h (Finish j) d = λ e. let k : j ≡ i = omega arith in cc (h, d.1, k)

pub sound-pull : (p : Picture) (i : ℕ) → IsSound p → i < in_count p → (input_at p i).flags.has_data
    ≡ true → IsSound (noted (with_input p i (emptied (input_at p i))) (Pull i))
sound-pull p i s lt h =
    search (arith, follows-input, sound-noted-input, input_at-with_actions, input_at-with_input)

pub sound-close : (p : Picture) (i : ℕ) → IsSound p → i < in_count p → (input_at p i).flags.fin_in
    ≡ false → IsSound (noted (with_input p i (closed (input_at p i))) (Close i))
sound-close p i s lt h =
    search (arith, follows-input, sound-noted-input, input_at-with_actions, input_at-with_input)

pub sound-push : (p : Picture) (o : ℕ) (chunk : Table) → IsSound p → o < out_count p
    → (output_at p o).has_data ≡ false
    → IsSound (noted (with_output p o (record (output_at p o) { has_data = true })) (Push o chunk))
sound-push p o chunk s lt h =
    let x : Flags = record (output_at p o) { has_data = true } in
    let t : OutputTurns p o x = record { in_range = lt; full = λ e. refl; over = λ e. e } in
    let f : Follows p (noted (with_output p o x) (Push o chunk)) =
    follows-output p o x ((with_output p o x).actions ++ Push o chunk ∷ []) t in
    sound-noted-output p o x (Push o chunk) s t (fresh-push p o h) (
      omega (arith, f.outs),
      ap (λ y. y.has_data) (output_at-with_actions (with_output p o x)
          ((with_output p o x).actions ++ Push o chunk ∷ []) o ∙ output_at-with_output p o x lt),
    )

pub sound-finish : (p : Picture) (o : ℕ) → IsSound p → o < out_count p → (output_at p o).fin_out ≡
    false → IsSound (noted (with_output p o (record (output_at p o) { fin_out = true })) (Finish o))
sound-finish p o s lt h =
    let x : Flags = record (output_at p o) { fin_out = true } in
    let t : OutputTurns p o x = record { in_range = lt; full = λ e. e; over = λ e. refl } in
    let f : Follows p (noted (with_output p o x) (Finish o)) =
    follows-output p o x ((with_output p o x).actions ++ Finish o ∷ []) t in
    sound-noted-output p o x (Finish o) s t (fresh-finish p o h) (
      omega (arith, f.outs),
      ap (λ y. y.fin_out) (output_at-with_actions (with_output p o x)
          ((with_output p o x).actions ++ Finish o ∷ []) o ∙ output_at-with_output p o x lt),
    )
