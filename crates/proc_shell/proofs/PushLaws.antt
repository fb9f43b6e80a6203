-- Pushing what was made.
use Rattle.proc_shell.proofs.BoxLaws.{by-rows}
use Rattle.proc_shell.proofs.Imports.{Held, IsFreeOutput, IsOutOfRoom, IsSound, List, Made, Nothing, PassesOn, Picture, Pushes, Table, Unworked, [], after_push, ap, arith, by-place, changed-by-none, changed-by-one, common_steps, empty-of, get_or, held_made, held_unworked, in_count, inl, input_at, inr, just-pushed, length, no_input, none-pushed, out_count, output_at, push-turns, push_call, refl, source_of, ℕ, ◌++◌, ◌<◌, ◌∷◌, ◌≡◌, ◌⊎◌}
use Rattle.proc_shell.proofs.PortMoves.{never-true}

-- the view stays, and these chunks are dropped, where there is no output
still-pushes : (h k : Held) (left : List Table) (v : Picture) → IsSound v → held_made h
    ≡ left ++ held_made k → held_unworked k ≡ held_unworked h → source_of k ≡ source_of h
    → (left ≡ []) ⊎ (out_count v ≡ 0) → (0 < length (held_made k) → IsOutOfRoom v) → Pushes h k v v
still-pushes h k left v sound made unworked source e waits =
    grind (arith, common_steps, changed-by-none, none-pushed)

-- nothing leaves
pub pushes-none : (h : Held) (v : Picture) → IsSound v → (0 < length (held_made h) → IsOutOfRoom v)
    → Pushes h h v v
pushes-none h v sound waits = still-pushes h h [] v sound refl refl refl (inl refl) waits

-- the chunk has no output
pub pushes-nowhere : (c : Table) (v : Picture) → IsSound v → out_count v ≡ 0
    → Pushes (Made c) Nothing v v
pushes-nowhere c v sound none = still-pushes (Made c) Nothing (c ∷ []) v sound refl refl refl
    (inr none) (λ lt. absurd (omega (arith, lt)))

-- the chunk leaves by an output that is free
pub pushes-one : (c : Table) (v w : Picture) (o : ℕ) → IsSound v → IsFreeOutput v o → w
    ≡ after_push v o c → Pushes (Made c) Nothing v w
unfolding input_at output_at in_count out_count
pushes-one c v w o sound free e =
    let t = push-turns v o c free.in_range free.room in
    let u = after_push v o c in
    rw e record {
      changed = changed-by-one v u (push_call o c) refl;
      ins = ap length t.inputs;
      outs = t.outputs.len;
      inputs = λ i. ap (λ l. get_or l i no_input) t.inputs;
      finished = grind (arith, by-place);
      closed = grind (arith, by-place);
      unworked = refl;
      source = refl;
      out = o;
      left = c ∷ [];
      made = refl;
      by = grind (arith, common_steps, just-pushed, empty-of);
      none = λ none. absurd (let lt = free.in_range in omega (arith, none, lt));
      others = λ j ne. none-pushed v u j sound (t.other_pushes j ne);
      waits = λ lt. absurd (omega (arith, lt));
      at_once = grind (arith, never-true);
    }

-- nothing waits but what was made
pub never-made : {X : Type 0} (h : Held) → ((c : Table) → h ≡ Made c → ⊥) → 0 < length (held_made h)
    → X
never-made h never lt = grind (arith, common_steps)

-- a chunk that was pulled is passed on, or dropped where it has no rows
pub passes-on : (i : ℕ) (c : Table) (h k : Held) (v w : Picture) → IsSound v → h ≡ Unworked i c
    → k ≡ Nothing → (0 < length c.rows → Pushes (Made c) Nothing v w) → (c.rows ≡ [] → w ≡ v)
    → PassesOn h k v w
passes-on i c h k v w sound before after some none =
    grind (arith, common_steps, by-rows, pushes-none)

-- how a chunk that was made leaves
pub ruleset push_steps = (pushes-one, pushes-none, pushes-nowhere, never-made)
