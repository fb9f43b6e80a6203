-- A seat that learned an edge.
use Rattle.node_births.proofs.Imports.{Identity, IsSameAt, IsSeatOf, Learns, List, MakesStep, NodeSeat, None, SeatState, Sight, Some, Wire, [], ap, arith, cond, end_of_view, end_wired, ends-made, eq-eqb, false, flags-last, flags-unknown, flags_at, has, has-adding, knows, learning, names, ne_eqb, no_flags, number-made, or_left, refl, same-made, stage-made, state-made, true, view, wired, ℕ, ◌&&◌, ◌++◌, ◌==◌, ◌||◌, ◌∙◌, ◌∷◌, ◌≡◌, ◌≢◌}
use Rattle.core_laws.specs.declared.types.Step.TheVariants as step

knows-last : (e f : ℕ) (l : List Sight)
    → knows f (l ++ record { edge = e; flags = no_flags } ∷ []) ≡ (knows f l || (e == f))
knows-last e f [] = grind arith
knows-last e f (g ∷ gs) = grind (arith, knows-last e f gs)

-- by what the step made of the node's state and of its ends
module _ (old new : NodeSeat) (e : ℕ) (w : Wire) (un : knows e (view old).state.seen ≡ false)
    (state : (view new).state ≡ learning e (view old).state)
    (end : end_of_view (view new) e ≡ end_wired (Some w) (end_of_view (view old) e))
    (others : (f : ℕ) → f ≢ e → IsSameAt old new f)
    (number : (view new).number ≡ (view old).number)
    (stage : (view new).stage ≡ (view old).stage) where
  learned : Learns e w old new
  learned = record {
    number = number;
    stage = stage;
    held = ap (λ (z : SeatState). z.held) state;
    tokens = ap (λ (z : SeatState). z.tokens) state;
    owes = ap (λ (z : SeatState). z.owes) state;
    known = λ f. ap (λ (z : SeatState). knows f z.seen) state
        ∙ knows-last e f (view old).state.seen;
    unlooked = λ f. ap (λ (z : SeatState). has f z.unlooked) state
        ∙ has-adding e f (view old).state.unlooked;
    flags = ap (λ (z : SeatState). flags_at e z.seen) state
        ∙ (flags-last e e (view old).state.seen un ∙ flags-unknown e (view old).state.seen un);
    end = end;
    others = others;
  }

-- the edge's wire was found, and is one of the node
pub wire-learned : {t : Identity} (old new : NodeSeat) (e : ℕ) (w : Wire) → IsSeatOf t old
    → knows e (view old).state.seen ≡ false
    → MakesStep t old new (step.Wired e) None (wired (Some w)) → w.to ≡ (view old).number
    → Learns e w old new
wire-learned old new e w o un m to =
    let mine : names (view old).number (Some w) ≡ true = or_left _ _ (eq-eqb _ _ to) in
    learned old new e w un (state-made o m ∙ ((λ j. cond (mine j) (cond (knows e (view
    old).state.seen) (view old).state (learning e (view old).state)) (view old).state) ∙ ap (λ b.
    cond b (view old).state (learning e (view old).state)) un)) (ends-made o m e refl (λ _. refl) ∙
    (λ j. cond (mine j && eq-eqb e e refl j) (end_wired (Some w) (end_of_view (view old) e))
    (end_of_view (view old) e))) (λ f ne. same-made o m f (ne_eqb f e ne)) (number-made o m)
    (stage-made o m)

-- the edge got this wire
pub wire-set : {t : Identity} (old new : NodeSeat) (e : ℕ) (w : Wire) → IsSeatOf t old
    → knows e (view old).state.seen ≡ false
    → MakesStep t old new (step.Wire e w) None (wired None) → Learns e w old new
wire-set old new e w o un m = learned old new e w un (state-made o m ∙ ap (λ b. cond b (view
    old).state (learning e (view old).state)) un) (ends-made o m e refl (λ _. refl) ∙ ap (λ b. cond
    b (end_wired (Some w) (end_of_view (view old) e)) (end_of_view (view old) e)) (eq-eqb e e refl))
    (λ f ne. same-made o m f (ne_eqb f e ne)) (number-made o m) (stage-made o m)
