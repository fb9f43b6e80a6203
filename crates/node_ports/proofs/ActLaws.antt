-- A step of the table carries an action out.
use Rattle.node_ports.proofs.Imports.{Acted, Action, Bool, Chunk, Close, EdgeEnd, Finish, Flags, Input, Identity, InputPort, ShowsInFlags, IsPort, IsSeatOf, List, MakesStep, MayAct, NodePorts, NodeSeat, NodeView, None, Option, Output, Picture, Port, PortKnown, PortsPicture, Pull, Push, SeatState, Some, Table, Unwant, Want, [], action_port, and_from, ap, append-nil, append_assoc, arith, chunk_after, chunk_step, cond, edge_of, end_of_view, eq-eqb, false, flags_at, get_or, get_or-set_other, get_or-set_same, has, holds_data, in_count, input_at, input_step, is_end, is_own_port, is_some, knows, length, length-set, lifted_of, ne_eqb, not, nothing, out_count, output_at, output_step, ports_picture, push-away, pushes_to, ready, refl, seat_after, seeing-here, set, shown, slot_in, state-made, step_of, subst, sym, taken_out, true, untaken, view, ℕ, ◌++◌, ◌<◌, ◌∙◌, ◌∷◌, ◌≡◌, ◌≢◌, cases_eq, inl, inr}
use Rattle.node_ports.proofs.Shown.{Differs, Here, IsPortReady, MovesAt, SameEdge, Waits, differs-at, end-side, is_input, lifted_at, moved-holds, moved-lists, passed-at, shown-at, shown-input, sight, still-updated, waiting}
use Rattle.node_ports.specs.Peers.{is_to_tell}
use Rattle.exec_table.proofs.Hands.{may_learn}
use Rattle.exec_table.proofs.Ends.{edges-made, ends-made, number-made, same-made, slot-home, slot-kept, stage-made}
use Rattle.exec_table.specs.Known.{end_after, end_passed, gives_back, is_at, looks_at, lying, stage_after, state_acted}
use Rattle.exec_table.specs.Ready.{can_act}
use Rattle.core_laws.specs.Views.{adding}
use Rattle.core_laws.specs.Steps.{acting_end, allows, changed, tells}
use Rattle.core_laws.specs.declared.types.Act.{Act}
use Rattle.core_laws.specs.declared.types.Act.TheVariants as act

-- ---- the step

abbrev act_of : Action → ℕ → Act
act_of (Want i) k = act.Want
act_of (Unwant i) k = act.Unwant
act_of (Pull i) k = act.Pull
act_of (Close i) k = act.Close
act_of (Push o chunk) k = act.Push k
act_of (Finish o) k = act.Finish

-- what it puts into the slot
abbrev put_by : Action → Option Chunk
put_by (Want i) = None
put_by (Unwant i) = None
put_by (Pull i) = None
put_by (Close i) = None
put_by (Push o chunk) = Some chunk
put_by (Finish o) = None

step-plain : (a : Action) (e k : ℕ) → may_learn (step_of a e k) ≡ false
step-plain a e k = grind arith

step-looks : (a : Action) (d e k : ℕ) → looks_at d (step_of a e k) ≡ false
step-looks a d e k = grind arith

step-elsewhere : (a : Action) (d e k : ℕ) → d ≢ e → is_at d (step_of a e k) ≡ false
step-elsewhere a d e k ne = grind (arith, ne_eqb d e ne)

step-state : (a : Action) (x : NodeView) (e k : ℕ)
    → seat_after x (step_of a e k) nothing ≡ state_acted (act_of a k) x e
step-state a x e k = grind arith

step-stage : (a : Action) (x : NodeView) (e k : ℕ) → stage_after x.stage (step_of a e k) ≡ x.stage
step-stage a x e k = grind arith

acting-side : (a : Action) (k : ℕ) → acting_end (act_of a k) ≡ is_input (action_port a)
acting-side a k = grind arith

-- ---- the port after the action

abbrev flags_acted : Port → Action → Flags → Flags
flags_acted (Input i) a f = input_step i a f
flags_acted (Output o) a f = output_step o a f

abbrev chunk_acted : Port → Action → Option Table → Option Table
chunk_acted (Input i) a c = chunk_step i a c
chunk_acted (Output o) a c = c

abbrev acted_sight : Port → Action → InputPort → InputPort
acted_sight p a x = record { flags = flags_acted p a x.flags; chunk = chunk_acted p a x.chunk }

changed-at : (a : Action) (k : ℕ) (f : Flags)
    → flags_acted (action_port a) a f ≡ changed (act_of a k) f
changed-at a k f = grind (arith, eq-eqb)

-- it is left alone where the action isn't
away : (q : Port) (a : Action) (x : InputPort) → q ≢ action_port a → acted_sight q a x ≡ x
away (Input i) a x ne = grind arith
away (Output o) a x ne = grind arith

-- the action is taken off both sides
differs-acted : (q : Port) (a : Action) (c : PortsPicture) (x : InputPort)
    → Differs q x (untaken a c).view → Differs q (acted_sight q a x) c.view
unfolding input_at output_at
differs-acted (Input i) a c x d = (d.0, d.1, d.2.1)
differs-acted (Output o) a c x d = (d.0, d.1.1)

waits-acted : (q : Port) (a : Action) (c : PortsPicture) → q ≢ action_port a
    → Waits q (untaken a c).view c.view
unfolding input_at
waits-acted (Input i) a c ne = refl
waits-acted (Output o) a c ne = sym (push-away o a c.view.actions ne)

-- the port of an action that shows is in range
pub done-there : (p : Picture) (a : Action) (m n : ℕ) → in_count p ≡ m → out_count p ≡ n
    → ShowsInFlags p a → IsPort m n (action_port a)
done-there p (Want i) m n ins outs d = subst (λ k. i < k) ins d
done-there p (Unwant i) m n ins outs d = subst (λ k. i < k) ins d
done-there p (Pull i) m n ins outs d = subst (λ k. i < k) ins d.0
done-there p (Close i) m n ins outs d = subst (λ k. i < k) ins d.0
done-there p (Push o chunk) m n ins outs d = subst (λ k. o < k) outs d.0
done-there p (Finish o) m n ins outs d = subst (λ k. o < k) outs d.0

-- a chunk that was pulled isn't there
none-step : (i : ℕ) (a : Action) → chunk_step i a None ≡ None
none-step i a = grind arith

none-after : (i : ℕ) (xs : List Action) → chunk_after i xs None ≡ None
none-after i [] = refl
none-after i (a ∷ xs) = ap (chunk_after i xs) (none-step i a) ∙ none-after i xs

-- ---- when it may be made

-- a port at which the action stands allows it
allowed : (a : Action) (k : ℕ) (c : PortsPicture) (x : InputPort)
    → Differs (action_port a) x (untaken a c).view → allows (act_of a k) x.flags ≡ true
allowed (Want i) k c x d = let z = d.2.0 in grind (arith, z, eq-eqb)
allowed (Unwant i) k c x d = refl
allowed (Pull i) k c x d = let z = d.2.0 in grind (arith, z, eq-eqb)
allowed (Close i) k c x d = let z = d.2.0 in grind (arith, z, eq-eqb)
allowed (Push o chunk) k c x d = let z = d.1.0 in grind (arith, z, eq-eqb)
allowed (Finish o) k c x d = let z = d.1.0 in grind (arith, z, eq-eqb)

ready-of : (a : Action) (x : NodeView) (e k : ℕ) → can_act (act_of a k) x e ≡ true
    → k ≡ length (end_of_view x e).chunks → ready x (step_of a e k) ≡ true
ready-of a x e k h q = grind (arith, h, q, eq-eqb)

module _ (a : Action) (c : PortsPicture) (h : MayAct a c) where
  abbrev at_edge : ℕ
  at_edge = edge_of c (action_port a)

  pub own-port : is_own_port c (action_port a)
  own-port = done-there (untaken a c).view a _ _ h.holds.ins h.holds.outs h.holds.sound.done.0

  port-known : PortKnown (untaken a c) (action_port a)
  port-known = h.holds.known (action_port a) own-port

  edge-known : knows at_edge c.node.state.seen ≡ true
  edge-known = port-known.known

  can : (k : ℕ) → can_act (act_of a k) c.node at_edge ≡ true
  can k = and_from _ _ (and_from _ _ (and_from _ _ h.turn.held edge-known)
      (ap (λ b. is_end b c.node.number (end_of_view c.node at_edge).wire) (acting-side a k)
      ∙ (ap (is_end (is_input (action_port a)) c.node.number) port-known.is
      ∙ end-side port-known.wire c.node.number (action_port a) port-known.at_port)))
      (ap (λ (x : InputPort). allows (act_of a k) x.flags) (sym (shown-at c (action_port a)
      own-port))
      ∙ allowed a k c (sight (shown c) (action_port a))
      (differs-at (shown c) (untaken a c).view h.holds.difference (action_port a)))

  pub act-ready : {e : ℕ} → e ≡ at_edge
      → ready c.node (step_of a e (length (end_of_view c.node e).chunks)) ≡ true
  act-ready {e} q = ready-of a c.node e _ (subst (λ e. can_act (act_of a
      (length (end_of_view c.node e).chunks)) c.node e ≡ true) (sym q) (can _)) refl

-- ---- the slot of a pull and of a push

lifted-parts : (s t : Option (Option Table)) → is_some (lifted_of s t) ≡ true
    → (c : Table) × (s ≡ Some None) × (t ≡ Some (Some c))
lifted-parts None t h = absurd (grind (arith, h))
lifted-parts (Some (Some y)) t h = absurd (grind (arith, h))
lifted-parts (Some None) None h = absurd (grind (arith, h))
lifted-parts (Some None) (Some None) h = absurd (grind (arith, h))
lifted-parts (Some None) (Some (Some c)) h = (c, refl, refl)

pub pulled-parts : (i : ℕ) (c : PortsPicture) → MayAct (Pull i) c
    → (x : Table) × (slot_in (edge_of c (Input i)) c.slots ≡ Some None)
    × ((end_of_view c.node (edge_of c (Input i))).turn ≡ Some (Some x))
pulled-parts i c h = let a = (h.holds.difference.inputs_allow i).0 in
    lifted-parts _ _ (ap (λ (x : InputPort). is_some x.chunk) (sym (shown-input c i
    (own-port (Pull i) c h))) ∙ h.holds.held i (grind (arith, a, eq-eqb)))

pub push-slot : (o : ℕ) (chunk : Table) (c : PortsPicture) → MayAct (Push o chunk) c
    → slot_in (edge_of c (Output o)) c.slots ≡ Some None
push-slot o chunk c h = let a = (h.holds.difference.outputs_allow o).0 in
    h.holds.ready o (own-port (Push o chunk) c h) (grind (arith, a, eq-eqb))
    (grind (arith, a, eq-eqb))

-- ---- the end after the action

abbrev end_acted : Action → EdgeEnd → EdgeEnd
end_acted (Want i) z = z
end_acted (Unwant i) z = z
end_acted (Pull i) z = end_passed (lying z.turn) z
end_acted (Close i) z = z
end_acted (Push o chunk) z = end_passed (Some chunk) z
end_acted (Finish o) z = z

end-step : (a : Action) (x : NodeView) (e k : ℕ)
    → end_after x (step_of a e k) (put_by a) nothing e ≡ end_acted a (end_of_view x e)
end-step a x e k = grind (arith, eq-eqb)

wire-stays : (a : Action) (z : EdgeEnd) → (end_acted a z).wire ≡ z.wire
wire-stays a z = grind arith

-- ---- which inputs are needed after it

abbrev pub needed_after : Action → List Bool → List Bool
needed_after (Want i) l = set l i true
needed_after (Unwant i) l = set l i false
needed_after (Pull i) l = l
needed_after (Close i) l = l
needed_after (Push o chunk) l = l
needed_after (Finish o) l = l

needed-other : (a : Action) (l : List Bool) (i : ℕ) → Input i ≢ action_port a
    → get_or (needed_after a l) i false ≡ get_or l i false
needed-other (Want j) l i ne = get_or-set_other l j i true false (λ e. ne (ap Input e))
needed-other (Unwant j) l i ne = get_or-set_other l j i false false (λ e. ne (ap Input e))
needed-other (Pull j) l i ne = refl
needed-other (Close j) l i ne = refl
needed-other (Push o chunk) l i ne = refl
needed-other (Finish o) l i ne = refl

needed-length : (a : Action) (l : List Bool) → length (needed_after a l) ≡ length l
needed-length a l = grind (arith, length-set)

-- of an input it is as its flag
needed-here : (a : Action) (i : ℕ) (l : List Bool) (f : Flags) → action_port a ≡ Input i
    → i < length l → get_or l i false ≡ f.needed
    → get_or (needed_after a l) i false ≡ (input_step i a f).needed
needed-here a i l f at lt q = grind (arith, at, lt, q, eq-eqb, get_or-set_same)

-- a chunk that is there has data, after the action too
held-acted : (i : ℕ) (a : Action) (y : InputPort)
    → (holds_data y.flags ≡ true → is_some y.chunk ≡ true)
    → holds_data (input_step i a y.flags) ≡ true → is_some (chunk_step i a y.chunk) ≡ true
held-acted i a y h k = grind (arith, h)

-- ---- what it leaves

-- the picture after the step
abbrev pub after_act : NodePorts → NodeSeat → List Bool → PortsPicture
after_act ports s needed = record (ports_picture ports s) { needed = needed }

module _ {t : Identity} (old new : NodeSeat) (ports : NodePorts) (s : IsSeatOf t old) where
  abbrev start : PortsPicture
  start = ports_picture ports old

  abbrev at : Action → ℕ
  at a = edge_of start (action_port a)

  abbrev end_at : Action → EdgeEnd
  end_at a = end_of_view (view old) (at a)

  abbrev Steps : Action → ℕ → Type 0
  Steps a e = MakesStep t old new (step_of a e (length (end_of_view (view old) e).chunks))
      (put_by a) nothing

  gives : (a : Action) → MayAct a start → (k : ℕ)
      → gives_back (view old) (step_of a (at a) k) ≡ true
  gives (Want i) h k = refl
  gives (Unwant i) h k = refl
  gives (Pull i) h k = ap is_some (pulled-parts i start h).2
  gives (Close i) h k = refl
  gives (Push o chunk) h k = refl
  gives (Finish o) h k = refl

  end : (a : Action) → MayAct a start → Steps a (at a)
      → end_of_view (view new) (at a) ≡ end_acted a (end_at a)
  end a h m = ends-made s m (at a) (step-looks a (at a) (at a) _) (λ _. gives a h _)
      ∙ end-step a (view old) (at a) _

  -- what was lifted out of the slot is gone where it was pulled
  lifts : (a : Action) → MayAct a start → Steps a (at a) → lifted_at (ports_picture ports new)
      (action_port a) ≡ chunk_acted (action_port a) a (lifted_at start (action_port a))
  lifts (Want i) h m = let q = end (Want i) h m in
      λ j. lifted_of (slot-kept s m (at (Want i)) q j) (q j).turn
  lifts (Unwant i) h m = let q = end (Unwant i) h m in
      λ j. lifted_of (slot-kept s m (at (Unwant i)) q j) (q j).turn
  lifts (Pull i) h m = let q = end (Pull i) h m in
      (λ j. lifted_of (slot-home s m (at (Pull i)) (ap (λ (z : EdgeEnd). z.turn) q) j) (q j).turn)
      ∙ sym (ap (λ b. cond b None (lifted_at start (Input i))) (eq-eqb i i refl))
  lifts (Close i) h m = let q = end (Close i) h m in
      λ j. lifted_of (slot-kept s m (at (Close i)) q j) (q j).turn
  lifts (Push o chunk) h m = refl
  lifts (Finish o) h m = refl

  -- what passed on the edge is what waited in the view
  passes : (a : Action) → (h : MayAct a start) → Steps a (at a)
      → (end_of_view (view new) (at a)).chunks ++ waiting (ports_picture ports new) (action_port a)
      ≡ (end_at a).chunks ++ waiting (untaken a start) (action_port a)
  unfolding input_at pushes_to
  passes (Want i) h m = λ j. (end (Want i) h m j).chunks
      ++ taken_out (lifts (Want i) h m j) (input_at ports.view i).chunk
  passes (Unwant i) h m = λ j. (end (Unwant i) h m j).chunks
      ++ taken_out (lifts (Unwant i) h m j) (input_at ports.view i).chunk
  passes (Pull i) h m = let p = pulled-parts i start h in
      let gone : (z : Option Table) → chunk_step i (Pull i) z ≡ None = (λ z. ap (λ b. cond b None z)
      (eq-eqb i i refl)) in
      let left : (input_at ports.view i).chunk ≡ None = h.holds.difference.input_chunks i
      ∙ (ap (chunk_after i ports.view.actions) (gone _) ∙ none-after i ports.view.actions) in
      (λ j. ((end (Pull i) h m ∙ ap (λ t. end_passed (lying t) (end_at (Pull i))) p.2) j).chunks
      ++ taken_out ((lifts (Pull i) h m ∙ gone _) j) (left j))
      ∙ (append-nil _ ∙ λ j. (end_at (Pull i)).chunks ++ taken_out
      (sym (λ j. lifted_of (p.1 j) (p.2 j)) j) (sym left j))
  passes (Close i) h m = λ j. (end (Close i) h m j).chunks
      ++ taken_out (lifts (Close i) h m j) (input_at ports.view i).chunk
  passes (Push o chunk) h m = (λ j. (end (Push o chunk) h m j).chunks
      ++ pushes_to o ports.view.actions)
      ∙ (append_assoc (end_at (Push o chunk)).chunks _ _ ∙ ap (λ b. (end_at (Push o chunk)).chunks
      ++ cond b (chunk ∷ pushes_to o ports.view.actions) (pushes_to o ports.view.actions))
      (sym (eq-eqb o o refl)))
  passes (Finish o) h m = λ j. (end (Finish o) h m j).chunks ++ pushes_to o ports.view.actions

  abbrev Readies : Action → Type 0
  Readies a = IsPortReady (after_act ports new (needed_after a start.needed)) (action_port a)
      (acted_sight (action_port a) a (sight (shown start) (action_port a)))

  ready-input : (a : Action) → MayAct a start → (i : ℕ) → action_port a ≡ Input i
      → i < length start.inputs → IsPortReady (after_act ports new (needed_after a start.needed))
      (Input i) (acted_sight (Input i) a (sight (shown start) (Input i)))
  ready-input a h i is lt = (
    needed-here a i start.needed _ is (let n = h.holds.needed_len in omega (arith, lt, n))
        (h.holds.needed i lt
        ∙ ap (λ (x : InputPort). x.flags.needed) (sym (shown-input start i lt))),
    held-acted i a (input_at (shown start) i) (h.holds.held i),
  )

  readies : (a : Action) → (h : MayAct a start) → Steps a (at a) → Readies a
  readies (Want i) h m = ready-input (Want i) h i refl (own-port (Want i) start h)
  readies (Unwant i) h m = ready-input (Unwant i) h i refl (own-port (Unwant i) start h)
  readies (Pull i) h m = ready-input (Pull i) h i refl (own-port (Pull i) start h)
  readies (Close i) h m = ready-input (Close i) h i refl (own-port (Close i) start h)
  readies (Push o chunk) h m = λ n z. absurd (full (output_at (shown start) o) z)
    where
      full : (g : Flags) → (output_step o (Push o chunk) g).has_data ≡ false → ⊥
      full g z = grind (arith, z, eq-eqb)
  readies (Finish o) h m = λ n z. slot-kept s m (at (Finish o)) (end (Finish o) h m)
      ∙ h.holds.ready o (own-port (Finish o) start h) (grind (arith, n, eq-eqb))
      (grind (arith, z, eq-eqb))

  told : (a : Action) → MayAct a start → (k : ℕ)
      → tells (act_of a k) (flags_at (at a) start.node.state.seen) ≡ is_to_tell a start
  told (Want i) h k = ap not (sym (h.holds.needed i (own-port (Want i) start h)))
  told (Unwant i) h k = refl
  told (Pull i) h k = refl
  told (Close i) h k = refl
  told (Push o chunk) h k = refl
  told (Finish o) h k = refl

  module _ (a : Action) (h : MayAct a start) (m : Steps a (at a)) where
    abbrev d : PortsPicture
    d = after_act ports new (needed_after a start.needed)

    abbrev p : Port
    p = action_port a

    abbrev k : ℕ
    k = length (end_at a).chunks

    own : is_own_port start p
    own = own-port a start h

    state : d.node.state ≡ state_acted (act_of a k) start.node (at a)
    state = state-made s m ∙ step-state a (view old) (at a) k

    sight-acted : sight (shown d) p ≡ acted_sight p a (sight (shown start) p)
    sight-acted = shown-at d p own ∙ ((λ j. record { flags = flags j; chunk = lifts a h m j })
        ∙ ap (acted_sight p a) (sym (shown-at start p own)))
      where
        flags : flags_at (at a) d.node.state.seen
            ≡ flags_acted p a (flags_at (at a) start.node.state.seen)
        flags = ap (λ (z : SeatState). flags_at (at a) z.seen) state
            ∙ (seeing-here (at a) _ start.node.state.seen (edge-known a start h)
            ∙ sym (changed-at a k _))

    here : Here (untaken a start) d p
    here = record {
      own = own;
      wire = ap (λ (z : EdgeEnd). z.wire) (end a h m) ∙ wire-stays a (end_at a);
      differs = subst (λ y. Differs p y start.view) (sym sight-acted)
          (differs-acted p a start (sight (shown start) p)
          (differs-at (shown start) (untaken a start).view h.holds.difference p));
      ready = subst (IsPortReady d p) (sym sight-acted) (readies a h m);
      passes = passed-at d p own ∙ (passes a h m ∙ sym (passed-at (untaken a start) p own));
    }

    same-there : (e : ℕ) → e ≢ at a → SameEdge (untaken a start) d e
    same-there e ne = let was = same-made s m e (step-elsewhere a e (at a) k ne) in
        record { flags = was.flags; end = was.end; slot = was.slot }

    same-wires : (e : ℕ) → (end_of_view d.node e).wire ≡ (end_of_view start.node e).wire
    same-wires e = elim (cases_eq e (at a)) [
      | inl q ↦ rw q here.wire
      | inr ne ↦ ap (λ (z : EdgeEnd). z.wire) (same-there e ne).end
    ]

    moves : MovesAt (untaken a start) d (Some p)
    unfolding in_count out_count
    moves = record {
      ports = record {
        inputs = refl;
        outputs = refl;
        sources = refl;
        targets = refl;
        number = number-made s m;
        wires = same-wires;
      };
      edges = edges-made s m (step-plain a (at a) k);
      unlooked = still-updated (untaken a start) h.holds d.node.state.unlooked
          (λ e q. ap (λ (z : SeatState). has e z.unlooked) (sym state) ∙ q);
      others = λ e ne. same-there e (ne p refl);
      ins = refl;
      outs = refl;
      sound = h.sound;
      needed_len = needed-length a start.needed;
      needs = λ i ne. needed-other a start.needed i (λ q. ne (ap Some (sym q)));
      differs = λ q ne. subst (λ y. Differs q y start.view)
          (away q a (sight (shown start) q) (λ q. ne (ap Some (sym q))))
          (differs-acted q a start (sight (shown start) q)
          (differs-at (shown start) (untaken a start).view h.holds.difference q));
      waits = λ q ne. waits-acted q a start (λ q. ne (ap Some (sym q)));
      here = λ q e. let same : p ≡ q = (let z : Some p ≡ Some q = e in cc) in
          subst (λ q. Here (untaken a start) d q) same here;
    }

    acted-here : Acted a start d (is_to_tell a start)
    acted-here = record {
      holds = moved-holds (untaken a start) d (Some p) h.holds moves;
      lists = moved-lists (untaken a start) d (Some p) h.holds moves;
      ports = record {
        inputs = refl;
        outputs = refl;
        sources = refl;
        targets = refl;
        number = moves.ports.number;
        wires = same-wires;
      };
      view = refl;
      stage = stage-made s m ∙ step-stage a (view old) (at a) k;
      held = ap (λ (z : SeatState). z.held) state ∙ h.turn.held;
      tokens = ap (λ (z : SeatState). z.tokens) state ∙ h.turn.tokens;
      unlooked = ap (λ (z : SeatState). z.unlooked) state;
      owes = ap (λ (z : SeatState). z.owes) state
          ∙ λ j. cond (told a h k j) (adding (at a) (h.turn.owes j)) (h.turn.owes j);
    }

  -- the step that carries an action out at the edge of its port
  pub acted : (a : Action) → MayAct a start → {e : ℕ} → e ≡ at a → Steps a e
      → Acted a start (after_act ports new (needed_after a start.needed)) (is_to_tell a start)
  acted a h {e} q m = acted-here a h (subst (Steps a) q m)
