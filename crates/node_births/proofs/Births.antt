-- A node that waits for its birth may begin once it was loaded and born.
use Rattle.node_births.proofs.Imports.{AwaitsBirth, BoxHolds, BoxPicture, Due, FollowsKept, Gains, Identity, IsNewborn, IsSeatOf, Lists, Loads, MakesStep, NodeCell, NodePorts, NodeSeat, None, Over, Picture, PortsHold, SameLists, SeatState, Spec, [], after_grow, ap, arith, cell_ports, follows-new, fresh-box, in_count, is_over_stage, is_unborn_stage, length, length-replicate, new_input, new_picture, no_flags, nothing, number-made, out_count, ports_picture, refl, replicate, replicate-append-replicate, stage-made, state-made, still-holds, still-lists, still-quiet, subst, sym, view, wires-still, ℕ, ◌++◌, ◌-◌, ◌∙◌, ◌≡◌, ◌≤◌}
use Rattle.core_laws.specs.declared.types.Step.TheVariants as step

module _ {P : Type 0} (seen : P → BoxPicture) (t : Identity) (old : NodeCell P)
    (h : AwaitsBirth seen t old) (q : P) (s : Spec) (loads : Loads (seen old.processor) s (seen q))
    (a b : NodeSeat) (i : MakesStep t old.seat a step.TokenIn None nothing)
    (m : MakesStep t a b step.Birth None nothing) where
  abbrev ins : ℕ
  ins = length old.ports.inputs.items

  abbrev outs : ℕ
  outs = length old.ports.outputs.items

  taken : PortsHold (ports_picture old.ports a)
  taken = still-holds old.ports old.ports.updated old.seat a h.ports
      (still-quiet h.ports h.seat i refl (λ _. refl) refl)

  ports : PortsHold (ports_picture old.ports b)
  ports = still-holds old.ports old.ports.updated a b taken
      (still-quiet taken i.seat m refl (λ _. refl) refl)

  first : SameLists (cell_ports old) (ports_picture old.ports a)
  first = still-lists old.ports old.ports.updated old.seat a h.ports
      (still-quiet h.ports h.seat i refl (λ _. refl) refl)

  second : SameLists (ports_picture old.ports a) (ports_picture old.ports b)
  second = still-lists old.ports old.ports.updated a b taken
      (still-quiet taken i.seat m refl (λ _. refl) refl)

  tokens : (view b).state.tokens ≡ 0
  tokens = let x = ap (λ (z : SeatState). z.tokens) (state-made h.seat i) in
      grind (arith, state-made i.seat m, i.seat, h.tokens)

  pub newborn : IsNewborn seen t s old (record {
    processor = q;
    mark = record { state = Due; last = None };
    ports = old.ports;
    seat = b;
    reserve = old.reserve;
  })
  newborn = record {
    loads = loads;
    begins = record {
      cell = record {
        seat = m.seat;
        node = record {
          ports = ports;
          box = subst (λ (l : Lists × Lists). BoxHolds ins outs (seen q) l.0 l.1) (λ j. (
            (λ k. sym (second.pulled k ∙ (first.pulled k ∙ h.pulled k)) j),
            (λ k. sym (second.pushed k ∙ (first.pushed k ∙ h.pushed k)) j),
          )) (fresh-box (seen q) ins outs loads.fresh);
          kept = λ _. subst (FollowsKept (seen q)) (sym h.new_view)
              (follows-new (seen q) ins outs loads.fresh.notes);
          mark = tt;
        };
      };
      quiet = ap (λ (v : Picture). v.actions) h.new_view;
      tokens = tokens;
      owes = ap (λ (z : SeatState). z.owes) (state-made i.seat m)
          ∙ (ap (λ (z : SeatState). z.owes) (state-made h.seat i) ∙ h.owes);
      free = ap (λ (z : SeatState). z.held) (state-made i.seat m)
          ∙ (ap (λ (z : SeatState). z.held) (state-made h.seat i) ∙ h.free);
      born = ap is_unborn_stage (stage-made i.seat m);
      going = ap is_over_stage (stage-made i.seat m);
      mark = λ over. let z : Due ≡ Over = over in cc;
    };
    ports = refl;
    same = record {
      inputs = refl;
      outputs = refl;
      sources = refl;
      targets = refl;
      number = number-made i.seat m ∙ number-made h.seat i;
      wires = λ e. wires-still i.seat m (λ _. refl) e ∙ wires-still h.seat i (λ _. refl) e;
    };
    reserve = refl;
    mark = refl;
  }

-- ---- more ports

-- so many more, up to n
up-to : {A : Type 0} (m n : ℕ) (x : A) → m ≤ n
    → replicate m x ++ replicate (n - length (replicate m x)) x ≡ replicate n x
up-to m n x le = replicate-append-replicate m (n - length (replicate m x)) x
    ∙ ap (λ k. replicate k x) (let len = length-replicate m x in omega (arith, le, len))

more-picture : (i o m n : ℕ) → i ≤ m → o ≤ n → after_grow (new_picture i o) m n ≡ new_picture m n
unfolding in_count out_count
more-picture i o m n le_in le_out = λ j. record {
  inputs = up-to i m new_input le_in j;
  outputs = up-to o n no_flags le_out j;
  actions = [];
}

pub awaits-more : {P : Type 0} (seen : P → BoxPicture) (t : Identity) (old : NodeCell P)
    (ports : NodePorts) (seat : NodeSeat) → AwaitsBirth seen t old → IsSeatOf t seat
    → Gains (cell_ports old) (ports_picture ports seat)
    → AwaitsBirth seen t (record old { ports = ports; seat = seat })
awaits-more seen t old ports seat h at g = record {
  seat = at;
  blank = h.blank;
  ports = g.may.holds;
  new_view = g.view ∙ (ap (λ v. after_grow v (length ports.inputs.items) (length
      ports.outputs.items)) h.new_view ∙ more-picture _ _ _ _ g.inputs g.outputs);
  pulled = λ i. g.lists.pulled i ∙ h.pulled i;
  pushed = λ o. g.lists.pushed o ∙ h.pushed o;
  unborn = ap is_unborn_stage g.stage ∙ h.unborn;
  tokens = g.tokens ∙ h.tokens;
  owes = g.owes ∙ h.owes;
  free = g.held ∙ h.free;
}
