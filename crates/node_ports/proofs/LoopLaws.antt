-- Looks and actions, one after another.
use Rattle.node_ports.proofs.Imports.{Input, IsPort, List, NodePorts, NodeSeat, Output, Port, PortsPicture, SameLists, SamePorts, Updated, [], ap, arith, cases_eq, edge_of, eq-eqb, false, has, inl, inr, length, port_edge, ports_picture, refl, subst, sym, true, view, ℕ, ◌+◌, ◌<◌, ◌||◌, ◌∙◌, ◌∷◌, ◌≡◌}
use Rattle.node_ports.proofs.StillLaws.{StaysSeat, still-holds, still-lists}
use Rattle.node_ports.specs.Sights.{Looked, LookedAll, LookedAt, LookedBelow, MayLook, nth_port}

pub same-lists : (c : PortsPicture) → SameLists c c
same-lists c = record { pulled = λ i. refl; pushed = λ o. refl }

pub lists-both : (a b c : PortsPicture) → SameLists a b → SameLists b c → SameLists a c
lists-both a b c h k = record {
  pulled = λ i. k.pulled i ∙ h.pulled i;
  pushed = λ o. k.pushed o ∙ h.pushed o;
}

pub same-ports : (c : PortsPicture) → SamePorts c c
same-ports c = record {
  inputs = refl;
  outputs = refl;
  sources = refl;
  targets = refl;
  number = refl;
  wires = λ e. refl;
}

pub ports-both : (a b c : PortsPicture) → SamePorts a b → SamePorts b c → SamePorts a c
ports-both a b c h k = record {
  inputs = k.inputs ∙ h.inputs;
  outputs = k.outputs ∙ h.outputs;
  sources = k.sources ∙ h.sources;
  targets = k.targets ∙ h.targets;
  number = k.number ∙ h.number;
  wires = λ e. k.wires e ∙ h.wires e;
}

pub edge-stays : (c d : PortsPicture) → SamePorts c d → (p : Port) → edge_of d p ≡ edge_of c p
edge-stays c d h p = λ j. port_edge (h.inputs j) (h.outputs j) p

-- ---- looks

pub looked-both : (a b c : PortsPicture) → Looked a b → Looked b c → Looked a c
looked-both a b c h k = record {
  may = k.may;
  lists = lists-both a b c h.lists k.lists;
  ports = ports-both a b c h.ports k.ports;
  stage = k.stage ∙ h.stage;
  fewer = λ e q. k.fewer e (h.fewer e q);
  follows = λ p f. k.follows p (h.follows p f);
}

pub looked-itself : (c : PortsPicture) → MayLook c → Looked c c
looked-itself c may = record {
  may = may;
  lists = same-lists c;
  ports = same-ports c;
  stage = refl;
  fewer = λ e q. q;
  follows = λ b f. f;
}

pub looked-none : (c : PortsPicture) → MayLook c → LookedBelow 0 c c
looked-none c may = record {
  looked = looked-itself c may;
  below = λ i lt. absurd (omega (arith, lt));
}

pub looked-more : (k : ℕ) (c d e : PortsPicture) → LookedBelow k c d
    → LookedAt (nth_port (length c.inputs) k) d e → LookedBelow (k + 1) c e
looked-more k c d e h m = record {
  looked = looked-both c d e h.looked m.looked;
  below = λ i lt. elim (cases_eq i k) [
    | inl at ↦ ap (λ i. has (edge_of c (nth_port (length c.inputs) i)) e.node.state.unlooked) at
        ∙ (ap (λ x. has x e.node.state.unlooked) (sym (edge-stays c d h.looked.ports
        (nth_port (length c.inputs) k)))
        ∙ m.here)
    | inr ne ↦ m.looked.fewer (edge_of c (nth_port (length c.inputs) i))
        (h.below i (omega (arith, lt, ne)))
  ];
}

has-none : (xs : List ℕ) → ((x : ℕ) → has x xs ≡ true → ⊥) → xs ≡ []
has-none [] h = refl
has-none (x ∷ xs) h = absurd (h x (ap (λ b. b || has x xs) (eq-eqb x x refl)))

-- each port has a number
numbered : (m n : ℕ) (p : Port) → IsPort m n p → (k : ℕ) × (k < m + n) × (nth_port m k ≡ p)
numbered m n (Input i) lt = (i, omega (arith, lt), grind (arith, lt))
numbered m n (Output o) lt = (m + o, omega (arith, lt), grind arith)

none-unlooked : (c d : PortsPicture) → LookedBelow (length c.inputs + length c.outputs) c d
    → d.node.state.unlooked ≡ []
none-unlooked c d h = has-none d.node.state.unlooked (λ x q.
    let p = h.looked.may.holds.cover x (h.looked.may.holds.unlooked x q) in
    let s = h.looked.ports in
    let own = subst (λ (l : List ℕ × List ℕ). IsPort (length l.0) (length l.1) p.port)
    (λ j. (s.inputs j, s.outputs j)) p.there in
    let k = numbered (length c.inputs) (length c.outputs) p.port own in
    let z : true ≡ false = sym q ∙ (ap (λ e. has e d.node.state.unlooked) (sym p.is
    ∙ (edge-stays c d s p.port ∙ ap (edge_of c) (sym k.2))) ∙ h.below k.0 k.1) in cc)

-- all were looked at: none is among the updated ones any more
pub looked-all : (c : PortsPicture) (p : NodePorts) (s : NodeSeat) (u : Updated)
    → LookedBelow (length c.inputs + length c.outputs) c (ports_picture p s)
    → LookedAll c (ports_picture (record p { updated = u }) s)
looked-all c p s u h = record {
  looked = looked-both c (ports_picture p s) (ports_picture (record p { updated = u }) s) h.looked
      record {
        may = record {
          holds = still-holds p u s s h.looked.may.holds stays;
          turn = h.looked.may.turn;
          quiet = h.looked.may.quiet;
        };
        lists = still-lists p u s s h.looked.may.holds stays;
        ports = record {
          inputs = refl;
          outputs = refl;
          sources = refl;
          targets = refl;
          number = refl;
          wires = λ e. refl;
        };
        stage = refl;
        fewer = λ e q. q;
        follows = λ b f. f;
      };
  none = none;
}
  where
    none : (view s).state.unlooked ≡ []
    none = none-unlooked c (ports_picture p s) h

    not-there : (e : ℕ) → has e (view s).state.unlooked ≡ true → ⊥
    not-there e q = let z : true ≡ false = sym q ∙ ap (has e) none in cc

    stays : StaysSeat p u s s
    stays = record {
      number = refl;
      edges = refl;
      unlooked = record {
        known = λ e q. absurd (not-there e q);
        named = λ q own k. absurd (not-there (edge_of (ports_picture p s) q) k);
      };
      same = λ d. record { flags = refl; end = refl; slot = refl };
    }
