-- A step that takes the node's word: the ports that the word names are updated ones from now on.
use Rattle.node_cells.proofs.Imports.{Board, Identity, Input, IsSeatOf, MakesUpdated, NodePorts, NodeSeat, Output, Port, PortsHold, PortsPicture, SeatState, Some, Wire, and_parts, ap, arith, edge_of, edges_of, has, has-filter, inl, inr, is_due, is_set, knows, ports_picture, state-made, sym, true, updated, view, ℕ, ◌+◌, ◌/◌, ◌%◌, ◌<◌, ◌^◌, ◌||◌, ◌∙◌, ◌≡◌}
use Rattle.node_ports.proofs.Shown.{AreUpdated}
use Rattle.node_ports.specs.Ports.{IsMerged, PortKnown, is_updated_port}
use Rattle.core_laws.specs.Steps.{bit_at_end}
use Rattle.core_laws.specs.Views.{wire_ok}
use Rattle.core_laws.specs.declared.types.Step.{Step}
use Rattle.core_laws.proofs.Bits.{at-end}
use Rattle.exec_laws.specs.Names.{IsEnd}
use Rattle.exec_table.proofs.Seating.{known-wire}
use Rattle.exec_table.specs.Known.{core_state_after as seat_after}
use Rattle.exec_table.specs.Seats.{updated_of}
use Rattle.exec_table.specs.declared.types.Updated.{Updated}
use Rattle.std.proofs.lemmas.Bool.{or_cases, or_left, or_right}
use Rattle.std.proofs.lemmas.Nat.{div-add-mod'}
use Rattle.std.proofs.lemmas.Nat.Bits.{bit_at_cat_high, bit_at_cat_low}
use Rattle.std.specs.Int.{bit_at}
use Rattle.std.specs.List.{filter}

-- ---- the bits of a word

pub low-bits : (k w i : ℕ) → i < k → bit_at (w % 2 ^ k) i ≡ bit_at w i
low-bits k w i lt = sym (bit_at_cat_low (w / 2 ^ k) k (w % 2 ^ k) i lt)
    ∙ ap (λ v. bit_at v i) (div-add-mod' w (2 ^ k))

pub high-bits : (w o : ℕ) → o < 16 → bit_at (w / 2 ^ 32 % 2 ^ 16) o ≡ bit_at w (32 + o)
high-bits w o lt = low-bits 16 (w / 2 ^ 32) o lt
    ∙ (ap (bit_at (w / 2 ^ 32)) (omega arith)
    ∙ (sym (bit_at_cat_high (w / 2 ^ 32) 32 (w % 2 ^ 32) (32 + o) (omega arith) (omega arith))
    ∙ ap (λ v. bit_at v (32 + o)) (div-add-mod' w (2 ^ 32))))

-- the word names the port at this end of the wire exactly where the updated ports have it
names-port : (nodes : ℕ) (w : Wire) (n x : ℕ) (p : Port) → wire_ok nodes w ≡ true → IsEnd w n p
    → (is_set x 60 || is_set x (bit_at_end n (Some w))) ≡ is_updated_port p (updated_of x)
names-port nodes w n x (Input i) ok at =
    grind (arith, at-end nodes w ok true n at.0, low-bits 32 x i (grind (arith, ok, at.1)))
names-port nodes w n x (Output o) ok at = grind (arith, at-end, high-bits)

-- ---- the step

module _ {t : Identity} (p : NodePorts) {old new : NodeSeat} {s : Step} {u : Updated}
    (h : PortsHold (ports_picture p old)) (o : IsSeatOf t old) (m : MakesUpdated t old new s u)
    (taken : (seat_after (view old) s (updated m.word)).unlooked
    ≡ filter (is_due (view old) m.word) (edges_of (view old).state.seen))
    (v : Updated) (merged : IsMerged p.updated u v) where
  abbrev c : PortsPicture
  c = ports_picture p old

  abbrev b : Board
  b = m.makes.before

  abbrev n : ℕ
  n = (view old).number

  due : (e : ℕ) → has e (view new).state.unlooked ≡ true
      → (is_due (view old) m.word e ≡ true) × (knows e (view old).state.seen ≡ true)
  due e q = and_parts (is_due (view old) m.word e) (knows e (view old).state.seen)
      (sym (has-filter (is_due (view old) m.word) (edges_of (view old).state.seen) e)
      ∙ (sym (ap (λ (z : SeatState). has e z.unlooked) (state-made o m.makes) ∙ ap (has e) taken)
      ∙ q))

  wire-sound : (q : Port) (k : PortKnown c q) → wire_ok b.core.sizes.nodes k.wire ≡ true
  wire-sound q k = grind (arith, known-wire)

  pub taken-updated : AreUpdated c v (view new).state.unlooked
  taken-updated = record {
    known = λ e q. (due e q).1;
    named = λ q own k. let port = h.known q own in let e = edge_of c q in
        merged q ∙ elim (or_cases _ _ (due e k).0) [
          | inl l ↦ or_left _ _ (h.updated q own l)
          | inr r ↦ or_right _ _ (ap (is_updated_port q) m.ports
              ∙ (sym (names-port b.core.sizes.nodes port.wire n m.word q (wire-sound q port)
              port.at_port)
              ∙ ((λ j. is_set m.word 60 || is_set m.word (bit_at_end n (sym port.is j))) ∙ r)))
        ];
  }
