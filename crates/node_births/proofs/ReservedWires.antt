-- The wires of a growth without a flaw may be set at the next edges of the reserve of its node.
use Rattle.node_births.proofs.Imports.{AreReservedWires, Edge, List, Me, New, Reserve, Sizes, Who, Wire, [], and_from, and_parts, ap, arith, both_ways, edge_in, end_node, end_rank, eq-eqb, false, get_or, has_large_port, has_wrong_end, holds_node, is_named, is_out_of_order, le-leb, length, length-map, list_any, list_any_at, lt-ltb, ltb-true, nat_lt, ne_eqb, new_wire, new_wires, no_reserve, not, not-false, of_reserve, or_left, or_parts, or_right, refl, reserve_at, subst, suc, true, wire_at, wire_ok, zero, ℕ, ◌&&◌, ◌+◌, ◌<◌, ◌∷◌, ◌≡◌, ◌≢◌, ◌≤◌}

-- the edges of a growth of so many new nodes with these ranks, by a node of this rank: none of the
-- flaws that need no graph is theirs
pub record AreFlawless (rank count : ℕ) (ranks : List ℕ) (edges : List Edge) : Type 0 where
  pub ends : list_any (has_wrong_end count) edges ≡ false
  pub ranked : list_any (is_out_of_order rank ranks) edges ≡ false
  pub small : list_any has_large_port edges ≡ false

-- the places of so many new nodes are a reserve's, each once, and the node that grows, which is one
-- of so many, is none of them
pub record AreReservePlaces (r : Reserve) (nodes count : ℕ) (places : List ℕ) : Type 0 where
  pub grows : r.node < nodes
  pub outside : holds_node r.node r ≡ false
  pub within : r.first_node + r.nodes ≤ nodes
  pub held : (k : ℕ) → k < count → holds_node (get_or places k 0) r ≡ true
  pub once : (j k : ℕ) → j < count → k < count → get_or places j 0 ≡ get_or places k 0 → j ≡ k

module _ (r : Reserve) (nodes count rank : ℕ) (ranks places : List ℕ)
    (h : AreReservePlaces r nodes count places) where
  at : (k : ℕ) → is_named count (New k) ≡ true → k < count
  at k named = ltb-true k count named

  -- an end is at the node that grows, or at one of the reserve's
  end-own : (w : Who) → is_named count w ≡ true → of_reserve (end_node r.node places w) r ≡ true
  end-own Me named = or_left _ _ (eq-eqb r.node r.node refl)
  end-own (New k) named = or_right _ _ (h.held k (at k named))

  end-inside : (w : Who) → is_named count w ≡ true → end_node r.node places w < nodes
  end-inside Me named = h.grows
  end-inside (New k) named = grind (arith, ltb-true, and_parts, r.first_node, r.nodes, h.held)

  same-rank : (v w : Who) → is_named count v ≡ true → is_named count w ≡ true
      → end_node r.node places v ≡ end_node r.node places w
      → end_rank rank ranks v ≡ end_rank rank ranks w
  same-rank Me Me a b e = refl
  same-rank Me (New k) a b e = absurd (both_ways _ h.outside (rw e (h.held k (at k b))))
  same-rank (New j) Me a b e = absurd (both_ways _ h.outside
      (subst (λ m. holds_node m r ≡ true) e (h.held j (at j a))))
  same-rank (New j) (New k) a b e = ap (λ i. get_or ranks i 0) (h.once j k (at j a) (at k b) e)

  -- what a table asks of the wire of an edge
  abbrev MayBeSet : Wire → Type 0
  MayBeSet w = (wire_ok nodes w ≡ true) × ((of_reserve w.from r && of_reserve w.to r) ≡ true)

  may-set : (e : Edge) → has_wrong_end count e ≡ false → is_out_of_order rank ranks e ≡ false
      → has_large_port e ≡ false → MayBeSet (new_wire r.node places e)
  may-set e wrong order large = let named = and_parts _ _ (not-false _ (or_parts _ _ wrong).0) in
      let less = ltb-true (end_rank rank ranks e.from.who) (end_rank rank ranks e.to.who) (not-false
      _ order) in
      let small = and_parts (nat_lt e.to.port 32) (nat_lt e.from.port 16) (not-false _ large) in
      let other : end_node r.node places e.to.who ≢ end_node r.node places e.from.who =
      grind (arith, same-rank, e.to.who, e.from.who, named.1, named.0) in (
        and_from _ _ (ap not (ne_eqb _ _ other)) (and_from _ _
            (and_from _ _ (lt-ltb _ _ (end-inside e.from.who named.0))
            (lt-ltb _ _ (end-inside e.to.who named.1))) (and_from _ _ small.1 small.0)),
        and_from _ _ (end-own e.from.who named.0) (end-own e.to.who named.1),
      )

  all-set : (edges : List Edge) → AreFlawless rank count ranks edges → (k : ℕ)
      → k < length (new_wires r.node places edges)
      → MayBeSet (wire_at (new_wires r.node places edges) k)
  unfolding wire_at
  all-set [] f k lt = absurd (omega (arith, lt))
  all-set (e ∷ edges) f zero lt = may-set e (or_parts _ _ f.ends).0 (or_parts _ _ f.ranked).0
      (or_parts _ _ f.small).0
  all-set (e ∷ edges) f (suc k) lt = all-set edges record {
    ends = (or_parts _ _ f.ends).1;
    ranked = (or_parts _ _ f.ranked).1;
    small = (or_parts _ _ f.small).1;
  } k (omega (arith, lt))

  -- so the reserve's edges from `first` on may get the wires, where it has so many
  pub reserved-wires : (z : Sizes) (i : ℕ) → z.nodes ≡ nodes → i < length z.reserves
      → reserve_at z.reserves i ≡ r → (first : ℕ) (edges : List Edge)
      → AreFlawless rank count ranks edges → r.first_edge ≤ first
      → first + length edges ≤ r.first_edge + r.edges
      → AreReservedWires z first (new_wires r.node places edges)
  unfolding reserve_at
  reserved-wires z i many lt is first edges f low room = record {
    sound = λ k less. rw many (all-set edges f k less).0;
    reserved = λ k less. list_any_at (λ x. edge_in (first + k) x && (of_reserve (wire_at
        (new_wires r.node places edges) k).from x && of_reserve (wire_at (new_wires r.node
        places edges) k).to x)) z.reserves i no_reserve lt (rw is (and_from _ _ (and_from _ _
        (le-leb r.first_edge (first + k) (omega (arith, low))) (lt-ltb (first + k) (r.first_edge
        + r.edges) (omega (arith, less, length-map edges (new_wire r.node places), room))))
        (all-set edges f k less).1));
  }
