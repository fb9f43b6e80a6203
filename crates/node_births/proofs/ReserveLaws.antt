-- No two reserves share a node, no node that grows is in one, and the box of a node is blank where
-- a reserve holds it.
use Rattle.node_births.proofs.Imports.{All-from_get_or, AreReserves, GraphBefore, IsBorn, IsGraphBefore, List, None, Reserve, Wire, [], and_parts, arith, both_ways, box_at, cases_lt, count_by-none, eq-eqb, false, false_from_ne_true, holds_node, input_count, length, list_any, list_any_at, list_any_none, ne_eqb, no_reserve, no_wire, output_count, refl, reserve_at, reserve_of, suc, true, wire_at, zero, ℕ, ◌+◌, ◌<◌, ◌==◌, ◌∷◌, ◌≡◌, ◌≢◌, ◌≤◌}

pub first-of : (rs : List Reserve) (k : ℕ) → k < length rs
    → ((j : ℕ) → j < k → (reserve_at rs j).node ≢ (reserve_at rs k).node)
    → reserve_of rs (reserve_at rs k).node ≡ reserve_at rs k
unfolding reserve_at
first-of [] k lt h = absurd (omega (arith, lt))
first-of (r ∷ rs) zero lt h = rw (eq-eqb r.node r.node refl) refl
first-of (r ∷ rs) (suc k) lt h = rw (ne_eqb r.node _ (h 0 (omega arith)))
    (first-of rs k (omega (arith, lt)) (λ j less. h (suc j) (omega (arith, less))))

pub none-of-reserves : (rs : List Reserve) (n : ℕ)
    → ((j : ℕ) → j < length rs → (reserve_at rs j).node ≢ n) → reserve_of rs n ≡ no_reserve
unfolding reserve_at
none-of-reserves [] n h = refl
none-of-reserves (r ∷ rs) n h = rw (ne_eqb r.node n (h 0 (omega arith)))
    (none-of-reserves rs n (λ j lt. h (suc j) (omega (arith, lt))))

-- no reserve holds an unreserved node
pub not-held : (rs : List Reserve) (m k : ℕ) → k < length rs → list_any (holds_node m) rs ≡ false
    → holds_node m (reserve_at rs k) ≡ false
unfolding reserve_at
not-held rs m k lt none = false_from_ne_true _ (λ h.
    both_ways _ none (list_any_at (holds_node m) rs k no_reserve lt h))

-- at a node that a reserve holds the graph has no wire
pub no-wires : {nodes base : ℕ} {wires : List Wire} {rs : List Reserve}
    → AreReserves nodes base wires rs → (m k : ℕ) → k < length rs
    → holds_node m (reserve_at rs k) ≡ true
    → (input_count wires m ≡ 0) × (output_count wires m ≡ 0)
unfolding wire_at
no-wires {wires} {rs} fit m k lt h = (
  count_by-none no_wire (λ w. w.to == m) wires (λ e le. ne_eqb _ m (λ is. both_ways _ (not-held rs _
      k lt (fit.to_added e le).unreserved) (rw is h))),
  count_by-none no_wire (λ w. w.from == m) wires (λ e le. ne_eqb _ m (λ is. both_ways _ (not-held rs
      _ k lt (fit.from_added e le).unreserved) (rw is h))),
)

module _ {g : GraphBefore} (b : IsGraphBefore g) where
  abbrev pub r_at : ℕ → Reserve
  r_at k = reserve_at g.reserves k

  -- a node grows by one reserve at most
  pub node-once : (j k : ℕ) → j < length g.reserves → k < length g.reserves
      → (r_at j).node ≡ (r_at k).node → j ≡ k
  node-once j k lj lk e = grind (arith, cases_lt)

  held-at : (m k : ℕ) → holds_node m (r_at k) ≡ true
      → ((r_at k).first_node ≤ m) × (m < (r_at k).first_node + (r_at k).nodes)
  held-at m k h = grind (arith, and_parts)

  -- a node is in one reserve at most
  pub held-once : (m j k : ℕ) → j < length g.reserves → k < length g.reserves
      → holds_node m (r_at j) ≡ true → holds_node m (r_at k) ≡ true → j ≡ k
  held-once m j k lj lk hj hk = grind (arith, held-at, cases_lt)

  pub unheld : (m k : ℕ) → k < length g.reserves → list_any (holds_node m) g.reserves ≡ false
      → holds_node m (r_at k) ≡ false
  unheld m k = not-held g.reserves m k

  -- a node that grows is in none
  pub grower-unheld : (j k : ℕ) → j < length g.reserves → k < length g.reserves
      → holds_node (r_at j).node (r_at k) ≡ false
  grower-unheld j k lj lk = unheld _ k lk (b.fit.growing j lj).unreserved

  -- the reserve that is found by its node
  pub reserve-of : (k : ℕ) → k < length g.reserves → reserve_of g.reserves (r_at k).node ≡ r_at k
  reserve-of k lt = first-of g.reserves k lt (λ j less. (b.fit.apart j k less lt).growing)

  pub none-at : (m k : ℕ) → k < length g.reserves → holds_node m (r_at k) ≡ true
      → (input_count g.wires m ≡ 0) × (output_count g.wires m ≡ 0)
  none-at m k = no-wires b.fit m k

  -- a reserve's nodes are nodes of the graph, and blank
  pub held-below : (m k : ℕ) → k < length g.reserves → holds_node m (r_at k) ≡ true
      → m < length g.boxes
  held-below m k lt h = grind (arith, held-at)

  pub held-blank : (m k : ℕ) → k < length g.reserves → holds_node m (r_at k) ≡ true
      → (box_at g.boxes m).spec ≡ None
  unfolding box_at reserve_at
  held-blank m k lt h = grind (arith, held-below, list_any_at)

  -- each other one is loaded
  pub unheld-born : (m : ℕ) → m < length g.boxes → ((k : ℕ) → k < length g.reserves
      → holds_node m (r_at k) ≡ false) → IsBorn (box_at g.boxes m)
  unfolding box_at reserve_at
  unheld-born m lt out = let s = rw (list_any_none (holds_node m) g.reserves (All-from_get_or
      (λ r. holds_node m r ≡ false) g.reserves no_reserve out)) at (b.starting m lt) in s.loaded
