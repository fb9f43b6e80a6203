-- The cells of a new table, before any worker ran.
use Rattle.node_workers.proofs.Imports.{AreNewCells, AreNewReserves, AreReserves, AreStored, Blank, BoxPicture, Cells, Identity, IsAdded, IsBorn, IsGraphOfNodes, IsNamedReserve, IsNewReserve, List, NamedNode, NodeCell, Reserve, Sizes, Wire, [], ap, arith, blanks-count, blanks_of, first-of, get_elem?, holds-within, identity_of, is-counted, length, length-map, map, named_by, refl, reserve_at, reserve_of, seat-as, sizes_of, some, subst, suc, sym, zero, ℕ, ◌<◌, ◌==◌, ◌∙◌, ◌∷◌, ◌≡◌, ◌≤◌}
use Rattle.node_workers.proofs.EndLaws.{named-themselves}

at-place : {A : Type 0} (xs : List A) (n : ℕ) → n < length xs
    → (x : A) × (get_elem? xs n ≡ some x)
at-place [] n lt = absurd (omega (arith, lt))
at-place (x ∷ xs) zero lt = (x, refl)
at-place (x ∷ xs) (suc n) lt = at-place xs n (omega (arith, lt))

-- a node that grows by a reserve has all of it
module _ {P : Type 0} (seen : P → BoxPicture) (z : Sizes) (base : ℕ) (ranks : List ℕ)
    (boxes : List BoxPicture) (cells : List (NodeCell P))
    (fit : AreReserves z.nodes base z.wires z.reserves)
    (new : AreNewReserves ranks z.reserves boxes cells) (count : z.nodes ≡ length boxes)
    (many : length cells ≡ length boxes) where
  whole-reserve : (k : ℕ) → k < length z.reserves → IsNamedReserve z (reserve_at z.reserves k)
      (named_by seen cells (reserve_at z.reserves k).node).reserve
  whole-reserve k lt = let r : Reserve = reserve_at z.reserves k in let n : ℕ = r.node in
      let c = at-place cells n (omega (arith, (fit.growing k lt).in_range, many, count)) in
      let x : IsNewReserve ranks z.reserves boxes n c.0.reserve = new n c.0 c.1 in
      let is : reserve_of z.reserves n ≡ r = first-of z.reserves k lt (λ j less. (fit.apart j k less
      lt).growing) in
      let blanks : c.0.reserve.blanks.items ≡ blanks_of boxes [] r.first_node r.nodes = x.blanks ∙
      ap (λ (s : Reserve). blanks_of boxes [] s.first_node s.nodes) is in
      subst (λ (m : NamedNode). IsNamedReserve z r m.reserve) (sym (named-themselves seen cells n
      c.0 c.1)) record {
        held = λ m some. let some_there = rw blanks at (is-counted (λ (b : Blank). b.node == m)
            c.0.reserve.blanks.items some) in
            let w = (blanks-count boxes [] r.first_node r.nodes m).within some_there in
            holds-within r.first_node r.nodes m w.0 w.1;
        once = λ m. rw blanks (blanks-count boxes [] r.first_node r.nodes m).once;
        next_edge = x.next_edge ∙ ap (λ (s : Reserve). s.first_edge) is;
        edges = x.edges ∙ ap (λ (s : Reserve). s.edges) is;
        nodes = x.nodes ∙ sym count;
      }

-- the box of a node that no reserve holds is born
born-named : {P : Type 0} (seen : P → BoxPicture) (boxes : List P) (wires : List Wire)
    (reserves : List Reserve) (workers : ℕ) (c : Cells P)
    → AreNewCells seen (sizes_of (length boxes) wires reserves workers) boxes c
    → length c.cells.items ≡ length boxes → (k : ℕ) → k < length reserves
    → IsAdded (length boxes) reserves (reserve_at reserves k).node
    → IsBorn (named_by seen c.cells.items (reserve_at reserves k).node).box
born-named {P} seen boxes wires reserves workers c new many k lt added =
    let n : ℕ = (reserve_at reserves k).node in let t : Identity = identity_of c.table in
    let in_range = added.in_range in
    let d = at-place c.cells.items n (omega (arith, in_range, many)) in
    let y = new.each n d.0 d.1 in
    grind (arith, named-themselves seen c.cells.items n d.0 d.1, d.0.mark.state, c.cells.items)

-- they are the cells of all nodes, in order of their numbers, of which none is in a turn
pub new-stored : {P : Type 0} (seen : P → BoxPicture) (boxes : List P) (ranks : List ℕ)
    (wires : List Wire) (reserves : List Reserve) (workers : ℕ) (c : Cells P)
    → IsGraphOfNodes (length boxes) wires reserves
    → AreNewCells seen (sizes_of (length boxes) wires reserves workers) boxes c
    → AreNewReserves ranks reserves (map seen boxes) c.cells.items
    → AreStored seen (identity_of c.table) c.cells.items
new-stored {P} seen boxes ranks wires reserves workers c g new whole = let many : length
    c.cells.items ≡ length boxes = sym (length-map c.cells.items (λ (x : NodeCell P). x.processor))
    ∙ ap length new.processors in record {
      few = let l = g.nodes_are in let f = g.graph.so_far.few_nodes in omega (arith, many, l, f);
      stored = λ n x at. (new.each n x at).stored;
      numbers = λ n x at. let y = new.each n x at in
          (seat-as seen (identity_of c.table) x.mark.state x y.stored).number ∙ y.number;
      places = λ n x at. (new.each n x at).places;
      reserves = rw new.key record {
        fit = g.reserves_are;
        born = λ k lt. born-named seen boxes wires reserves workers c new many k lt
            (g.reserves_are.growing k lt);
        each = whole-reserve seen _ _ _ _ _ g.reserves_are whole (sym (length-map boxes seen)) (many
            ∙ sym (length-map boxes seen));
      };
    }
