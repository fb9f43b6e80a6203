-- From the cells of all nodes, which rest or are over, and a survey in which nothing is pending, to
-- a state of the table that has what the cells know.
use Rattle.node_ends.proofs.Imports.{AreAtRest, AreCells, AtHome, BoxPicture, CellAtHome, CellGraph, HasEdge, HasPlaces, HoldsGraph, Identity, IsBorn, IsSettled, IsUnborn, List, NodeCell, None, Port, Surveyed, WholeCell, Wire, [], ap, arith, at_map, cell_ports, get_elem?, get_or, inl, inr, is_some, length, length-map, no_whole, node_view, refl, rules, seats_of, some, subst, sym, view, views, whole_at, whole_of, wholes_of, ℕ, ◌+◌, ◌<◌, ◌∙◌, ◌≡◌}
use Rattle.node_ends.proofs.Lists.{each-or-default, read-map, there}
use Rattle.node_ends.proofs.Visits.{at-rest-home, blank-unborn, is-loaded, unborn-blank}
use Rattle.exec_laws.proofs.BirthLaws.{none-of}
use Rattle.node_cells.specs.Stored.{AwaitsBirth, IsStored, StoredAs}
use Rattle.port_word.specs.Names.{Picture}
use Rattle.std.proofs.lemmas.Bool.{cases_Bool}
use Rattle.exec_laws.proofs.Nodes.{not-blank}
use Rattle.exec_laws.specs.declared.edges.NodeStatus.TheVariants as node

none-left : (a b : ℕ) → a + b ≡ 0 → a ≡ 0
none-left a b e = omega (arith, e)

edge-node : (count : ℕ) (wires : List Wire) → HoldsGraph count wires → (n : ℕ) (p : Port) (e : ℕ)
    → HasEdge wires n p e → n < count
edge-node count wires graph n p e h = search (rules, graph)

module _ {P : Type 0} (seen : P → BoxPicture) (t : Identity) (g : CellGraph)
    (cells : List (NodeCell P)) (words : List ℕ) (all : AreCells seen t g cells)
    (rest : AreAtRest cells) (shown : Surveyed words (views (seats_of cells))) where
  abbrev wholes : List WholeCell
  wholes = wholes_of seen g cells

  stored : (n : ℕ) (c : NodeCell P) → get_elem? cells n ≡ some c → IsStored seen t c
  stored n c e = (all.each n c e).stored

  home : (n : ℕ) (c : NodeCell P) → get_elem? cells n ≡ some c → (IsUnborn c → ⊥) → AtHome seen t c
  home n c e born = at-rest-home seen t c (stored n c e) born (rest n c e)

  is-born : (n : ℕ) (c : NodeCell P) → get_elem? cells n ≡ some c → IsBorn (seen c.processor)
      → IsUnborn c → ⊥
  is-born n c e born u = not-blank (seen c.processor).spec born
      (unborn-blank seen t c (stored n c e) u)

  known : (n : ℕ) (c : NodeCell P) → get_elem? cells n ≡ some c
      → view c.seat ≡ node_view shown.board n
  known n c e = shown.seen n (view c.seat) (at_map view (seats_of cells) n c.seat
      (at_map (λ (c : NodeCell P). c.seat) cells n c e))
      ∙ ap (node_view shown.board) (all.each n c e).number

  whole : (n : ℕ) (c : NodeCell P) → get_elem? cells n ≡ some c
      → whole_at wholes n ≡ whole_of seen g c
  whole n c e = read-map (whole_of seen g) cells n c no_whole e

  -- what is true of each cell's picture is true below the number of nodes
  each : (Q : ℕ → WholeCell → Type 0)
      → ((n : ℕ) (c : NodeCell P) → get_elem? cells n ≡ some c → Q n (whole_of seen g c)) → (n : ℕ)
      → n < length wholes → Q n (whole_at wholes n)
  each Q h n lt = let c = there cells n (rw length-map at lt) in
      subst (Q n) (sym (whole n c.0 c.1)) (h n c.0 c.1)

  graph : HoldsGraph (length wholes) g.wires
  graph = subst (λ k. HoldsGraph k g.wires) (sym (length-map cells (whole_of seen g))) all.graph

  -- nothing waits to be carried out, whether the node is born or not
  quiet : (n : ℕ) (c : NodeCell P) → get_elem? cells n ≡ some c → c.ports.view.actions ≡ []
  quiet n c e = elim (cases_Bool (is_some (seen c.processor).spec)) [
    | inl born ↦ (home n c e (is-born n c e born)).home.actions
    | inr none ↦
        let u = blank-unborn seen t c (stored n c e) (none-of _ none) in
        let kept : AwaitsBirth seen t c = subst (λ z. StoredAs seen t z c) u (stored n c e) in
        ap (λ (v : Picture). v.actions) kept.new_view
  ]

  -- the board of the survey has what the cells know
  pub settled-cells : get_or words 0 0 ≡ 0 → IsSettled g wholes
  settled-cells none = record {
    board = shown.board;
    settled = record {
      board = shown.holds;
      pending = none-left _ _ (sym (ap (λ l. get_or l 0 0) shown.all) ∙ none);
      graph = graph;
      seen = each (λ n w. w.ports.node ≡ node_view shown.board n) known;
      home = each (λ n w. IsBorn w.box → CellAtHome g.wires g.table_edge n w) (λ n c e born.
          let at = home n c e (is-born n c e born) in record {
            holds = at.cell.node;
            home = at.home;
            places = subst (λ k. HasPlaces g.wires g.table_edge n (g.inputs k) (g.outputs k)
                (cell_ports c)) (sym (all.each n c e).number)
                ((all.each n c e).places (is-born n c e born));
          });
      unborn = each (λ n w. w.box.spec ≡ None → w.mark.state ≡ node.Unborn)
          (λ n c e none. blank-unborn seen t c (stored n c e) none);
      still = each-or-default (λ (w : WholeCell). w.ports.view.actions ≡ []) (whole_of seen g)
          no_whole cells quiet refl;
      born = λ e n p h. each (λ n w. HasEdge g.wires n p e → IsBorn w.box)
          (λ n c at h. is-loaded seen t c (stored n c at) (all.joined e n p c h at)) n
          (edge-node _ g.wires graph n p e h) h;
    };
  }
