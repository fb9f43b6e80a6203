-- The cells after a survey, whose seats know what they knew.
use Rattle.node_ends.proofs.Imports.{AreAll, AreCells, AreSurveyed, AtHome, BoxPicture, BoxesStay, CellGraph, EachSeat, HasPlaces, Identity, IsAtWork, IsBack, IsCellOf, IsSeatOf, List, MayBegin, NodeBody, NodeCell, NodeSeat, NodeStatus, StoredAs, Surveyed, [], ap, arith, at_map, bodies_of, body_of, boxes_in, cell_ports, get_elem?, length, length-map, map, map-map, refl, seats_of, some, some-injective, subst, suc, sym, view, views, ℕ, ◌∙◌, ◌∷◌, ◌≡◌}
use Rattle.node_ends.proofs.Lists.{below, there}
use Rattle.node_cells.proofs.VisitLaws.{seat-as}
use Rattle.node_cells.specs.Stored.{AwaitsBirth}
use Rattle.node_ports.specs.Ports.{PortsHold, pulled_by, pushed_by}
use Rattle.node_ends.specs.RunEnds.{AreVisited, GrowthsStay}
use Rattle.node_cells.specs.Cells.{CellHolds, CellNodeHolds, IsHome}
use Rattle.exec_laws.specs.declared.edges.DueCall.{DueCall}
use Rattle.exec_laws.specs.declared.edges.DueCall.TheVariants as call
use Rattle.exec_laws.specs.declared.edges.NodeStatus.TheVariants as node

-- ---- one cell

module _ {P : Type 0} (seen : P → BoxPicture) (t : Identity) (was : NodeCell P) (s : NodeSeat)
    (back : IsBack t was.seat s) where
  abbrev now : NodeCell P
  now = record was { seat = s }

  same-ports : cell_ports was ≡ cell_ports now
  same-ports j = record (cell_ports was) { node = sym back.1 j; slots = sym back.2 j }

  back-cell : CellHolds seen t was → CellHolds seen t now
  back-cell h = record {
    seat = back.0;
    node = subst (CellNodeHolds (seen was.processor) was.mark) same-ports h.node;
  }

  back-home : AtHome seen t was → AtHome seen t now
  back-home h = record {
    cell = back-cell h.cell;
    home = subst (IsHome was.mark) same-ports h.home;
  }

  back-begins : MayBegin seen t was → MayBegin seen t now
  back-begins h = record {
    cell = back-cell h.cell;
    quiet = h.quiet;
    tokens = rw back.1 h.tokens;
    owes = rw back.1 h.owes;
    free = rw back.1 h.free;
    born = rw back.1 h.born;
    going = rw back.1 h.going;
    mark = h.mark;
  }

  back-work : (k : DueCall) → IsAtWork seen t k was → IsAtWork seen t k now
  back-work k h = record {
    holds = record {
      cell = back-cell h.holds.cell;
      turn = rw back.1 h.holds.turn;
      stage = rw back.1 h.holds.stage;
    };
    quiet = h.quiet;
    at_work = h.at_work;
  }

  back-unborn : AwaitsBirth seen t was → AwaitsBirth seen t now
  back-unborn h = record {
    seat = back.0;
    blank = h.blank;
    ports = subst PortsHold same-ports h.ports;
    new_view = h.new_view;
    pulled = subst (λ c. (i : ℕ) → pulled_by c i ≡ []) same-ports h.pulled;
    pushed = subst (λ c. (o : ℕ) → pushed_by c o ≡ []) same-ports h.pushed;
    unborn = rw back.1 h.unborn;
    tokens = rw back.1 h.tokens;
    owes = rw back.1 h.owes;
    free = rw back.1 h.free;
  }

  back-stored : (k : NodeStatus) → StoredAs seen t k was → StoredAs seen t k now
  back-stored node.Unborn h = back-unborn h
  back-stored node.Due h = back-begins h
  back-stored node.Resting h = back-home h
  back-stored (node.AtWork call.Work) h = h
  back-stored (node.AtWork call.Schedule) h = (back-home h.0, back-work call.Schedule h.1)
  back-stored (node.AtWork call.Expand) h = (back-home h.0, back-work call.Expand h.1)
  back-stored node.Over h = back-home h

  back-is : (g : CellGraph) (n : ℕ) → IsCellOf seen t g n was → IsCellOf seen t g n now
  back-is g n h = record {
    stored = back-stored was.mark.state h.stored;
    number = rw back.1 h.number;
    places = λ born. subst (HasPlaces g.wires g.table_edge n (g.inputs n) (g.outputs n)) same-ports
        (h.places born);
  }

-- ---- all cells

same-views : (t : Identity) (olds news : List NodeSeat) → length news ≡ length olds
    → EachSeat (IsBack t) olds news → views news ≡ views olds
same-views t [] [] many e = refl
same-views t [] (y ∷ ys) many e = absurd (omega (arith, many))
same-views t (x ∷ xs) [] many e = absurd (omega (arith, many))
same-views t (x ∷ xs) (y ∷ ys) many e =
    let first = e 0 y refl in
    let is : view y ≡ view x = first.2.1 ∙ ap view (sym (some-injective x first.0 first.1)) in
    let more = same-views t xs ys (omega (arith, many)) (λ k s q. e (suc k) s q) in
    λ j. is j ∷ more j

-- the seats of the cells of all nodes are those of all nodes
pub all-seats : {P : Type 0} (seen : P → BoxPicture) (t : Identity) (g : CellGraph)
    (cells : List (NodeCell P)) → AreCells seen t g cells → AreAll t (seats_of cells)
all-seats {P} seen t g cells all = (
  length-map cells (λ (c : NodeCell P). c.seat) ∙ all.count,
  λ n s e. let c = there cells n (rw length-map at (below (seats_of cells) n s e)) in
      subst (λ s. IsSeatOf t s × ((view s).number ≡ n))
      (some-injective _ _ (sym (at_map (λ (c : NodeCell P). c.seat) cells n c.0 c.1) ∙ e)) (
        seat-as seen t c.0.mark.state c.0 (all.each n c.0 c.1).stored,
        (all.each n c.0 c.1).number,
      ),
)

module _ {P : Type 0} (t : Identity) (olds news : List (NodeCell P)) (h : AreSurveyed t olds news)
  where
    -- there are as many
    pub surveyed-count : length news ≡ length olds
    surveyed-count = sym (length-map news body_of) ∙ (ap length h.bodies ∙ length-map olds body_of)

    -- the seats know what they knew
    pub surveyed-views : views (seats_of news) ≡ views (seats_of olds)
    surveyed-views = same-views t (seats_of olds) (seats_of news)
        (rw (length-map, length-map) surveyed-count) h.seats

    -- the cell that stood at the place
    abbrev Was : ℕ → NodeCell P → Type 0
    Was n c = (was : NodeCell P) × (get_elem? olds n ≡ some was)
        × (c ≡ record was { seat = c.seat }) × IsBack t was.seat c.seat

    cell-was : (n : ℕ) (c : NodeCell P) → get_elem? news n ≡ some c → Was n c
    cell-was n c e =
        let was = there olds n (let lt = below news n c e in omega (arith, lt, surveyed-count)) in
        let same : body_of c ≡ body_of was.0 = some-injective _ _ (sym (at_map body_of news n c e)
        ∙ (ap (λ l. get_elem? l n) h.bodies ∙ at_map body_of olds n was.0 was.1)) in
        let seat = h.seats n c.seat (at_map (λ (c : NodeCell P). c.seat) news n c e) in
        let own = some-injective _ _ (sym seat.1
        ∙ at_map (λ (c : NodeCell P). c.seat) olds n was.0 was.1) in (
          was.0,
          was.1,
          λ j. record {
            processor = (same j).processor;
            mark = (same j).mark;
            ports = (same j).ports;
            seat = c.seat;
            reserve = (same j).reserve;
          },
          subst (λ s. IsBack t s c.seat) own seat.2,
        )

    module _ (seen : P → BoxPicture) where
      -- the boxes are the same
      pub surveyed-boxes : boxes_in seen news ≡ boxes_in seen olds
      surveyed-boxes = let f = λ (b : NodeBody P). seen b.processor in
          sym (map-map f body_of news) ∙ (ap (map f) h.bodies ∙ map-map f body_of olds)

      -- so what is true of them before is true after it
      surveyed-holds : (Q : List BoxPicture → Type 0) → Q (boxes_in seen olds)
          → Q (boxes_in seen news)
      surveyed-holds Q h = subst Q (sym surveyed-boxes) h

      -- the cells are still those of all nodes
      surveyed-cells : (g : CellGraph) → AreCells seen t g olds → AreCells seen t g news
      surveyed-cells g all = record {
        count = surveyed-count ∙ all.count;
        graph = rw surveyed-count all.graph;
        each = λ n c e. let w = cell-was n c e in subst (IsCellOf seen t g n) (sym w.2)
            (back-is seen t w.0 c.seat w.3 g n (all.each n w.0 w.1));
        joined = λ e n p c h at unborn. let w = cell-was n c at in
            all.joined e n p w.0 h w.1 (rw w.2 at unborn);
      }

      -- and what visits before it left is left
      pub surveyed-visited : (first : List (NodeCell P)) → AreVisited seen t first olds
          → AreVisited seen t first news
      surveyed-visited first v = record {
        cells = λ g all. surveyed-cells g (v.cells g all);
        count = surveyed-count ∙ v.count;
        back = surveyed-holds (BoxesStay _) v.back;
        growth = surveyed-holds (GrowthsStay _) v.growth;
      }

-- cells were taken apart, their seats surveyed, and put together again
module _ {P : Type 0} (t : Identity) (olds news : List (NodeCell P)) (bodies : List (NodeBody P))
    (seats after : List NodeSeat) (apart : bodies ≡ bodies_of olds)
    (seats-are : seats ≡ seats_of olds)
    (each : EachSeat (IsBack t) seats after) (together : bodies_of news ≡ bodies)
    (back : seats_of news ≡ after) where
  -- the cells have what they had
  pub survey-made : AreSurveyed t olds news
  survey-made = record {
    bodies = together ∙ apart;
    seats = subst (λ (l : List NodeSeat × List NodeSeat). EachSeat (IsBack t) l.0 l.1)
        (λ j. (seats-are j, sym back j)) each;
  }

  -- what was shown with the seats is shown with those of the new cells
  pub survey-shown : (words : List ℕ) → Surveyed words (views seats)
      → Surveyed words (views (seats_of news))
  survey-shown words shown = subst (Surveyed words)
      (ap views seats-are ∙ sym (surveyed-views t olds news survey-made)) shown
