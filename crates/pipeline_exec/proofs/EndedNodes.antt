-- What each node knows by itself after the workers of a run, by its cell, and the grown graph that
-- all nodes make.
use Rattle.pipeline_exec.proofs.Imports.{AreFirst, BoxPicture, GivenBack, List, None, Option, Reserve, Some, Wire, [], ap, arith, at_map, both_ways, eq-eqb, get_or, grower-unheld, held-once, holds_node, inl, inr, length, length-map, map, node-once, not-blank, refl, subst, suc, sym, there, true, zero, ℕ, ◌<◌, ◌==◌, ◌∙◌, ◌∷◌, ◌≡◌, ◌≢◌, ◌⊎◌, false, list_any}
use Rattle.atomic_table.specs.Seated.{TableId}
use Rattle.exec_laws.specs.Births.{Birth, births_of}
use Rattle.exec_laws.specs.declared.edges.NodeStatus.TheVariants as node
use Rattle.exec_laws.specs.declared.growth.Blank.{Blank}
use Rattle.exec_table.specs.Seats.{Identity}
use Rattle.growth_notes.specs.Notes.{noted, noted_in}
use Rattle.node_births.proofs.GraphLeft.{graph-left}
use Rattle.node_births.specs.Left.{NamedNode, ReserveForm, reserve_form}
use Rattle.node_births.specs.LeftNodes.{IsAlone, IsGraphBefore, IsGraphLeft, IsHeldBy, IsNodeLeft, GrowsBy, NodeLeft, reserve_before}
use Rattle.node_births.specs.NotedBirths.{birth_of, births_by}
use Rattle.node_births.specs.OwnBirths.{IsBoxLeft, StandsAmong}
use Rattle.node_births.specs.declared.noted_growth.NotedGrowth.{NotedGrowth}
use Rattle.node_cells.specs.Cells.{cell_ports}
use Rattle.node_cells.specs.Ends.{no_whole}
use Rattle.node_cells.specs.NewCells.{AreNewReserves}
use Rattle.node_cells.specs.NewReserves.{IsNewReserve}
use Rattle.node_cells.specs.Visits.{LiesAs}
use Rattle.node_cells.specs.declared.cell.NodeCell.{NodeCell}
use Rattle.node_cells.specs.declared.stop_cause.StopCause.{StopCause}
use Rattle.node_cells.specs.declared.stop_cause.StopCause.TheVariants as cause
use Rattle.node_ends.proofs.Lists.{read-map}
use Rattle.node_ends.proofs.Visits.{blank-unborn}
use Rattle.node_ends.specs.CellLists.{boxes_in}
use Rattle.node_ports.specs.Ports.{PortsPicture}
use Rattle.node_workers.proofs.EndLaws.{named-themselves}
use Rattle.node_workers.specs.Ended.{AreEnded, named_by, no_node}
use Rattle.node_workers.specs.Named.{CellFits, IsNoteFor, births_in, first_edge_in}
use Rattle.node_workers.specs.Names.{Names}
use Rattle.node_workers.specs.declared.named_cell.CellNote.{CellNote}
use Rattle.node_workers.specs.declared.named_cell.CellNote.TheVariants as note
use Rattle.node_workers.specs.declared.named_cell.EndedCell.{EndedCell}
use Rattle.pipeline_exec.specs.Ends.{Begun}
use Rattle.pipeline_exec.specs.Gathering.{AreOfNotes, IsOfNotes, copied_growths, own_growths}
use Rattle.pipeline_exec.specs.WorkerRuns.{AreWhole, cell_of}
use Rattle.std.proofs.lemmas.List.{map-append}
use lib.ListN.{get_elem?}
use mathlib.Core.Option.{some}
unfoldable use Rattle.exec_laws.specs.Names.{box_at}
unfoldable use Rattle.proc_api.specs.Reserves.{reserve_at}

-- ---- a graph before its run, by the table and the cells of its nodes

module _ {P : Type 0} (seen : P → BoxPicture) (t : Identity) (cells : List (NodeCell P)) where
  abbrev pub begun_of : List ℕ → Begun
  begun_of ranks = record {
    ranks = ranks;
    wires = t.sizes.wires;
    reserves = t.sizes.reserves;
    boxes = boxes_in seen cells;
  }

  pub record BeginsAs (ranks : List ℕ) : Type 0 where
    pub graph : IsGraphBefore (begun_of ranks)
    pub whole : AreNewReserves ranks t.sizes.reserves (boxes_in seen cells) cells
    pub count : length cells ≡ t.sizes.nodes

-- ---- the nodes after it

abbrev pub node_left : {P : Type 0} → (P → BoxPicture) → List Reserve → EndedCell P → NodeLeft
node_left seen reserves d = record {
  births = births_in reserves d.note;
  box = seen d.cell.processor;
  ports = cell_ports d.cell;
  reserve = reserve_form d.cell.reserve;
  stopped = d.stopped;
}

abbrev pub no_left : NodeLeft
no_left = record {
  births = [];
  box = no_node.box;
  ports = no_whole.ports;
  reserve = no_node.reserve;
  stopped = None;
}

unfoldable pub nodes_left : {P : Type 0} → (P → BoxPicture) → List Reserve → List (EndedCell P) → ℕ
    → NodeLeft
nodes_left seen reserves cells n = get_or (map (node_left seen reserves) cells) n no_left

left-at : {P : Type 0} (seen : P → BoxPicture) (reserves : List Reserve)
    (cells : List (EndedCell P)) (n : ℕ) (d : EndedCell P) → get_elem? cells n ≡ some d
    → nodes_left seen reserves cells n ≡ node_left seen reserves d
unfolding nodes_left
left-at seen reserves cells n d at = read-map (node_left seen reserves) cells n d no_left at

-- ---- what a node knows of births, by its note

own-births : (n : ℕ) (gs : List NotedGrowth) → births_of n (births_by n gs) ≡ births_by n gs
own-births n [] = refl
own-births n (g ∷ gs) = rw (eq-eqb n n refl) (ap (λ l. birth_of n g ∷ l) (own-births n gs))

-- where it knows of none, it stands among the wires whatever the first edge of births is
stands-bare : (wires : List Wire) (a b n : ℕ) (named r : ReserveForm) (c : PortsPicture)
    (p : BoxPicture) → StandsAmong wires a [] n named c r p → StandsAmong wires b [] n named c r p
stands-bare wires a b n named r c p h = record {
  number = h.number;
  wired = record {
    each = λ q own. elim (h.wired.each q own) [
      | inl x ↦ inl x
      | inr y ↦ let lt = y.has_edge.in_range in absurd (omega (arith, lt))
    ];
  };
  ins = h.ins;
  outs = h.outs;
  reserve_is = h.reserve_is;
  sound = h.sound;
}

-- the growths of a copy are the first, and so are its births
first-births : (n : ℕ) (xs ys : List NotedGrowth) → AreFirst xs ys
    → AreFirst (births_by n xs) (births_by n ys)
first-births n xs ys h = record {
  later = births_by n h.later;
  all = ap (births_by n) h.all ∙ map-append (birth_of n) xs h.later;
}

-- a note is one of its table
pub of-notes : (id : TableId) (reserves : List Reserve) (n : ℕ) (x : CellNote)
    → IsNoteFor id reserves n x → IsOfNotes id x
of-notes id reserves n note.Bare h = tt
of-notes id reserves n (note.Own x) h = h.0
of-notes id reserves n (note.Copied x) h = h.0

module _ {g : Begun} (before : IsGraphBefore g) (notes : TableId) (n : ℕ) where
  abbrev rs : List Reserve
  rs = g.reserves

  -- the node of a reserve has that one's own note
  grows-by : (k : ℕ) → k < length rs → (reserve_at rs k).node ≡ n → (x : CellNote)
      → IsNoteFor notes rs n x → (first_edge_in rs x ≡ (reserve_at rs k).first_edge)
      × (births_of n (births_in rs x) ≡ births_in rs x)
      × ((gs : List NotedGrowth) × ((own_growths x ≡ Some gs)
      × (births_in rs x ≡ births_by (reserve_at rs k).node gs)))
  grows-by k lt is note.Bare h = absurd (h k lt is)
  grows-by k lt is (note.Own x) h =
      let same : x.reserve ≡ k = node-once before x.reserve k h.1 lt (h.2 ∙ sym is) in (
        ap (λ i. (reserve_at rs i).first_edge) same,
        subst (λ m. births_of n (births_by m (noted x)) ≡ births_by m (noted x)) (sym h.2)
            (own-births n (noted x)),
        (noted x, (refl, ap (λ i. births_by (reserve_at rs i).node (noted x)) same)),
      )
  grows-by k lt is (note.Copied x) h =
      absurd (both_ways _ (grower-unheld before k x.reserve lt h.1)
      (subst (λ m. holds_node m (reserve_at rs x.reserve) ≡ true) (sym is) h.2))

  -- a node that a reserve holds knows nothing, or has a copy of that one's note
  held-by : (k : ℕ) → k < length rs → holds_node n (reserve_at rs k) ≡ true → (x : CellNote)
      → IsNoteFor notes rs n x → (births_in rs x ≡ [])
      ⊎ ((gs : List NotedGrowth) × ((copied_growths x ≡ Some (record { reserve = k; growths = gs }))
      × (first_edge_in rs x ≡ (reserve_at rs k).first_edge)
      × (births_in rs x ≡ births_by (reserve_at rs k).node gs)))
  held-by k lt here note.Bare h = inl refl
  held-by k lt here (note.Own x) h =
      absurd (both_ways _ (grower-unheld before x.reserve k h.1 lt)
      (subst (λ m. holds_node m (reserve_at rs k) ≡ true) (sym h.2) here))
  held-by k lt here (note.Copied x) h =
      let same : x.reserve ≡ k = held-once before n x.reserve k h.1 lt h.2 here in inr (
        noted_in x,
        (
          ap (λ i. Some (record { reserve = i; growths = noted_in x })) same,
          ap (λ i. (reserve_at rs i).first_edge) same,
          ap (λ i. births_by (reserve_at rs i).node (noted_in x)) same,
        ),
      )

  -- another node knows nothing
  alone-by : ((k : ℕ) → k < length rs
      → ((reserve_at rs k).node ≢ n) × (holds_node n (reserve_at rs k) ≡ false)) → (x : CellNote)
      → IsNoteFor notes rs n x → (births_in rs x ≡ []) × (first_edge_in rs x ≡ 0)
  alone-by out note.Bare h = (refl, refl)
  alone-by out (note.Own x) h = absurd ((out x.reserve h.1).0 h.2)
  alone-by out (note.Copied x) h = absurd (both_ways _ (out x.reserve h.1).1 h.2)

-- a node whose box is blank isn't born
blank-mark : {P : Type 0} (seen : P → BoxPicture) (t : Identity) (o : Option StopCause)
    (c : NodeCell P) → o ≢ Some cause.Memory → LiesAs seen t o c
    → (seen c.processor).spec ≡ None → c.mark.state ≡ node.Unborn
blank-mark seen t None c had h none = blank-unborn seen t c h none
blank-mark seen t (Some (cause.Fault f)) c had h none =
    absurd (not-blank (seen c.processor).spec h.holds.born none)
blank-mark seen t (Some (cause.Flaw f)) c had h none =
    absurd (not-blank (seen c.processor).spec h.holds.born none)
blank-mark seen t (Some cause.Memory) c had h none = absurd (had refl)

-- what is named of a node has its box
box-named : {P : Type 0} (seen : P → BoxPicture) (cells : List (NodeCell P)) (n : ℕ)
    → (named_by seen cells n).box ≡ box_at (boxes_in seen cells) n
unfolding box_at
box-named seen [] n = refl
box-named seen (c ∷ cs) zero = refl
box-named seen (c ∷ cs) (suc n) = box-named seen cs n

-- ---- the cells that workers leave

module _ {P : Type 0} (seen : P → BoxPicture) (t : Identity) (old : List (NodeCell P))
    (cells : List (EndedCell P))
    (ended : AreEnded seen t (named_by seen old) (length old) cells) where
  abbrev pub names : Names
  names = record { identity = t; notes = ended.notes; node = named_by seen old }

  abbrev pub left : List (NodeCell P)
  left = map cell_of cells

  abbrev pub nodes : ℕ → NodeLeft
  nodes = nodes_left seen t.sizes.reserves cells

  pub left-count : length left ≡ length old
  left-count = length-map cells cell_of ∙ ended.many

  pub ended-notes : AreOfNotes ended.notes cells
  ended-notes n d at = of-notes ended.notes t.sizes.reserves n d.note (ended.each n d at).note

  -- the cell at a place, and its box
  abbrev pub EndedAt : ℕ → EndedCell P → Type 0
  EndedAt n d = (get_elem? cells n ≡ some d)
      × (nodes n ≡ node_left seen t.sizes.reserves d)
      × (box_at (boxes_in seen left) n ≡ seen d.cell.processor)
      × CellFits names seen n d.cell d.stopped d.note

  pub ended-at : (n : ℕ) → n < length old → (d : EndedCell P) × EndedAt n d
  unfolding box_at
  ended-at n lt = let d = there cells n (rw ended.many lt) in (
    d.0,
    (
      d.1,
      left-at seen t.sizes.reserves cells n d.0 d.1,
      read-map (λ (c : NodeCell P). seen c.processor) left n d.0.cell no_node.box
          (at_map cell_of cells n d.0 d.1),
      ended.each n d.0 d.1,
    ),
  )

  -- all boxes are given back
  pub given-ended : GivenBack (boxes_in seen old) (boxes_in seen left)
  unfolding box_at
  given-ended = record {
    count = length-map left (λ (c : NodeCell P). seen c.processor) ∙ (left-count
        ∙ sym (length-map old (λ (c : NodeCell P). seen c.processor)));
    each = λ n lt. let d = ended-at n (rw length-map at lt) in
        let h = subst (λ p. IsBoxLeft d.0.stopped (births_in t.sizes.reserves d.0.note) n p
        (seen d.0.cell.processor)) (box-named seen old n) d.1.3.box in
        rw d.1.2 record {
          born = h.born;
          unborn = λ none. elim (h.unborn none) [
            | inl same ↦ inl same
            | inr was ↦ inr record {
              spec = was.spec;
              loaded = was.loaded;
              loads = was.loads;
              stays = was.stays;
            }
          ];
        };
  }

  module _ (ranks : List ℕ) (begins : BeginsAs seen t old ranks)
      (whole : AreWhole t.sizes.reserves cells) where
    abbrev pub g : Begun
    g = begun_of seen t old ranks

    -- what is named of a node's reserve is all of it
    named-reserve : (n : ℕ) → n < length old → (named_by seen old n).reserve ≡ reserve_before g n
    named-reserve n lt =
        let c = there old n lt in
        let h : IsNewReserve ranks t.sizes.reserves (boxes_in seen old) n c.0.reserve =
        begins.whole n c.0 c.1 in
        ap (λ (m : NamedNode). m.reserve) (named-themselves seen old n c.0 c.1) ∙ (λ j. record {
          rank = h.rank j;
          nodes = h.nodes j;
          left = record { blanks = h.blanks j; edges = h.edges j };
          next_edge = h.next_edge j;
        })

    module _ (n : ℕ) (lt : n < length old) (d : EndedCell P) (at : EndedAt n d) where
      abbrev births : List Birth
      births = births_in t.sizes.reserves d.note

      had : d.stopped ≢ Some cause.Memory
      had = whole.had_memory n d (rw ended.many lt) at.0

      -- the node stands among the wires of the births that it knows of
      abbrev Stands : ℕ → List Birth → Type 0
      Stands first bs = StandsAmong g.wires first bs n (reserve_before g n) (cell_ports d.cell)
          (reserve_form d.cell.reserve) (seen d.cell.processor)

      stands : Stands (first_edge_in t.sizes.reserves d.note) births
      stands = subst (λ r. StandsAmong g.wires (first_edge_in t.sizes.reserves d.note) births n r
          (cell_ports d.cell) (reserve_form d.cell.reserve) (seen d.cell.processor))
          (named-reserve n lt) (at.3.stands had)

      -- what is said of that is said of the node
      as-left : (first : ℕ) → Stands first births → StandsAmong g.wires first (nodes n).births n
          (reserve_before g n) (nodes n).ports (nodes n).reserve (nodes n).box
      as-left first h = subst (λ (x : NodeLeft). StandsAmong g.wires first x.births n
          (reserve_before g n) x.ports x.reserve x.box) (sym at.1) h

      grows : (k : ℕ) → k < length g.reserves → (reserve_at g.reserves k).node ≡ n
          → GrowsBy g nodes n (reserve_at g.reserves k)
      grows k less is =
          let by = grows-by begins.graph ended.notes n k less is d.note at.3.note in record {
            stands = as-left _ (subst (λ e. Stands e births) by.0 stands);
            own = subst (λ (x : NodeLeft). births_of n x.births ≡ x.births) (sym at.1) by.1;
          }

      alone : ((k : ℕ) → k < length g.reserves → ((reserve_at g.reserves k).node ≢ n)
          × (holds_node n (reserve_at g.reserves k) ≡ false)) → IsAlone g nodes n
      alone out =
          let by = alone-by begins.graph ended.notes n out d.note at.3.note in record {
            none = ap (λ (x : NodeLeft). x.births) at.1 ∙ by.0;
            stands = as-left 0 (subst (λ e. Stands e births) by.1 stands);
          }

      module _ (k : ℕ) (less : k < length g.reserves)
          (here : holds_node n (reserve_at g.reserves k) ≡ true) where
        abbrev grower : ℕ
        grower = (reserve_at g.reserves k).node

        grower-lt : grower < length old
        grower-lt = let within = (begins.graph.fit.growing k less).in_range in
            let one = begins.graph.one_each in
            let many = length-map old (λ (c : NodeCell P). seen c.processor) in
            omega (arith, within, one, many)

        held : IsHeldBy g nodes n (reserve_at g.reserves k)
        held =
            let e = ended-at grower grower-lt in
            let own = grows-by begins.graph ended.notes grower k less refl e.0.note e.1.3.note in
            let first_edge : ℕ = (reserve_at g.reserves k).first_edge in
            let by = held-by begins.graph ended.notes n k less here d.note at.3.note in record {
              stands = as-left first_edge (elim by [
                | inl none ↦ subst (Stands first_edge) (sym none) (stands-bare g.wires
                    (first_edge_in t.sizes.reserves d.note) first_edge n (reserve_before g n)
                    (reserve_form d.cell.reserve) (cell_ports d.cell) (seen d.cell.processor)
                    (subst (Stands (first_edge_in t.sizes.reserves d.note)) none stands))
                | inr x ↦ subst (λ e. Stands e births) x.1.1 stands
              ]);
              first = subst (λ (bs : List Birth × List Birth). AreFirst bs.0 bs.1)
                  (λ j. (
                    ap (λ (x : NodeLeft). x.births) (sym at.1) j,
                    ap (λ (x : NodeLeft). x.births) (sym e.1.1) j,
                  )) (elim by [
                    | inl none ↦ subst (λ bs. AreFirst bs (births_in t.sizes.reserves e.0.note))
                        (sym none)
                        record { later = births_in t.sizes.reserves e.0.note; all = refl }
                    | inr x ↦ subst (λ (bs : List Birth × List Birth). AreFirst bs.0 bs.1)
                        (λ j. (sym x.1.2 j, sym own.2.1.1 j)) (first-births grower x.0 own.2.0
                        (whole.first n (rw ended.many lt) (record { reserve = k; growths = x.0 })
                        own.2.0
                        (at_map (λ (d : EndedCell P). copied_growths d.note) cells n d at.0
                        ∙ ap some x.1.0)
                        (at_map (λ (d : EndedCell P). own_growths d.note) cells grower e.0 e.1.0
                        ∙ ap some own.2.1.0)))
                  ]);
              unborn = λ none.
                  let blank : (seen d.cell.processor).spec ≡ None =
                  subst (λ (x : NodeLeft). x.box.spec ≡ None) at.1 none in
                  subst (λ (x : NodeLeft).
                  list_any (λ (b : Blank). b.node == n) x.reserve.left.blanks ≡ true) (sym e.1.1)
                  (whole.left k less n d (rw ended.many lt) here at.0
                  (blank-mark seen t d.stopped d.cell had at.3.lies blank) e.0 e.1.0);
            }

      pub node-left : IsNodeLeft g nodes n
      node-left = record {
        grows = grows;
        held = held;
        alone = alone;
        leaves = subst (λ (x : NodeLeft). IsBoxLeft x.stopped x.births n
            (box_at g.boxes n) x.box) (sym at.1) (subst (λ p. IsBoxLeft d.stopped births n p
            (seen d.cell.processor)) (box-named seen old n) at.3.box);
        whole = subst (λ (x : NodeLeft). x.stopped ≢ Some cause.Memory) (sym at.1) had;
      }

    -- the grown graph
    pub graph-ended : IsGraphLeft g nodes (boxes_in seen left)
    graph-ended = graph-left g nodes (boxes_in seen left) record {
      before = begins.graph;
      count = given-ended.count;
      boxes = λ n lt. let d = ended-at n (rw length-map at lt) in
          d.1.2 ∙ ap (λ (x : NodeLeft). x.box) (sym d.1.1);
      each = λ n lt. let less = rw length-map at lt in
          let d = ended-at n less in node-left n less d.0 d.1;
    }
