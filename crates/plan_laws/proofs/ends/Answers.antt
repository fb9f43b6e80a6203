-- One moment of a run of a plan's graph, by its nodes and its collector.
use Rattle.plan_laws.proofs.Imports.{KeepsWorked, List, Some, [], ap, arith, get_or, inl, inr, is_some, length, length-append, list_source, map, part_source, refl, subst, suc, sym, true, worked-where-fit, zero, ℕ, ◌++◌, ◌+◌, ◌<◌, ◌∙◌, ◌∷◌, ◌≡◌, ◌≤◌, ◌⊎◌, AllByRecursion, AllFitDraft, AllPull, ArePortsOf, BoxPicture, Draft, DraftNode, EachGivesIf, Files, GivesIf, HasRun, IsDraftGraph, KeepsRows, Lists, NodeForm, NodePort, PartSpec, Pulls, Spec, Stream, Wire, rows_together, box_at, collect_node, collector, consumer_of, few-inputs, few-outputs, forms, get_or-map, get_or_at, get_or_default, input_count, length-map, map-append, no_draft, node_form, output_count, part_spec, ports_of, producer_of, stream_rows, spec_form, unboxed, wire_at, with_nodes, BoxGives, HasListed, LawfulSnapshot, HasPulled, KeepsContract, IsListedNode, IsOrdinary, IsReady, IsUngrown, in_stream, out_stream, sources_of_files, stream_pulled_at, stream_pushed_at, reading_in, IsWorkOf, HasFinished}
use Rattle.plan_laws.proofs.meaning.Same.{each-same, graphs-same}
use Rattle.plan_laws.proofs.meaning.Typing.{each-typed, Typed}
use Rattle.plan_laws.proofs.graph.GraphLaws.{ranks-count}
use Rattle.plan_laws.proofs.ends.GrownNodes.{at-recursion}
use Rattle.plan_laws.proofs.ends.Pulled.{kept-counted}
use Rattle.plan_laws.proofs.ends.Pulls.{IsWireOf, all-pull, wire-pulls}
use Rattle.plan_laws.proofs.ends.ListLaws.{IsFed, IsGrownList, few-paths-in, list-gives}
use Rattle.plan_laws.proofs.ends.KindLaws.{collector-done, part-gives, collector-gathered}

-- ---- node by node

-- the ports of one node, by the lists of its box
ports-at : (f : ℕ → NodePort → Stream) (n i k : ℕ)
    → map (λ (q : NodePort). f q.node q) (ports_of n i k) ≡ map (λ (q : NodePort). f n q)
    (ports_of n i k)
ports-at f n i zero = refl
ports-at f n i (suc k) = ap (λ l. f n (record { node = n; port = i }) ∷ l) (ports-at f n (suc i) k)

each-gives : (files : Files) (boxes : List BoxPicture) (pulled pushed : ℕ → Lists) (n : ℕ)
    (nodes : List DraftNode)
    → ((k : ℕ) (z : DraftNode) → k < length nodes → get_or nodes k z ≡ z
    → BoxGives z.spec files z.takes z.gives (n + k) (box_at boxes (n + k)) (pulled (n + k))
    (pushed (n + k)))
    → EachGivesIf (sources_of_files files) n nodes (stream_pulled_at boxes pulled)
    (stream_pushed_at boxes pushed)
each-gives files boxes pulled pushed n [] gives = tt
each-gives files boxes pulled pushed n (node ∷ nodes) gives =
    let here : n + 0 ≡ n = omega arith in
    let one : BoxGives node.spec files node.takes node.gives n (box_at boxes n) (pulled n)
    (pushed n) = rw here at (gives 0 node (omega arith) refl) in (
      rw (
        ports-at (λ m (q : NodePort). in_stream (box_at boxes m) (pulled m) q.port) n 0 node.takes,
        ports-at (λ m (q : NodePort). out_stream (box_at boxes m) (pushed m) q.port) n 0 node.gives,
      ) one,
      each-gives files boxes pulled pushed (suc n) nodes (λ k z lt is.
          let next : n + suc k ≡ suc n + k = omega arith in
          rw next at (gives (suc k) z (omega (arith, lt)) is)),
    )

-- the collector's node is the last one
collect-form : (body : List DraftNode) (rank : ℕ) (nodes : List DraftNode) (last : ℕ)
    → forms nodes ≡ forms (body ++ collector rank ∷ [])
    → length (body ++ collector rank ∷ []) ≡ last + 1
    → get_or (forms nodes) last (node_form (collector rank)) ≡ node_form (collector rank)
collect-form body rank nodes last e count =
    search (arith, length-map, length-append, map-append, get_or_at)

collect-spec : (s : Spec) → spec_form s ≡ unboxed collect_node.spec → s ≡ collect_node.spec
collect-spec s e = grind arith

-- a node of a kind that doesn't grow is an ordinary one
ordinary : (z : DraftNode) → IsReady z → IsUngrown z.spec → IsOrdinary z
ordinary z ready u = grind arith

-- The collector at a node gathered what it pulled, and has all of its input once it has finished.
pub record HasCollected (wires : List Wire) (n : ℕ) (p : BoxPicture) (ins : Lists) : Type 0 where
  pub loaded : p.spec ≡ Some collect_node.spec
  pub gathered : p.work.gathered ≡ ins 0
  pub done : HasFinished (input_count wires n) (output_count wires n) p
      → (in_stream p ins 0).done ≡ true

module _ (files : Files) (nodes : List DraftNode) (boxes : List BoxPicture)
    (h : LawfulSnapshot files nodes boxes) where
  abbrev plan_wires : List Wire
  plan_wires = (with_nodes nodes no_draft).wires

  -- all wires, those of the growths among them
  abbrev wires : List Wire
  wires = plan_wires ++ h.more

  module _ (g : IsDraftGraph nodes) (ready : AllByRecursion IsReady nodes) where
    abbrev node_at : ℕ → DraftNode → Type 0
    node_at k z = (k < length nodes) × (get_or nodes k z ≡ z)

    takes-at : (k : ℕ) (z : DraftNode) → node_at k z → input_count plan_wires k ≡ z.takes
    takes-at k z at =
        g.inputs k ∙ get_or-map (λ (n : DraftNode). n.takes) nodes k z 0 at.0
        ∙ ap (λ (n : DraftNode). n.takes) at.1

    gives-at : (k : ℕ) (z : DraftNode) → node_at k z → output_count wires k ≡ z.gives
    gives-at k z at =
        h.grown.outputs k at.0 ∙ g.outputs k
        ∙ get_or-map (λ (n : DraftNode). n.gives) nodes k z 0 at.0
        ∙ ap (λ (n : DraftNode). n.gives) at.1

    -- the box of a node with so many ports, which are those of its spec, keeps its contract
    box-kept : (k takes gives : ℕ) (s : Spec) → k < length boxes → (box_at boxes k).spec ≡ Some s
        → input_count wires k ≡ takes → output_count wires k ≡ gives
        → ArePortsOf (Some s) (box_at boxes k).growth takes gives → takes ≤ 32 → gives ≤ 16
        → KeepsContract s files takes gives (box_at boxes k) (h.lists.pulled k) (h.lists.pushed k)
    box-kept k takes gives s lt loaded ins outs ports few_inputs few_outputs =
        grind (arith, h.lists.each k lt (ap is_some loaded) (h.lawful k lt), loaded)

    -- the box of an ordinary node keeps its contract of the node's lists
    node-kept : (k : ℕ) (z : DraftNode) → node_at k z → IsOrdinary z
        → KeepsContract z.spec files z.takes z.gives (box_at boxes k) (h.lists.pulled k)
        (h.lists.pushed k)
    node-kept k z at o =
        let takes = h.grown.inputs k z at.0 at.1 o.ungrown in
        let ranks : List ℕ = (with_nodes nodes no_draft).ranks in
        let few_inputs = few-inputs ranks plan_wires [] g.graph.so_far k in
        let few_outputs = few-outputs ranks plan_wires [] g.graph.so_far k in
        box-kept k z.takes z.gives z.spec (omega (arith, at.0, h.count)) (h.specs k z at.0 at.1)
        (takes ∙ takes-at k z at) (gives-at k z at) (o.ports (box_at boxes k).growth)
        (omega (arith, few_inputs, takes-at k z at))
        (omega (arith, few_outputs, gives-at k z at, h.grown.outputs k at.0))

    -- an input of a list has the first of what the source of its part gave
    listed-fed : (list : PartSpec) (n i : ℕ) (path : List ℕ) → n < length boxes
        → IsListedNode list wires boxes n i path
        → IsFed files (reading_in list) (in_stream (box_at boxes n) (h.lists.pulled n) i) (suc i)
        path
    listed-fed list n i path lt b =
        let part : PartSpec = part_spec (reading_in list) (suc i) path in
        let kept = box-kept b.node 0 1 (part_source part) b.in_range b.loaded b.inputs b.outputs
        (refl, refl) (omega arith) (omega arith) in
        let gives = part-gives part files 0 1 b.node (box_at boxes b.node)
        (h.lists.pulled b.node) (h.lists.pushed b.node) kept in
        record {
          pushed = out_stream (box_at boxes b.node) (h.lists.pushed b.node) 0;
          gives = gives.gives tt;
          typed = (gives.typed tt).0;
          pulls = subst (λ (w : Wire). Pulls (stream_pulled_at boxes h.lists.pulled (consumer_of w))
              (stream_pushed_at boxes h.lists.pushed (producer_of w))) b.wire
              (wire-pulls wires boxes h.lists b.edge b.edge_in_range
              (subst (IsWireOf boxes) (sym b.wire) (record {
                from_lawful = h.lawful b.node b.in_range;
                to_lawful = h.lawful n lt;
              })));
        }

    list-kept : (k : ℕ) (list : PartSpec) → k < length nodes
        → (box_at boxes k).spec ≡ Some (list_source list) → output_count wires k ≡ 1
        → GivesIf (sources_of_files files) (list_source list) []
        (out_stream (box_at boxes k) (h.lists.pushed k) 0 ∷ [])
    list-kept k list lt loaded one = go (h.grown.lists k list lt loaded)
      where
        in_boxes : k < length boxes
        in_boxes = let count = h.count in omega (arith, lt, count)

        gives : input_count wires k ≤ 32
            → (input_count wires k ≡ 0) ⊎ IsGrownList list files (input_count wires k)
            (box_at boxes k) (h.lists.pulled k)
            → GivesIf (sources_of_files files) (list_source list) []
            (out_stream (box_at boxes k) (h.lists.pushed k) 0 ∷ [])
        gives few grown =
            list-gives list files (input_count wires k) k (box_at boxes k) (h.lists.pulled k)
            (h.lists.pushed k)
            (box-kept k (input_count wires k) 1 (list_source list) in_boxes loaded refl one
            (rw one at (h.grown.list_ports k list lt loaded)) few (omega arith)) grown

        go : (input_count wires k ≡ 0) ⊎ HasListed list files wires boxes k
            → GivesIf (sources_of_files files) (list_source list) []
            (out_stream (box_at boxes k) (h.lists.pushed k) 0 ∷ [])
        go (inl none) = gives (omega (arith, none)) (inl none)
        go (inr w) =
            let count = w.count in
            gives (omega (arith, count, few-paths-in (Some w.text)))
            (inr (grind (arith, w, listed-fed list k)))

    -- the box of each node gives what its kind promises
    node-gives : (k : ℕ) (z : DraftNode) → node_at k z
        → BoxGives z.spec files z.takes z.gives k (box_at boxes k) (h.lists.pulled k)
        (h.lists.pushed k)
    node-gives k z at = go (at-recursion IsReady nodes ready k z at.0 at.1)
      where
        go : IsReady z
            → BoxGives z.spec files z.takes z.gives k (box_at boxes k) (h.lists.pulled k)
            (h.lists.pushed k)
        go (inl o) = o.gives files z.takes z.gives k (box_at boxes k) (h.lists.pulled k)
            (h.lists.pushed k) (node-kept k z at o)
        go (inr l) =
            let p : BoxPicture = box_at boxes k in
            let ins : Lists = h.lists.pulled k in
            let outs : Lists = h.lists.pushed k in
            subst (λ s. BoxGives s files z.takes z.gives k p ins outs) (sym l.is)
            (subst (λ m. BoxGives (list_source l.list) files m z.gives k p ins outs) (sym l.takes)
            (subst (λ m. BoxGives (list_source l.list) files 0 m k p ins outs) (sym l.gives)
            (list-kept k l.list at.0 (h.specs k z at.0 at.1 ∙ ap (λ s. Some s) l.is)
            (gives-at k z at ∙ l.gives))))

    -- the nodes' promises and the fronts along the wires
    nodes-run : EachGivesIf (sources_of_files files) 0 nodes (stream_pulled_at boxes h.lists.pulled)
        (stream_pushed_at boxes h.lists.pushed) × AllPull (stream_pulled_at boxes h.lists.pulled)
        (stream_pushed_at boxes h.lists.pushed) plan_wires
    nodes-run =
        let d : Draft = with_nodes nodes no_draft in
        let ranks : length d.ranks ≡ length nodes = ranks-count nodes no_draft ∙ omega arith in (
          each-gives files boxes h.lists.pulled h.lists.pushed 0 nodes (λ k z lt is.
              let here : k ≡ 0 + k = omega arith in
              rw here at (node-gives k z (lt, is))),
          all-pull plan_wires h.more boxes h.lists (λ e lt.
              let edge = g.graph.so_far.edges e lt in
              let w : Wire = wire_at plan_wires e in record {
                from_lawful = h.lawful w.from (omega (arith, edge.from_in_range, h.count, ranks));
                to_lawful = h.lawful w.to (omega (arith, edge.to_in_range, h.count, ranks));
              }),
        )

    collected : (body : List DraftNode) (rank last : ℕ)
        → forms nodes ≡ forms (body ++ collector rank ∷ [])
        → length (body ++ collector rank ∷ []) ≡ last + 1
        → HasCollected wires last (box_at boxes last) (h.lists.pulled last)
    collected body rank last e count =
        let steps : List DraftNode = body ++ collector rank ∷ [] in
        let same : length nodes ≡ length steps = grind (arith, length-map) in
        let lt : last < length nodes = omega (arith, same, count) in
        let z : DraftNode = get_or nodes last (collector rank) in
        let form : node_form z ≡ node_form (collector rank) =
        sym (get_or-map node_form nodes last (collector rank) (node_form (collector rank)) lt)
        ∙ collect-form body rank nodes last e count in
        let is : z.spec ≡ collect_node.spec =
        collect-spec z.spec (ap (λ (f : NodeForm). f.spec) form) in
        let there : node_at last z = (lt, get_or_default nodes last z (collector rank) lt) in
        let ungrown : IsUngrown z.spec = subst IsUngrown (sym is) tt in
        let k = node-kept last z there
        (ordinary z (at-recursion IsReady nodes ready last z there.0 there.1) ungrown) in
        let b : BoxPicture = box_at boxes last in
        let ins : Lists = h.lists.pulled last in
        let loaded : b.spec ≡ Some collect_node.spec = k.loaded ∙ ap (λ s. Some s) is in
        let keeps : KeepsWorked collect_node.spec b ins (h.lists.pushed last) =
        worked-where-fit collect_node.spec b ins (h.lists.pushed last) (λ i n d lt. tt)
        (subst (λ s. KeepsRows s b ins (h.lists.pushed last)) loaded k.keeps.rows) in
        record {
          loaded = loaded;
          gathered = collector-gathered b ins (h.lists.pushed last)
              (subst (λ s. IsWorkOf s b.work) loaded k.keeps.idle) keeps;
          done = collector-done b ins (h.lists.pushed last) (input_count wires last)
              (output_count wires last) loaded k.keeps
              (h.grown.inputs last z lt there.1 ungrown ∙ takes-at last z there
              ∙ ap (λ (f : NodeForm). f.takes) form)
              (gives-at last z there ∙ ap (λ (f : NodeForm). f.gives) form);
        }

-- ---- a list of nodes

-- One moment of a run of the graph of a list of nodes by lawful boxes loaded with copies of its
-- nodes' specs: what its nodes gave, what the collector, its last node, gathered, and the rows that
-- each box counts.
pub record ListRun (files : Files) (steps nodes : List DraftNode) (boxes : List BoxPicture)
    (h : LawfulSnapshot files nodes boxes) (last : ℕ) : Type 0 where
  pub run : HasRun (sources_of_files files) steps (stream_pulled_at boxes h.lists.pulled)
      (stream_pushed_at boxes h.lists.pushed)
  pub collected : HasCollected (wires files nodes boxes h) last (box_at boxes last)
      (h.lists.pulled last)
  pub counted : (n : ℕ) (z : DraftNode) → n < length nodes → get_or nodes n z ≡ z
      → IsUngrown z.spec → HasPulled (box_at boxes n)
      (length (rows_together
      (stream_rows (map (stream_pulled_at boxes h.lists.pulled) (ports_of n 0 z.takes)))))

pub list-run : (files : Files) (body : List DraftNode) (rank : ℕ) (nodes : List DraftNode)
    (boxes : List BoxPicture) (h : LawfulSnapshot files nodes boxes) (last : ℕ) → IsDraftGraph nodes
    → AllFitDraft (body ++ collector rank ∷ []) no_draft
    → forms nodes ≡ forms (body ++ collector rank ∷ [])
    → Typed (body ++ collector rank ∷ []) [] []
    → AllByRecursion IsReady nodes → length (body ++ collector rank ∷ []) ≡ last + 1
    → ListRun files (body ++ collector rank ∷ []) nodes boxes h last
list-run files body rank nodes boxes h last g fit e typed ready count =
    let steps : List DraftNode = body ++ collector rank ∷ [] in
    let run = nodes-run files nodes boxes h g ready in
    let pulled : NodePort → Stream = stream_pulled_at boxes h.lists.pulled in
    let pushed : NodePort → Stream = stream_pushed_at boxes h.lists.pushed in
    let along : AllPull pulled pushed (with_nodes steps no_draft).wires =
    subst (λ (d : Draft). AllPull pulled pushed d.wires) (graphs-same nodes steps no_draft e)
    run.1 in
    let each = each-typed (sources_of_files files) pulled pushed steps no_draft [] [] fit tt
    typed.types
    (each-same (sources_of_files files) pulled pushed 0 nodes steps e run.0) along in
    record {
      run = record { each = each; along = along };
      collected = collected files nodes boxes h g ready body rank last e count;
      counted = λ n z lt is ungrown.
          rw (ports-at (λ m (q : NodePort). in_stream (box_at boxes m) (h.lists.pulled m) q.port) n
          0 z.takes) (kept-counted z.spec files z.takes z.gives (box_at boxes n) (h.lists.pulled n)
          (h.lists.pushed n) (node-kept files nodes boxes h g ready n z (lt, is)
          (ordinary z (at-recursion IsReady nodes ready n z lt is) ungrown)) n);
    }
