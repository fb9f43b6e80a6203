-- A list of nodes, each of which takes open ends of lower ranks, makes a graph where no end is left
-- open.
use Rattle.std.proofs.Common.{IsPermutation, List, [], ap, append_assoc, ap₂, arith, count_by, drop, get_or, length, map, refl, subst, suc, sym, take, zero, ℕ, ◌&&◌, ◌++◌, ◌+◌, ◌<◌, ◌==◌, ◌∙◌, ◌∷◌, ◌≡◌, ◌≤◌}
use Rattle.plan_laws.proofs.Imports.{All, All-append, All-cons, All-drop, All-nil, All-permutation, All-push, All-take, All-weaker, AllFitDraft, ArePortsOnce, Contains, Contains-permutation, Draft, DraftNode, FitsDraft, IsDistinct-IsPermutation, IsDraft, IsGraph, IsPermutation-append, IsPermutation-append_comm, IsPermutation-append_left, IsPermutation-append_right, IsPermutation-refl, IsPermutation-same, IsPermutation-sym, IsPermutation-trans, NodePort, Wire, append-nil, consumer_of, get_or-map, get_or_append_left, input_count, is-gapless, length-append, length-map, map-append, no_draft, no_wire, output_count, ports_from, ports_of, producer_of, rank-kept, rank_at, sum_by-IsPermutation, taken_by, wire-input, wire-output, wire_at, wires_to, with_node, with_nodes}
use Rattle.plan_laws.proofs.graph.Ports.{IsPortFrom, at_node, count-at, eqb-flips, ports-contain, ports-distinct, ports-from, ports_from-push, same-place, same_port, sum_by-map}
use Rattle.plan_laws.proofs.graph.Places.{run-length, run-split}

-- ---- wires

consumers : (n i : ℕ) (ends : List NodePort) → map consumer_of (wires_to n i ends) ≡ ports_of n i
    (length ends)
consumers n i [] = refl
consumers n i (e ∷ ends) = ap (λ l. record { node = n; port = i } ∷ l) (consumers n (suc i) ends)

producers : (n i : ℕ) (ends : List NodePort) → map producer_of (wires_to n i ends) ≡ ends
producers n i [] = refl
producers n i (e ∷ ends) = ap (λ l. e ∷ l) (producers n (suc i) ends)

wires_to-all : (P : Wire → Type 0) (n i : ℕ) (ends : List NodePort)
    → All (λ (e : NodePort). (j : ℕ)
    → P (record { from = e.node; out = e.port; to = n; input = j })) ends
    → All P (wires_to n i ends)
wires_to-all P n i [] h = All-nil P
wires_to-all P n i (e ∷ ends) h = All-cons P _ _ (h 0 e (omega arith) i)
    (wires_to-all P n (suc i) ends (λ k d lt. h (suc k) d (omega (arith, lt))))

-- what was taken goes to the front, and what is given to the end
shuffled : {X : Type 0} (p t a n c : List X) → IsPermutation ((p ++ t) ++ (a ++ (n ++ c)))
    ((p ++ (a ++ (t ++ c))) ++ n)
shuffled p t a n c =
    rw (append_assoc p t (a ++ (n ++ c)), append_assoc p (a ++ (t ++ c)) n)
    (IsPermutation-append_right p _ _
    (IsPermutation-trans _ _ _ (IsPermutation-same _ _ (sym (append_assoc t a (n ++ c))))
    (IsPermutation-trans _ _ _ (IsPermutation-append (t ++ a) (a ++ t) (n ++ c) (c ++ n)
    (IsPermutation-append_comm t a) (IsPermutation-append_comm n c))
    (IsPermutation-same _ _ (sym (append_assoc (a ++ t) c n)
    ∙ ap (λ l. l ++ n) (append_assoc a t c))))))

-- ---- one node more

-- the node of each open end, and each wire's producer, is one of the nodes
pub ends-known : (takes gives : List ℕ) (d : Draft) → IsDraft takes gives d
    → All (λ (p : NodePort). p.node < length d.ranks) (map producer_of d.wires ++ d.ends)
ends-known takes gives d h = All-permutation (λ (p : NodePort). p.node < length d.ranks) _ _
    (IsPermutation-sym _ _ h.outputs)
    (All-weaker (IsPortFrom 0 gives) (λ (p : NodePort). p.node < length d.ranks)
    (λ p q. let is : 0 + q.place ≡ p.node = q.is in let lt : q.place < length gives = q.in_range in
    let count = h.outputs_count in omega (arith, is, lt, count)) _ (ports-from 0 gives))

pub all-front : {X : Type 0} (P : X → Type 0) (xs ys : List X) → All P (xs ++ ys) → All P xs
all-front P xs ys h = search (arith, get_or_append_left, length-append)

pub all-back : {X : Type 0} (P : X → Type 0) (xs ys : List X) → All P (xs ++ ys) → All P ys
all-back P [] ys h = h
all-back P (x ∷ xs) ys h = all-back P xs ys (λ k d lt. h (suc k) d (omega (arith, lt)))

pub from-map : {X Y : Type 0} (P : Y → Type 0) (f : X → Y) (xs : List X) → All P (map f xs)
    → All (λ x. P (f x)) xs
from-map P f xs h = λ k d lt. subst P (get_or-map f xs k d (f d) lt)
    (h k (f d) (omega (arith, length-map xs f, lt)))

pub rank-new : (ranks : List ℕ) (r : ℕ) → rank_at (ranks ++ r ∷ []) (length ranks) ≡ r
unfolding rank_at
rank-new [] r = refl
rank-new (q ∷ ranks) r = rank-new ranks r

pub draft-more : (takes gives : List ℕ) (node : DraftNode) (d : Draft) → IsDraft takes gives d
    → FitsDraft node d
    → IsDraft (takes ++ node.takes ∷ []) (gives ++ node.gives ∷ []) (with_node node d)
draft-more takes gives node d h f =
    let n : ℕ = length d.ranks in
    let taken : List NodePort = taken_by node d.ends in
    let more : List Wire = wires_to n 0 taken in
    let count : length taken ≡ node.takes = run-length node.offset node.takes d.ends f.in_range in
    let known = ends-known takes gives d h in
    let wires_known = from-map (λ (p : NodePort). p.node < n) producer_of d.wires (all-front (λ (p :
    NodePort). p.node < n) (map producer_of d.wires) d.ends known) in
    let ends_known = All-take (λ (e : NodePort). e.node < n) node.takes (drop node.offset d.ends)
    (All-drop (λ (e : NodePort). e.node < n) node.offset d.ends (all-back (λ (e : NodePort). e.node
    < n) (map producer_of d.wires) d.ends known)) in
    let into_known : All (λ (w : Wire). w.to < n) d.wires = from-map (λ (p : NodePort). p.node < n)
    consumer_of d.wires
    (rw h.inputs (All-weaker (IsPortFrom 0 takes) (λ (p : NodePort). p.node < n)
    (λ p q. let is : 0 + q.place ≡ p.node = q.is in let lt : q.place < length takes = q.in_range in
    let same = h.inputs_count in omega (arith, is, lt, same)) _ (ports-from 0 takes))) in
    record {
      inputs_count = grind (arith, length-append, h.inputs_count);
      outputs_count = grind (arith, length-append, h.outputs_count);
      inputs = grind (
        arith,
        map-append consumer_of d.wires more,
        h.inputs,
        consumers n 0 taken,
        count,
        h.inputs_count,
        ports_from-push 0 takes node.takes,
      );
      outputs = grind (
        arith,
        map-append producer_of d.wires more,
        producers n 0 taken,
        shuffled (map producer_of d.wires) taken (take node.offset d.ends)
            (ports_of n 0 node.gives) (drop (node.offset + node.takes) d.ends),
        run-split node.offset node.takes d.ends,
        IsPermutation-append_left (ports_of n 0 node.gives) _ _ h.outputs,
        h.outputs_count,
        ports_from-push 0 gives node.gives,
        IsPermutation-trans,
      );
      ranked = All-append (λ (w : Wire). rank_at (d.ranks ++ node.rank ∷ []) w.from < rank_at
          (d.ranks ++ node.rank ∷ []) w.to) d.wires more
          (λ k w lt. let from = rank-kept d.ranks node.rank (get_or d.wires k w).from
          (wires_known k w lt) in let to = rank-kept d.ranks node.rank (get_or d.wires k w).to
          (into_known k w lt) in let old = h.ranked k w lt in omega (arith, from, to, old))
          (wires_to-all (λ (w : Wire). rank_at (d.ranks ++ node.rank ∷ []) w.from < rank_at
          (d.ranks ++ node.rank ∷ []) w.to) n 0 taken
          (λ k e lt j. let from = rank-kept d.ranks node.rank (get_or taken k e).node
          (ends_known k e lt) in let to = rank-new d.ranks node.rank in
          let low = f.ranked k e lt in omega (arith, from, to, low)));
      few_inputs = All-push (λ k. k ≤ 32) takes node.takes h.few_inputs f.few_inputs;
      few_outputs = All-push (λ k. k ≤ 16) gives node.gives h.few_outputs f.few_outputs;
    }

draft-from : (takes gives : List ℕ) (nodes : List DraftNode) (d : Draft) → IsDraft takes gives d
    → AllFitDraft nodes d
    → IsDraft (takes ++ map (λ (z : DraftNode). z.takes) nodes)
    (gives ++ map (λ (z : DraftNode). z.gives) nodes) (with_nodes nodes d)
draft-from takes gives [] d h f = search (arith, append-nil)
draft-from takes gives (node ∷ nodes) d h f =
    rw (append_assoc takes (node.takes ∷ []) (map (λ (z : DraftNode). z.takes) nodes)) at
    (rw (append_assoc gives (node.gives ∷ []) (map (λ (z : DraftNode). z.gives) nodes)) at
    (draft-from (takes ++ node.takes ∷ []) (gives ++ node.gives ∷ []) nodes (with_node node d)
    (draft-more takes gives node d h f.0) f.1))

pub draft-start : IsDraft [] [] no_draft
draft-start = search (arith, IsPermutation-refl, All-nil)

-- what a list of nodes makes is a draft of theirs
pub draft-of : (nodes : List DraftNode) → AllFitDraft nodes no_draft
    → IsDraft (map (λ (z : DraftNode). z.takes) nodes) (map (λ (z : DraftNode). z.gives) nodes)
    (with_nodes nodes no_draft)
draft-of nodes f = draft-from [] [] nodes no_draft draft-start f

-- ---- a graph

-- each port of the node that a wire uses comes with all below it
lower-contained : (ks : List ℕ) (p : NodePort) (i : ℕ) → IsPortFrom 0 ks p → i < p.port
    → Contains (ports_from 0 ks) (record { node = p.node; port = i })
lower-contained ks p i h lt = let below = h.below in
    ports-contain 0 h.place p.node i ks h.is (omega (arith, lt, below))

-- the place of a wire whose image is contained
pub record HasImage {X Y : Type 0} (f : X → Y) (xs : List X) (d : X) (y : Y) : Type 0 where
  pub place : ℕ
  pub in_range : place < length xs
  pub is : f (get_or xs place d) ≡ y

image-of : {X Y : Type 0} (f : X → Y) (xs : List X) (d : X) (y : Y) → Contains (map f xs) y
    → HasImage f xs d y
image-of f xs d y c = search (arith, length-map, get_or-map)

-- one side of the wires: their producers are the nodes' outputs, and their consumers the inputs
module _ (f : Wire → NodePort) (ks : List ℕ) (ws : List Wire)
    (are : IsPermutation (map f ws) (ports_from 0 ks)) where
  back : IsPermutation (ports_from 0 ks) (map f ws)
  back = IsPermutation-sym _ _ are

  side-port : (e : ℕ) → e < length ws → IsPortFrom 0 ks (f (get_or ws e no_wire))
  side-port e lt = from-map (IsPortFrom 0 ks) f ws
      (All-permutation (IsPortFrom 0 ks) _ _ back (ports-from 0 ks)) e no_wire lt

  side-once : ArePortsOnce (λ w. (f w).node) (λ w. (f w).port) ws
  unfolding wire_at
  side-once e g le lg is =
      let distinct = IsDistinct-IsPermutation same_port (λ p q. ap₂ (λ a b. a && b)
      (eqb-flips p.node q.node) (eqb-flips p.port q.port)) (ports_from 0 ks) (map f ws) back
      (ports-distinct 0 ks) in
      grind (
        arith,
        get_or-map f ws e no_wire (f no_wire) le,
        get_or-map f ws g no_wire (f no_wire) lg,
        same-place (map f ws) e g (f no_wire) distinct,
        length-map,
        is.0,
        is.1,
      )

  -- a port that is used comes with all below it
  side-below : (e i : ℕ) → e < length ws → i < (f (get_or ws e no_wire)).port
      → HasImage f ws no_wire (record { node = (f (get_or ws e no_wire)).node; port = i })
  side-below e i le below = image-of f ws no_wire _ (Contains-permutation (ports_from 0 ks)
      (map f ws) _ back (lower-contained ks (f (get_or ws e no_wire)) i (side-port e le) below))

  -- as many ports as the nodes say
  side-count : (n : ℕ) → count_by (λ (w : Wire). (f w).node == n) ws ≡ get_or ks n 0
  side-count n = sym (sum_by-map (at_node n) f ws) ∙ sym (sum_by-IsPermutation (at_node n) _ _ are)
      ∙ count-at 0 n n ks (omega arith)

outputs-are : (takes gives : List ℕ) (d : Draft) → IsDraft takes gives d → d.ends ≡ []
    → IsPermutation (map producer_of d.wires) (ports_from 0 gives)
outputs-are takes gives d h none = search (arith, append-nil)

pub graph-of-draft : (takes gives : List ℕ) (d : Draft) → IsDraft takes gives d → d.ends ≡ []
    → length d.ranks ≤ 256 → length d.wires ≤ 1024
    → IsGraph d.ranks d.wires []
unfolding wire_at
graph-of-draft takes gives d h none nodes edges =
    let outs = outputs-are takes gives d h none in
    let ins = IsPermutation-same _ _ h.inputs in
    let inputs_count = h.inputs_count in
    let outputs_count = h.outputs_count in
    record {
      so_far = record {
        few_nodes = nodes;
        few_edges = omega (arith, edges);
        edges = λ e lt.
            let o = side-port producer_of gives d.wires outs e lt in
            let i = side-port consumer_of takes d.wires ins e lt in
            grind (arith, o, i, h.few_inputs, h.few_outputs, h.ranked e no_wire lt);
        inputs_once = side-once consumer_of takes d.wires ins;
        outputs_once = side-once producer_of gives d.wires outs;
      };
      gapless = λ n lt. is-gapless d.wires n
          (λ e i le to below.
          let w = side-below consumer_of takes d.wires ins e i le below in
          wire-input d.wires w.place n i w.in_range (ap (λ (p : NodePort). p.node) w.is
          ∙ to) (ap (λ (p : NodePort). p.port) w.is))
          (λ e o le from below.
          let w = side-below producer_of gives d.wires outs e o le below in
          wire-output d.wires w.place n o w.in_range (ap (λ (p : NodePort). p.node) w.is ∙ from)
          (ap (λ (p : NodePort). p.port) w.is));
    }

pub inputs-of-draft : (takes gives : List ℕ) (d : Draft) → IsDraft takes gives d → (n : ℕ)
    → input_count d.wires n ≡ get_or takes n 0
inputs-of-draft takes gives d h =
    side-count consumer_of takes d.wires (IsPermutation-same _ _ h.inputs)

pub outputs-of-draft : (takes gives : List ℕ) (d : Draft) → IsDraft takes gives d → d.ends ≡ []
    → (n : ℕ) → output_count d.wires n ≡ get_or gives n 0
outputs-of-draft takes gives d h none =
    side-count producer_of gives d.wires (outputs-are takes gives d h none)

pub ports-length : (n o k : ℕ) → length (ports_of n o k) ≡ k
ports-length n o zero = refl
ports-length n o (suc k) = ap suc (ports-length n (suc o) k)
