-- The lists of a graph, which was made of a list of nodes, are a run of that list.
use Rattle.plan_laws.proofs.Imports.{All, List, [], ap, arith, length, map, refl, suc, sym, ℕ, ◌++◌, ◌+◌, ◌∙◌, ◌∷◌, ◌≡◌, length-map, AllFitDraft, AllZip, Draft, DraftNode, FitsDraft, Kind, NodePort, Wire, consumer_of, length-append, ports_of, producer_of, taken_by, wires_to, with_node, with_nodes, AllPull, EachGives, Pulls, PlanRuns, if_kind, pulled_by_nodes, pulled_rows, RowsOfSources, Stream, rows_together, stream_rows}
use Rattle.plan_laws.proofs.graph.Drafts.{all-back, all-front, ports-length}
use Rattle.plan_laws.proofs.graph.Places.{given-map, run-length, taken-map}

-- the wires so far stay
wires-stay : (P : Wire → Type 0) (nodes : List DraftNode) (d : Draft)
    → All P (with_nodes nodes d).wires → All P d.wires
wires-stay P [] d h = h
wires-stay P (node ∷ nodes) d h = search (arith, all-front, wires-stay P nodes (with_node node d) h)

pulled-along : (pulled pushed : NodePort → Stream) (n i : ℕ) (ends : List NodePort)
    → All (λ (w : Wire). Pulls (pulled (consumer_of w)) (pushed (producer_of w)))
    (wires_to n i ends)
    → AllZip Pulls (map pulled (ports_of n i (length ends))) (map pushed ends)
pulled-along pulled pushed n i [] h = tt
pulled-along pulled pushed n i (e ∷ ends) h = (
  h 0 (record { from = e.node; out = e.port; to = n; input = i }) (omega arith),
  pulled-along pulled pushed n (suc i) ends (λ k d lt. h (suc k) d (omega (arith, lt))),
)

-- what a node pulls at its inputs is the first of what was pushed at the ends that it takes
pub node-pulls : (pulled pushed : NodePort → Stream) (node : DraftNode) (nodes : List DraftNode)
    (d : Draft) → FitsDraft node d
    → AllPull pulled pushed (with_nodes nodes (with_node node d)).wires
    → AllZip Pulls (map pulled (ports_of (length d.ranks) 0 node.takes))
    (map pushed (taken_by node d.ends))
node-pulls pulled pushed node nodes d f w =
    let n : ℕ = length d.ranks in
    let P = (λ (w : Wire). Pulls (pulled (consumer_of w)) (pushed (producer_of w))) in
    let taken : List NodePort = taken_by node d.ends in
    let count : length taken ≡ node.takes = run-length node.offset node.takes d.ends f.in_range in
    let here = all-back P d.wires (wires_to n 0 taken) (wires-stay P nodes (with_node node d) w) in
    rw count at (pulled-along pulled pushed n 0 taken here)

pub next-node : (node : DraftNode) (d : Draft)
    → length (d.ranks ++ node.rank ∷ []) ≡ suc (length d.ranks)
next-node node d = length-append d.ranks (node.rank ∷ []) ∙ omega arith

-- a run, with what its nodes pulled
pub record RunsOf (parts : RowsOfSources) (pulled : NodePort → Stream) (n : ℕ)
    (nodes : List DraftNode)
    (before after : List Stream) : Type 0 where
  pub run : PlanRuns parts nodes before after
  pub counted : (k : Kind) → pulled_by_nodes parts k nodes before after run
      ≡ pulled_rows k n nodes pulled

pub runs : (parts : RowsOfSources) (pulled pushed : NodePort → Stream) (nodes : List DraftNode)
    (d : Draft) → AllFitDraft nodes d → EachGives parts (length d.ranks) nodes pulled pushed
    → AllPull pulled pushed (with_nodes nodes d).wires → RunsOf parts pulled (length d.ranks) nodes
    (map pushed d.ends) (map pushed (with_nodes nodes d).ends)
runs parts pulled pushed [] d f g w = record { run = refl; counted = λ k. refl }
runs parts pulled pushed (node ∷ nodes) d f g w =
    let n : ℕ = length d.ranks in
    let next : length (d.ranks ++ node.rank ∷ []) ≡ suc n = next-node node d in
    let more = runs parts pulled pushed nodes (with_node node d) f.1 (rw next g.1) w in
    record {
      run = (
        map pushed (with_node node d).ends,
        record {
          ins = map pulled (ports_of n 0 node.takes);
          outs = map pushed (ports_of n 0 node.gives);
          pulls = rw (taken-map pushed node d.ends) (node-pulls pulled pushed node nodes d f.0 w);
          gives = g.0;
          count = length-map (ports_of n 0 node.gives) pushed ∙ ports-length n 0 node.gives;
          are = sym (given-map pushed node (ports_of n 0 node.gives) d.ends);
        },
        more.run,
      );
      counted =
          λ k. ap (λ m. if_kind k node
          (length (rows_together (stream_rows (map pulled (ports_of n 0 node.takes))))) + m)
          (more.counted k ∙ ap (λ j. pulled_rows k j nodes pulled) next);
    }
