-- What the last node of a plan has, all of whose input is done, is an answer.
use Rattle.plan_laws.proofs.Imports.{All, List, [], arith, length, map, suc, true, ℕ, ◌++◌, ◌+◌, ◌∷◌, ◌≡◌, AllByRecursion, AllZip, AllInputsDone, Completes, Draft, DraftNode, Flow, IsOpenNode, Kind, NodesMean, NodePort, PlanRuns, Wire, and_from, consumer_of, length-append, length-map, meant_by, no_draft, producer_of, pulled_by_nodes, taken_by, wires_to, with_node, with_nodes, AllPull, EachGives, HasRun, Pulls, pulled_rows, IsFront, RowsOfSources, Stream, collector}
use Rattle.plan_laws.proofs.graph.Fitting.{FitsBlock, Fitted, fits}
use Rattle.plan_laws.proofs.graph.Drafts.{all-back, all-front}
use Rattle.plan_laws.proofs.graph.GraphLaws.{ranks-count, with-append}
use Rattle.plan_laws.proofs.meaning.Runs.{RunsOf, runs}
use Rattle.plan_laws.proofs.meaning.Completing.{all-inputs-done, completes}
use Rattle.plan_laws.proofs.meaning.Fronts.{pulled-front}
use Rattle.plan_laws.proofs.meaning.Blocks.{only-one}

gives-front : (parts : RowsOfSources) (pulled pushed : NodePort → Stream) (n : ℕ)
    (xs ys : List DraftNode) → EachGives parts n (xs ++ ys) pulled pushed
    → EachGives parts n xs pulled pushed
gives-front parts pulled pushed n [] ys g = tt
gives-front parts pulled pushed n (x ∷ xs) ys g =
    (g.0, gives-front parts pulled pushed (suc n) xs ys g.1)

-- one end, which the collector takes
one-end : (pulled pushed : NodePort → Stream) (rank : ℕ) (d : Draft)
    → All (λ (w : Wire). Pulls (pulled (consumer_of w)) (pushed (producer_of w)))
    (with_node (collector rank) d).wires
    → (e : NodePort) → d.ends ≡ e ∷ [] → Pulls (pulled (record { node = length d.ranks; port = 0 }))
    (pushed e)
one-end pulled pushed rank d h e is =
    let here : All (λ (w : Wire). Pulls (pulled (consumer_of w)) (pushed (producer_of w)))
    (wires_to (length d.ranks) 0 (taken_by (collector rank) (e ∷ []))) =
    rw is at (all-back (λ (w : Wire). Pulls (pulled (consumer_of w)) (pushed (producer_of w)))
    d.wires (wires_to (length d.ranks) 0 (taken_by (collector rank) d.ends)) h) in
    here 0 (record { from = e.node; out = e.port; to = length d.ranks; input = 0 }) (omega arith)

-- A list of nodes that leaves one open end of this rank.
pub record LeavesOne (nodes : List DraftNode) : Type 0 where
  pub rank : ℕ
  pub block : FitsBlock nodes [] (rank ∷ [])

-- a run of all nodes but the collector, and what the collector pulled
record BodyRun (parts : RowsOfSources) (nodes : List DraftNode) (pulled pushed : NodePort → Stream)
    (last : ℕ) : Type 0 where
  pub end : NodePort
  pub body : RunsOf parts pulled 0 nodes [] (pushed end ∷ [])
  pub pulls : Pulls (pulled (record { node = last; port = 0 })) (pushed end)

body-run : (parts : RowsOfSources) (body : List DraftNode) (rank : ℕ)
    (pulled pushed : NodePort → Stream) → LeavesOne body
    → HasRun parts (body ++ collector rank ∷ []) pulled pushed
    → (last : ℕ) → length (body ++ collector rank ∷ []) ≡ last + 1
    → BodyRun parts body pulled pushed last
body-run parts body rank pulled pushed leaves run last count =
    let d : Draft = with_nodes body no_draft in
    let block : FitsBlock body [] (leaves.rank ∷ []) = leaves.block in
    let fitted : Fitted body no_draft [] = fits body block.fit in
    let one : length d.ends ≡ 1 = grind (arith, length-map) in
    let split = with-append body (collector rank ∷ []) no_draft in
    let along : AllPull pulled pushed (with_node (collector rank) d).wires = grind arith in
    let first = all-front (λ (w : Wire). Pulls (pulled (consumer_of w)) (pushed (producer_of w)))
    d.wires (wires_to (length d.ranks) 0 (taken_by (collector rank) d.ends)) along in
    let all = runs parts pulled pushed body no_draft fitted.fit (gives-front parts pulled pushed 0
    body (collector rank ∷ []) run.each) first in
    let end = only-one (λ l. RunsOf parts pulled 0 body [] (map pushed l)) d.ends one all in
    let place : length d.ranks ≡ last = grind (arith, ranks-count, length-append) in
    grind (arith, end.2, place, one-end pulled pushed rank d along end.0 end.1)

-- What the collector of any list of nodes has is a front of a flow that the nodes' meaning gives,
-- at every moment of a run. Where the collector's input is done it is the whole flow, and certain.
pub record Collected (parts : RowsOfSources) (nodes : List DraftNode) (pulled : NodePort → Stream)
    (got : Stream) : Type 0 where
  pub flow : Flow
  pub means : NodesMean parts nodes [] (flow ∷ [])
  pub front : IsFront got flow
  -- where each node has an output and none is a limit, and the input is done
  pub counted : AllByRecursion IsOpenNode nodes → got.done ≡ true → (k : Kind)
      → pulled_rows k 0 nodes pulled ≡ meant_by parts k nodes [] (flow ∷ []) means

-- the one flow of a run
record OneFlow (parts : RowsOfSources) (nodes : List DraftNode) (s : Stream)
    (r : PlanRuns parts nodes [] (s ∷ [])) : Type 0 where
  pub flow : Flow
  pub means : NodesMean parts nodes [] (flow ∷ [])
  pub front : IsFront s flow
  pub counted : AllInputsDone parts nodes [] (s ∷ []) r → (k : Kind)
      → pulled_by_nodes parts k nodes [] (s ∷ []) r ≡ meant_by parts k nodes [] (flow ∷ []) means

one-flow : (parts : RowsOfSources) (nodes : List DraftNode) (s : Stream)
    (r : PlanRuns parts nodes [] (s ∷ [])) → Completes parts nodes [] [] (s ∷ []) r
    → OneFlow parts nodes s r
one-flow parts nodes s r c = go c.flows c.means c.fronts c.counted
  where
    go : (flows : List Flow) (m : NodesMean parts nodes [] flows) → AllZip IsFront (s ∷ []) flows
        → (AllInputsDone parts nodes [] (s ∷ []) r → (k : Kind)
        → pulled_by_nodes parts k nodes [] (s ∷ []) r ≡ meant_by parts k nodes [] flows m)
        → OneFlow parts nodes s r
    go (f ∷ []) m z n = record { flow = f; means = m; front = z.0; counted = n }
    go [] m z n = absurd z
    go (f ∷ g ∷ flows) m z n = absurd z.1

pub collector_gathers : (parts : RowsOfSources) (nodes : List DraftNode) (rank : ℕ)
    (pulled pushed : NodePort → Stream) → LeavesOne nodes
    → HasRun parts (nodes ++ collector rank ∷ []) pulled pushed
    → (last : ℕ) → length (nodes ++ collector rank ∷ []) ≡ last + 1
    → Collected parts nodes pulled (pulled (record { node = last; port = 0 }))
collector_gathers parts nodes rank pulled pushed leaves run last count =
    let b = body-run parts nodes rank pulled pushed leaves run last count in
    let s : Stream = pushed b.end in
    let c = completes parts nodes [] (s ∷ []) [] b.body.run tt in
    let one = one-flow parts nodes s b.body.run c in
    record {
      flow = one.flow;
      means = one.means;
      front = pulled-front _ s one.flow b.pulls one.front;
      counted = grind (
        arith,
        all-inputs-done parts nodes [] (s ∷ []) b.body.run,
        and_from,
        b.body.counted,
        one.counted,
        b.pulls.finished,
      );
    }
