-- Nodes behind other open ends, with higher ranks, mean what they do without them, and are as they
-- are.
use Rattle.plan_laws.proofs.Imports.{arith, List, [], ap, ap₂, length, refl, ℕ, ◌++◌, ◌+◌, ◌∙◌, ◌∷◌, ◌≡◌, AllByRecursion, DraftNode, Flow, Kind, MeansNode, NodesMean, RowsOfSources, flows_of, flow_rows, given_by, if_kind, is_certain, is_needed, meant_by, moved_nodes, moved_node, rows_together, taken_by}
use Rattle.plan_laws.proofs.graph.Frames.{given-moved, taken-moved}

-- what is true of each node of a list
pub every-moved : (P : DraftNode → Type 0) (ends rank : ℕ)
    → ((node : DraftNode) → P node → P (moved_node ends rank node)) → (nodes : List DraftNode)
    → AllByRecursion P nodes → AllByRecursion P (moved_nodes ends rank nodes)
every-moved P ends rank each [] h = tt
every-moved P ends rank each (node ∷ nodes) h =
    (each node h.0, every-moved P ends rank each nodes h.1)

-- what nodes behind the flows xs make of the flows ys
pub record MeansMoved (parts : RowsOfSources) (ends rank : ℕ) (nodes : List DraftNode)
    (xs ys before after : List Flow)
    (m : NodesMean parts (moved_nodes ends rank nodes) before after) : Type 0
  where
    pub flows : List Flow
    pub are : after ≡ xs ++ flows
    pub means : NodesMean parts nodes ys flows
    pub pulled : (k : Kind) → meant_by parts k (moved_nodes ends rank nodes) before after m
        ≡ meant_by parts k nodes ys flows means

pub means-moved : (parts : RowsOfSources) (ends rank : ℕ) (nodes : List DraftNode)
    (xs ys before after : List Flow) → before ≡ xs ++ ys → length xs ≡ ends
    → (m : NodesMean parts (moved_nodes ends rank nodes) before after)
    → MeansMoved parts ends rank nodes xs ys before after m
means-moved parts ends rank [] xs ys before after is e m = grind arith
means-moved parts ends rank (node ∷ nodes) xs ys before after is e m =
    let step : MeansNode parts (moved_node ends rank node) before m.0 = m.1 in
    let taken : taken_by (moved_node ends rank node) before ≡ taken_by node ys =
    ap (λ l. taken_by (moved_node ends rank node) l) is ∙ taken-moved ends rank node xs ys e in
    let made = (λ (t : List Flow). flows_of (is_certain parts node.spec t)
    (is_needed parts node.spec t) step.outs) in
    let next : List Flow = given_by node (made (taken_by node ys)) ys in
    let same : m.0 ≡ xs ++ next = step.are
    ∙ ap₂ (λ t l. given_by (moved_node ends rank node) (made t) l) taken is
    ∙ given-moved ends rank node (made (taken_by node ys)) xs ys e in
    let more = means-moved parts ends rank nodes xs next m.0 after same e m.2 in
    record {
      flows = more.flows;
      are = more.are;
      means = (
        next,
        record {
          outs = step.outs;
          makes = rw taken at step.makes;
          count = step.count;
          are = refl;
        },
        more.means,
      );
      pulled = λ k. ap₂ (λ a b. a + b)
          (ap (λ t. if_kind k node (length (rows_together (flow_rows t)))) taken) (more.pulled k);
    }
