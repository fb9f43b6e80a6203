-- What changes of a board that only one node sees leave of it: the views of the other nodes, and
-- the laws that the core doesn't have.
use Rattle.exec_table.proofs.Imports.{Board, Holds, Lane, LaneHolds, List, NodeState, PortState, Stage, StageHolds, Begun, arith, cases_eq, edge_count, end_for, end_view, get_or, get_or-set_other, get_or-set_same, knows, lane_at, length, length-set, map, no_lane, no_node, no_port, node_view, port_at, put_node, put_port, range_with_len, refl, set, sym, ℕ, ◌<◌, ◌∙◌, ◌≡◌, ◌≢◌, CoreState, set-get_or, stage_at, node_at, NodeView}

abbrev pub board_of : CoreState → List Lane → List Stage → Board
board_of c lanes stages = record { core = c; lanes = lanes; stages = stages }

-- the board d after changes of the board b that only the node n sees
pub record Moved (b d : Board) (n : ℕ) : Type 0 where
  pub others : (m : ℕ) → m ≢ n → node_view d m ≡ node_view b m
  pub lanes : (e : ℕ) → LaneHolds (port_at d.core e) (lane_at d e)
  pub stages : (m : ℕ) → StageHolds d.core.sizes m (node_at d.core m) (stage_at d m)
  pub lane_count : length d.lanes ≡ length d.core.ports
  pub stage_count : length d.stages ≡ length d.core.nodes

-- what holds at an index of two lists in which one index was set
at_both : {A B : Type 0} (P : ℕ → A → B → Type 0) (l : List A) (k : List B) (n m : ℕ) (x d : A)
    (y c : B) → n < length l → n < length k → P n x y → P m (get_or l m d) (get_or k m c)
    → P m (get_or (set l n x) m d) (get_or (set k n y) m c)
at_both {A} {B} P l k n m x d y c h i here other =
    grind (arith, cases_eq, get_or-set_same, get_or-set_other)

pub none-moved : (b : Board) (n : ℕ) → Holds b → Moved b b n
none-moved b n h = grind arith

-- what the node m is seen as, were it in this state and at this stage
abbrev view_as : Board → ℕ → NodeState → Stage → NodeView
view_as b m nd g = record (node_view b m) {
  state = record nd { word = 0 };
  stage = g;
  ends = map (λ e. end_for m (knows e nd.seen) (port_at b.core e).wire (lane_at b e))
      (range_with_len 0 (edge_count b.core.sizes));
}

-- one more change, of the node k, in which the nodes but n see nothing
pub node-moved : (a b : Board) (n k p : ℕ) (nd : NodeState) (g : Stage) → Moved a b n
    → k < length b.core.nodes → StageHolds b.core.sizes k nd g
    → (k ≢ n → view_as b k nd g ≡ node_view b k) → Moved a (board_of
    (record (put_node b.core k nd) { pending = p }) b.lanes (set b.stages k g)) n
node-moved a b n k p nd g w i here same = record {
  others = λ m. at_both (λ q nd g. q ≢ n → view_as b q nd g ≡ node_view a q) b.core.nodes b.stages
      k m nd no_node g Begun i j (λ ne. same ne ∙ w.others k ne) (w.others m);
  lanes = w.lanes;
  stages = λ m. at_both (StageHolds b.core.sizes) b.core.nodes b.stages k m nd no_node g Begun i j
      here (w.stages m);
  lane_count = w.lane_count;
  stage_count = length-set b.stages k g ∙ (w.stage_count ∙ sym (length-set b.core.nodes k nd));
}
  where
    j : k < length b.stages
    j = let c = w.stage_count in omega (arith, c, i)

-- the same at the stage that the node has, if it is n
pub same-stage : (a b : Board) (n p : ℕ) (nd : NodeState) → Moved a b n → n < length b.core.nodes
    → StageHolds b.core.sizes n nd (stage_at b n)
    → Moved a (board_of (record (put_node b.core n nd) { pending = p }) b.lanes b.stages) n
same-stage a b n p nd w i here = let same = set-get_or b.stages n Begun in
    let it = node-moved a b n n p nd (stage_at b n) w i here (λ ne. absurd (ne refl)) in
    grind (arith, same, it)

-- one more change, of an edge, in which the other nodes see nothing
pub port-moved : (a b : Board) (n e : ℕ) (q : PortState) (l : Lane) → Moved a b n
    → e < length b.core.ports → LaneHolds q l → ((m : ℕ) → m ≢ n
    → end_for m (knows e (node_at b.core m).seen) q.wire l ≡ end_view b m e)
    → Moved a (board_of (put_port b.core e q) (set b.lanes e l) b.stages) n
port-moved a b n e q l w i lane same = record {
  others = λ m ne. (λ j. record (node_view b m) {
    ends = map (λ d. at_both (λ k p l. end_for m (knows k (node_at b.core m).seen) p.wire l
        ≡ end_view b m k) b.core.ports b.lanes e d q no_port l no_lane i is (same m ne) refl j)
        (range_with_len 0 (edge_count b.core.sizes));
  }) ∙ w.others m ne;
  lanes = λ d. at_both (λ _. LaneHolds) b.core.ports b.lanes e d q no_port l no_lane i is lane
      (w.lanes d);
  stages = w.stages;
  lane_count = length-set b.lanes e l ∙ (w.lane_count ∙ sym (length-set b.core.ports e q));
  stage_count = w.stage_count;
}
  where
    is : e < length b.lanes
    is = let c = w.lane_count in omega (arith, c, i)
