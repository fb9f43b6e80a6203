-- Each step of a node leaves the laws that the core doesn't have, and the views of the other nodes.
use Rattle.exec_table.proofs.Imports.{Act, Board, Bool, Born, Chunk, CoreState, EndOf, Holds, Lane, LaneHolds, NodeState, None, Option, PortState, Pull, Push, Some, StageHolds, Step, Wire, acted, acting_end, allows, ap, arith, board_after, born, chunks_after, end-of, end_at, end_for, end_of, length-append, append-nil, false, flags_at, flip-lone, is_held_end, is_end, is_some, is_unborn, knows, lane_at, length, looked, looked_at, may_act, names, no_lane, no_port, node_after, node_at, not, port_after, port_at, pulled_from, pushed_to, put_node, put_port, refl, set, set-get_or, stage_at, subst, sym, true, ℕ, ◌<◌, ◌∙◌, ◌∷◌, ◌≡◌, ◌≢◌, Content, [], map-id, map-range_with_len_more, chunk_numbers, ◌++◌, ◌+◌}
use Rattle.exec_table.proofs.Moving.{board_of, Moved, none-moved, same-stage, port-moved}
use Rattle.core_laws.specs.declared.types.Step.TheVariants as step

-- ---- steps at a port

numbers-more : (k : ℕ) → chunk_numbers k ++ k ∷ [] ≡ chunk_numbers (k + 1)
numbers-more k = sym (sym (map-id (chunk_numbers (k + 1))) ∙ (map-range_with_len_more (λ j. j) 0 k k
    (omega arith) ∙ ap (λ l. l ++ k ∷ []) (map-id (chunk_numbers k))))

pub lane-full : (p : PortState) (l : Lane) → Content p → LaneHolds p l
    → is_some l.content ≡ p.flags.has_data
lane-full p l c h = grind (arith, c.has_data, h.slot)

-- what a look changes the other end doesn't see
looked-else : (a : Bool) (l : Lane)
    → end_at (not a) None (looked_at a l) ≡ end_at (not a) None l
looked-else a l = grind arith

pub holds-in : (c : CoreState) (n e : ℕ) → is_held_end c n e ≡ true
    → (n < length c.nodes) × (e < length c.ports)
holds-in c n e g = grind arith

pub act-parts : (a : Act) (c : CoreState) (n e : ℕ) → may_act a c n e ≡ true
    → (is_held_end c n e ≡ true) × (is_end (acting_end a) n (port_at c e).wire ≡ true)
    × (allows a (flags_at e (node_at c n).seen) ≡ true)
act-parts a c n e g = grind arith

-- an act leaves the wire
pub act-wire : (a : Act) (p : PortState) → (port_after a p).wire ≡ p.wire
act-wire a p = grind arith

pub seen-stage : (b : Board) (n : ℕ) (nd : NodeState) → Holds b → nd.word ≡ (node_at b.core n).word
    → nd.held ≡ (node_at b.core n).held → StageHolds b.core.sizes n nd (stage_at b n)
seen-stage b n nd h word held = grind arith

-- the end of an edge that another node has
other-end : (a : Bool) (w : Wire) (m : ℕ) (k : Bool) (l g : Lane) → m ≢ end_of a w
    → end_at (not a) None l ≡ end_at (not a) None g
    → end_for m k (Some w) l ≡ end_for m k (Some w) g
other-end a w m k l g ne same = grind arith

-- a change of a node, and of an edge of which it is the end a, that the other end doesn't see
edge-moved : (b : Board) (n e : ℕ) (a : Bool) (w : Wire) (nd : NodeState) (q : PortState) (l : Lane)
    → Holds b → is_held_end b.core n e ≡ true → (port_at b.core e).wire ≡ Some w → end_of a w ≡ n
    → q.wire ≡ (port_at b.core e).wire → LaneHolds q l
    → end_at (not a) None l ≡ end_at (not a) None (lane_at b e)
    → nd.word ≡ (node_at b.core n).word → nd.held ≡ (node_at b.core n).held
    → Moved b (board_of (put_node (put_port b.core e q) n nd) (set b.lanes e l) b.stages) n
edge-moved b n e a w nd q l h g is end wire lane same word held =
    let i = holds-in b.core n e g in
    same-stage b (board_of (put_port b.core e q) (set b.lanes e l) b.stages) n b.core.pending nd
    (port-moved b b n e q l (none-moved b n h) i.1 lane (λ m ne.
    let k = knows e (node_at b.core m).seen in (λ j. end_for m k ((wire ∙ is) j) l)
    ∙ (other-end a w m k l (lane_at b e) (λ t. ne (t ∙ end)) same
    ∙ (λ j. end_for m k (sym is j) (lane_at b e))))) i.0 (seen-stage b n nd h word held)

-- what the edge of an act has, by the act's sight
sight : (v : Bool) (b : Board) (n e : ℕ) (w : Wire) → Holds b → e < length b.core.ports
    → (port_at b.core e).wire ≡ Some w → end_of v w ≡ n
    → (flags_at e (node_at b.core n).seen).has_data ≡ v → is_some (lane_at b e).content ≡ v
sight v b n e w h i is end f =
    grind (arith, lane-full, h.laws.edges.each e i, (h.laws.edges.each e i).sees v w is)

act-moved : (a : Act) (b : Board) (n e : ℕ) (l : Lane) → Holds b → may_act a b.core n e ≡ true
    → ((w : Wire) → (port_at b.core e).wire ≡ Some w → end_of (acting_end a) w ≡ n
    → LaneHolds (port_after a (port_at b.core e)) l
    × (end_at (not (acting_end a)) None l ≡ end_at (not (acting_end a)) None (lane_at b e)))
    → Moved b (board_of (acted a b.core n e) (set b.lanes e l) b.stages) n
act-moved a b n e l h g lane = let parts = act-parts a b.core n e g in
    let x : EndOf (acting_end a) n (port_at b.core e).wire =
    end-of (acting_end a) n (port_at b.core e).wire parts.1 in let y = lane x.wire x.is x.end in
    edge-moved b n e (acting_end a) x.wire
    (node_after a e (port_at b.core e).flags (node_at b.core n)) (port_after a (port_at b.core e)) l
    h parts.0 x.is x.end (act-wire a (port_at b.core e)) y.0 y.1 refl refl

-- an act that moves no chunk
pub still-moved : (a : Act) (b : Board) (n e : ℕ) → Holds b → may_act a b.core n e ≡ true
    → chunks_after a (port_at b.core e) ≡ port_at b.core e
    → Moved b (board_of (acted a b.core n e) b.lanes b.stages) n
still-moved a b n e h g same = subst (λ l. Moved b (board_of (acted a b.core n e) l b.stages) n)
    (set-get_or b.lanes e no_lane) (act-moved a b n e (lane_at b e) h g (λ _ _ _. (
      grind (arith, same, h.lanes e),
      refl,
    )))

look-end : (n : ℕ) (w : Option Wire) → names n w ≡ true → EndOf (is_end true n w) n w
look-end n w h = grind arith

pub look-moved : (b : Board) (n e : ℕ) (x : Option Chunk) → Holds b → is_held_end b.core n e ≡ true
    → Moved b (board_after b n (step.Look e) x) n
look-moved b n e x h g = let p = port_at b.core e in
    let y = look-end n p.wire
    ((h.laws.edges.each e (holds-in b.core n e g).1).learned n (grind arith)) in
    let a : Bool = is_end true n p.wire in
    subst (λ ps. Moved b
    (board_of (record b.core { nodes = set b.core.nodes n (looked b.core n e); ports = ps })
    (set b.lanes e (looked_at a (lane_at b e))) b.stages) n) (set-get_or b.core.ports e no_port)
    (edge-moved b n e a y.wire (looked b.core n e) p (looked_at a (lane_at b e)) h g y.is y.end refl
    (let l = h.lanes e in grind (arith, y.is, l)) (looked-else a (lane_at b e)) refl refl)

-- what a push or a pull finds at hand
pub record AtHand (b : Board) (s : Step) (x : Option Chunk) : Type 0 where
  pub pushed : (e k : ℕ) → s ≡ step.Push e k
      → (y : Chunk) × (x ≡ Some y) × (k ≡ length (lane_at b e).pushed)

pub push-moved : (b : Board) (n e k : ℕ) (x : Chunk) → Holds b → may_act (Push k) b.core n e ≡ true
    → k ≡ length (lane_at b e).pushed → Moved b (board_after b n (step.Push e k) (Some x)) n
push-moved b n e k x h g count = let parts = act-parts (Push k) b.core n e g in
    act-moved (Push k) b n e (pushed_to (Some x) (lane_at b e)) h g
    (λ w is end. let free = sight false b n e w h (holds-in b.core n e parts.0).1 is end
    (let z = parts.2 in grind arith) in (
      grind (arith, is, free, count, h.lanes e, numbers-more, length-append, append-nil),
      grind (arith, free),
    ))

pub pull-moved : (b : Board) (n e : ℕ) (x : Option Chunk) → Holds b → may_act Pull b.core n e ≡ true
    → Moved b (board_after b n (step.Pull e) x) n
pull-moved b n e x h g = let parts = act-parts Pull b.core n e g in
    act-moved Pull b n e (pulled_from (lane_at b e)) h g
    (λ w is end. let full = sight true b n e w h (holds-in b.core n e parts.0).1 is end
    (let z = parts.2 in grind arith) in (
      grind (arith, is, full, h.lanes e, numbers-more, length-append, append-nil),
      grind (arith, full),
    ))

-- ---- steps at the node's own word

pub birth-stage : (b : Board) (n : ℕ) → Holds b → is_unborn (node_at b.core n).word ≡ true
    → StageHolds b.core.sizes n (born (node_at b.core n)) Born
birth-stage b n h unborn = let nd = node_at b.core n in let w = (h.laws.nodes.each n).word in
    let x = flip-lone nd.word nd.held unborn w in
    grind (arith, x.0, x.1 61, x.1 63, w.lone 61 62, w.held)
