-- Each step of a node keeps the laws of a board, and leaves what other nodes see.
use Rattle.exec_table.proofs.Imports.{Begun, Board, Born, Chunk, Close, Finish, Holds, Option, Over, StageHolds, Step, Unwant, Want, Wire, arith, bit_at_end, board_after, peer_in, born, cond_both, eqb, false, is_none, knows, lane_at, laws-kept, learned, learning, left, length, length-set, marks-of, may, names, no_lane, node_at, or-more, or-other, port_at, put_node, refl, set-get_or, spent, stage_at, subst, sym, taken, telling, with_bit, true, wiring, ℕ, ◌+◌, ◌-◌, ◌<◌, ◌^◌, ◌≡◌}
use Rattle.exec_table.proofs.Moving.{board_of, Moved, none-moved, node-moved, same-stage, port-moved}
use Rattle.exec_table.proofs.Stepping.{AtHand, look-moved, push-moved, pull-moved, still-moved, seen-stage, birth-stage}
use Rattle.core_laws.specs.declared.types.Step.TheVariants as step

-- ---- growth

-- the view of a node that learned the edge e
learn-stage : (b : Board) (n e : ℕ) → Holds b
    → StageHolds b.core.sizes n (learning e (node_at b.core n)) (stage_at b n)
learn-stage b n e h = grind (arith, h.stages n)

-- no node has learned an edge without a wire
pub unknown-edge : (b : Board) (n e : ℕ) → Holds b → e < length b.core.ports
    → is_none (port_at b.core e).wire ≡ true → knows e (node_at b.core n).seen ≡ false
unknown-edge b n e h i none = grind arith

-- an edge gets its wire: a node that hasn't learned it sees nothing of it before or after
wire-moved : (b : Board) (n e : ℕ) (w : Wire) → Holds b → e < length b.core.ports
    → is_none (port_at b.core e).wire ≡ true
    → Moved b (board_of (wiring b.core e w) b.lanes b.stages) n
wire-moved b n e w h i none = subst (λ l. Moved b (board_of (wiring b.core e w) l b.stages) n)
    (set-get_or b.lanes e no_lane) (port-moved b b n e _ (lane_at b e) (none-moved b n h) i
    (grind (arith, none, h.lanes e))
    (λ m ne. grind (arith, none, h.lanes e, unknown-edge b m e h i none)))

-- a node learns an edge, unless it has
learn-moved : (b d : Board) (n e : ℕ) → Moved b d n → n < length d.core.nodes
    → StageHolds d.core.sizes n (learning e (node_at d.core n)) (stage_at d n)
    → Moved b (board_of (learned d.core n e) d.lanes d.stages) n
learn-moved b d n e w i s =
    grind (arith, w, same-stage b d n d.core.pending (learning e (node_at d.core n)) w i s)

-- ---- mark

-- the node m is told by the bit k, which no view shows
told-moved : (b : Board) (n m k : ℕ) → Holds b → m < length b.core.nodes → k < 48
    → Moved b (board_of (put_node b.core m (with_bit k (node_at b.core m))) b.lanes b.stages) n
told-moved b n m k h i small = let nd = node_at b.core m in
    let same = set-get_or b.stages m Begun in let x = or-more nd.word k 60 in
    let y = or-other nd.word k 61 in let z = or-other nd.word k 63 in
    let it = node-moved b b n m b.core.pending (with_bit k nd) (stage_at b m) (none-moved b n h) i
    (grind (arith, small, x, y, z, h.stages m)) (λ _. refl) in grind (arith, same, it)

-- ---- all kinds

-- the step s of the node n, which puts x into the slot of a push
pub each_step_moves : (b : Board) (n : ℕ) (s : Step) (x : Option Chunk) → Holds b → n
    < b.core.sizes.nodes → may b.core n s ≡ true → AtHand b s x → Moved b (board_after b n s x) n
each_step_moves b n (step.Look e) x h i g k = look-moved b n e x h g
each_step_moves b n (step.Want e) x h i g k = still-moved Want b n e h g refl
each_step_moves b n (step.Unwant e) x h i g k = still-moved Unwant b n e h g refl
each_step_moves b n (step.Push e j) x h i g k = let y = k.pushed e j refl in
    subst (λ z. Moved b (board_after b n (step.Push e j) z) n) (sym y.1)
    (push-moved b n e j y.0 h g y.2)
each_step_moves b n (step.Pull e) x h i g k = pull-moved b n e x h g
each_step_moves b n (step.Finish e) x h i g k = still-moved Finish b n e h g refl
each_step_moves b n (step.ClosePort e) x h i g k = still-moved Close b n e h g refl
each_step_moves b n (step.Mark e) x h i g k = let c = b.core in
    let y = marks-of c n e g h.laws.edges h.laws.nodes in
    let m = peer_in n (port_at c e).wire in
    let nd = with_bit (bit_at_end m (port_at c e).wire) (node_at c m) in
    same-stage b (board_of (put_node c m nd) b.lanes b.stages) n c.pending
    (telling e (spent (node_at c m).word) (node_at c n)) (told-moved b n m _ h y.peer_in y.small)
    (let l = length-set c.nodes m nd in let j : n < length c.nodes = grind arith in
    omega (arith, l, j))
    (seen-stage b n _ h refl refl)
each_step_moves b n step.Begin x h i g k = node-moved b b n n b.core.pending
    (taken b.core n (spent (node_at b.core n).word)) Begun (none-moved b n h) (grind arith)
    (grind (arith, h.stages n)) (λ ne. absurd (ne refl))
each_step_moves b n step.Again x h i g k = same-stage b b n b.core.pending (taken b.core n 0)
    (none-moved b n h) (grind arith) (grind (arith, h.stages n))
each_step_moves b n step.Rest x h i g k = cond_both (eqb (node_at b.core n).word (2 ^ 62))
    (put_node b.core n (left 0 (node_at b.core n))) b.core
    (λ c. Moved b (board_of c b.lanes b.stages) n) (λ _. same-stage b b n b.core.pending
    (left 0 (node_at b.core n)) (none-moved b n h) (grind arith) (grind (arith, h.stages n)))
    (λ _. none-moved b n h)
each_step_moves b n step.Over x h i g k = node-moved b b n n b.core.pending
    (left (2 ^ 63) (node_at b.core n)) Over (none-moved b n h) (grind arith)
    (grind (arith, h.stages n)) (λ ne. absurd (ne refl))
each_step_moves b n step.TokenIn x h i g k =
    same-stage b b n (b.core.pending + 1) _ (none-moved b n h)
    (grind arith) (seen-stage b n _ h refl refl)
each_step_moves b n step.TokenOut x h i g k =
    same-stage b b n (b.core.pending - 1) _ (none-moved b n h)
    (grind arith) (seen-stage b n _ h refl refl)
each_step_moves b n (step.Wire e w) x h i g k = let j : e < length b.core.ports = grind arith in
    cond_both (is_none (port_at b.core e).wire) (learned (wiring b.core e w) n e) b.core
    (λ c. Moved b (board_of c b.lanes b.stages) n)
    (λ none. learn-moved b (board_of (wiring b.core e w) b.lanes b.stages) n e
    (wire-moved b n e w h j none) (grind arith) (learn-stage b n e h)) (λ _. none-moved b n h)
each_step_moves b n (step.Wired e) x h i g k = cond_both (names n (port_at b.core e).wire)
    (learned b.core n e) b.core (λ c. Moved b (board_of c b.lanes b.stages) n)
    (λ _. learn-moved b b n e (none-moved b n h) (grind arith) (learn-stage b n e h))
    (λ _. none-moved b n h)
each_step_moves b n step.Birth x h i g k =
    node-moved b b n n b.core.pending (born (node_at b.core n)) Born
    (none-moved b n h) (grind arith) (birth-stage b n h (grind arith)) (λ ne. absurd (ne refl))
each_step_moves b n s x h i g k = absurd (let c = h.laws.nodes.number in grind (arith, c, i))

-- the laws hold after it
pub holds-after : (b : Board) (n : ℕ) (s : Step) (x : Option Chunk) → Holds b
    → n < b.core.sizes.nodes → may b.core n s ≡ true → AtHand b s x → Holds (board_after b n s x)
holds-after b n s x h i g k =
    grind (arith, each_step_moves b n s x h i g k, laws-kept b.core n s g h.laws)
