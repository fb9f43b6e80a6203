-- Which lists of nodes fit, by the ranks of the open ends alone.
use Rattle.std.proofs.Common.{List, [], ap, append_assoc, arith, get_or, length, map, refl, replicate, suc, sym, zero, ℕ, ◌++◌, ◌<◌, ◌∙◌, ◌∷◌, ◌≡◌, ◌≤◌}
use Rattle.plan_laws.proofs.Imports.{All, All-nil, All-replicate, Spec, append-nil, length-append, length-map, length-replicate, rank-kept, rank_at, AllFitDraft, AllFitEnds, Draft, FitsDraft, FitsEnds, IsDraft, no_draft, ports_of, producer_of, ranks_after, ranks_with, taken_by, with_node, with_nodes, DraftNode, NodePort, joint_node, lane_nodes, source_nodes}
use Rattle.plan_laws.proofs.graph.Drafts.{all-back, draft-more, draft-start, ends-known, from-map, rank-new}
use Rattle.plan_laws.proofs.graph.Places.{given-map, replaced-at, run-at, taken-map}

-- ---- ranks of ends

map-same : {X Y : Type 0} (f g : X → Y) (xs : List X)
    → ((k : ℕ) (d : X) → k < length xs → f (get_or xs k d) ≡ g (get_or xs k d))
    → map f xs ≡ map g xs
map-same f g [] h = refl
map-same f g (x ∷ xs) h = ap (λ y. y ∷ map f xs) (h 0 x (omega arith))
    ∙ ap (λ l. g x ∷ l) (map-same f g xs (λ k d lt. h (suc k) d (omega (arith, lt))))

ports-ranks : (ranks : List ℕ) (n o k r : ℕ) → rank_at ranks n ≡ r
    → map (λ (e : NodePort). rank_at ranks e.node) (ports_of n o k) ≡ replicate k r
ports-ranks ranks n o zero r e = refl
ports-ranks ranks n o (suc k) r e = search (arith, ports-ranks ranks n (suc o) k r e)

-- what is left open after the nodes has these ranks
record EndsAre (d : Draft) (rs : List ℕ) : Type 0 where
  pub is : map (λ (e : NodePort). rank_at d.ranks e.node) d.ends ≡ rs

ends-more : (takes gives : List ℕ) (node : DraftNode) (d : Draft) (rs : List ℕ)
    → IsDraft takes gives d → EndsAre d rs → EndsAre (with_node node d) (ranks_with node rs)
ends-more takes gives node d rs h e =
    let n : ℕ = length d.ranks in
    let ranks : List ℕ = d.ranks ++ node.rank ∷ [] in
    let known : All (λ (e : NodePort). e.node < n) d.ends = all-back (λ (e : NodePort). e.node < n)
    (map producer_of d.wires) d.ends (ends-known takes gives d h) in
    let same : map (λ (e : NodePort). rank_at ranks e.node) d.ends ≡ rs =
    map-same (λ (e : NodePort). rank_at ranks e.node) (λ (e : NodePort). rank_at d.ranks e.node)
    d.ends (λ k x lt. rank-kept d.ranks node.rank (get_or d.ends k x).node (known k x lt))
    ∙ e.is in
    grind (
      arith,
      given-map (λ (e : NodePort). rank_at ranks e.node) node (ports_of n 0 node.gives) d.ends,
      ports-ranks ranks n 0 node.gives node.rank (rank-new d.ranks node.rank),
      same,
    )

fits-one : (node : DraftNode) (d : Draft) (rs : List ℕ) → EndsAre d rs → FitsEnds node rs
    → FitsDraft node d
fits-one node d rs e f = grind (
  arith,
  length-map d.ends (λ (x : NodePort). rank_at d.ranks x.node),
  from-map (λ r. r < node.rank) (λ (x : NodePort). rank_at d.ranks x.node) (taken_by node d.ends),
  taken-map (λ (x : NodePort). rank_at d.ranks x.node) node d.ends,
)

pub record Fitted (nodes : List DraftNode) (d : Draft) (rs : List ℕ) : Type 0 where
  pub fit : AllFitDraft nodes d
  pub ends : map (λ (e : NodePort). rank_at (with_nodes nodes d).ranks e.node)
      (with_nodes nodes d).ends ≡ ranks_after nodes rs

fits-from : (takes gives : List ℕ) (nodes : List DraftNode) (d : Draft) (rs : List ℕ)
    → IsDraft takes gives d → EndsAre d rs → AllFitEnds nodes rs → Fitted nodes d rs
fits-from takes gives [] d rs h e f = record { fit = tt; ends = e.is }
fits-from takes gives (node ∷ nodes) d rs h e f =
    let here : FitsDraft node d = fits-one node d rs e f.0 in
    let more = fits-from (takes ++ node.takes ∷ []) (gives ++ node.gives ∷ []) nodes (with_node node
    d) (ranks_with node rs) (draft-more takes gives node d h here) (ends-more takes gives node d rs
    h e) f.1 in
    record { fit = (here, more.fit); ends = more.ends }

pub fits : (nodes : List DraftNode) → AllFitEnds nodes [] → Fitted nodes no_draft []
fits nodes f = fits-from [] [] nodes no_draft [] draft-start (record { is = refl }) f

-- ---- blocks

pub fit-append : (xs ys : List DraftNode) (rs : List ℕ) → AllFitEnds xs rs
    → AllFitEnds ys (ranks_after xs rs) → AllFitEnds (xs ++ ys) rs
fit-append [] ys rs f g = g
fit-append (x ∷ xs) ys rs f g = (f.0, fit-append xs ys (ranks_with x rs) f.1 g)

pub after-append : (xs ys : List DraftNode) (rs : List ℕ)
    → ranks_after (xs ++ ys) rs ≡ ranks_after ys (ranks_after xs rs)
after-append [] ys rs = refl
after-append (x ∷ xs) ys rs = after-append xs ys (ranks_with x rs)

-- a block fits where the open ends have these ranks, and leaves them with those
pub record FitsBlock (nodes : List DraftNode) (before after : List ℕ) : Type 0 where
  pub fit : AllFitEnds nodes before
  pub leaves : ranks_after nodes before ≡ after

pub block-append : {xs ys : List DraftNode} {a b c : List ℕ} → FitsBlock xs a b → FitsBlock ys b c
    → FitsBlock (xs ++ ys) a c
block-append {xs} {ys} {a} f g = search (arith, fit-append, after-append)

pub same-ranks : (n r q : ℕ) → r < q → All (λ x. x < q) (replicate n r)
same-ranks n r q lt = All-replicate (λ x. x < q) n r lt

-- a node between other open ends
pub node-fit : (node : DraftNode) (done taken left : List ℕ) → length done ≡ node.offset
    → length taken ≡ node.takes → All (λ r. r < node.rank) taken → node.takes ≤ 32
    → node.gives ≤ 16
    → FitsBlock (node ∷ []) (done ++ (taken ++ left))
    (done ++ (replicate node.gives node.rank ++ left))
node-fit node done taken left a b low ins outs = grind (arith, run-at, replaced-at, length-append)

lanes-fit : (s : Spec) (q i k r : ℕ) (done : List ℕ) → length done ≡ i → r < q
    → FitsBlock (lane_nodes s q i k) (done ++ replicate k r) (done ++ replicate k q)
lanes-fit s q i zero r done a low = record { fit = tt; leaves = refl }
lanes-fit s q i (suc k) r done a low =
    block-append
    (node-fit (record { spec = s; rank = q; offset = i; takes = 1; gives = 1 }) done (r ∷ [])
    (replicate k r) a refl (same-ranks 1 r q low) (omega arith) (omega arith))
    (rw (append_assoc done (q ∷ []) (replicate k r), append_assoc done (q ∷ []) (replicate k q)) at
    (lanes-fit s q (suc i) k r (done ++ q ∷ []) (omega (arith, a, length-append done (q ∷ [])))
    low))

pub sources-fit : (specs : List Spec) (i : ℕ) (done : List ℕ) → length done ≡ i
    → FitsBlock (source_nodes i specs) done (done ++ replicate (length specs) 1)
sources-fit [] i done a = record { fit = tt; leaves = sym (append-nil done) }
sources-fit (s ∷ specs) i done a =
    block-append
    (rw (append-nil done) at
    (node-fit (record { spec = s; rank = 1; offset = i; takes = 0; gives = 1 }) done [] [] a refl
    (All-nil (λ r. r < 1)) (omega arith) (omega arith)))
    (rw (append_assoc done (1 ∷ []) (replicate (length specs) 1)) at
    (sources-fit specs (suc i) (done ++ 1 ∷ []) (omega (arith, a, length-append done (1 ∷ [])))))

pub joint-fit : (s : Spec) (q m n : ℕ) (rs : List ℕ) → length rs ≡ m → All (λ r. r < q) rs → m ≤ 32
    → n ≤ 16 → FitsBlock (joint_node s q m n ∷ []) rs (replicate n q)
joint-fit s q m n rs a low ins outs =
    rw (append-nil rs, append-nil (replicate n q)) at
    (node-fit (joint_node s q m n) [] rs [] refl a low ins outs)

-- ---- levels

-- a block that leaves so many ends of one rank below a bound
pub record Levels (nodes : List DraftNode) (before : List ℕ) (n below : ℕ) : Type 0 where
  pub rank : ℕ
  pub low : rank < below
  pub block : FitsBlock nodes before (replicate n rank)

pub level-append : {xs ys : List DraftNode} {a : List ℕ} {n q m t : ℕ} → Levels xs a n q
    → ((r : ℕ) → r < q → Levels ys (replicate n r) m t) → Levels (xs ++ ys) a m t
level-append f g =
    let next = g f.rank f.low in
    record { rank = next.rank; low = next.low; block = block-append f.block next.block }

pub lanes-level : (s : Spec) (q n r t : ℕ) → r < q → q < t
    → Levels (lane_nodes s q 0 n) (replicate n r) n t
lanes-level s q n r t low high = grind (arith, lanes-fit s q 0 n r [] refl low)

pub joint-level : (s : Spec) (q m n r t : ℕ) → r < q → q < t → m ≤ 32 → n ≤ 16
    → Levels (joint_node s q m n ∷ []) (replicate m r) n t
joint-level s q m n r t low high ins outs = search (arith, joint-fit, length-replicate, same-ranks)

pub stay-level : (n r t : ℕ) → r < t → Levels [] (replicate n r) n t
stay-level n r t low = record { rank = r; low = low; block = record { fit = tt; leaves = refl } }
