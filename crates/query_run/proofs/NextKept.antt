-- What is kept for one node more, as the code goes through a plan's reserves.
use Rattle.query_run.proofs.Imports.{List, PartPlace, PlanReserve, Reserve, [], ap, append_assoc, arith, edges_kept, get_or, kept_places, length, map-range_with_len_more, reserved_nodes, reserves_behind, sum_by, sum_by-cons, sum_by_more, take, take_more, ℕ, ◌++◌, ◌+◌, ◌<◌, ◌∷◌, ◌≡◌}
use Rattle.query_run.proofs.Reserves.{made, kept-nodes}

-- a place that was pushed is that of the next box that is kept
pub place-pushed : (front places after : List PartPlace) (t n : ℕ) (p : PartPlace)
    → places ≡ front ++ kept_places t 1 n → after ≡ places ++ p ∷ [] → p.table ≡ t
    → p.part ≡ n + 1 → after ≡ front ++ kept_places t 1 (n + 1)
place-pushed front places after t n p h e table part =
    let at : 1 + n ≡ n + 1 = omega arith in
    let more = map-range_with_len_more {X = PartPlace} (λ k. record { table = t; part = k }) 1 n
    (n + 1) at in
    grind (arith, append_assoc, more)

-- the next reserve
pub behind-more : (nodes edges : ℕ) (rs : List PlanReserve) (r : PlanReserve)
    → reserves_behind nodes edges (rs ++ r ∷ []) ≡ reserves_behind nodes edges rs
    ++ made r (nodes + reserved_nodes rs) (length r.kinds) (edges + edges_kept rs) ∷ []
behind-more nodes edges [] r = search (arith)
behind-more nodes edges (q ∷ rs) r =
    search (
      arith,
      kept-nodes q rs,
      sum_by-cons (λ (p : PlanReserve). p.edges) q rs,
      behind-more (nodes + length q.kinds) (edges + q.edges) rs r,
    )

-- so far, and with one more
pub one-more : (f : PlanReserve → ℕ) (rs : List PlanReserve) (i : ℕ) (r : PlanReserve)
    → i < length rs → r ≡ get_or rs i r
    → sum_by f (take (i + 1) rs) ≡ sum_by f (take i rs) + f r
one-more f rs i r lt is = let here = ap f is in omega (arith, here, sum_by_more f rs i r lt)

-- the next reserve, as the code makes it
pub behind-pushed : (nodes edges : ℕ) (rs : List PlanReserve) (i : ℕ) (r : PlanReserve)
    (so_far after : List Reserve) (n count e : ℕ) → i < length rs → r ≡ get_or rs i r
    → so_far ≡ reserves_behind nodes edges (take i rs) → after ≡ so_far ++ made r n count e ∷ []
    → n ≡ nodes + reserved_nodes (take i rs) → count ≡ length r.kinds
    → e ≡ edges + edges_kept (take i rs) → after ≡ reserves_behind nodes edges (take (i + 1) rs)
behind-pushed nodes edges rs i r so_far after n count e lt is h push first len edge =
    grind (arith, behind-more nodes edges (take i rs) r, take_more rs i r lt)
