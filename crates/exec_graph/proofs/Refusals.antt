-- The refusal that is due to an edge, and the graph with an edge to which none is due.
use Rattle.std.proofs.Common.{◌≡◌, ℕ, ◌+◌, ◌<◌, ◌++◌, ◌∷◌, not, ◌&&◌, ◌||◌, nat_lt, Bool, true, false, cond, List, [], length, Option, Some, None, Result, Ok, Err, OnOk, OnErr, refl, sym, subst, arith}
use Rattle.std.proofs.lemmas.Bool.{ltb-true, and_parts}
use Rattle.port_word.specs.declared.flags.Reserve.{Reserve}
use Rattle.port_word.specs.declared.flags.Wire.{Wire}
use Rattle.proc_api.specs.Graphs.{rank_at, has_input, has_output, IsEdge, IsGraphSoFar, reserved_edges}
use Rattle.proc_api.specs.Reserves.{AreReserves, IsAdded}
use Rattle.proc_api.proofs.Graphs.{edge-added}
use Rattle.proc_api.proofs.Reserving.{reserves-edge}
use Rattle.exec_graph.specs.declared.causes.BuildRefusal.{BuildRefusal}
use Rattle.exec_graph.specs.declared.causes.BuildRefusal.TheVariants as refusal
use Rattle.exec_graph.specs.Building.{edge_refusal, IsEdgeRefused}

pub due-rank : (ranks : List ℕ) (wires : List Wire) (reserves : List Reserve) (w : Wire)
    → nat_lt (rank_at ranks w.from) (rank_at ranks w.to) ≡ false
    → edge_refusal ranks wires reserves w ≡ Some refusal.RankOrder
due-rank ranks wires reserves w a = rw a refl

pub due-ports : (ranks : List ℕ) (wires : List Wire) (reserves : List Reserve) (w : Wire)
    → nat_lt (rank_at ranks w.from) (rank_at ranks w.to) ≡ true → (nat_lt w.input 32
    && nat_lt w.out 16) ≡ false → edge_refusal ranks wires reserves w ≡ Some refusal.TooManyPorts
due-ports ranks wires reserves w a b = rw (a, b) refl

pub due-taken : (ranks : List ℕ) (wires : List Wire) (reserves : List Reserve) (w : Wire) → nat_lt
    (rank_at ranks w.from) (rank_at ranks w.to) ≡ true → (nat_lt w.input 32 && nat_lt w.out 16)
    ≡ true → (has_input wires w.to w.input || has_output wires w.from w.out) ≡ true
    → edge_refusal ranks wires reserves w ≡ Some refusal.PortTaken
due-taken ranks wires reserves w a b t = rw (a, b, t) refl

pub due-edges : (ranks : List ℕ) (wires : List Wire) (reserves : List Reserve) (w : Wire) → nat_lt
    (rank_at ranks w.from) (rank_at ranks w.to) ≡ true → (nat_lt w.input 32 && nat_lt w.out 16)
    ≡ true → (has_input wires w.to w.input || has_output wires w.from w.out) ≡ false
    → nat_lt (length wires + reserved_edges reserves) 1024 ≡ false
    → edge_refusal ranks wires reserves w ≡ Some refusal.TooManyEdges
due-edges ranks wires reserves w a b t d = rw (a, b, t, d) refl

pub due-nothing : (ranks : List ℕ) (wires : List Wire) (reserves : List Reserve) (w : Wire) → nat_lt
    (rank_at ranks w.from) (rank_at ranks w.to) ≡ true → (nat_lt w.input 32 && nat_lt w.out 16) ≡
    true → (has_input wires w.to w.input || has_output wires w.from w.out) ≡ false → nat_lt (length
    wires + reserved_edges reserves) 1024 ≡ true → edge_refusal ranks wires reserves w ≡ None
due-nothing ranks wires reserves w a b t d = rw (a, b, t, d) refl

-- the first of four refusals
abbrev first_of : (ranked small taken room : Bool) → Option BuildRefusal
first_of a b t d = cond (not a) (Some refusal.RankOrder) (cond (not b) (Some refusal.TooManyPorts)
    (cond t (Some refusal.PortTaken) (cond (not d) (Some refusal.TooManyEdges) None)))

none-due : (a b t d : Bool) → first_of a b t d ≡ None
    → (a ≡ true) × (b ≡ true) × (t ≡ false) × (d ≡ true)
none-due true true false true h = (refl, refl, refl, refl)
none-due true true false false h = absurd (cc)
none-due true true true d h = absurd (cc)
none-due true false t d h = absurd (cc)
none-due false b t d h = absurd (cc)

no-memory : (a b t d : Bool) → first_of a b t d ≡ Some refusal.Memory → ⊥
no-memory true true false true h = cc
no-memory true true false false h = cc
no-memory true true true d h = cc
no-memory true false t d h = cc
no-memory false b t d h = cc

-- the refusal that is due is one that may be answered
pub due-refused : (r : BuildRefusal) (ranks : List ℕ) (wires : List Wire) (reserves : List Reserve)
    (w : Wire) → edge_refusal ranks wires reserves w ≡ Some r
    → IsEdgeRefused r ranks wires reserves w
due-refused refusal.RankOrder ranks wires reserves w h = h
due-refused refusal.TooManyPorts ranks wires reserves w h = h
due-refused refusal.PortTaken ranks wires reserves w h = h
due-refused refusal.TooManyEdges ranks wires reserves w h = h
due-refused refusal.Memory ranks wires reserves w h =
    absurd (no-memory (nat_lt (rank_at ranks w.from) (rank_at ranks w.to)) (nat_lt w.input 32
    && nat_lt w.out 16) (has_input wires w.to w.input || has_output wires w.from w.out)
    (nat_lt (length wires + reserved_edges reserves) 1024) h)

or_false : (a b : Bool) → (a || b) ≡ false → (a ≡ false) × (b ≡ false)
or_false false false h = (refl, refl)
or_false false true h = absurd (cc)
or_false true b h = absurd (cc)

connected : (ranks : List ℕ) (wires : List Wire) (reserves : List Reserve) (w : Wire)
    → IsGraphSoFar ranks wires reserves → w.from < length ranks → w.to < length ranks
    → edge_refusal ranks wires reserves w ≡ None → IsGraphSoFar ranks (wires ++ w ∷ []) reserves
connected ranks wires reserves w g from to h =
    let due = none-due (nat_lt (rank_at ranks w.from) (rank_at ranks w.to)) (nat_lt w.input 32
    && nat_lt w.out 16) (has_input wires w.to w.input || has_output wires w.from w.out)
    (nat_lt (length wires + reserved_edges reserves) 1024) h in
    let small = and_parts (nat_lt w.input 32) (nat_lt w.out 16) due.1 in
    let free = or_false (has_input wires w.to w.input) (has_output wires w.from w.out) due.2 in
    let room : length wires + reserved_edges reserves < 1024 = ltb-true _ _ due.3 in
    let edge : IsEdge ranks w = record {
      from_in_range = from;
      to_in_range = to;
      ranked = ltb-true _ _ due.0;
      few_inputs = ltb-true _ _ small.0;
      few_outputs = ltb-true _ _ small.1;
    } in
    edge-added ranks wires reserves w g edge free.0 free.1 room

-- the wires after a push of an edge to which no refusal is due, whether it had memory or not
pub push-connected : (ranks : List ℕ) (wires more : List Wire) (reserves : List Reserve)
    (w : Wire) {A B : Type 0} (r : Result A B) → IsGraphSoFar ranks wires reserves
    → w.from < length ranks → w.to < length ranks → edge_refusal ranks wires reserves w ≡ None
    → OnOk r (more ≡ wires ++ w ∷ []) → OnErr r (more ≡ wires) → IsGraphSoFar ranks more reserves
push-connected ranks wires more reserves w (Ok x) g from to h ok err = subst
    (λ ws. IsGraphSoFar ranks ws reserves) (sym ok) (connected ranks wires reserves w g from to h)
push-connected ranks wires more reserves w (Err x) g from to h ok err =
    subst (λ ws. IsGraphSoFar ranks ws reserves) (sym err) g

-- and so are the reserves
pub push-kept : (nodes : ℕ) (wires more : List Wire) (rs : List Reserve) (w : Wire) {A B : Type 0}
    (r : Result A B) → AreReserves nodes 0 wires rs → IsAdded nodes rs w.from
    → IsAdded nodes rs w.to → OnOk r (more ≡ wires ++ w ∷ []) → OnErr r (more ≡ wires)
    → AreReserves nodes 0 more rs
push-kept nodes wires more rs w (Ok x) h from to ok err =
    subst (λ ws. AreReserves nodes 0 ws rs) (sym ok) (reserves-edge nodes 0 wires rs h w from to)
push-kept nodes wires more rs w (Err x) h from to ok err =
    subst (λ ws. AreReserves nodes 0 ws rs) (sym err) h

-- where nothing is reserved, each node was added
pub added-alone : (nodes n : ℕ) (rs : List Reserve) → length rs ≡ 0 → n < nodes → IsAdded nodes rs n
added-alone nodes n [] e lt = record { in_range = lt; unreserved = refl }
added-alone nodes n (r ∷ rs) e lt = absurd (omega (arith, e))

pub ruleset added = (added-alone)
