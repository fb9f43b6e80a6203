-- Marks, wires and workers: what their calls' proofs cite.
use Rattle.exec_table.proofs.Imports.{Allows, Board, Bool, Step, StepAnswer, WorkerSeat, IsWorkerOf, WorkerDoes, answer, board_after, ViewFits, Holds, None, Sat, Shown, Sizes, Some, Splits, View, Wire, ap, edge_count, arith, at_snoc, bit_at_or, bit_or, cond, end_of_view, first_word, get_elem?, get_or, keeps, length, may, node_view, or_comm, or_shifted, peer_in, port_at, refl, same_from_bits, set, some, subst, sym, true, wire_of, wire_ok, wire_word, ℕ, ⊎_elim, ◌+◌, ◌<◌, ◌^◌, ◌∙◌, ◌≡◌, ◌≤◌, le-leb, lt-leb, ready, Worked, next_worker, with_worker, wire_in, ExecTable, Identity, IsSeatOf, identity_of, seen_in_word, view, NodeSeat}
use Rattle.exec_table.proofs.Showing.{fits-none, fits-set, shown_by_other_views, stopped_at, stopped-fits, stopped-holds}
use Rattle.exec_table.proofs.Wording.{pending-small}
use Rattle.exec_table.proofs.Seating.{known-wire, wire-read}
use Rattle.core_laws.specs.Steps as core
use Rattle.core_laws.specs.declared.types.Step.TheVariants as step

pub few-nodes : (b : Board) → Holds b → b.core.sizes.nodes ≤ 256
few-nodes b h = let f = h.laws.fit in grind arith

-- the wire of an edge of which a telling is owed
pub owed-wire : (b : Board) (n e : ℕ) (w : Wire) → Holds b → may b.core n (step.Mark e) ≡ true
    → (end_of_view (node_view b n) e).wire ≡ Some w → (port_at b.core e).wire ≡ Some w
owed-wire b n e w h g is = grind (arith, known-wire)

-- a wire word read back
pub wire-in-read : (b : Board) (e : ℕ) → Holds b → e < length b.core.ports
    → wire_in (wire_word (port_at b.core e).wire) ≡ (port_at b.core e).wire
wire-in-read b e h i = grind (arith, wire-read, few-nodes)

-- an edge that is there, by a step that gives it a wire
pub wire-inside : (t : Identity) (s : NodeSeat) (e : ℕ) (w : Wire) → IsSeatOf t s
    → ready (view s) (step.Wire e w) ≡ true → e < edge_count t.sizes
wire-inside t s e w o g = grind (arith, o.sizes)

pub wire-there-in : (b : Board) (n e : ℕ) (w : Wire) → may b.core n (step.Wire e w) ≡ true
    → e < length b.core.ports
wire-there-in b n e w g = grind arith

-- the peer of a wire is a node
pub peer-inside : (m n : ℕ) (w : Wire) → wire_ok m w ≡ true → peer_in n (Some w) < m
peer-inside m n w ok = grind arith

-- the wire that the word written says
pub word-of-wire : (t : ExecTable) (s : NodeSeat) (e : ℕ) (w : Wire) (word : ℕ)
    → IsSeatOf (identity_of t) s → ready (view s) (step.Wire e w) ≡ true
    → word ≡ wire_word (Some w) → wire_of word ≡ w
word-of-wire t s e w word o g is = grind arith

-- ---- workers

-- the root may make one more worker
pub worker-splits : (key : Sizes) (id : ℕ) (v : View) → v.made < key.workers
    → Splits (Shown key) id v (with_worker v) (next_worker v)
worker-splits key id v spare st r mine = shown_by_other_views r refl refl r.owner (λ j u q. ⊎_elim
    (λ (t : get_elem? (set st.views id (with_worker v)) j ≡ some u).
    fits-set _ _ _ (ViewFits r.board r.owner)
    (fits-none r.board r.owner id (with_worker v) refl refl
    (subst (λ s. v.made + 1 ≤ s.workers) (sym r.sizes) (omega arith)) (λ k p. absurd (cc)))
    (λ j u _. r.seats j u) j u t) (λ (t : next_worker v ≡ u). subst (ViewFits r.board r.owner j) t
    (fits-none r.board r.owner j (next_worker v) refl refl (omega arith)
    (λ k p. subst (λ s. k < s.workers) (sym r.sizes) (let z : v.made ≡ k = cc in omega arith))))
    (at_snoc (set st.views id (with_worker v)) (next_worker v) u j q))

worker-may : (b : Board) (k : ℕ) → k < b.core.sizes.workers
    → core.is_worker b.core (b.core.sizes.nodes + k) ≡ true
worker-may b k less = grind arith

-- the stop bit is set, whatever it was
pub stop-word : (p : ℕ) (t : Bool) → p < 2 ^ 62
    → bit_or (p + cond t (2 ^ 63) 0) (2 ^ 63) ≡ p + 2 ^ 63
stop-word p t h = grind (arith, or_comm p (2 ^ 63), or_shifted 1 63 p, or_again p (2 ^ 63))
  where
    or_again : (p k : ℕ) → bit_or (bit_or p k) k ≡ bit_or p k
    or_again p k = same_from_bits _ _ (λ i. let z = bit_at_or p k i in
        let y = bit_at_or (bit_or p k) k i in omega (arith, z, y))

-- a worker may look at word 0, and may stop the run
pub worker-allowed : (key : Sizes) (slots id : ℕ) (m : Sat) (s : Step) (f : ℕ → ℕ)
    (to : Bool → Bool)
    → ((b : Board) (n : ℕ) → board_after b n s None ≡ stopped_at (to b.core.stopped) b)
    → ((b : Board) (n : ℕ) → may b.core n s ≡ core.is_worker b.core n)
    → ((p : ℕ) (t : Bool) → p < 2 ^ 62 → f (p + cond t (2 ^ 63) 0) ≡ p + cond (to t) (2 ^ 63) 0)
    → m.0.sizes ≡ key → Allows (Shown key) slots id m 0 f
    (λ n m'. (m' ≡ (record m.0 { found = n }, m.1))
    × ((k : ℕ) → m.0.worker ≡ Some k → Worked m.0.sizes k s n))
worker-allowed key slots id m s f to after worker word sizes st r deep mine fit = (
  record m.0 { found = get_or st.words 0 0 },
  keeps,
  tt,
  record {
    board = d;
    holds = holds;
    sizes = r.sizes;
    words = let now = word b.core.pending b.core.stopped (pending-small b r.holds) in
        grind (arith, r.words, now);
    homes = r.homes;
    owner = r.owner;
    seats = fits-set _ _ _ (ViewFits d r.owner)
        (let z = still id m.0 (r.seats id m.0 mine) in grind arith)
        (λ j u _ q. still j u (r.seats j u q));
  },
  (
    refl,
    (λ k q. record {
      before = b;
      holds = r.holds;
      sizes = same;
      may = grind (arith, worker b, same, worker-may b k ((r.seats id m.0 mine).worker k q));
      kept = subst Holds (sym (after b _)) holds;
      word = ap (λ l. get_or l 0 0) r.words;
    }),
  ),
)
  where
    b : Board
    b = r.board

    same : b.core.sizes ≡ m.0.sizes
    same = r.sizes ∙ sym sizes

    d : Board
    d = stopped_at (to b.core.stopped) b

    holds : Holds d
    holds = stopped-holds _ b r.holds

    still : (j : ℕ) (v : View) → ViewFits b r.owner j v → ViewFits d r.owner j v
    still j v = stopped-fits _ b r.owner j v

-- what the worker's step told, by the word that its seat keeps
pub worker-does : {t : Identity} {old new : WorkerSeat} {s : Step} {w : ℕ} {a : StepAnswer}
    → (o : IsWorkerOf t old) → new.seat.me ≡ (record old.seat.me.0 { found = w }, old.seat.me.1)
    → ((k : ℕ) → old.seat.me.0.worker ≡ Some k → Worked old.seat.me.0.sizes k s w)
    → ((b : Board) → Holds b → w ≡ first_word b.core
    → answer b.core (t.sizes.nodes + o.number) s ≡ a) → WorkerDoes t new s a
worker-does {t} {old} {new} {s} {w} o same did says =
    let found = sym (ap (λ m. m.0.found) same) in let is = ap (λ m. m.0.worker) o.view in
    let d : Worked t.sizes o.number s new.seat.me.0.found = subst (Worked t.sizes o.number s) found
    (subst (λ z. Worked z o.number s w) (ap (λ m. m.0.sizes) o.view) (did o.number is)) in record {
      number = o.number;
      is = ap (λ m. m.0.worker) same ∙ is;
      did = d;
      says = says d.before d.holds (found ∙ d.word);
    }

-- what word 0 tells
pub seen-read : (b : Board) → Holds b → core.seen_in b.core ≡ seen_in_word (first_word b.core)
seen-read b h = grind (arith, pending-small, le-leb, lt-leb)
