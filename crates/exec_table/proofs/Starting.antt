-- The state at the start, and how the root's view is dealt to the nodes' seats.
use Rattle.exec_table.proofs.Imports.{Chunk, CoreState, Distinct, ViewFits, Holds, IsSeen, LaneHolds, List, NodeView, None, Option, PortState, Shown, Sizes, Splits, StageHolds, View, [], ap, arith, cases_lt, cond, edge_count, eqb, false, first_view, fits, get_elem?, get_or, get_or-map-range_with_len, get_or_past, home_of, inl, inr, length, length-map, length-map-range_with_len, map, no_lane, node_view, one, opening, port_at, range_with_len, refl, set, some, some-injective, some-ne-none, start, start-laws, start_board, start_node, start_stage, subst, suc, sym, true, words_of, zero, ℕ, ⊎_elim, ◌++◌, ◌+◌, ◌-◌, ◌<◌, ◌∙◌, ◌∷◌, ◌≡◌, ◌≢◌, ◌≤◌, ◌⊎◌, length-set, deque_capacity, node_words, wire_words, port_words, length-append, rest_of, without_first_node, just_first, IsOpen, sizes_in, ExecTable, identity_of, NodeSeat, learned-start, ports-length, append_assoc, replicate, first_or_none}
use Rattle.exec_table.proofs.Hands.{view-turn, home-turn}
use Rattle.exec_table.proofs.Showing.{fits-one, fits-owned, fits-set, shown_by_other_views}

-- ---- the laws

lane-start : (ps : List PortState) (e : ℕ) → get_or (map (λ _. no_lane) ps) e no_lane ≡ no_lane
lane-start [] e = refl
lane-start (p ∷ ps) zero = refl
lane-start (p ∷ ps) (suc e) = lane-start ps e

port-bare : (s : Sizes) (e : ℕ) → LaneHolds (port_at (start s) e) no_lane
port-bare s e = grind (arith, cases_lt, get_or-map-range_with_len, ports-length, get_or_past)

live-stage : (s : Sizes) (n : ℕ) → StageHolds s n (start_node s n) (start_stage s n)
live-stage s n = grind arith

pub start-holds : (s : Sizes) → fits s ≡ true → Holds (start_board s)
start-holds s fit = record {
  laws = start-laws s fit;
  lane_count = length-map (start s).ports (λ _. no_lane);
  stage_count = length-map-range_with_len (start_stage s) 0 s.nodes
      ∙ sym (length-map-range_with_len (start_node s) 0 s.nodes);
  lanes = λ e. subst (LaneHolds (port_at (start s) e)) (sym (lane-start (start s).ports e))
      (port-bare s e);
  stages = λ n. let which = cases_lt n s.nodes in let live = live-stage s n in
      grind (arith, which, live, get_or-map-range_with_len, length-map-range_with_len, get_or_past);
}

-- ---- the rule

-- the nodes from the number a on, k of them
abbrev pub nodes_from : Sizes → ℕ → ℕ → List NodeView
nodes_from s a k = map (node_view (start_board s)) (range_with_len a k)

pub from-at : (s : Sizes) (a k i : ℕ) (x : NodeView) → get_elem? (nodes_from s a k) i ≡ some x
    → (i < k) × (x ≡ node_view (start_board s) (a + i))
from-at s a zero i x h = absurd (some-ne-none x (sym h))
from-at s a (suc k) zero x h = grind (arith, some-injective _ x h)
from-at s a (suc k) (suc i) x h = grind (arith, from-at s (a + 1) k i x h)

from-apart : (s : Sizes) (a k : ℕ) → Distinct (nodes_from s a k)
from-apart s a zero = tt
from-apart s a (suc k) = grind (arith, from-at s (a + 1) k, from-apart s (a + 1) k)

homes-start : (ps : List PortState) (n : ℕ) → n ≡ length ps
    → map some (replicate {A = Option Chunk} n None) ≡ map home_of (map (λ _. no_lane) ps)
homes-start [] n h = grind (arith, h)
homes-start (p ∷ ps) zero h = absurd (omega arith)
homes-start (p ∷ ps) (suc n) h = grind (arith, homes-start ps n)

pub starts : (s : Sizes) (ws : List ℕ) (n : ℕ) → fits s ≡ true → ws ≡ words_of (start s)
    → n ≡ length (start s).ports
    → Shown s (opening ws (replicate {A = Option Chunk} n None) (first_view s))
starts s ws n fit words count = record {
  board = start_board s;
  holds = start-holds s fit;
  sizes = refl;
  words = words;
  homes = homes-start (start s).ports n count;
  owner = λ _. 0;
  seats = λ j v q. only j v q;
}
  where
    only : (j : ℕ) (v : View) → get_elem? (first_view s ∷ []) j ≡ some v
        → ViewFits (start_board s) (λ _. 0) j v
    only zero v q = grind (arith, from-at s 0 s.nodes, from-apart s 0 s.nodes)
    only (suc j) v q = absurd (some-ne-none v (sym q))

-- ---- dealing

pub one-more : {A : Type 0} (l : List A) (a b : A) (j n : ℕ) → length l ≡ n
    → get_elem? (l ++ a ∷ []) j ≡ some b → (get_elem? l j ≡ some b) ⊎ ((j ≡ n) × (a ≡ b))
one-more [] a b zero n e h = inr (e, some-injective a b h)
one-more [] a b (suc j) n e h = absurd (some-ne-none b (sym h))
one-more (y ∷ ys) a b zero n e h = inl h
one-more (y ∷ ys) a b (suc j) n e h = grind (arith, one-more ys a b j (length ys) refl h)

-- the first node of a seat goes to a new seat
pub peels : (key : Sizes) (id : ℕ) (v : View) (x : NodeView) (xs : List NodeView) → v.nodes ≡ x ∷ xs
    → Splits (Shown key) id v (without_first_node v) (just_first v)
peels key id v x xs is st r mine = shown_by_other_views r refl refl owner (λ j u q. ⊎_elim
    (fits-set _ _ _ (ViewFits r.board owner) left (λ j u. others j u) j u)
    (λ (t : (j ≡ new) × (just_first v ≡ u)). subst
    (λ (z : ℕ × View). ViewFits r.board owner z.0 z.1)
    (λ k. (sym t.0 k, t.1 k)) right)
    (one-more (set st.views id (without_first_node v)) (just_first v) u j new
    (length-set st.views id (without_first_node v)) q))
  where
    new : ℕ
    new = length st.views

    owner : ℕ → ℕ
    owner n = cond (eqb n x.number) new (r.owner n)

    was : ViewFits r.board r.owner id v
    was = r.seats id v mine

    here : IsSeen r.board r.owner id x
    here = was.each 0 x (ap (λ l. get_elem? l 0) is)

    apart : Distinct (x ∷ xs)
    apart = subst Distinct is was.apart

    left : ViewFits r.board owner id (without_first_node v)
    left = record {
      each = λ i y q. let p = sym (ap (λ l. get_elem? (rest_of l) i) is) ∙ q in
          let z = was.each (suc i) y (ap (λ l. get_elem? l (suc i)) is ∙ p) in record {
            is = z.is;
            inside = z.inside;
            owned = let o = z.owned in grind (arith, apart.0 i y p, o);
          };
      apart = subst (λ l. Distinct (rest_of l)) (sym is) apart.1;
      noted = λ i w q. absurd (some-ne-none w (sym q));
      made = was.made;
      worker = λ k p. absurd (cc);
    }

    right : ViewFits r.board owner new (just_first v)
    right = subst (λ y. ViewFits r.board owner new (one y)) (sym (ap first_or_none is))
        (fits-one r.board owner new (one x) x refl refl (omega arith) (λ k p. absurd (cc))
        record { is = here.is; inside = here.inside; owned = grind arith })

    others : (j : ℕ) (u : View) → j ≢ id → get_elem? st.views j ≡ some u
        → ViewFits r.board owner j u
    others j u ne q = fits-owned r.board r.owner owner j j u (r.seats j u q)
        (λ n p. let o = here.owned in grind (arith, p, o, ne))

pub first-of : (s : Sizes) (i n : ℕ) → i < n
    → nodes_from s i (n - i) ≡ node_view (start_board s) i ∷ nodes_from s (i + 1) (n - (i + 1))
first-of s i n h = ap (nodes_from s i) (let z : n - i ≡ suc (n - (i + 1)) = omega arith in z)

-- a seat as it was dealt
pub dealt_is_open : (t : ExecTable) (s : NodeSeat) (k : ℕ) → s.seat.table_id
    ≡ t.table.shared.table_id → k < (sizes_in t).nodes → s.node ≡ k → s.seat.me ≡ (
      one (node_view (start_board (sizes_in t)) k),
      [],
    ) → s.held.items ≡ [] → edge_count (sizes_in t) ≤ deque_capacity s.held
    → IsOpen (identity_of t) k s
dealt_is_open t s k table less node me held room =
    let bare = lane-start in let none = home-turn in
    grind (arith, length-map-range_with_len, start-holds, view-turn, none, bare, learned-start)

-- the words of a state, put together
pub words-made : (c : CoreState) (all : List ℕ) (p : ℕ) (ns ws fs : List ℕ) → c.stopped ≡ false
    → all ≡ (((p ∷ []) ++ ns) ++ ws) ++ fs → p ≡ c.pending → ns ≡ node_words c → ws ≡ wire_words c
    → fs ≡ port_words c → all ≡ words_of c
words-made c all p ns ws fs off is first nodes wires flags =
    grind (arith, append_assoc (node_words c) (wire_words c) (port_words c))

pub words-count : (c : CoreState)
    → length (words_of c) ≡ (length c.nodes + (length c.ports + length c.ports)) + 1
words-count c = grind (arith, length-map, length-append)

pub words-long : (s : Sizes)
    → length (words_of (start s)) ≡ (s.nodes + (edge_count s + edge_count s)) + 1
words-long s = search (arith, length-map-range_with_len, ports-length, words-count)
