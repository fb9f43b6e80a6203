-- What shows that a table whose views changed still keeps the rule.
use Rattle.exec_table.proofs.Imports.{Board, Bool, Chunk, Holds, IsSeen, List, NodeView, Option, Shown, Sizes, Some, State, View, ViewFits, [], arith, at_set, get_elem?, set, some, ℕ, ◌<◌, ◌∙◌, ◌∷◌, ◌≡◌, ◌≢◌, ◌≤◌}

-- a view of no node fits
pub fits-none : (b : Board) (owner : ℕ → ℕ) (j : ℕ) (v : View) → v.nodes ≡ [] → v.noted ≡ []
    → v.made ≤ b.core.sizes.workers → ((k : ℕ) → v.worker ≡ Some k → k < b.core.sizes.workers)
    → ViewFits b owner j v
fits-none b owner j v nodes noted made worker = grind arith

-- a view of one node fits where the node is seen as it is
pub fits-one : (b : Board) (owner : ℕ → ℕ) (j : ℕ) (v : View) (x : NodeView) → v.nodes ≡ x ∷ []
    → v.noted ≡ [] → v.made ≤ b.core.sizes.workers
    → ((k : ℕ) → v.worker ≡ Some k → k < b.core.sizes.workers) → IsSeen b owner j x
    → ViewFits b owner j v
fits-one b owner j v x nodes noted made worker seen = grind arith

-- one of the views changed
pub fits-set : (vs : List View) (id : ℕ) (w : View) (F : ℕ → View → Type 0) → F id w
    → ((j : ℕ) (v : View) → j ≢ id → get_elem? vs j ≡ some v → F j v)
    → (j : ℕ) (v : View) → get_elem? (set vs id w) j ≡ some v → F j v
fits-set vs id w F new others j v q = grind (arith, at_set)

-- the same board, shown by other views
pub shown_by_other_views : {key : Sizes} {st now : State (Option Chunk) View} (r : Shown key st)
    → now.words ≡ st.words → now.homes ≡ st.homes → (owner : ℕ → ℕ)
    → ((j : ℕ) (v : View) → get_elem? now.views j ≡ some v → ViewFits r.board owner j v)
    → Shown key now
shown_by_other_views r words homes owner seats = record {
  board = r.board;
  holds = r.holds;
  sizes = r.sizes;
  words = words ∙ r.words;
  homes = homes ∙ r.homes;
  owner = owner;
  seats = seats;
}

-- a view that fits one owner of nodes fits another that gives it as much
pub fits-owned : (b : Board) (owner now : ℕ → ℕ) (j k : ℕ) (v : View) → ViewFits b owner j v
    → ((n : ℕ) → owner n ≡ j → now n ≡ k) → ViewFits b now k v
fits-owned b owner now j k v t to = record {
  each = λ i x q. let z = t.each i x q in
      record { is = z.is; inside = z.inside; owned = to x.number z.owned };
  apart = t.apart;
  noted = λ i w q. let z = t.noted i w q in record { is = z.is; all = λ n l. to n (z.all n l) };
  made = t.made;
  worker = t.worker;
}

-- the same board, stopped or not
abbrev pub stopped_at : Bool → Board → Board
stopped_at t b = record b { core = record b.core { stopped = t } }

pub stopped-holds : (t : Bool) (b : Board) → Holds b → Holds (stopped_at t b)
stopped-holds t b h = grind arith

pub stopped-fits : (t : Bool) (b : Board) (owner : ℕ → ℕ) (j : ℕ) (v : View) → ViewFits b owner j v
    → ViewFits (stopped_at t b) owner j v
stopped-fits t b owner j v f = record {
  each = λ i x q. let z = f.each i x q in record { is = z.is; inside = z.inside; owned = z.owned };
  apart = f.apart;
  noted = λ i w q. let z = f.noted i w q in record { is = z.is; all = z.all };
  made = f.made;
  worker = f.worker;
}
