-- The tie of the running table to the core: an atomic step of a node's seat, whose view is ready
-- for a step of the core, keeps the rule and tells that step.
use Rattle.exec_table.proofs.Imports.{Allows, Board, Bool, Chunk, Did, ViewFits, Holds, IsSeen, Lane, List, NodeView, None, Option, Sat, Shown, Sizes, Some, State, Step, Valid, View, [], and_parts, ap, arith, at_index, at_map, board_after, cond_both, eqb-true, false, finding, fits_end, found_by, front, get_elem?, get_or, get_or_default, home_of, homes_after, in_hand, is_at_hand, is_empty_hand, is_full_hand, lanes_after, length, looked_at, map, map-set, may, node_view, not, place, ready, refl, rest, set, set-get_or, sizes-kept, slot_act, some, stepped, subst, sym, true, words_of, ℕ, ◌&&◌, ◌<◌, ◌∙◌, ◌∷◌, ◌≡◌, ◌≢◌, ◌≤◌, end-of}
use Rattle.exec_table.proofs.Readiness.{ready-may, view-end}
use Rattle.exec_table.proofs.Moving.{Moved}
use Rattle.exec_table.proofs.Showing.{fits-set}
use Rattle.exec_table.proofs.Wording.{op, word-after}
use Rattle.exec_table.proofs.Stepping.{AtHand, act-parts, holds-in}
use Rattle.exec_table.proofs.Kept.{each_step_moves, holds-after}
use Rattle.core_laws.specs.declared.types.Step.TheVariants as step

-- ---- what is at hand

pub filled-hand : (e : ℕ) (slots : List (ℕ × Option Chunk)) → is_full_hand (in_hand e slots) ≡ true
    → (y : Chunk) × (slots ≡ (e, Some y) ∷ rest slots)
filled-hand e [] h = absurd (let z : false ≡ true = h in cc)
filled-hand e ((d, x) ∷ ys) h = grind arith

pub emptied-hand : (e : ℕ) (slots : List (ℕ × Option Chunk)) → is_empty_hand
    (in_hand e slots) ≡ true → slots ≡ (e, None) ∷ rest slots
emptied-hand e [] h = absurd (let z : false ≡ true = h in cc)
emptied-hand e ((d, x) ∷ ys) h = grind arith

pub at-hand : (b : Board) (n : ℕ) (s : Step) (slots : List (ℕ × Option Chunk)) → Holds b
    → ready (node_view b n) s ≡ true → may b.core n s ≡ true → is_at_hand s slots ≡ true
    → AtHand b s (front slots)
at-hand b n (step.Push d j) slots h r g full =
    grind (arith, filled-hand, eqb-true, and_parts, view-end, act-parts, holds-in, end-of)
at-hand b n s slots h r g full = record { pushed = λ e k q. absurd (cc) }

-- ---- slots

pub look-nothing : (a : Bool) (l : Lane) → (not l.taken && fits_end a l.content) ≡ false
    → looked_at a l ≡ l
look-nothing a l h = ap (λ t. record l { taken = t }) (grind arith)

homes-kept : (b : Board) (n : ℕ) (s : Step) (slots : List (ℕ × Option Chunk))
    → is_at_hand s slots ≡ true → homes_after (map home_of b.lanes) slots (slot_act b n s)
    ≡ map home_of (lanes_after b n s (front slots))
homes-kept b n (step.Look e) slots hand =
    grind (arith, cond_both, map-set, look-nothing, set-get_or)
homes-kept b n (step.Push e k) slots hand = grind (arith, filled-hand, map-set)
homes-kept b n (step.Pull e) slots hand = grind (arith, emptied-hand, map-set)
homes-kept b n s slots hand = refl

read-map : {A B : Type 0} (f : A → B) (l : List A) (i : ℕ) (d : A) → i < length l
    → get_elem? (map f l) i ≡ some (f (get_or l i d))
read-map f l i d h = at_map f l i _ (at_index l i _ h (get_or_default l i d _ h))

slot-valid : (b : Board) (n : ℕ) (s : Step) (slots : List (ℕ × Option Chunk)) → Holds b
    → may b.core n s ≡ true → Valid (map home_of b.lanes) slots (slot_act b n s)
slot-valid b n (step.Look e) slots h g = grind (arith, cond_both, read-map, holds-in)
slot-valid b n s slots h g = tt

-- ---- the rule after a step

module _ (key : Sizes) (slots id : ℕ) (m : Sat) (x : NodeView) (s : Step) (i : ℕ) (f : ℕ → ℕ)
    (single : m.0.nodes ≡ x ∷ []) (g : ready x s ≡ true) (hand : is_at_hand s m.1 ≡ true)
    (at : (b : Board) → Holds b → node_view b x.number ≡ x → b.core.sizes ≡ key
    → may b.core x.number s ≡ true
    → (i ≡ place b.core x.number s) × ((w : ℕ) → f w ≡ op b.core x.number s w)) where
  abbrev n : ℕ
  n = x.number

  module _ (st : State (Option Chunk) View) (r : Shown key st)
      (mine : get_elem? st.views id ≡ some m.0) where
    abbrev b : Board
    b = r.board

    abbrev d : Board
    d = board_after b n s (front m.1)

    here : IsSeen b r.owner id x
    here = (r.seats id m.0 mine).each 0 x (ap (λ l. get_elem? l 0) single)

    can : may b.core n s ≡ true
    can = ready-may b n s r.holds here.inside (subst (λ y. ready y s ≡ true) here.is g)

    handed : AtHand b s (front m.1)
    handed = at-hand b n s m.1 r.holds (subst (λ y. ready y s ≡ true) here.is g) can hand

    did : Moved b d n
    did = each_step_moves b n s (front m.1) r.holds here.inside can handed

    what : (i ≡ place b.core n s) × ((w : ℕ) → f w ≡ op b.core n s w)
    what = at b r.holds (sym here.is) r.sizes can

    sizes : d.core.sizes ≡ b.core.sizes
    sizes = sizes-kept b.core n s

    found : get_or st.words i 0 ≡ found_by b.core n s
    found = λ k. get_or (r.words k) (what.0 k) 0

    words : set st.words i (f (get_or st.words i 0)) ≡ words_of d.core
    words = let now = word-after b n s r.holds here.inside can in
        grind (arith, r.words, what.0, what.1 (get_or st.words i 0), found, now)

    -- another seat has other nodes, and has noted no words
    others : (j : ℕ) (v : View) → j ≢ id → ViewFits b r.owner j v → ViewFits d r.owner j v
    others j v ne t = record {
      each = λ k y q. let z = t.each k y q in let z_owned = z.owned in record {
        is = z.is ∙ sym (did.others y.number (λ e. ne (sym z.owned ∙ (ap r.owner e ∙ here.owned))));
        inside = subst (λ l. y.number < l.nodes) (sym sizes) z.inside;
        owned = z.owned;
      };
      apart = t.apart;
      noted = λ k w q. absurd (ne (sym ((t.noted k w q).all n here.inside) ∙ here.owned));
      made = subst (λ l. v.made ≤ l.workers) (sym sizes) t.made;
      worker = λ k q. subst (λ l. k < l.workers) (sym sizes) (t.worker k q);
    }

    own : ViewFits d r.owner id (finding (get_or st.words i 0) (node_view d n))
    own = grind (arith, sizes, here.inside, here.owned)

    keeps-rule : Shown key (stepped st i (f (get_or st.words i 0)) id m.1
        (finding (get_or st.words i 0) (node_view d n)) (slot_act b n s))
    keeps-rule = record {
      board = d;
      holds = holds-after b n s (front m.1) r.holds here.inside can handed;
      sizes = sizes ∙ r.sizes;
      words = words;
      homes = ap (λ l. homes_after l m.1 (slot_act b n s)) r.homes ∙ homes-kept b n s m.1 hand;
      owner = r.owner;
      seats = fits-set _ _ _ (ViewFits d r.owner) own (λ j v ne q. others j v ne (r.seats j v q));
    }

  -- the seat may make the step, and is told it
  pub tied : Allows (Shown key) slots id m i f (Did x s m.1)
  tied st r deep mine fit = (
    finding (get_or st.words i 0) (node_view (d st r mine) n),
    slot_act (b st r mine) n s,
    subst (λ l. Valid l m.1 (slot_act (b st r mine) n s)) (sym r.homes)
        (slot-valid r.board n s m.1 r.holds (can st r mine)),
    keeps-rule st r mine,
    record {
      before = r.board;
      holds = r.holds;
      was = sym (here st r mine).is;
      may = can st r mine;
      kept = holds-after r.board n s (front m.1) r.holds (here st r mine).inside (can st r mine)
          (handed st r mine);
      word = found st r mine;
      view = refl;
      hand = refl;
    },
  )
