-- Views joined and words noted keep the rule.
use Rattle.exec_table.proofs.Imports.{Allows, Board, Distinct, ViewFits, Holds, Joins, List, NodeView, Sat, Shown, Sizes, View, [], ap, arith, at_index, at_set, drop, cond, edge_count, eqb, false, get_elem?, get_or, get_or_default, inl, inr, keeps, length, no_view, refl, set, some, some-injective, some-ne-none, subst, suc, sym, take, unstopped, words_of, zero, length-map, map-append, ℕ, ⊎_elim, ◌++◌, ◌+◌, ◌<◌, ◌∙◌, ◌∷◌, ◌≡◌, ◌≢◌, ◌≤◌, ◌⊎◌, Enters, IsFinal, just_first, first_or_none, IsSeatOf, slots, view, Identity, AreAll, HasAll, EachSeat, IsBack, IsLent, Surveyed, joined_views, noted_word, noting, views, NodeSeat, at_map, drop_at, ext_get_or, Chunk, Lane, None, Option, Seen, home_of, map, no_lane}
use Rattle.atomic_table.specs.Table.{Final as AtEnd}
use Rattle.exec_table.specs.declared.shut.Final.{Final}
use Rattle.exec_table.proofs.Wording.{pending-small}
use Rattle.exec_table.proofs.Seating.{shown_to_new_view}
use Rattle.exec_table.proofs.Showing.{fits-none, fits-owned, fits-set, shown_by_other_views, stopped_at, stopped-holds}
use Rattle.exec_table.proofs.Starting.{one-more, words-count}

-- ---- joined views

at-append : {A : Type 0} (l k : List A) (i : ℕ) (a : A) → get_elem? (l ++ k) i ≡ some a
    → (get_elem? l i ≡ some a) ⊎ ((j : ℕ) × (get_elem? k j ≡ some a))
at-append [] k i a h = inr (i, h)
at-append (x ∷ xs) k zero a h = inl h
at-append (x ∷ xs) k (suc i) a h = at-append xs k i a h

apart-append : (l k : List NodeView) → Distinct l → Distinct k
    → ((i j : ℕ) (x y : NodeView) → get_elem? l i ≡ some x → get_elem? k j ≡ some y
    → x.number ≢ y.number) → Distinct (l ++ k)
apart-append [] k d e ne = e
apart-append (x ∷ xs) k d e ne = (
  (λ i y q. ⊎_elim (λ (z : get_elem? xs i ≡ some y). d.0 i y z)
      (λ (z : (j : ℕ) × (get_elem? k j ≡ some y)). ne 0 z.0 x y refl z.1) (at-append xs k i y q)),
  apart-append xs k d.1 e (λ i j a b p q. ne (suc i) j a b p q),
)

-- a seat takes in the nodes of another
pub joins : (key : Sizes) (id other : ℕ) (v w : View) → Joins (Shown key) id v other w
    (joined_views v w) no_view
joins key id other v w st r mine apart theirs = shown_by_other_views r refl refl owner
    (fits-set _ _ _ (ViewFits r.board owner) (fits-none r.board owner other no_view refl refl
    (omega arith)
    (λ k p. absurd (cc)))
    (λ j u ne q. fits-set _ _ _ (λ j u. j ≢ other → ViewFits r.board owner j u)
    (λ _. both) (λ j u a q b. others j u b a q) j u q ne))
  where
    owner : ℕ → ℕ
    owner n = cond (eqb (r.owner n) other) id (r.owner n)

    same : (n j : ℕ) → j ≢ other → r.owner n ≡ j → owner n ≡ j
    same n j ne q = grind (arith, q, ne)

    mine_was : ViewFits r.board r.owner id v
    mine_was = r.seats id v mine

    was : ViewFits r.board owner id v
    was = fits-owned r.board r.owner owner id id v mine_was
        (λ n. same n id (λ e. apart (sym e)))

    theirs_was : ViewFits r.board r.owner other w
    theirs_was =
        r.seats other w (grind (arith, at_set st.views id other (joined_views v w) w theirs))

    it : ViewFits r.board owner id w
    it = fits-owned r.board r.owner owner other id w theirs_was
        (λ n q. grind (arith, q))

    both : ViewFits r.board owner id (joined_views v w)
    both = record {
      each = λ i x q. grind (arith, was.each i x, it.each, at-append v.nodes w.nodes i x q);
      apart = apart-append v.nodes w.nodes was.apart it.apart (λ i j x y p q e.
          grind (arith, theirs_was.each j y q, mine_was.each i x p));
      noted = λ i n q. absurd (some-ne-none n (sym q));
      made = was.made;
      worker = was.worker;
    }

    others : (j : ℕ) (u : View) → j ≢ other → j ≢ id → get_elem? st.views j ≡ some u
        → ViewFits r.board owner j u
    others j u a b q = fits-owned r.board r.owner owner j j u (r.seats j u q) (λ n. same n j a)

-- ---- noted words

-- a word without the stop bit
noted-is : (b : Board) (i : ℕ) → Holds b → get_or (words_of (unstopped b.core)) i 0
    ≡ noted_word i (get_or (words_of b.core) i 0)
noted-is b zero h = grind (arith, pending-small)
noted-is b (suc i) h = grind arith

-- a seat that has every node notes one more word
pub note-allowed : (key : Sizes) (slots id i : ℕ) (m : Sat) → HasAll key.nodes m.0
    → length m.0.noted ≡ i
    → Allows (Shown key) slots id m i (λ n. n) (λ n m'. m' ≡ (noting i n m.0, m.1))
note-allowed key slots id i m all next st r deep mine fit = (
  noting i (get_or st.words i 0) m.0,
  keeps,
  tt,
  shown_to_new_view key st r id i m (noting i (get_or st.words i 0) m.0) (record {
    each = was.each;
    apart = was.apart;
    noted = λ j w q. ⊎_elim (λ (t : get_elem? m.0.noted j ≡ some w). was.noted j w t)
        (λ (t : (j ≡ i) × (noted_word i (get_or st.words i 0) ≡ w)). record {
          is = let is = noted-is r.board i r.holds in grind (arith, t, is, r.words);
          all = λ n l. let x = all n (subst (λ s. n < s.nodes) r.sizes l) in
              ap r.owner (sym x.3) ∙ (was.each x.0 x.1 x.2).owned;
        }) (one-more m.0.noted (noted_word i (get_or st.words i 0)) w j i next q);
    made = was.made;
    worker = was.worker;
  }),
  refl,
)
  where
    was : ViewFits r.board r.owner id m.0
    was = r.seats id m.0 mine

-- once it has noted every word, one more load tells that they are the words of one state
pub survey-allowed : (key : Sizes) (slots id i : ℕ) (m : Sat)
    → length m.0.noted ≡ (key.nodes + (edge_count key + edge_count key)) + 1
    → Allows (Shown key) slots id m i (λ n. n) (λ n m'. (m' ≡ m) × Surveyed m.0.noted m.0.nodes)
survey-allowed key slots id i m full st r deep mine fit = (
  m.0,
  keeps,
  tt,
  shown_to_new_view key st r id i m m.0 was,
  (
    refl,
    record {
      board = stopped_at false r.board;
      holds = stopped-holds false r.board r.holds;
      all = ext_get_or 0 m.0.noted (words_of (unstopped r.board.core))
          (let long = words-count (unstopped r.board.core) in let laws = r.holds.laws in
          grind (arith, long, laws.nodes.number, laws.edges.count))
          (λ k l. sym (was.noted k _ (at_index m.0.noted k (get_or m.0.noted k 0) l
          (get_or_default m.0.noted k 0 _ l))).is);
      seen = λ k x q. (was.each k x q).is;
    },
  ),
)
  where
    was : ViewFits r.board r.owner id m.0
    was = r.seats id m.0 mine

-- a new seat knows nothing
pub enter-allowed : (key : Sizes) (slots i : ℕ) → Enters (Shown key) slots i (λ n w. w ≡ no_view)
enter-allowed key slots i st r deep fit = (
  no_view,
  shown_by_other_views r refl refl r.owner (λ j u q. ⊎_elim (r.seats j u)
      (λ (t : (j ≡ length st.views) × (no_view ≡ u)). subst (ViewFits r.board r.owner j) t.1
      (fits-none r.board r.owner j no_view refl refl (omega arith) (λ k p. absurd (cc))))
      (one-more st.views no_view u j (length st.views) refl q)),
  refl,
)

-- ---- seats one by one

pub has-still : (count : ℕ) (v w : View) → w.nodes ≡ v.nodes → HasAll count v → HasAll count w
has-still count v w same all n less = grind (arith, all n less)

below : {A : Type 0} (l : List A) (i : ℕ) (a : A) → get_elem? l i ≡ some a → i < length l
below [] i a e = absurd (some-ne-none a (sym e))
below (x ∷ xs) zero a e = omega arith
below (x ∷ xs) (suc i) a e = let h = below xs i a e in omega arith

-- of seats gone through one by one the first i are as P says, and the others as Q says
abbrev pub Between : (P Q : NodeSeat → NodeSeat → Type 0) → ℕ → List NodeSeat → List NodeSeat
    → Type 0
Between P Q i olds news = (k : ℕ) (s : NodeSeat) → get_elem? news k ≡ some s
    → (was : NodeSeat) × (get_elem? olds k ≡ some was) × (k < i → P was s) × (i ≤ k → Q was s)

pub each-next : (P Q : NodeSeat → NodeSeat → Type 0) (olds ss : List NodeSeat) (i : ℕ)
    (s r : NodeSeat) → get_elem? olds i ≡ some s → P s r → Between P Q i olds ss
    → Between P Q (i + 1) olds (set ss i r)
each-next P Q olds ss i s r at new each k t h = ⊎_elim
    (λ (y : (k ≡ i) × (r ≡ t)). let z = y.0 in
    (s, ap (get_elem? olds) z ∙ at, (λ _. subst (P s) y.1 new), (λ l. absurd (omega arith))))
    (λ (y : (k ≢ i) × (get_elem? ss k ≡ some t)). let x = each k t y.1 in let n = y.0 in
    (x.0, x.1, (λ l. x.2 (omega arith)), (λ l. x.3 (omega arith)))) (at_set ss i k r t h)

pub each-all : (P Q : NodeSeat → NodeSeat → Type 0) (olds ss : List NodeSeat) (i : ℕ)
    → Between P Q i olds ss → length ss ≤ i → EachSeat P olds ss
each-all P Q olds ss i each all k s h = let x = each k s h in let l = below ss k s h in
    (x.0, x.1, x.2 (omega arith))

-- one more of a list is taken
pub taken-next : {A : Type 0} (l now next : List A) (i : ℕ) (a : A) → now ≡ take i l
    → next ≡ now ++ a ∷ [] → get_elem? l i ≡ some a → next ≡ take (i + 1) l
taken-next [] now next i a is more h = absurd (some-ne-none a (sym h))
taken-next (x ∷ xs) now next zero a is more h = grind (arith, some-injective x a h)
taken-next (x ∷ xs) now next (suc i) a is more h =
    grind (arith, taken-next xs (take i xs) (take i xs ++ a ∷ []) i a refl refl h)

pub next-view : (ss : List NodeSeat) (i : ℕ) (s : NodeSeat) → get_elem? ss i ≡ some s
    → views (take (i + 1) ss) ≡ views (take i ss) ++ view s ∷ []
next-view ss i s h = grind (arith, taken-next, map-append view (take i ss) (s ∷ []))

pub at-now : (ss : List NodeSeat) (i : ℕ) (a : NodeSeat) → i < length ss → a ≡ get_or ss i a
    → get_elem? ss i ≡ some (get_or ss i a)
at-now ss i a less is = subst (λ s. get_elem? ss i ≡ some s) is (at_index ss i a less is)

there : {A : Type 0} (l : List A) (i : ℕ) → i < length l → (a : A) × (get_elem? l i ≡ some a)
there [] i h = absurd (omega arith)
there (x ∷ xs) zero h = (x, refl)
there (x ∷ xs) (suc i) h = there xs i (omega arith)

-- who has the views of all seats has each node
pub all-there : (t : Identity) (seats : List NodeSeat) (v : View) → AreAll t seats
    → v.nodes ≡ views seats → HasAll t.sizes.nodes v
all-there t seats v all is n less = let c = all.0 in let s = there seats n (omega arith) in
    (n, view s.0, ap (λ l. get_elem? l n) is ∙ at_map view seats n s.0 s.1, (all.1 n s.0 s.1).1)

-- the seat whose turn it is comes first among those that are left
pub left-views : (seats : List NodeSeat) (i : ℕ) (s : NodeSeat) → get_elem? seats i ≡ some s
    → views (drop i seats) ≡ view s ∷ views (drop (i + 1) seats)
left-views seats i s h = grind (arith, drop_at)

-- a seat that has its node again
pub is-back : (t : Identity) (was lent s : NodeSeat) (v : View) → IsSeatOf t was → IsLent was lent
    → first_or_none v.nodes ≡ view was → s.seat.table_id ≡ lent.seat.table_id
    → s.seat.me ≡ (joined_views lent.seat.me.0 (just_first v), lent.seat.me.1) → s.node ≡ lent.node
    → s.held ≡ lent.held → IsBack t was s
is-back t was lent s v o l first table me node held = grind arith

-- ---- the end

-- the last words and slots, and what a seat knew, are those of one state
pub ends_are_final : (key : Sizes) (id : ℕ) (v : View) (nodes : List NodeView) (f : Final)
    (ws : List ℕ)
    (xs : List (Option Chunk)) → AtEnd (Seen (Shown key) id v) ws xs → f.words ≡ ws
    → f.left.items ≡ xs → v.nodes ≡ nodes → IsFinal nodes f
ends_are_final key id v nodes f ws xs e words chunks is = let r = e.1.0 in record {
  shown = record {
    board = r.board;
    holds = r.holds;
    all = words ∙ (sym e.2 ∙ r.words);
    seen = λ i x q. ((r.seats id v e.1.1).each i x (ap (λ l. get_elem? l i) is ∙ q)).is;
  };
  slots = λ i home. ap (λ l. get_or l i None) chunks ∙ lies r.board.lanes xs i home
      (sym (length-map r.board.lanes home_of) ∙ (ap length (sym r.homes) ∙ e.3))
      (λ y q. e.4 i y (ap (λ l. get_elem? l i) r.homes ∙ q));
}
  where
    lies : (ls : List Lane) (xs : List (Option Chunk)) (i : ℕ)
        → (get_or ls i no_lane).taken ≡ false → length ls ≡ length xs
        → ((y : Option Chunk) → get_elem? (map home_of ls) i ≡ some (some y)
        → get_elem? xs i ≡ some y) → get_or xs i None ≡ (get_or ls i no_lane).content
    lies [] [] i home long at = refl
    lies [] (x ∷ xs) i home long at = absurd (omega arith)
    lies (l ∷ ls) [] i home long at = absurd (omega arith)
    lies (l ∷ ls) (x ∷ xs) zero home long at = grind (arith, some-injective, at l.content)
    lies (l ∷ ls) (x ∷ xs) (suc i) home long at = lies ls xs i home (omega arith) at
