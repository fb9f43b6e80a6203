-- Each step of a seat keeps the rule of notes, from its first state on.
use Rattle.growth_notes.proofs.Imports.{Allows, Appends, AreFirst, AreNoted, Bool, Compares, HasSeen, Joins, List, NoteView, Root, Splits, State, Writer, [], ap, append-nil, append_assoc, appended, arith, as_copy, as_root_of_next, at_index, at_set, cond, copied, eq-eqb, eqb, exchanged, first_note, get_elem?, get_or, get_or-set_other, get_or-set_same, inl, inr, joining, keeps, length, length-append, length-replicate, length-set, may_append, mod-add-mod, ne_eqb, dite, either, eqb-true, le-leb, leb-true, none, opening, refl, replicate, set, set_again, set_else, some, some-injective, some-ne-none, spent, step, subst, suc, sym, true, writes, zero, ℕ, ℕ_discrete, ⊎_elim, ◌%◌, ◌++◌, ◌+◌, ◌<◌, ◌^◌, ◌∙◌, ◌∷◌, ◌≡◌, ◌≢◌, ◌⊎◌}

-- an element of a list that got one more is one of those before or that one, which stands last
at_push : {A : Type 0} (l : List A) (a b : A) (j : ℕ) → get_elem? (l ++ a ∷ []) j ≡ some b
    → (get_elem? l j ≡ some b) ⊎ ((j ≡ length l) × (a ≡ b))
at_push [] a b zero e = inr (refl, some-injective a b e)
at_push [] a b (suc j) e = absurd (some-ne-none b (sym e))
at_push (x ∷ xs) a b zero e = inl e
at_push (x ∷ xs) a b (suc j) e =
    ⊎_elim (λ t. inl t) (λ t. inr (ap suc t.0, t.1)) (at_push xs a b j e)

no-zeros : (k i : ℕ) → get_or {A = ℕ} (replicate k 0) i 0 ≡ 0
no-zeros zero i = refl
no-zeros (suc k) zero = refl
no-zeros (suc k) (suc i) = no-zeros k i

module _ {G : Type 0} where
  -- ---- the first ones of a list

  first-all : (xs : List G) → AreFirst xs xs
  first-all xs = record { later = []; all = sym (append-nil xs) }

  first-none : (xs : List G) → AreFirst [] xs
  first-none xs = record { later = xs; all = refl }

  first-longer : (xs ys zs : List G) → AreFirst xs ys → AreFirst xs (ys ++ zs)
  first-longer xs ys zs f =
      record { later = f.later ++ zs; all = ap (λ l. l ++ zs) f.all ∙ append_assoc xs f.later zs }

  -- ---- views

  -- what a seat comes to that had seen what v has: it may append to no more
  pub record Becomes (v w : NoteView G) : Type 0 where
    pub seen : (gs : ℕ → List G) → HasSeen gs v → HasSeen gs w
    pub less : (r : ℕ) → writes w r ≡ true → writes v r ≡ true

  -- a copy may append to nothing
  becomes-copy : (v : NoteView G) → Becomes v (as_copy v)
  becomes-copy v = record {
    seen = λ gs h. record {
      seen = h.seen;
      gathered = first-none (gs v.reserve);
      all = λ r e. absurd (cc);
    };
    less = λ r e. absurd (cc);
  }

  -- nor may a seat that was taken in
  becomes-spent : (v : NoteView G) → Becomes v spent
  becomes-spent v = record {
    seen = λ gs h. record {
      seen = first-none (gs 0);
      gathered = first-none (gs 0);
      all = λ r e. absurd (cc);
    };
    less = λ r e. absurd (cc);
  }

  module _ (reserves : ℕ) (s : State G (NoteView G)) (noted : AreNoted reserves s) (id : ℕ)
      (v : NoteView G) (mine : get_elem? s.views id ≡ some v) where
    -- one seat at most may append to a reserve's growths, where this one comes to no more
    once-set : (w : NoteView G) → ((r : ℕ) → writes w r ≡ true → writes v r ≡ true)
        → (j k r : ℕ) (x y : NoteView G) → get_elem? (set s.views id w) j ≡ some x
        → get_elem? (set s.views id w) k ≡ some y → writes x r ≡ true → writes y r ≡ true → j ≡ k
    once-set w less j k r x y ex ey wx wy = ⊎_elim
        (λ p. ⊎_elim (λ q. p.0 ∙ sym q.0)
        (λ q. p.0 ∙ noted.once id k r v y mine q.1
        (less r (subst (λ z. writes z r ≡ true) (sym p.1) wx)) wy)
        (at_set s.views id k w y ey))
        (λ p. ⊎_elim (λ q. noted.once j id r x v p.1 mine wx
        (less r (subst (λ z. writes z r ≡ true) (sym q.1) wy)) ∙ sym q.0)
        (λ q. noted.once j k r x y p.1 q.1 wx wy) (at_set s.views id k w y ey))
        (at_set s.views id j w x ex)

    -- a seat's view changes
    noted-set : (w : NoteView G) → HasSeen noted.growths w
        → ((r : ℕ) → writes w r ≡ true → writes v r ≡ true)
        → AreNoted reserves record { words = s.words; homes = s.homes; views = set s.views id w }
    noted-set w seen less = record {
      wide = noted.wide;
      growths = noted.growths;
      counts = noted.counts;
      seats = λ k x e. ⊎_elim (λ t. subst (HasSeen noted.growths) t.1 seen)
          (λ t. noted.seats k x t.1) (at_set s.views id k w x e);
      once = once-set w less;
    }

  -- a seat's view is cut in two, of which no more than one may append to a reserve's growths
  pub split-noted : (reserves id : ℕ) (v left right : NoteView G) → Becomes v left
      → Becomes v right
      → ((r : ℕ) → writes left r ≡ true → writes right r ≡ true → ⊥)
      → Splits (AreNoted reserves) id v left right
  unfolding noted-set
  split-noted reserves id v left right to_left to_right apart s noted mine = record {
    wide = was.wide;
    growths = was.growths;
    counts = was.counts;
    seats = λ k x e. ⊎_elim (λ t. was.seats k x t)
        (λ t. subst (HasSeen noted.growths) t.1 (to_right.seen noted.growths has))
        (at_push vs right x k e);
    once = λ j k r x y ex ey wx wy. ⊎_elim
        (λ p. ⊎_elim (λ q. was.once j k r x y p q wx wy)
        (λ q. absurd (alone j r x p wx (subst (λ z. writes z r ≡ true) (sym q.1) wy)))
        (at_push vs right y k ey))
        (λ p. ⊎_elim
        (λ q. absurd (alone k r y q wy (subst (λ z. writes z r ≡ true) (sym p.1) wx)))
        (λ q. p.0 ∙ sym q.0)
        (at_push vs right y k ey))
        (at_push vs right x j ex);
  }
    where
      vs : List (NoteView G)
      vs = set s.views id left

      has : HasSeen noted.growths v
      has = noted.seats id v mine

      was : AreNoted reserves record { words = s.words; homes = s.homes; views = vs }
      was = noted-set reserves s noted id v mine left (to_left.seen noted.growths has)
          to_left.less

      alone : (j r : ℕ) (x : NoteView G) → get_elem? vs j ≡ some x → writes x r ≡ true
          → writes right r ≡ true → ⊥
      alone j r x e wx wr = ⊎_elim
          (λ t. apart r (subst (λ z. writes z r ≡ true) (sym t.1) wx) wr)
          (λ t. t.0 (noted.once j id r x v t.1 mine wx (to_right.less r wr)))
          (at_set s.views id j left x e)

  -- a copy may be made of each seat's view
  pub copy-allowed : (reserves id : ℕ) (v : NoteView G)
      → Splits (AreNoted reserves) id v v (as_copy v)
  copy-allowed reserves id v = split-noted reserves id v v (as_copy v)
      record { seen = λ gs h. h; less = λ r e. e } (becomes-copy v) (λ r a b. absurd (cc))

  -- the root may hand out the note of its reserve
  pub hand-out-allowed : (reserves id made : ℕ) (v : NoteView G)
      → v ≡ record { reserve = made; role = Root; growths = []; gathered = [] }
      → Splits (AreNoted reserves) id v (as_root_of_next v) (copied v)
  hand-out-allowed reserves id made v is =
      subst (λ z. Splits (AreNoted reserves) id z (as_root_of_next z) (copied z)) (sym is)
      (split-noted reserves id root (as_root_of_next root) (copied root)
      record {
        seen = λ gs h. record {
          seen = first-none (gs (made + 1));
          gathered = first-none (gs (made + 1));
          all = λ r e. h.all r (from-next r e);
        };
        less = from-next;
      }
      record {
        seen = λ gs h. record {
          seen = h.seen;
          gathered = first-none (gs made);
          all = λ r e. h.all r (from-own r e);
        };
        less = from-own;
      }
      (λ r a b. let x = leb-true (made + 1) r a in let y = eqb-true made r b in
      absurd (omega arith)))
    where
      root : NoteView G
      root = record { reserve = made; role = Root; growths = []; gathered = [] }

      from-next : (r : ℕ) → may_append Root (made + 1) r ≡ true → may_append Root made r ≡ true
      from-next r e = le-leb made r (let x = leb-true (made + 1) r e in omega arith)

      from-own : (r : ℕ) → may_append Writer made r ≡ true → may_append Root made r ≡ true
      from-own r e = le-leb made r (let x = eqb-true made r e in omega arith)

  -- a seat may take in another of its reserve
  pub gather-allowed : (reserves id : ℕ) (v : NoteView G) (other : ℕ) (w : NoteView G)
      → w.reserve ≡ v.reserve → Joins (AreNoted reserves) id v other w (joining v w) spent
  gather-allowed reserves id v other w same s noted mine apart theirs =
      noted-set reserves record { words = s.words; homes = s.homes; views = vs } was other w theirs
      spent ((becomes-spent w).seen was.growths (was.seats other w theirs)) (becomes-spent w).less
    where
      vs : List (NoteView G)
      vs = set s.views id (joining v w)

      was_seen : HasSeen noted.growths w
      was_seen = noted.seats other w (sym (set_else s.views id other (joining v w) apart) ∙ theirs)

      has : HasSeen noted.growths v
      has = noted.seats id v mine

      was : AreNoted reserves record { words = s.words; homes = s.homes; views = vs }
      was = noted-set reserves s noted id v mine (joining v w) record {
        seen = has.seen;
        gathered = subst (λ z. AreFirst w.growths (noted.growths z)) same was_seen.seen;
        all = has.all;
      } (λ r e. e)

  -- a writer may look: what it gathered last is the first of what it has seen
  pub compare-allowed : (reserves slots id : ℕ) (v : NoteView G) (c : List (ℕ × G))
      → v.role ≡ Writer
      → Allows (AreNoted reserves) slots id (v, c) 0 (λ n. n)
      (Compares (step slots 0 0 0 none) (v, c))
  compare-allowed reserves slots id v c writer s noted many mine small = (
    v,
    keeps,
    tt,
    subst (AreNoted reserves) (λ i. record {
      words = sym (set_again s.words 0 (get_or s.words 0 0)
          (at_index s.words 0 (get_or s.words 0 0) (let w = noted.wide in omega arith)
          (same-word s.words (let w = noted.wide in omega arith)))) i;
      homes = s.homes;
      views = sym (set_again s.views id v mine) i;
    }) noted,
    record {
      same = refl;
      first = subst (AreFirst v.gathered) (sym (has.all v.reserve own)) has.gathered;
    },
  )
    where
      has : HasSeen noted.growths v
      has = noted.seats id v mine

      own : writes v v.reserve ≡ true
      own = ap (λ z. may_append z v.reserve v.reserve) writer ∙ eq-eqb v.reserve v.reserve refl

      same-word : (ws : List ℕ) → 0 < length ws
          → get_or ws 0 0 ≡ get_or ws 0 (get_or ws 0 0)
      same-word [] h = absurd (omega arith)
      same-word (x ∷ xs) h = refl

  -- ---- a writer appends

  -- the growths of each reserve, with one more of one reserve
  abbrev grown : (ℕ → List G) → ℕ → G → ℕ → List G
  grown gs own g r = cond (eqb own r) (gs r ++ g ∷ []) (gs r)

  grown-own : (gs : ℕ → List G) (own : ℕ) (g : G) (r : ℕ) → own ≡ r
      → grown gs own g r ≡ gs r ++ g ∷ []
  grown-own gs own g r e = ap (λ (b : Bool). cond b (gs r ++ g ∷ []) (gs r)) (eq-eqb own r e)

  grown-other : (gs : ℕ → List G) (own : ℕ) (g : G) (r : ℕ) → own ≢ r → grown gs own g r ≡ gs r
  grown-other gs own g r e = ap (λ (b : Bool). cond b (gs r ++ g ∷ []) (gs r)) (ne_eqb own r e)

  first-grown : (gs : ℕ → List G) (own : ℕ) (g : G) (r : ℕ) (xs : List G) → AreFirst xs (gs r)
      → AreFirst xs (grown gs own g r)
  first-grown gs own g r xs f = dite (ℕ_discrete own r)
      (λ e. subst (AreFirst xs) (sym (grown-own gs own g r e))
      (first-longer xs (gs r) (g ∷ []) f))
      (λ e. subst (AreFirst xs) (sym (grown-other gs own g r e)) f)

  module _ (reserves : ℕ) (s : State G (NoteView G)) (noted : AreNoted reserves s) (id : ℕ)
      (v : NoteView G) (mine : get_elem? s.views id ≡ some v) (writer : v.role ≡ Writer) (g : G)
      (less : v.reserve < reserves) where
    abbrev gs : ℕ → List G
    gs = noted.growths

    own-writes : writes v v.reserve ≡ true
    own-writes = ap (λ z. may_append z v.reserve v.reserve) writer
        ∙ eq-eqb v.reserve v.reserve refl

    own-only : (r : ℕ) → writes v r ≡ true → v.reserve ≡ r
    own-only r e = eqb-true v.reserve r
        (sym (ap (λ z. may_append z v.reserve r) writer) ∙ e)

    has-seen-more : HasSeen (grown gs v.reserve g) (appended g v)
    has-seen-more = let has = noted.seats id v mine in record {
      seen = subst (AreFirst (v.growths ++ g ∷ []))
          (ap (λ l. l ++ g ∷ []) (has.all v.reserve own-writes)
          ∙ sym (grown-own gs v.reserve g v.reserve refl)) (first-all (v.growths ++ g ∷ []));
      gathered = first-grown gs v.reserve g v.reserve v.gathered has.gathered;
      all = λ r e. ap (λ l. l ++ g ∷ []) (has.all r e)
          ∙ sym (grown-own gs v.reserve g r (own-only r e));
    }

    others-see : (k : ℕ) (x : NoteView G) → k ≢ id → get_elem? s.views k ≡ some x
        → HasSeen (grown gs v.reserve g) x
    others-see k x other e = let has = noted.seats k x e in record {
      seen = first-grown gs v.reserve g x.reserve x.growths has.seen;
      gathered = first-grown gs v.reserve g x.reserve x.gathered has.gathered;
      all = λ r w. has.all r w ∙ sym (grown-other gs v.reserve g r
          (λ q. other (noted.once k id r x v e mine w
          (subst (λ z. writes v z ≡ true) q own-writes))));
    }

    noted-more : (n : ℕ) → n ≡ (length v.growths % 2 ^ 64 + 1) % 2 ^ 64
        → AreNoted reserves record {
          words = set s.words (v.reserve + 1) n;
          homes = s.homes;
          views = set s.views id (appended g v);
        }
    noted-more n is = record {
      wide = length-set s.words (v.reserve + 1) n ∙ noted.wide;
      growths = grown gs v.reserve g;
      counts = λ r lt. dite (ℕ_discrete v.reserve r)
          (λ e. subst (λ z. get_or (set s.words (v.reserve + 1) n) (z + 1) 0
          ≡ length (grown gs v.reserve g z) % 2 ^ 64) e
          (get_or-set_same s.words (v.reserve + 1) n 0
          (let w = noted.wide in omega arith)
          ∙ counted ∙ ap (λ l. length l % 2 ^ 64) (sym (grown-own gs v.reserve g v.reserve refl))))
          (λ e. get_or-set_other s.words (v.reserve + 1) (r + 1) n 0 (λ q. e (omega arith))
          ∙ noted.counts r lt ∙ ap (λ l. length l % 2 ^ 64)
          (sym (grown-other gs v.reserve g r e)));
      seats = λ k x e. ⊎_elim
          (λ t. subst (HasSeen (grown gs v.reserve g)) t.1 has-seen-more)
          (λ t. others-see k x t.0 t.1) (at_set s.views id k (appended g v) x e);
      once = once-set reserves s noted id v mine (appended g v) (λ r e. e);
    }
      where
        counted : n ≡ length (gs v.reserve ++ g ∷ []) % 2 ^ 64
        counted = is ∙ mod-add-mod (length v.growths) (2 ^ 64) 1
            ∙ ap (λ z. z % 2 ^ 64) (ap (λ l. length l + 1) ((noted.seats id v mine).all v.reserve
            own-writes) ∙ sym (length-append (gs v.reserve) (g ∷ [])))

  -- a writer may append a growth
  pub append-allowed : (reserves slots id count new : ℕ) (v : NoteView G) (c : List (ℕ × G))
      (g : G) → v.role ≡ Writer → v.reserve < reserves → count ≡ length v.growths % 2 ^ 64
      → new ≡ (count + 1) % 2 ^ 64
      → Allows (AreNoted reserves) slots id (v, c) (v.reserve + 1) (λ n. either (eqb n count) new n)
      (Appends (step slots (v.reserve + 1) count new (some g)) (v, c))
  append-allowed reserves slots id count new v c g writer less is next s noted many mine small = (
    appended g v,
    keeps,
    tt,
    exchanged (get_or s.words (v.reserve + 1) 0) count new (λ n. AreNoted reserves record {
      words = set s.words (v.reserve + 1) n;
      homes = s.homes;
      views = set s.views id (appended g v);
    })
        (λ e. noted-more reserves s noted id v mine writer g less new
        (next ∙ ap (λ n. (n + 1) % 2 ^ 64) is))
        (λ e. absurd (e (noted.counts v.reserve less
        ∙ ap (λ l. length l % 2 ^ 64) (sym ((noted.seats id v mine).all v.reserve
        (own-writes reserves s noted id v mine writer g less))) ∙ sym is))),
    λ h e. ap (λ z. (appended z v, c)) (some-injective g h e),
  )

  -- the rule holds at the start
  pub noted-opening : (reserves : ℕ) (ws : List ℕ) → ws ≡ replicate (reserves + 1) 0
      → AreNoted reserves (opening ws [] (first_note {G = G}))
  noted-opening reserves ws is =
      subst (λ z. AreNoted reserves (opening z [] (first_note {G = G}))) (sym is)
      record {
        wide = length-replicate (reserves + 1) 0;
        growths = λ r. [];
        counts = λ r less. no-zeros (reserves + 1) (r + 1);
        seats = λ k v e. subst (HasSeen (λ r. [])) (only k v e).1 record {
          seen = first-none [];
          gathered = first-none [];
          all = λ r w. refl;
        };
        once = λ j k r v w ev ew wv ww. (only j v ev).0 ∙ sym (only k w ew).0;
      }
    where
      only : (k : ℕ) (v : NoteView G) → get_elem? (first_note {G = G} ∷ []) k ≡ some v
          → (k ≡ 0) × (first_note {G = G} ≡ v)
      only zero v e = (refl, some-injective first_note v e)
      only (suc k) v e = absurd (some-ne-none v (sym e))
