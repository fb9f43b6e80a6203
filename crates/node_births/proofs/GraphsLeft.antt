-- The graph that births without a flaw make.
use Rattle.node_births.proofs.Imports.{AllByRecursion, AreOnce, AreOnce-append, Birth, Bool, GraphBefore, IsGraph, IsGraphBefore, List, None, Reserve, TakeBlanks, Wire, [], all_places, ap, append-nil, append_assoc, arith, births_of, blanks_of, born_wires, both_ways, cases_Bool, false, filter, flat_map, flaw_over, form_kind, get_or, graph-grown, grown_ranks, grown_wires, holds_node, is_place, length, length-append, length-map, map, new_wires, places_for, rank_at, ranks-append, refl, reserve_of, subst, sym, true, wires-append, ℕ, ◌++◌, ◌+◌, ◌<◌, ◌||◌, ◌∙◌, ◌∷◌, ◌≡◌, ◌≢◌, ◌≤◌}
use Rattle.node_births.proofs.BirthWires.{HasNone, blank-none, flaw-by-peers, grown-own, no-place, none-ends, ranks-kept, ranks-length, is-at}
use Rattle.node_births.proofs.ReserveLaws.{grower-unheld, held-below, r_at, reserve-of}
use Rattle.node_births.proofs.SoundBirths.{AreSoundAfter, IsOfReserve, IsSoundAfter, NoFlaw, all-places, places-held, holds-within, left, left-blanks, new-place, no-flaw, of-reserve, places-once, place-own, same-blanks, places-free}

pub all-both : {A : Type 0} (P : A → Type 0) (xs ys : List A) → AllByRecursion P xs
    → AllByRecursion P ys → AllByRecursion P (xs ++ ys)
all-both P [] ys h k = k
all-both P (x ∷ xs) ys h k = (h.0, all-both P xs ys h.1 k)

all-filter : {A : Type 0} (P : A → Type 0) (test : A → Bool) (xs : List A) → AllByRecursion P xs
    → AllByRecursion P (filter test xs)
all-filter P test [] h = tt
all-filter P test (x ∷ xs) h = grind (arith, cases_Bool, all-filter P test xs h.1)

module _ {g : GraphBefore} (before : IsGraphBefore g) where
  abbrev IsOf : Birth → Type 0
  IsOf = IsOfReserve before

  -- ---- one more birth

  module _ (e : List Birth) (all : AllByRecursion IsOf e) (b : Birth)
      (h : IsSoundAfter before e b) where
    abbrev r : Reserve
    r = r_at before h.number

    abbrev wires : List Wire
    wires = grown_wires g.wires e

    abbrev own_wires : List Wire
    own_wires = grown_wires g.wires (births_of r.node e)

    place-held : (k : ℕ) → k < length b.places → holds_node (get_or b.places k 0) r ≡ true
    place-held k lt = places-held before h _ (is-at b.places k lt)

    place-new : (k : ℕ) → k < length b.places → is_place e (get_or b.places k 0) ≡ false
    place-new k lt = new-place before e all b h _ (is-at b.places k lt)

    place-other : (k : ℕ) → k < length b.places → get_or b.places k 0 ≢ r.node
    place-other k lt is = both_ways _ (grower-unheld before h.number h.number h.in_range h.in_range)
        (subst (λ m. holds_node m r ≡ true) is (place-held k lt))

    grower-old : is_place e r.node ≡ false
    grower-old = no-place before r.node
        (λ k lt. grower-unheld before h.number k h.in_range lt) e all

    place-none : (k : ℕ) → k < length b.places → HasNone wires (get_or b.places k 0)
    place-none k lt = blank-none before (get_or b.places k 0) h.number h.in_range
        (place-held k lt) e all (place-new k lt)

    own-none : (k : ℕ) → k < length b.places → HasNone own_wires (get_or b.places k 0)
    own-none k lt = blank-none before _ _ h.in_range (place-held k lt) _ (all-filter IsOf _ e all)
        (places-free before h _ (is-at b.places k lt))

    lt : r.node < length g.boxes
    lt = rw before.one_each (before.fit.growing h.number h.in_range).in_range

    module _ (graph : IsGraph (grown_ranks g.ranks e) wires [])
        (few : length wires + length b.growth.edges ≤ 1024) where
      same-flaw : flaw_over (rank_at (grown_ranks g.ranks e) r.node) (length g.boxes) wires
          (left before h) r.node b.growth ≡ None
      same-flaw = let counts = grown-own before g.wires r.node e all grower-old in
          rw (ranks-kept g.ranks e r.node grower-old) (sym (flaw-by-peers (grown_ranks g.ranks e)
          wires graph own_wires r.node h.sound.sources h.sound.targets h.sound.peers counts.0
          counts.1 (rank_at g.ranks r.node) (length g.boxes) (left before h) b.growth (rw (sym
          h.sound.places) (λ k lk. record {
            other = λ is. place-other k lk (sym is);
            some_none = own-none k lk;
            all_none = place-none k lk;
          }))) ∙ h.sound.none)

      flawless : NoFlaw (rank_at (grown_ranks g.ranks e) r.node) wires (left before h) r.node
          b.growth b.places
      flawless = rw h.sound.places (no-flaw _ _ _ _ _ _ same-flaw)

      as_many : length b.places ≡ length b.growth.specs
      as_many = (of-reserve before h).as_many

      more : IsGraph (grown_ranks g.ranks (e ++ b ∷ []))
          (wires ++ new_wires r.node b.places b.growth.edges) []
      more = subst (λ ranks. IsGraph ranks (wires ++ new_wires r.node b.places b.growth.edges) [])
          (ranks-append g.ranks e (b ∷ [])) (graph-grown (grown_ranks g.ranks e) wires graph r.node
          b.growth.ranks b.places b.growth.edges (rw (ranks-length g.ranks e, ← before.one_each) lt)
          (h.sound.ranked ∙ sym as_many) (λ k lk. rw (ranks-length g.ranks e, ← before.one_each)
          (held-below before _ h.number h.in_range (place-held k lk))) (places-once before h)
          place-other (λ e lt. (
            λ k lk is. (none-ends wires _ (place-none k lk) e lt).0 (sym is),
            λ k lk is. (none-ends wires _ (place-none k lk) e lt).1 (sym is),
          )) record {
            ends = rw as_many flawless.ends;
            ranked = flawless.ranked;
            small = flawless.small;
            free = flawless.free;
          } few flawless.gapless)

      graph-step : IsGraph (grown_ranks g.ranks (e ++ b ∷ []))
          (grown_wires g.wires (e ++ b ∷ [])) []
      graph-step = grind (arith, append-nil, wires-append, more)

  -- ---- all of them

  pub graph-left : (e births : List Birth) → AllByRecursion IsOf e
      → AreSoundAfter before e births → IsGraph (grown_ranks g.ranks e) (grown_wires g.wires e) []
      → length (grown_wires g.wires (e ++ births)) ≤ 1024
      → IsGraph (grown_ranks g.ranks (e ++ births)) (grown_wires g.wires (e ++ births)) []
  graph-left e [] all h graph few = rw append-nil graph
  graph-left e (b ∷ births) all h graph few =
      let same : (e ++ b ∷ []) ++ births ≡ e ++ b ∷ births = append_assoc e (b ∷ []) births in
      let room : length (grown_wires g.wires e) + length b.growth.edges ≤ 1024 =
      (let total = ap length (wires-append g.wires e (b ∷ births)) in
      let all_more = length-append (grown_wires g.wires e) (born_wires b ++ flat_map born_wires
      births) in let split = length-append (born_wires b) (flat_map born_wires births) in
      grind (arith, length-map, b.expander, b.places)) in
      rw (sym same) (graph-left (e ++ b ∷ []) births (all-both IsOf e (b ∷ []) all
      ((of-reserve before h.0), tt)) h.1 (graph-step e all b h.0 graph room) (rw same few))

  -- no two new nodes are one
  pub once-left : (e births : List Birth) → AllByRecursion IsOf e → AreSoundAfter before e births
      → AreOnce (all_places e) → AreOnce (all_places (e ++ births))
  once-left e [] all h so_far = rw append-nil so_far
  once-left e (b ∷ births) all h so_far = rw (sym (append_assoc e (b ∷ []) births)) (once-left (e ++
      b ∷ []) births (all-both IsOf e (b ∷ []) all (of-reserve before h.0, tt)) h.1 (rw (all-places
      e (b ∷ [])) (AreOnce-append (λ n. is_place e n ≡ true) (all_places e) (b.places ++ []) so_far
      (rw append-nil (places-once before h.0)) (λ j lj. is-at (all_places e) j lj) (rw append-nil (λ
      k lk on. both_ways _ (new-place before e all b h.0 _ (is-at b.places k lk)) on)))))

  -- each took the first blanks that were left
  pub takes-left : (e births : List Birth) → AllByRecursion IsOf e → AreSoundAfter before e births
      → TakeBlanks g.reserves g.boxes e births
  takes-left e [] all h = tt
  takes-left e (b ∷ births) all h = (
    (
      length g.boxes,
      h.0.sound.places ∙ ap (λ l. places_for (map form_kind b.growth.specs) l (length g.boxes))
          blanks,
    ),
    takes-left (e ++ b ∷ []) births (all-both IsOf e (b ∷ []) all (of-reserve before h.0, tt)) h.1,
  )
    where
      q : Reserve
      q = r_at before h.0.number

      blanks : (left before h.0).blanks ≡ blanks_of g.boxes e
          (reserve_of g.reserves b.expander).first_node (reserve_of g.reserves b.expander).nodes
      blanks = rw (h.0.sound.expander, reserve-of before h.0.number h.0.in_range) (left-blanks
          g.boxes (births_of q.node e) q.first_node q.nodes ∙ same-blanks g.boxes g.boxes (births_of
          q.node e) e q.first_node q.nodes (λ i li. let m : ℕ = q.first_node + i in (
            grind (arith, place-own, holds-within),
            refl,
          )))
