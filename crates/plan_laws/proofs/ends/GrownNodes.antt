-- A graph that grew is that of one list of nodes: the first ones, and behind them the new nodes of
-- each growth.
use Rattle.std.proofs.lemmas.Grind.{common_steps}
use Rattle.plan_laws.proofs.Imports.{All, All-append, All-from_recursion, All-nil, AllByRecursion, AreLoaded, AreOnce, AreOnce-append, Birth, Bool, BoxPicture, Contains, Contains-append_right, DraftNode, Edge, Files, GrowsLawfully, IsBirth, IsPlacedGraph, JoinsWithin, List, Me, New, NodeList, Reserve, SpecForm, Who, Wire, [], all_places, arith, born_wires, both_ways, box_at, cases_lt, collect_node, count_by, count_by-cons, end_node, every-append, every-weaker, expression, false, flat_map, get_or, get_or-append-add, get_or-append_right, get_or-map, get_or-range_with_len, get_or_append_left, get_or_default, get_or_past, grown_nodes, grown_places, has_wrong_end, is_me, is_named, is_some, length, length-append, length-map, length-range_with_len, list_any, ltb-true, map, map-append, nat_tests, new_wires, new_wires_from, no_draft, no_wire, range_with_len, recursion_from_All, refl, spec_form, subst, suc, sym, true, wire_at, wire_between, with_nodes, ℕ, ◌&&◌, ◌++◌, ◌+◌, ◌<◌, ◌==◌, ◌∙◌, ◌∷◌, ◌≡◌, ◌≤◌}
use Rattle.plan_laws.proofs.graph.GraphLaws.{ranks-count}

pub at-recursion : {X : Type 0} (P : X → Type 0) (xs : List X) → AllByRecursion P xs
    → (j : ℕ) (x : X) → j < length xs → get_or xs j x ≡ x → P x
at-recursion P xs h j x lt is = subst P is (All-from_recursion P xs h j x lt)

-- what one of the elements gives is in all that they give
pub contains-flat : {A X : Type 0} (f : A → List X) (xs : List A) (j : ℕ) (a : A) → j < length xs
    → get_or xs j a ≡ a → (x : X) → Contains (f a) x → Contains (flat_map f xs) x
contains-flat f (c ∷ xs) (suc j) a lt is x h =
    grind (arith, Contains-append_right, is, contains-flat f xs j a (omega (arith, lt)) is x h)
contains-flat f xs j a lt is x h = grind (arith, common_steps)

-- ---- the edges at a node, on one side

-- an end of a wire: where it goes, or where it comes from
abbrev node_at : Bool → Wire → ℕ
node_at true w = w.to
node_at false w = w.from

-- how many wires go to a node, or come from it
abbrev pub ends : Bool → List Wire → ℕ → ℕ
ends side wires q = count_by (λ (w : Wire). node_at side w == q) wires

-- the nodes of a list have their ports at their places
ends-between : (side : Bool) (ps : List ℕ) (ws : List Wire) (k : ℕ) → AreOnce ps
    → AllByRecursion (JoinsWithin (length ps)) ws → k < length ps
    → ends side (map (wire_between ps) ws) (get_or ps k 0) ≡ ends side ws k
ends-between side ps [] k once h lt = refl
ends-between side ps (w ∷ ws) k once h lt =
    let place : ℕ = get_or ps k 0 in
    let test : (j : ℕ) → j < length ps → (get_or ps j 0 == place) ≡ (j == k) =
    (λ j less. grind (arith, nat_tests, once j k less lt)) in
    grind (
      arith,
      count_by-cons (λ (w : Wire). node_at side w == k) w ws,
      count_by-cons (λ (w : Wire). node_at side w == place) (wire_between ps w)
          (map (wire_between ps) ws),
      test w.from h.0.0,
      test w.to h.0.1,
      ends-between side ps ws k once h.1 lt,
    )

-- ---- loaded boxes

-- a loaded box is one of the list
pub loaded-within : (boxes : List BoxPicture) (n : ℕ) → is_some (box_at boxes n).spec ≡ true
    → n < length boxes
unfolding box_at
loaded-within boxes n born = grind (arith, cases_lt, both_ways, get_or_past)

loaded-append : (boxes : List BoxPicture) (ps qs : List ℕ) (fs gs : List SpecForm)
    → length ps ≡ length fs → AreLoaded boxes ps fs → AreLoaded boxes qs gs
    → AreLoaded boxes (ps ++ qs) (fs ++ gs)
loaded-append boxes ps qs fs gs same f g k lt =
    grind (arith, cases_lt, get_or_append_left, get_or-append_right, length-append)

-- ---- a graph that grew

module _ (files : Files) (nodes : List DraftNode) (reserves : List Reserve)
    (before after : List BoxPicture) (births : List Birth)
    (g : GrowsLawfully files nodes reserves before after births) where
  abbrev wires : List Wire
  wires = (with_nodes nodes no_draft).wires

  abbrev count : ℕ
  count = length nodes

  abbrev places : List ℕ
  places = grown_places nodes births

  abbrev list : NodeList
  list = grown_nodes nodes births

  first-count : length (range_with_len 0 count) ≡ count
  first-count = length-range_with_len 0 count

  pub places-count : length places ≡ count + length (all_places births)
  places-count = grind (arith, length-append, first-count)

  -- the first nodes keep their numbers, and the new ones follow
  range-at : (n : ℕ) → n < count → get_or (range_with_len 0 count) n 0 ≡ n
  range-at n lt = get_or-range_with_len 0 count n 0 lt ∙ omega arith

  pub first-place : (n : ℕ) → n < count → get_or places n 0 ≡ n
  first-place n lt = grind (arith, get_or_append_left, first-count, range-at)

  pub new-place : (j : ℕ) → get_or places (count + j) 0 ≡ get_or (all_places births) j 0
  new-place j = grind (arith, first-count, get_or-append-add)

  -- what grew was one of the first nodes
  pub grower-first : (b : Birth) → IsBirth reserves before after b → 0 < length b.places
      → b.expander < count
  grower-first b w some = (g.behind b.expander (get_or b.places 0 0) (w.reserved 0 some)).0

  first-within : AllByRecursion (JoinsWithin count) wires
  unfolding wire_at
  first-within = recursion_from_All (JoinsWithin count) wires (λ e w lt.
      let edge = g.graph.graph.so_far.edges e lt in
      let from = edge.from_in_range in
      let to = edge.to_in_range in
      let ranks : length (with_nodes nodes no_draft).ranks ≡ count =
      ranks-count nodes no_draft ∙ omega arith in
      rw (get_or_default wires e w no_wire lt) (
        omega (arith, from, ranks),
        omega (arith, to, ranks),
      ))

  first-between : (ws : List Wire) → AllByRecursion (JoinsWithin count) ws
      → map (wire_between places) ws ≡ ws
  first-between [] h = refl
  first-between (w ∷ ws) h =
      grind (arith, first-place w.from, first-place w.to, first-between ws)

  -- the wires of a growth whose new nodes have the numbers from this one on
  module _ (b : Birth) (w : IsBirth reserves before after b) (first : ℕ)
      (at : (j : ℕ) → j < length b.places → get_or places (first + j) 0 ≡ get_or b.places j 0)
      (few : first + length b.places ≤ length places) where
    abbrev new : List ℕ
    new = range_with_len first (length b.growth.specs)

    end-between : (v : Who) → is_named (length b.growth.specs) v ≡ true → 0 < length b.places
        → (get_or places (end_node b.expander new v) 0 ≡ end_node b.expander b.places v)
        × (end_node b.expander new v < length places)
    end-between Me h some =
        let lt = grower-first b w some in
        (first-place b.expander lt, omega (arith, lt, places-count))
    end-between (New k) h some =
        let lt = ltb-true k (length b.growth.specs) h in
        let less : k < length b.places = omega (arith, lt, w.as_many) in
        let is = get_or-range_with_len first (length b.growth.specs) k 0 lt in
        (rw is (at k less), omega (arith, is, less, few))

    some-new : (u v : Who) → is_named (length b.growth.specs) u ≡ true
        → is_named (length b.growth.specs) v ≡ true → (is_me u && is_me v) ≡ false
        → 0 < length b.places
    some-new u v h k e = grind (arith, nat_tests, w.as_many)

    edges-between : (edges : List Edge)
        → list_any (has_wrong_end (length b.growth.specs)) edges ≡ false
        → (map (wire_between places) (new_wires b.expander new edges)
        ≡ new_wires b.expander b.places edges)
        × AllByRecursion (JoinsWithin (length places)) (new_wires b.expander new edges)
    edges-between [] h = (refl, tt)
    edges-between (e ∷ edges) h = grind (
      arith,
      some-new e.from.who e.to.who,
      end-between e.from.who,
      end-between e.to.who,
      edges-between edges,
    )

  new-between : (first : ℕ) (bs : List Birth) → AllByRecursion (IsBirth reserves before after) bs
      → ((j : ℕ) → get_or places (first + j) 0 ≡ get_or (all_places bs) j 0)
      → first + length (all_places bs) ≡ length places
      → (map (wire_between places) (new_wires_from first bs) ≡ flat_map born_wires bs)
      × AllByRecursion (JoinsWithin (length places)) (new_wires_from first bs)
  new-between first [] each at len = (refl, tt)
  new-between first (b ∷ bs) each at len =
      let all = length-append b.places (all_places bs) in
      let many = each.0.as_many in
      let here = edges-between b each.0 first
      (λ j lt. at j ∙ get_or_append_left b.places (all_places bs) 0 j lt)
      (omega (arith, all, len)) b.growth.edges each.0.ends in
      let rest = new-between (first + length b.growth.specs) bs each.1
      (λ j. let e : (first + length b.growth.specs) + j ≡ first + (length b.places + j) =
      omega (arith, many) in
      rw e (at (length b.places + j) ∙ get_or-append-add b.places (all_places bs) j 0))
      (omega (arith, all, len, many)) in (
        grind (arith, map-append, here.0, rest.0),
        every-append (JoinsWithin (length places)) _ (new_wires_from (first + length b.growth.specs)
            bs) here.1 rest.1,
      )

  -- no new node is one of the first, and each is loaded with what its growth says
  new-loaded : (bs : List Birth) → AllByRecursion (IsBirth reserves before after) bs
      → (length (all_places bs) ≡ length (flat_map (λ (b : Birth). b.growth.specs) bs))
      × (All (λ q. count ≤ q) (all_places bs)
      × AreLoaded after (all_places bs) (flat_map (λ (b : Birth). b.growth.specs) bs))
  new-loaded [] each = (refl, (All-nil _, λ k lt. absurd (omega (arith, lt))))
  new-loaded (b ∷ bs) each =
      let rest = new-loaded bs each.1 in
      let forms : List SpecForm = flat_map (λ (b : Birth). b.growth.specs) bs in (
        grind (arith, length-append, rest.0, each.0.as_many),
        (
          All-append (λ q. count ≤ q) b.places (all_places bs)
              (λ k d lt. subst (λ q. count ≤ q) (get_or_default b.places k 0 d lt)
              (g.behind b.expander (get_or b.places k 0) (each.0.reserved k lt)).1)
              rest.1.0,
          loaded-append after b.places (all_places bs) b.growth.specs forms each.0.as_many
              each.0.born rest.1.1,
        ),
      )

  -- The graph that grew is that of the first nodes and the new ones of each growth.
  pub grown-graph-is-that-of-one-list :
      IsPlacedGraph list places (wires ++ flat_map born_wires births) after
  grown-graph-is-that-of-one-list =
      let f : DraftNode → SpecForm = (λ z. spec_form z.spec) in
      let new = new-loaded births g.are.each in
      let between = new-between count births g.are.each new-place (sym places-count) in
      let firsts : length (range_with_len 0 count) ≡ length (map f nodes) =
      first-count ∙ sym (length-map nodes f) in
      record {
        count = grind (arith, places-count, length-append, length-map, new.0);
        once = AreOnce-append (λ q. q < count) (range_with_len 0 count) (all_places births)
            (λ j k lj lk e.
            sym (range-at j (rw first-count at lj)) ∙ e ∙ range-at k (rw first-count at lk))
            g.are.once
            (λ j lt. rw (range-at j (rw first-count at lt)) (rw first-count at lt))
            (λ k lt below. let le = new.1.0 k 0 lt in omega (arith, le, below));
        loaded = loaded-append after (range_with_len 0 count) (all_places births) (map f nodes)
            (flat_map (λ (b : Birth). b.growth.specs) births) firsts
            (λ k lt.
            let less : k < count = rw first-count at lt in
            let z : DraftNode = get_or nodes k collect_node in
            let is = g.specs k z less (get_or_default nodes k z collect_node less) in
            rw (range-at k less, is, get_or-map f nodes k collect_node (expression []) less) refl)
            new.1.1;
        within = every-append (JoinsWithin (length places)) wires (new_wires_from count births)
            (every-weaker (JoinsWithin count) (JoinsWithin (length places))
            (λ w i. (omega (arith, i.0, places-count), omega (arith, i.1, places-count))) wires
            first-within) between.1;
        wires_are = grind (
          arith,
          map-append (wire_between places) wires (new_wires_from count births),
          first-between wires first-within,
          between.0,
        );
      }

  -- each node of the list has its ports at its place
  pub ports-at-place : (side : Bool) (k : ℕ) → k < length places
      → ends side (wires ++ flat_map born_wires births) (get_or places k 0)
      ≡ ends side list.wires k
  ports-at-place side k lt =
      let h = grown-graph-is-that-of-one-list in
      rw h.wires_are (ends-between side places list.wires k h.once h.within lt)
