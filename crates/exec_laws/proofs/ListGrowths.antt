-- The growth of a list of parts takes the first blank sources of its reserve, one for each path,
-- and has no flaw where a source and an edge are left for each.
use Rattle.exec_laws.proofs.Imports.{All-from_get_or, Birth, Blank, Bool, BoxPicture, GrowthForm, IsGraph, Kind, Left, List, NewEdge, None, PartSpec, Wire, [], all_kinds, ap, arith, blanks_of, box_at, cases_lt, cond, false, find, form_kind, get_or, get_or-append_right, get_or-map-range_with_len, get_or-range_with_len, get_or_append_left, grown_kind, growth_flaw, has_gap, has_input, has_large_port, has_output, has_wrong_end, inl, inr, is-gapless, is_blank_of, is_gapless, is_out_of_order, is_place, is_port_taken, lacks_blank, le-ltb, length, length-append, output_count, length-map-range_with_len, list_any, list_any-append, list_any_none, list_growth, listed_edge, listed_edges, listed_parts, lt-ltb, map, map-range_with_len_more, nat_lt, ne_eqb, new_wires, no_wire, output-below-count, output-of-count, places_for, range_with_len, rank_at, refl, same_kind, subst, suc, sum_by-cons, sym, true, wire-input, wire-output, wire_at, zero, ℕ, ◌&&◌, ◌++◌, ◌+◌, ◌<◌, ◌==◌, ◌∙◌, ◌∷◌, ◌≡◌, ◌≢◌, ◌≤◌, ◌⊎◌}
use Rattle.std.specs.List.{count_by}

-- ---- blank sources, and the places that a list takes

abbrev pub source : ℕ → Blank
source n = record { node = n; kind = grown_kind }

-- the blank sources of so many nodes
abbrev pub sources : (first count : ℕ) → List Blank
sources first count = map source (range_with_len first count)

-- where each node of a reserve is a blank source that no birth took, all are left
pub sources-left : (boxes : List BoxPicture) (births : List Birth) (first count : ℕ)
    → ((k : ℕ) → k < count → (is_place births (first + k) ≡ false)
    × (((box_at boxes (first + k)).spec ≡ None) × ((box_at boxes (first + k)).kind ≡ grown_kind)))
    → blanks_of boxes births first count ≡ sources first count
sources-left boxes births first zero h = refl
sources-left boxes births first (suc k) h =
    let n : ℕ = first + k in
    let here = h k (omega arith) in
    let next : k + 1 ≡ suc k = omega arith in
    rw (
      sources-left boxes births first k (λ j lt. h j (omega (arith, lt))),
      here.0,
      here.1.0,
      here.1.1,
    )
    (subst (λ m. sources first k ++ source n ∷ [] ≡ sources first m) next
    (sym (map-range_with_len_more source first k n refl)))

pub parts-count : (list : PartSpec) (k : ℕ) (paths : List (List ℕ))
    → length (listed_parts list k paths) ≡ length paths
parts-count list k [] = refl
parts-count list k (path ∷ paths) = ap suc (parts-count list (k + 1) paths)

pub edges-count : (k : ℕ) (paths : List (List ℕ)) → length (listed_edges k paths) ≡ length paths
edges-count k [] = refl
edges-count k (path ∷ paths) = ap suc (edges-count (k + 1) paths)

-- the sources of a list take the first nodes
pub places-listed : (list : PartSpec) (i : ℕ) (paths : List (List ℕ)) (first count past : ℕ)
    → length paths ≤ count → places_for (map form_kind (listed_parts list i paths))
    (sources first count) past ≡ range_with_len first (length paths)
places-listed list i (path ∷ paths) first (suc count) past le =
    grind (arith, places-listed list (i + 1) paths (first + 1) count (suc past) (omega (arith, le)))
places-listed list i paths first count past le = grind arith

-- the wire from its source to input k
abbrev pub source_wire : (n first k : ℕ) → Wire
source_wire n first k = record { from = first + k; out = 0; to = n; input = k }

pub wires-listed : (n first count i : ℕ) (paths : List (List ℕ)) → i + length paths ≤ count
    → new_wires n (range_with_len first count) (listed_edges i paths)
    ≡ map (source_wire n first) (range_with_len i (length paths))
wires-listed n first count i [] le = refl
wires-listed n first count i (path ∷ paths) le =
    rw (
      get_or-range_with_len first count i 0 (omega (arith, le)),
      wires-listed n first count (i + 1) paths (omega (arith, le)),
    ) refl

-- ---- no flaw of its edges

none-listed : (test : NewEdge → Bool) (bound i : ℕ) (paths : List (List ℕ))
    → i + length paths ≤ bound → ((k : ℕ) → k < bound → test (listed_edge k) ≡ false)
    → list_any test (listed_edges i paths) ≡ false
none-listed test bound i [] le h = refl
none-listed test bound i (path ∷ paths) le h =
    rw (h i (omega (arith, le))) (none-listed test bound (i + 1) paths (omega (arith, le)) h)

ranks-listed : (paths : List (List ℕ)) (k : ℕ)
    → let none : ℕ = 0 in get_or (map (λ path. none) paths) k 0 ≡ none
ranks-listed (path ∷ paths) (suc k) = ranks-listed paths k
ranks-listed paths k = grind arith

few-wanted : (list : PartSpec) (i : ℕ) (paths : List (List ℕ)) (first count : ℕ) (k : Kind)
    → length paths ≤ count
    → count_by (λ j. same_kind j k) (map form_kind (listed_parts list i paths))
    ≤ count_by (is_blank_of k) (sources first count)
few-wanted list i (path ∷ paths) first (suc count) k le =
    omega (
      arith,
      sum_by-cons (λ (j : Kind). cond (same_kind j k) 1 0) grown_kind
          (map form_kind (listed_parts list (i + 1) paths)),
      sum_by-cons (λ (b : Blank). cond (is_blank_of k b) 1 0) (source first)
          (sources (first + 1) count),
      few-wanted list (i + 1) paths (first + 1) count k (omega (arith, le)),
    )
few-wanted list i paths first count k le = grind arith

none-found : (test : Kind → Bool) (ks : List Kind) → ((k : Kind) → test k ≡ false)
    → find test ks ≡ None
none-found test [] h = refl
none-found test (k ∷ ks) h = rw (h k) (none-found test ks h)

-- ---- no flaw of its wires

module _ (n first : ℕ) where
  -- another wire at other ports takes none of these
  input-free : (wires : List Wire) (i k : ℕ) → has_input wires n k ≡ false → i ≢ k
      → has_input (wires ++ source_wire n first i ∷ []) n k ≡ false
  input-free wires i k h ne = grind (arith, list_any-append)

  output-free : (wires : List Wire) (i q : ℕ) → has_output wires q 0 ≡ false → first + i ≢ q
      → has_output (wires ++ source_wire n first i ∷ []) q 0 ≡ false
  output-free wires i q h ne = grind (arith, list_any-append)

  none-taken : (wires : List Wire) (i m : ℕ) → ((k : ℕ) → i ≤ k → has_input wires n k ≡ false)
      → ((k : ℕ) → i ≤ k → k < i + m → has_output wires (first + k) 0 ≡ false)
      → is_port_taken wires (map (source_wire n first) (range_with_len i m)) ≡ false
  none-taken wires i zero ins outs = refl
  none-taken wires i (suc m) ins outs = grind (
    arith,
    input-free,
    output-free,
    none-taken (wires ++ source_wire n first i ∷ []) (i + 1) m
        (λ k le. input-free wires i k (ins k (omega (arith, le)))
        (λ e. absurd (omega (arith, le, e))))
        (λ k le lt. output-free wires i (first + k) (outs k (omega (arith, le)) (omega (arith, lt)))
        (λ e. absurd (omega (arith, le, e)))),
  )

-- a list at node n, to which no wire goes, and as many nodes from `first` on at which there is none
module _ (ranks : List ℕ) (wires : List Wire) (g : IsGraph ranks wires []) (n first m : ℕ)
    (unfed : (e : ℕ) → e < length wires → (wire_at wires e).to ≢ n)
    (unwired : (e k : ℕ) → e < length wires → k < m → ((wire_at wires e).from ≢ first + k)
    × ((wire_at wires e).to ≢ first + k)) (other : (k : ℕ) → k < m → first + k ≢ n) where
  abbrev more : List Wire
  more = map (source_wire n first) (range_with_len 0 m)

  abbrev all : List Wire
  all = wires ++ more

  free : is_port_taken wires more ≡ false
  unfolding wire_at
  free = none-taken n first wires 0 m
      (λ k le. list_any_none (λ (w : Wire). (w.to == n) && (w.input == k)) wires
      (All-from_get_or (λ (w : Wire). ((w.to == n) && (w.input == k)) ≡ false) wires no_wire
      (λ e lt. rw (ne_eqb (wire_at wires e).to n (unfed e lt)) refl)))
      (λ k le lt. list_any_none (λ (w : Wire). (w.from == first + k) && (w.out == 0)) wires
      (All-from_get_or (λ (w : Wire). ((w.from == first + k) && (w.out == 0)) ≡ false) wires no_wire
      (λ e le_e. rw (ne_eqb (wire_at wires e).from (first + k)
      (unwired e k le_e (omega (arith, lt))).0) refl)))

  -- a wire is one from before, or that of a source
  record IsNew (e : ℕ) : Type 0 where
    pub source_of : ℕ
    pub below : source_of < m
    pub is : wire_at all e ≡ source_wire n first source_of

  kept-wire : (e : ℕ) → e < length wires → wire_at all e ≡ wire_at wires e
  unfolding wire_at
  kept-wire e lt = get_or_append_left wires more no_wire e lt

  old-or-new : (e : ℕ) → e < length all
      → ((e < length wires) × (wire_at all e ≡ wire_at wires e)) ⊎ IsNew e
  unfolding wire_at
  old-or-new e lt = grind (
    arith,
    cases_lt,
    kept-wire,
    length-append,
    length-map-range_with_len,
    get_or-append_right,
    get_or-map-range_with_len,
  )

  -- the wire of source k
  at-source : (k : ℕ) → k < m → (length wires + k < length all)
      × (wire_at all (length wires + k) ≡ source_wire n first k)
  unfolding wire_at
  at-source k lt = grind (
    arith,
    length-append,
    length-map-range_with_len,
    get_or-append_right,
    get_or-map-range_with_len,
  )

  gapless-here : is_gapless all n ≡ true
  gapless-here = is-gapless all n
      (λ e i lt to below. elim (old-or-new e lt) [
        | inl old ↦ absurd (unfed e old.0 (rw old.1 at to))
        | inr new ↦
            let lower = new.below in
            let under : i < new.source_of = rw new.is at below in
            let at = at-source i (omega (arith, under, lower)) in
            wire-input all (length wires + i) n i at.0 (rw at.1 refl) (rw at.1 refl)
      ])
      (λ e o lt from below. elim (old-or-new e lt) [
        | inl old ↦
            let w : Wire = wire_at wires e in
            let is : w.from ≡ n = rw old.1 at from in
            let under : o < w.out = rw old.1 at below in
            let count = output-below-count ranks wires [] g e old.0 in
            let lower : o < output_count wires w.from = omega (arith, under, count) in
            let h = output-of-count ranks wires [] g n o (rw is at lower) in
            let in_range = h.in_range in
            let kept : wire_at all h.edge ≡ wire_at wires h.edge = kept-wire h.edge h.in_range in
            wire-output all h.edge n o (omega (arith, in_range, length-append wires more))
            (rw kept h.from) (rw kept h.out_is)
        | inr new ↦ absurd (other new.source_of new.below (rw new.is at from))
      ])

  gapless-there : (k : ℕ) → k < m → is_gapless all (first + k) ≡ true
  gapless-there k lk = is-gapless all (first + k)
      (λ e i lt to below. elim (old-or-new e lt) [
        | inl old ↦ absurd ((unwired e k old.0 lk).1 (rw old.1 at to))
        | inr new ↦ absurd (other k lk (sym (rw new.is at to)))
      ])
      (λ e o lt from below. elim (old-or-new e lt) [
        | inl old ↦ absurd ((unwired e k old.0 lk).0 (rw old.1 at from))
        | inr new ↦ let under : o < 0 = rw new.is at below in absurd (omega (arith, under))
      ])

  none-gap : (i k : ℕ) → i + k ≤ m → list_any (has_gap all) (range_with_len (first + i) k) ≡ false
  none-gap i zero le = refl
  none-gap i (suc k) le = grind (arith, gapless-there, none-gap (i + 1) k (omega (arith, le)))

  no-gaps : list_any (has_gap all) (n ∷ range_with_len first m) ≡ false
  no-gaps = grind (arith, gapless-here, none-gap 0 m (omega arith))

-- ---- no flaw

unless : {A : Type 0} (b : Bool) (x y : A) → b ≡ false → cond b x y ≡ y
unless b x y e = rw e refl

-- a growth without each of the flaws
flawless : (ranks : List ℕ) (wires : List Wire) (left : Left) (n : ℕ) (g : GrowthForm)
    → nat_lt (length left.blanks) (length g.specs) ≡ false → nat_lt left.edges (length g.edges)
    ≡ false → list_any (has_wrong_end (length g.specs)) g.edges ≡ false
    → list_any (is_out_of_order (rank_at ranks n) g.ranks) g.edges ≡ false → list_any has_large_port
    g.edges ≡ false → (let places = places_for (map form_kind g.specs) left.blanks (length ranks) in
    let more = new_wires n places g.edges in
    (is_port_taken wires more ≡ false) × (list_any (has_gap (wires ++ more)) (n ∷ places) ≡ false))
    → find (lacks_blank (map form_kind g.specs) left.blanks) all_kinds ≡ None
    → growth_flaw ranks wires left n g ≡ None
flawless ranks wires left n g a b c d e f h = grind arith

-- The growth of a list has no flaw where its node has a rank above 0 and no input, where it names
-- at most 32 paths, and where the nodes of its reserve are blank sources at which there is no wire,
-- enough of them, and there are as many edges.
pub list-growth-has-no-flaw : (ranks : List ℕ) (wires : List Wire) (left : Left) (n first count : ℕ)
    (list : PartSpec) (paths : List (List ℕ)) → IsGraph ranks wires [] → 0 < rank_at ranks n
    → left.blanks ≡ sources first count → length paths ≤ count → length paths ≤ left.edges
    → length paths ≤ 32 → ((e : ℕ) → e < length wires → (wire_at wires e).to ≢ n)
    → ((e k : ℕ) → e < length wires → k < length paths → ((wire_at wires e).from ≢ first + k)
    × ((wire_at wires e).to ≢ first + k)) → ((k : ℕ) → k < length paths → first + k ≢ n)
    → growth_flaw ranks wires left n (list_growth list paths) ≡ None
list-growth-has-no-flaw ranks wires left n first count list paths g above blanks enough edges few
    unfed unwired other =
    let m : ℕ = length paths in
    let parts : length (listed_parts list 0 paths) ≡ m = parts-count list 0 paths in
    let joined : length (listed_edges 0 paths) ≡ m = edges-count 0 paths in
    let sum : 0 + m ≤ m = omega arith in
    let lens : length left.blanks ≡ count = ap length blanks
    ∙ length-map-range_with_len source first count in
    let places : places_for (map form_kind (listed_parts list 0 paths)) left.blanks (length ranks)
    ≡ range_with_len first m =
    ap (λ l. places_for (map form_kind (listed_parts list 0 paths)) l (length ranks)) blanks
    ∙ places-listed list 0 paths first count (length ranks) enough in
    flawless ranks wires left n (list_growth list paths)
    (le-ltb _ _ (omega (arith, lens, parts, enough)))
    (le-ltb _ _ (omega (arith, joined, edges)))
    (none-listed _ m 0 paths sum (λ k lt. rw (parts, lt-ltb k m lt) refl))
    (none-listed _ m 0 paths sum (λ k lt. rw (ranks-listed paths k, lt-ltb 0 _ above) refl))
    (none-listed _ m 0 paths sum (λ k lt. rw (lt-ltb k 32 (omega (arith, lt, few))) refl))
    (subst (λ qs. let l = new_wires n qs (listed_edges 0 paths) in
    (is_port_taken wires l ≡ false) × (list_any (has_gap (wires ++ l)) (n ∷ qs) ≡ false))
    (sym places)
    (subst (λ l. (is_port_taken wires l ≡ false)
    × (list_any (has_gap (wires ++ l)) (n ∷ range_with_len first m) ≡ false))
    (sym (wires-listed n first m 0 paths sum)) (
      free ranks wires g n first m unfed unwired other,
      no-gaps ranks wires g n first m unfed unwired other,
    )))
    (none-found (lacks_blank (map form_kind (listed_parts list 0 paths)) left.blanks) all_kinds
    (λ k. rw blanks (le-ltb _ _ (few-wanted list 0 paths first count k enough))))
