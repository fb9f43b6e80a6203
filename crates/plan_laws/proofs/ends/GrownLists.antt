-- A graph of lawful boxes grows by its lists of parts alone, each by the sources of its parts.
use Rattle.plan_laws.proofs.Imports.{All, All-contains_itself, All-filter, AllByRecursion, AreAllBorn, ArePortsOf, Birth, Bool, BoxPicture, Contains, Contains-append_right, DraftNode, Edge, Files, GrowsLawfully, GrowthForm, HasForm, HasGrownByLists, HasListed, IsBirth, IsPlacedGraph, IsListGrowth, IsListedNode, IsUngrown, List, MayGrow, NodeList, None, Option, PartSpec, Reserve, Some, Spec, SpecForm, Wire, [], all_places, ap, arith, births_of, born_wires, box_at, cond, count_by, count_by-append, count_by-cons, edges-count, eqb-true, every-weaker, false, filter_passes, flat_map, form_at, get_or, get_or-map, get_or-range_with_len, get_or_default, get_or_past, grew-list, grown_inputs, grown_nodes, grown_places, grows-lawfully, growth_list, growths_of, inl, input_count, inr, is_me, is_some, kept_growths, leb, length, length-append, length-map, list_growth, list_source, listed_edge, listed_edges, listed_part, listed_parts, map, nat_lt, nat_tests, new_wire, new_wires, new_wires_from, no_draft, no_wire, output_count, part_source, part_spec, parts-count, paths_in, range_with_len, reading_in, refl, subst, suc, sum_by, sum_by-cons, sym, true, unboxed, wire_at, with_nodes, ℕ, ◌&&◌, ◌++◌, ◌+◌, ◌<◌, ◌==◌, ◌∙◌, ◌∷◌, ◌≡◌, ◌≤◌, ◌⊎◌}
use Rattle.plan_laws.proofs.ends.GrownNodes.{at-recursion, contains-flat, ends, first-place, grower-first, grown-graph-is-that-of-one-list, loaded-within, new-place, places-count, ports-at-place}

-- ---- the wires of a list's growth

ins-listed : (n : ℕ) (all : List ℕ) (i : ℕ) (paths : List (List ℕ)) (m : ℕ) (t : Bool)
    → (n == m) ≡ t
    → input_count (new_wires n all (listed_edges i paths)) m ≡ cond t (length paths) 0
ins-listed n all i (path ∷ paths) m t e = grind (
  arith,
  count_by-cons (λ (w : Wire). w.to == m) (new_wire n all (listed_edge i))
      (new_wires n all (listed_edges (i + 1) paths)),
  ins-listed n all (i + 1) paths m t,
)
ins-listed n all i paths m t e = grind arith

-- each of the parts has an output
outs-listed : (n first count i : ℕ) (paths : List (List ℕ)) (m : ℕ) → i + length paths ≡ count
    → output_count (new_wires n (range_with_len first count) (listed_edges i paths)) m
    ≡ cond (leb (first + i) m && nat_lt m (first + count)) 1 0
outs-listed n first count i [] m e = grind (arith, nat_tests)
outs-listed n first count i (path ∷ paths) m e = grind (
  arith,
  nat_tests,
  get_or-range_with_len first count i 0,
  count_by-cons (λ (w : Wire). w.from == m)
      (new_wire n (range_with_len first count) (listed_edge i))
      (new_wires n (range_with_len first count) (listed_edges (i + 1) paths)),
  outs-listed n first count (i + 1) paths m,
)

edge-listed : (i : ℕ) (paths : List (List ℕ)) (k : ℕ) (e : Edge) → k < length paths
    → get_or (listed_edges i paths) k e ≡ listed_edge (i + k)
edge-listed i (path ∷ paths) (suc k) e lt =
    grind (arith, edge-listed (i + 1) paths k e (omega (arith, lt)))
edge-listed i paths k e lt = grind arith

-- ---- births of lists

-- it grew as a list that names these paths
record IsListBirth (b : Birth) : Type 0 where
  pub list : PartSpec
  pub paths : List (List ℕ)
  pub is : b.growth ≡ list_growth list paths
  pub as_many : length b.places ≡ length b.growth.specs

-- node k has an input for each part of its growths
ins-births : (bs : List Birth) → AllByRecursion IsListBirth bs → (first k : ℕ)
    → input_count (new_wires_from first bs) k
    ≡ sum_by (λ (h : GrowthForm). length h.specs) (growths_of k bs)
ins-births [] each first k = refl
ins-births (b ∷ bs) each first k =
    let h = each.0 in
    let count : ℕ = length b.growth.specs in
    let new : List ℕ = range_with_len first count in
    grind (
      arith,
      h.is,
      parts-count h.list 0 h.paths,
      ins-listed b.expander new 0 h.paths k (b.expander == k) refl,
      count_by-append (λ (w : Wire). w.to == k) (new_wires b.expander new b.growth.edges)
          (new_wires_from (first + count) bs),
      sum_by-cons (λ (h : GrowthForm). length h.specs) b.growth (growths_of k bs),
      ins-births bs each.1 (first + count) k,
    )

-- and each new node has an output
outs-births : (bs : List Birth) → AllByRecursion IsListBirth bs → (first k : ℕ)
    → output_count (new_wires_from first bs) k ≡ cond (leb first k
    && nat_lt k (first + length (all_places bs))) 1 0
outs-births [] each first k = grind (arith, nat_tests)
outs-births (b ∷ bs) each first k =
    let h = each.0 in
    let count : ℕ = length b.growth.specs in
    let new : List ℕ = range_with_len first count in
    grind (
      arith,
      nat_tests,
      h.is,
      parts-count h.list 0 h.paths,
      outs-listed b.expander first count 0 h.paths k,
      count_by-append (λ (w : Wire). w.from == k) (new_wires b.expander new b.growth.edges)
          (new_wires_from (first + count) bs),
      length-append b.places (all_places bs),
      h.as_many,
      outs-births bs each.1 (first + count) k,
    )

-- the first growth of a node
first-birth : (n : ℕ) (births : List Birth) (b : Birth) (rest : List Birth)
    → births_of n births ≡ b ∷ rest → Contains births b × (b.expander ≡ n)
first-birth n births b rest e =
    let p : Birth → Bool = (λ (c : Birth). c.expander == n) in (
      subst (All (Contains births)) e (All-filter p (Contains births) births
          (All-contains_itself births)) 0 b (omega arith),
      eqb-true _ _ (subst (All (λ c. p c ≡ true)) e (filter_passes p births) 0 b (omega arith)),
    )

-- ---- lists by index

grown-length : (i : ℕ) (paths : List (List ℕ))
    → count_by (λ (e : Edge). is_me e.to.who) (listed_edges i paths) ≡ length paths
grown-length i [] = refl
grown-length i (path ∷ paths) = search (arith, sum_by-cons, grown-length (i + 1) paths)

pub part-form : (list : PartSpec) (i : ℕ) (paths : List (List ℕ)) (k : ℕ) (path : List ℕ)
    → k < length paths → get_or paths k path ≡ path
    → form_at (listed_parts list i paths) k ≡ unboxed (part_source (listed_part list (i + k) path))
part-form list i (p ∷ paths) (suc k) path lt is =
    grind (arith, part-form list (i + 1) paths k path (omega (arith, lt)) is)
part-form list i paths k path lt is = grind arith

pub form-csv : (o : Option Spec) (f : SpecForm) (part : PartSpec) → f ≡ unboxed (part_source part)
    → HasForm o f → o ≡ Some (part_source part)
form-csv o f part e h = grind arith

may-none : (s : Spec) (files : Option Files) (o : Option GrowthForm) → IsUngrown s
    → MayGrow (Some s) files o → o ≡ None
may-none s files o u m = grind (arith, grew-list)

-- ---- a graph that grew

module _ (files : Files) (nodes : List DraftNode) (reserves : List Reserve)
    (before after : List BoxPicture) (births : List Birth)
    (g : GrowsLawfully files nodes reserves before after births)
    (all : AreAllBorn before after births) where
  abbrev wires : List Wire
  wires = (with_nodes nodes no_draft).wires

  abbrev all_wires : List Wire
  all_wires = wires ++ flat_map born_wires births

  -- the list of nodes whose graph it is, and where they stand
  abbrev list : NodeList
  list = grown_nodes nodes births

  abbrev places : List ℕ
  places = grown_places nodes births

  graph : IsPlacedGraph list places all_wires after
  graph = grown-graph-is-that-of-one-list files nodes reserves before after births g

  ports : (side : Bool) (k : ℕ) → k < length places
      → ends side all_wires (get_or places k 0) ≡ ends side list.wires k
  ports = ports-at-place files nodes reserves before after births g

  -- a box may grow by its spec as it did
  may-grow : (n : ℕ) (s : Spec) → n < length after → (box_at after n).spec ≡ Some s
      → MayGrow (Some s) (box_at after n).files (box_at after n).growth
  may-grow n s lt is = grind (arith, grows-lawfully)

  growths : (n : ℕ) → n < length after → growths_of n births ≡ kept_growths (box_at after n)
  growths n lt = grind arith

  -- a box of another kind has let nothing grow
  no-growth : (n : ℕ) (s : Spec) → n < length after → (box_at after n).spec ≡ Some s
      → IsUngrown s → growths_of n births ≡ []
  no-growth n s lt is u = grind (arith, may-none, may-grow, growths)

  -- each of them is a list's
  list-birth : (b : Birth) → IsBirth reserves before after b → IsListBirth b
  list-birth b w = go (box_at after b.expander).spec
      (w.may_grow (g.lawful b.expander (loaded-within after b.expander w.grown)))
    where
      go : (o : Option Spec) → MayGrow o (box_at after b.expander).files (Some b.growth)
          → IsListBirth b
      go o m = grind (arith, grew-list o _ b.growth m)

  -- each node of the list has an input for each part of its growths, and each new one an output
  counts : (n : ℕ) → (input_count list.wires n ≡ input_count wires n
      + sum_by (λ (h : GrowthForm). length h.specs) (growths_of n births))
      × (output_count list.wires n ≡ output_count wires n + cond (leb (length nodes) n
      && nat_lt n (length nodes + length (all_places births))) 1 0)
  counts n = grind (arith, count_by-append, ins-births, outs-births, every-weaker, list-birth)

  -- the first nodes have the outputs that they had, and the inputs that their growths gave them
  first-ports : (n : ℕ) → n < length nodes
      → (input_count all_wires n ≡ input_count wires n
      + sum_by (λ (h : GrowthForm). length h.specs) (growths_of n births))
      × (output_count all_wires n ≡ output_count wires n)
  first-ports n lt =
      let here = first-place files nodes reserves before after births g n lt in
      let within : n < length places =
      rw (graph.count, length-append, length-map) (omega (arith, lt)) in
      let same : (side : Bool) → ends side all_wires n ≡ ends side list.wires n =
      (λ side. rw here at (ports side n within)) in
      grind (arith, nat_tests, same true, same false, counts n)

  unfed : (n : ℕ) → n < length nodes → growths_of n births ≡ []
      → input_count all_wires n ≡ input_count wires n
  unfed n lt none = grind (arith, first-ports n lt)

  -- the first wires don't join new nodes
  none-past : (n : ℕ) → length nodes ≤ n → (input_count wires n ≡ 0) × (output_count wires n ≡ 0)
  none-past n le = (
    g.graph.inputs n ∙ get_or_past (map (λ (z : DraftNode). z.takes) nodes) n 0 (rw length-map le),
    g.graph.outputs n
        ∙ get_or_past (map (λ (z : DraftNode). z.gives) nodes) n 0 (rw length-map le),
  )

  -- a new node lets nothing grow
  none-fed : (n : ℕ) → length nodes ≤ n → (bs : List Birth)
      → AllByRecursion (IsBirth reserves before after) bs
      → sum_by (λ (h : GrowthForm). length h.specs) (growths_of n bs) ≡ 0
  none-fed n le [] each = refl
  none-fed n le (b ∷ bs) each = grind (
    arith,
    sum_by-cons,
    eqb-true b.expander n,
    grower-first files nodes reserves before after births g b each.0,
    none-fed n le bs each.1,
  )

  -- the growth of a list
  record ListCase (list : PartSpec) (n : ℕ) : Type 0 where
    pub birth : Birth
    pub at : Contains births birth
    pub own : birth.expander ≡ n
    pub are : growths_of n births ≡ birth.growth ∷ []
    pub grows : (box_at after n).growth ≡ Some birth.growth
    pub may : IsListGrowth list (box_at after n).files birth.growth

  list-case : (n : ℕ) (list : PartSpec) → n < length after
      → (box_at after n).spec ≡ Some (list_source list)
      → ((growths_of n births ≡ []) × ((box_at after n).growth ≡ None)) ⊎ ListCase list n
  list-case n list lt is =
      go (box_at after n).growth refl
      (growths n lt ∙ ap (λ o. cond (is_some o) (growth_list (box_at after n).growth) []) is)
      (may-grow n (list_source list) lt is)
    where
      go : (q : Option GrowthForm) → (box_at after n).growth ≡ q
          → growths_of n births ≡ growth_list q
          → MayGrow (Some (list_source list)) (box_at after n).files q
          → ((growths_of n births ≡ []) × ((box_at after n).growth ≡ None)) ⊎ ListCase list n
      go None e gs m = inl (gs, e)
      go (Some h) e gs m = inr (of (births_of n births) refl gs)
        where
          of : (bs : List Birth) → births_of n births ≡ bs
              → map (λ (b : Birth). b.growth) bs ≡ h ∷ [] → ListCase list n
          of (b ∷ bs) is one =
              let f = first-birth n births b bs is in
              let grows : b.growth ≡ h = grind arith in
              record {
                birth = b;
                at = f.0;
                own = f.1;
                are = gs ∙ ap (λ q. q ∷ []) (sym grows);
                grows = e ∙ ap (λ q. Some q) (sym grows);
                may = rw grows m;
              }
          of [] is one = grind arith

  fed-length : (n : ℕ) (list : PartSpec) (c : ListCase list n) → n < length nodes
      → input_count wires n ≡ 0 → input_count all_wires n ≡ length (paths_in (Some c.may.text))
  fed-length n list c lt none =
      grind (arith, sum_by-cons, first-ports n lt, parts-count list 0 (paths_in (Some c.may.text)))

  -- the node of a part
  listed-node : (n : ℕ) (spec : PartSpec) (c : ListCase spec n) → n < length nodes
      → (k : ℕ) (path : List ℕ) → k < length (paths_in (Some c.may.text))
      → get_or (paths_in (Some c.may.text)) k path ≡ path
      → IsListedNode spec all_wires after n k path
  unfolding wire_at
  listed-node n spec c low k path lt is =
      let b : Birth = c.birth in
      let w = at-recursion (IsBirth reserves before after) births g.are.each c.at.0 b c.at.1 c.at.2
      in
      let paths : List (List ℕ) = paths_in (Some c.may.text) in
      let many = w.as_many ∙ ap (λ (h : GrowthForm). length h.specs) c.may.is
      ∙ parts-count spec 0 paths in
      let within : k < length b.places = omega (arith, lt, many) in
      let q : ℕ = get_or b.places k 0 in
      let part : PartSpec = part_spec (reading_in spec) (suc k) path in
      let numbered : 0 + k + 1 ≡ suc k = omega arith in
      let form : form_at b.growth.specs k ≡ unboxed (part_source part) =
      grind (arith, part-form spec 0 paths k path lt is) in
      let loaded = form-csv (box_at after q).spec (form_at b.growth.specs k) part form
      (w.born k within) in
      let there = contains-flat (λ (d : Birth). d.places) births c.at.0 b c.at.1 c.at.2 q
      (k, within, get_or_default b.places k q 0 within) in
      let number : ℕ = length nodes + there.0 in
      let place : get_or places number 0 ≡ q =
      new-place files nodes reserves before after births g there.0
      ∙ get_or_default (all_places births) there.0 0 q there.1 ∙ there.2 in
      let all_count = places-count files nodes reserves before after births g in
      let less = there.1 in
      let in_list : number < length places = omega (arith, less, all_count) in
      let edges : List Edge = b.growth.edges in
      let some : k < length edges = grind (arith, c.may.is, edges-count 0 paths) in
      let edge : get_or edges k (listed_edge k) ≡ listed_edge k =
      grind (arith, c.may.is, edge-listed 0 paths k) in
      let wire : Wire = record { from = q; out = 0; to = n; input = k } in
      let made : new_wire b.expander b.places (listed_edge k) ≡ wire =
      ap (λ m. record { from = q; out = 0; to = m; input = k }) c.own in
      let found = Contains-append_right wires (flat_map born_wires births) wire
      (contains-flat born_wires births c.at.0 b c.at.1 c.at.2 wire (
        k,
        rw length-map some,
        get_or-map (new_wire b.expander b.places) edges k (listed_edge k) wire some
            ∙ ap (new_wire b.expander b.places) edge ∙ made,
      )) in
      let new_one : length nodes ≤ number = omega arith in
      let none = none-past number new_one in
      let count = counts number in
      record {
        node = q;
        in_range = loaded-within after q (ap is_some loaded);
        loaded = loaded;
        inputs = rw place at (ports true number in_list)
            ∙ grind (arith, count, none-fed number new_one births g.are.each, none);
        outputs = rw place at (ports false number in_list)
            ∙ grind (arith, nat_tests, count, none, less);
        edge = found.0;
        edge_in_range = found.1;
        wire = get_or_default all_wires found.0 no_wire wire found.1 ∙ found.2;
      }

  in-after : (n : ℕ) → n < length nodes → n < length after
  in-after n lt = let few = g.few in omega (arith, lt, few)

  list-ports : (n : ℕ) (list : PartSpec) → n < length nodes
      → (box_at after n).spec ≡ Some (list_source list)
      → ArePortsOf (Some (list_source list)) (box_at after n).growth (input_count all_wires n)
      (output_count all_wires n)
  list-ports n list lt is =
      let ports = g.lists_unfed n list lt is in
      (go (list-case n list (in-after n lt) is), (first-ports n lt).1 ∙ ports.1)
    where
      go : ((growths_of n births ≡ []) × ((box_at after n).growth ≡ None)) ⊎ ListCase list n
          → input_count all_wires n ≡ grown_inputs (box_at after n).growth
      go (inl none) = grind (arith, unfed n lt none.0, g.lists_unfed n list lt is)
      go (inr c) = grind (
        arith,
        fed-length n list c lt (g.lists_unfed n list lt is).0,
        grown-length 0 (paths_in (Some c.may.text)),
      )

  -- A graph of lawful boxes has grown by its lists, each by the sources of its parts.
  pub grown-lists : HasGrownByLists files nodes wires (flat_map born_wires births) after
  grown-lists = record {
    inputs = grind (arith, unfed, no-growth);
    outputs = λ n lt. (first-ports n lt).1;
    list_ports = list-ports;
    lists = λ n list lt is. go n list lt is (list-case n list (in-after n lt) is);
  }
    where
      go : (n : ℕ) (list : PartSpec) → n < length nodes
          → (box_at after n).spec ≡ Some (list_source list)
          → ((growths_of n births ≡ []) × ((box_at after n).growth ≡ None)) ⊎ ListCase list n
          → (input_count all_wires n ≡ 0) ⊎ HasListed list files all_wires after n
      go n list lt is (inl none) = inl (unfed n lt none.0 ∙ (g.lists_unfed n list lt is).0)
      go n list lt is (inr c) = grind (
        arith,
        listed-node n list c lt,
        fed-length n list c lt (g.lists_unfed n list lt is).0,
        g.told n (list_source list) (in-after n lt) is tt,
        c.may,
      )
