-- A lawful box never lets a plan's graph grow by a growth that has a flaw.
use Rattle.query_run.proofs.Imports.{All, All-append, All-cons, All-from_get_or, All-get_or, All-nil, AllByRecursion, Birth, Bool, BoxPicture, Checked, Command, DraftNode, Edge, FlawedWith, GraphBegins, GrowthForm, IsAdded, IsBirth, IsListGrowth, IsRunnable, KeepsBehind, Kind, List, MayGrow, None, Option, PartSpec, Reserve, RunsPlan, Some, Spec, Who, Wire, [], and_parts, ap, arith, births_of, born_wires, both_ways, box_at, cases_lt, cond, end_node, eq-eqb, false, few-paths-in, flat_map, get_or, grew-list, grown_kind, grown_ranks, grown_wires, growth_flaw, growth_list, growths_of, has_wrong_end, holds_node, inl, input_count, inr, is_named, is_reserved, is_some, kept_growths, kind_of, kinds_for, kinds_reserved, le-leb, left_of, length, length-map, list-growth-has-no-flaw, list_any, list_growth, list_source, ltb-true, new_wire, new_wires, nil_from_length, no_wire, not-false, or_parts, paths_in, rank_at, refl, reserve_of, reserved_nodes, reserves_from, set_ranks-other, sources-left, spec_at, specs_in, subst, sum_by, sum_by-cons, sym, take, true, wire_at, ℕ, ◌++◌, ◌+◌, ◌<◌, ◌==◌, ◌∙◌, ◌∷◌, ◌≡◌, ◌≢◌, ◌≤◌}
use Rattle.query_run.proofs.Grown.{blank-kept, ended-within, formed, kept-kind, list-reads, none-kept-at, ranked-list, ranked-within, unfed-first}
use Rattle.query_run.proofs.Plans.{AreCopies, RanCopies, loaded-kind}
use Rattle.query_run.proofs.Kept.{Away, away-held, none-placed, others-all}
use Rattle.query_run.proofs.Reserves.{IsListReserve, held-of, holds-one, holds-within, kept-of, past-of}

-- ---- the wires of births

-- both ends of a wire
abbrev Ends : (ℕ → Type 0) → Wire → Type 0
Ends P w = P w.from × P w.to

-- The ends of a growth's wires are the node that grew and the new nodes.
module _ (P : ℕ → Type 0) (n : ℕ) (places : List ℕ) (own : P n)
    (new : (k : ℕ) → k < length places → P (get_or places k 0)) where
  named-end : (w : Who) → is_named (length places) w ≡ true → P (end_node n places w)
  named-end w h = grind (arith, ltb-true)

  new-ends : (edges : List Edge) → list_any (has_wrong_end (length places)) edges ≡ false
      → All (Ends P) (new_wires n places edges)
  new-ends [] h = All-nil (Ends P)
  new-ends (e ∷ edges) h =
      let both = or_parts (has_wrong_end (length places) e) _ h in
      let ends = and_parts _ _ (not-false _ (or_parts _ _ both.0).0) in
      All-cons (Ends P) (new_wire n places e) (new_wires n places edges) (
        named-end e.from.who ends.0,
        named-end e.to.who ends.1,
      ) (new-ends edges both.1)

-- no wire of births of which none is of node n is at node q
all-miss : (R : List Reserve) (before after : List BoxPicture) (n q : ℕ)
    → ((b : Birth) → IsBirth R before after b → b.expander ≢ n → (b.expander ≢ q) × Away q b)
    → (births : List Birth) → AllByRecursion (IsBirth R before after) births
    → births_of n births ≡ [] → All (Ends (λ m. m ≢ q)) (flat_map born_wires births)
all-miss R before after n q each births h none = go births (others-all R before after n
    (λ (b : Birth). All (Ends (λ m. m ≢ q)) (born_wires b)) (λ b i other.
    let away = each b i other in
    new-ends (λ m. m ≢ q) b.expander b.places away.0 away.1 b.growth.edges (rw i.as_many i.ends))
    births h none)
  where
    go : (births : List Birth)
        → AllByRecursion (λ (b : Birth). All (Ends (λ m. m ≢ q)) (born_wires b)) births
        → All (Ends (λ m. m ≢ q)) (flat_map born_wires births)
    go [] h = All-nil (Ends (λ m. m ≢ q))
    go (b ∷ births) h = All-append (Ends (λ m. m ≢ q)) (born_wires b) (flat_map born_wires births)
        h.0 (go births h.1)

-- the rank of a node that no birth took is as it was
rank-stays : (q : ℕ) (births : List Birth) (ranks : List ℕ) → AllByRecursion (Away q) births
    → rank_at (grown_ranks ranks births) q ≡ rank_at ranks q
rank-stays q [] ranks h = refl
rank-stays q (b ∷ births) ranks h = grind (arith, rank-stays q births, set_ranks-other)

-- no wire goes to a node without inputs
none-to : (n : ℕ) (wires : List Wire) → input_count wires n ≡ 0 → All (λ w. w.to ≢ n) wires
none-to n [] e = All-nil (λ w. w.to ≢ n)
none-to n (w ∷ wires) e =
    let count = sum_by-cons (λ (v : Wire). cond (v.to == n) 1 0) w wires in
    All-cons (λ w. w.to ≢ n) w wires (λ same. grind (arith, eq-eqb, count))
    (none-to n wires (grind (arith, count)))

-- ---- a plan's graph

module _ {c : Command} {q : Checked} {before after : List BoxPicture} {nodes : List DraftNode}
    (copies : AreCopies c q nodes) (runnable : IsRunnable c q before)
    (keeps : KeepsBehind (length nodes) (formed nodes)) (k : Kind)
    (g : GraphBegins (formed nodes) (kinds_for nodes)
    (FlawedWith (RunsPlan (specs_in nodes) (kinds_reserved (reserves_from 0 nodes)) before after)
    k))
  where
    abbrev ended : List BoxPicture
    ended = g.holds.ended

    ran : RanCopies c q before after nodes ended
    ran = record { copies = copies; runnable = runnable; run = g.holds.runs }

    abbrev node : ℕ
    node = g.holds.node

    abbrev box : BoxPicture
    box = box_at ended node

    abbrev R : List Reserve
    R = (formed nodes).reserves

    abbrev started : List BoxPicture
    started = g.boxes

    abbrev grown : List BoxPicture
    grown = g.holds.bad.grown

    abbrev births : List Birth
    births = g.holds.bad.births

    abbrev wires : List Wire
    wires = (formed nodes).wires

    module _ (lawful : box.lawful ≡ true) where
      lawful-before : (box_at grown node).lawful ≡ true
      lawful-before = sym g.holds.bad.same.lawful ∙ lawful

      -- it grew by this growth alone
      none-before : births_of node births ≡ []
      none-before =
          nil_from_length (births_of node births) (sym (length-map (births_of node births) _)
          ∙ ap (λ l. length l) (none-of-it (growths_of node births) refl))
        where
          none-of : (b : Bool) → cond b (growth_list None) [] ≡ []
          none-of true = refl
          none-of false = refl

          now : kept_growths (box_at grown node) ≡ []
          now = ap (λ o. cond (is_some (box_at grown node).spec) (growth_list o) [])
              (g.holds.bad.once lawful) ∙ none-of (is_some (box_at grown node).spec)

          none-of-it : (l : List GrowthForm) → growths_of node births ≡ l
              → growths_of node births ≡ []
          none-of-it [] e = e
          none-of-it (h ∷ l) e =
              let some : growths_of node births ≢ [] =
              (λ none. let no : h ∷ l ≡ [] = sym e ∙ none in cc) in
              let start = none-kept-at ran keeps g.boxes g.kinds_are g.starting node in
              sym (g.holds.bad.are.grew node lawful-before some
              ∙ ap (λ l. l ++ growths_of node births) start) ∙ now

      module _ (list : PartSpec) (is : box.spec ≡ Some (list_source list))
          (may : IsListGrowth list box.files g.holds.bad.bad.growth) where
        own : node < length nodes
        own = elim (cases_lt node (length nodes)) [
          | inl lt ↦ lt
          | inr le ↦
              let csv = kept-kind ran node le g.holds.bad.bad.in_range in
              let wrong : kind_of (list_source list) ≡ grown_kind =
              loaded-kind ran node (list_source list)
              g.holds.bad.bad.in_range is ∙ csv in
              absurd cc
        ]

        reads : spec_at (specs_in nodes) node ≡ list_source list
        reads = list-reads ran node list own is

        reserve : IsListReserve (reserve_of R node)
            (length nodes + reserved_nodes (reserves_from 0 (take node nodes)))
        reserve = kept-of nodes (length wires) node list own reads

        abbrev first : ℕ
        first = (reserve_of R node).first_node

        held : (j : ℕ) → j < 32 → holds_node (first + j) (reserve_of R node) ≡ true
        held = held-of nodes (length wires) node list own reads

        past : (j : ℕ) → j < 32 → (length nodes ≤ first + j)
            × (first + j < length nodes + reserved_nodes (reserves_from 0 nodes))
        past = past-of nodes (length wires) node list own reads

        -- the new nodes of other births are neither the list nor kept for it
        away-list : (b : Birth) → IsBirth R started grown b → b.expander ≢ node → Away node b
        away-list b i other j lt e =
            let past = holds-within _ b.expander (length nodes) (length wires)
            (reserves_from 0 nodes) (i.reserved j lt) in
            grind (arith, past, own)

        away-kept : (j : ℕ) → j < 32 → (b : Birth) → IsBirth R started grown b → b.expander ≢ node
            → Away (first + j) b
        away-kept j lt = away-held R started grown (λ q m n.
            holds-one q m n (length nodes) (length wires) (reserves_from 0 nodes)) node (first + j)
            (held j lt)

        all-away : (q : ℕ)
            → ((b : Birth) → IsBirth R started grown b → b.expander ≢ node → Away q b)
            → AllByRecursion (Away q) births
        all-away q away = others-all R started grown node (Away q) away births g.holds.bad.are.each
            none-before

        -- those that are kept for it are blank still
        blank : (j : ℕ) → j < 32 → (box_at grown (first + j)).spec ≡ None
        blank j lt =
            let w = past j lt in
            g.holds.bad.are.stay_blank (first + j)
            (blank-kept ran keeps g.boxes g.kinds_are g.starting (first + j) w.0 w.1)
            (none-placed (first + j) births (all-away (first + j) (away-kept j lt)))

        missed-kept : (j : ℕ) → j < 32
            → All (Ends (λ m. m ≢ first + j)) (flat_map born_wires births)
        missed-kept j lt = all-miss R started grown node (first + j) (λ b i other. (
          λ e. both_ways _ (ap is_some (blank j lt)) (rw e at i.grown),
          away-kept j lt b i other,
        )) births g.holds.bad.are.each none-before

        missed-list : All (Ends (λ m. m ≢ node)) (flat_map born_wires births)
        missed-list = all-miss R started grown node node
            (λ b i other. (other, away-list b i other)) births g.holds.bad.are.each none-before

        abbrev all_wires : List Wire
        all_wires = grown_wires wires births

        unfed : (e : ℕ) → e < length all_wires → (wire_at all_wires e).to ≢ node
        unfolding wire_at
        unfed e lt =
            All-get_or (λ (w : Wire). w.to ≢ node) all_wires e no_wire lt
            (All-append (λ (w : Wire). w.to ≢ node) wires (flat_map born_wires births)
            (none-to node wires (unfed-first ran node list own reads))
            (λ m d within_wires. (missed-list m d within_wires).1))

        unwired : (e j : ℕ) → e < length all_wires → j < 32
            → ((wire_at all_wires e).from ≢ first + j) × ((wire_at all_wires e).to ≢ first + j)
        unfolding wire_at
        unwired e j lt few =
            let w = past j few in
            All-get_or (Ends (λ m. m ≢ first + j)) all_wires e no_wire lt
            (All-append (Ends (λ m. m ≢ first + j)) wires (flat_map born_wires births)
            (All-from_get_or (Ends (λ m. m ≢ first + j)) wires no_wire (λ m within_wires. (
              λ is. reserved-wire (keeps.reserves_fit.from_added m within_wires) is w,
              λ is. reserved-wire (keeps.reserves_fit.to_added m within_wires) is w,
            ))) (missed-kept j few))
          where
            reserved-wire : {n m : ℕ} → IsAdded (length (formed nodes).ranks) R n → n ≡ m
                → (length nodes ≤ m) × (m < length nodes + reserved_nodes (reserves_from 0 nodes))
                → ⊥
            reserved-wire {n} {m} a is w =
                let at : is_reserved R m ≡ true =
                keeps.kept m (ranked-within nodes m w.1) ∙ le-leb (length nodes) m w.0 in
                both_ways _ (subst (λ k. is_reserved R k ≡ false) is a.unreserved) at

        abbrev paths : List (List ℕ)
        paths = paths_in (Some may.text)

        few : length paths ≤ 32
        few = few-paths-in (Some may.text)

        no-flaw : growth_flaw (grown_ranks (formed nodes).ranks births) all_wires
            (left_of R ended births node) node (list_growth list paths) ≡ None
        no-flaw =
            let none = ap (λ (bs : List Birth). sum_by (λ (b : Birth). length b.growth.edges) bs)
            none-before in
            list-growth-has-no-flaw (grown_ranks (formed nodes).ranks births) all_wires
            (left_of R ended births node) node first 32 list paths g.holds.bad.graph
            (let rank = rank-stays node births (formed nodes).ranks (all-away node away-list) in
            let above = ranked-list ran node own in omega (arith, rank, above))
            (rw reserve.nodes (sources-left ended [] first 32 (λ j lt.
            let w = past j lt in
            let other : first + j ≢ node = λ e. absurd (omega (arith, w.0, e, own)) in
            let at = g.holds.bad.others (first + j) other in (
              refl,
              (
                ap (λ (p : BoxPicture). p.spec) at ∙ blank j lt,
                kept-kind ran (first + j) w.0 (ended-within ran (first + j) w.1),
              ),
            ))))
            few (omega (arith, few, none, reserve.edges)) few unfed
            (λ e j lt less. unwired e j lt (omega (arith, less, few)))
            (λ j lt e. absurd (omega (arith, (past j (omega (arith, lt, few))).0, e, own)))

      flawed : ⊥
      flawed = go box.spec refl (g.holds.bad.bad.may_grow lawful)
        where
          go : (o : Option Spec) → box.spec ≡ o
              → MayGrow o box.files (Some g.holds.bad.bad.growth) → ⊥
          go o e m =
              let grew = grew-list o box.files g.holds.bad.bad.growth m in
              let none = no-flaw grew.list (e ∙ grew.is) grew.growth in
              let some =
              ap (λ (f : GrowthForm). growth_flaw (grown_ranks (formed nodes).ranks births)
              (grown_wires wires births) (left_of R ended births node) node f) (sym grew.growth.is)
              ∙ g.holds.bad.bad.flawed in
              let wrong : Some g.holds.flaw ≡ None = sym some ∙ none in
              absurd cc

    -- so a box whose growth has a flaw isn't lawful
    pub flawed-unlawful : box.lawful ≡ false
    flawed-unlawful = grind (arith, flawed)
