-- A plan's graph that ran over an honest rack has grown by its lists, and each box served the part
-- that is noted of it.
pub use Rattle.query_run.specs.Steps.{formed}
use Rattle.query_run.proofs.Imports.{AreBirths, AreLawfulOver, AreStarting, Birth, Bool, BoxPicture, Checked, Command, Contains, DraftNode, Files, GrowsLawfully, GrowthForm, IsAboveSources, IsKeptFor, IsListGrowth, IsListNamed, IsPlanGraph, IsSourceKind, KeepsBehind, List, None, Option, PartName, PartSpec, ReadsNamed, Reserve, ServesNamed, Some, SourceHas, Spec, StartsAs, TakeBlanks, UsedPart, [], ap, arith, at-recursion, births_of, blanks_of, both_ways, box_at, cases_Bool, cases_lt, collect_node, ended-later, eq-eqb, false, few-paths-in, file_bytes, filter-append, form-csv, form_at, form_kind, get_or, get_or-map, get_or-range_with_len, get_or_append_left, get_or_default, get_or_past, grown_kind, growths_of, holds_node, inl, input_count, inr, is_place, is_some, kept_growths, kind_of, kinds_for, kinds_in, le-leb, length, length-append, length-map, length-range_with_len, length-replicate, list_source, listed_part, map, name_at, nil_from_length, no_spec, part-form, part_place, part_source, paths_in, places-listed, places_for, places_in, plan-graph, plan-ranked, plan_of, range_with_len, rank_at, refl, replicate, reserve_of, reserved_nodes, reserves_from, row_of, slice_get, sources, sources-left, spec_at, specs_in, subst, sym, take, taken-kinds, taken-length, taken_for, true, unboxed, used_part, used_parts, ℕ, ◌++◌, ◌+◌, ◌<◌, ◌==◌, ◌∙◌, ◌∷◌, ◌≡◌, ◌≢◌, ◌≤◌, run-count}
use Rattle.query_run.proofs.Pulling.{kind-kept}
use Rattle.query_run.proofs.Kept.{Away, IsTaken, away-held, kept-for, kept-place, none-placed, numbered-contains, others-all, slice-left, slice-right, taken-by, takes-at}
use Rattle.query_run.proofs.Plans.{IsUsedList, IsUsedPart, RanCopies, ReadsItsName, ended-files, ended-lawful, first-named, list-named, list-ports, loaded-kind, part-named, place-at, ran-at, reads-named, small_plan, source-at, stock}
use Rattle.query_run.proofs.Reserves.{IsListReserve, held-of, holds-one, holds-within, kept-of, kept-sources, kinds-length, past-of, grower-within}

-- the name that is noted of a box
abbrev pub names_of : Command → List DraftNode → ℕ → PartName
names_of c nodes n =
    name_at c.tables (slice_get (places_in (specs_in nodes) (reserves_from 0 nodes)) n)

kinds-count : (nodes : List DraftNode)
    → length (kinds_for nodes) ≡ length nodes + reserved_nodes (reserves_from 0 nodes)
kinds-count nodes =
    search (arith, length-append, length-map, kinds-length)

-- each node and each that is kept has a rank
pub ranked-within : (nodes : List DraftNode) (n : ℕ)
    → n < length nodes + reserved_nodes (reserves_from 0 nodes) → n < length (formed nodes).ranks
ranked-within nodes n lt = grind (arith, length-append, length-map, length-replicate)

none-kept : (p : BoxPicture) (b : Bool) → StartsAs b p → kept_growths p ≡ []
none-kept p b h = grind arith

at-most-one : (p : BoxPicture) → length (kept_growths p) ≤ 1
at-most-one p = grind arith

module _ {c : Command} {q : Checked} {before after : List BoxPicture} {nodes : List DraftNode}
    {ended : List BoxPicture} (x : RanCopies c q before after nodes ended) where
  graph : IsPlanGraph nodes
  graph = plan-graph (plan_of c q) nodes (small_plan x.copies x.runnable.paths) x.copies.same

  abbrev specs : List Spec
  specs = specs_in nodes

  abbrev kept : ℕ
  kept = reserved_nodes (reserves_from 0 nodes)

  ended-count : length ended ≡ length nodes + kept
  ended-count = grind (arith, run-count x.run, length-map, kinds-length)

  abbrev names : ℕ → PartName
  names = names_of c nodes

  named-first : (n : ℕ) → n < length nodes
      → names n ≡ name_at c.tables (Some (part_place (spec_at specs n)))
  named-first n lt = grind (arith, length-map, slice-left, place-at)

  abbrev for-list : ℕ → Type 0
  for-list n = IsKeptFor 0 (length nodes) nodes n

  named-kept : (n : ℕ) (f : for-list n)
      → names n ≡ name_at c.tables (Some (record { table = f.list.table; part = f.place + 1 }))
  unfolding spec_at
  named-kept n f =
      let each = length-map nodes (λ (n : DraftNode). n.spec) in
      let at : n ≡ length (map part_place specs)
      + (reserved_nodes (reserves_from 0 (take f.lister nodes)) + f.place) =
      omega (arith, f.is, each, length-map specs part_place) in
      ap (name_at c.tables)
      (ap (λ k. slice_get (places_in specs (reserves_from 0 nodes)) k) at
      ∙ slice-right (map part_place specs) _ _
      ∙ kept-place specs nodes f.lister f.place f.in_range
      (ap (λ s. (row_of (kind_of s)).reads_list) f.reads) f.place_in_range
      ∙ ap (λ s. Some (record { table = (part_place s).table; part = f.place + 1 })) f.reads)

  kept-list : (n : ℕ) → length nodes ≤ n → n < length ended → for-list n
  kept-list n le lt = kept-for 0 (length nodes) nodes n le (omega (arith, lt, ended-count))

  used-list : (n : ℕ) (f : for-list n) → IsUsedList c q f.list
  used-list n f = subst (SourceHas (IsUsedPart c q) (IsUsedList c q)) f.reads
      (source-at x.copies f.lister f.in_range)

  -- a source serves the part or the list with its name
  pub serves : (n : ℕ) → n < length ended → IsSourceKind (box_at ended n).kind
      → ServesNamed c q nodes n (names n)
  serves n lt source = elim (cases_lt n (length nodes)) [
    | inl less ↦
        let r = ran-at x n less in
        let kind : IsSourceKind (kind_of (spec_at specs n)) =
        subst IsSourceKind (r.later.kind ∙ sym r.of_kind) source in
        inl (subst (λ name. ReadsNamed c q name (spec_at specs n)) (sym (named-first n less))
        (reads-named x.copies n less kind))
    | inr past ↦
        let f = kept-list n past lt in
        inr (
          f,
          subst (λ name. IsListNamed c q name (f.place + 1) f.list.path)
              (sym (named-kept n f)) (list-named x.copies f.list (used-list n f) (f.place + 1)),
        )
  ]

  -- what is kept for lists are sources
  pub kept-kind : (n : ℕ) → length nodes ≤ n → n < length ended
      → (box_at ended n).kind ≡ grown_kind
  kept-kind n le lt =
      (ended-later x.run n lt).kind
      ∙ kind-kept (λ k. k ≡ grown_kind) specs _ (taken_for (kinds_for nodes) before)
      (taken-kinds (kinds_for nodes) before (stock x))
      (kept-sources (λ k. k ≡ grown_kind) refl 0 nodes) n (rw length-map le)
      (omega (arith, lt, ended-count, taken-length (kinds_for nodes) before, kinds-count nodes))

  pub ended-within : (n : ℕ) → n < length nodes + kept → n < length ended
  ended-within n lt = omega (arith, lt, ended-count)

  -- each node has a rank above that of the parts' sources
  pub ranked-list : (n : ℕ) → n < length nodes → 0 < rank_at (formed nodes).ranks n
  unfolding rank_at
  ranked-list n lt =
      let ranks : List ℕ = map (λ (n : DraftNode). n.rank) nodes in
      let within : n < length ranks = rw length-map lt in
      let z : DraftNode = get_or nodes n collect_node in
      subst (λ r. 0 < r) (sym (get_or_append_left ranks (replicate kept 0) 0 n within
      ∙ get_or-map (λ (n : DraftNode). n.rank) nodes n collect_node 0 lt))
      (at-recursion IsAboveSources nodes (plan-ranked (plan_of c q) nodes x.copies.same) n z lt
      (get_or_default nodes n z collect_node lt))

  -- no wire of the plan goes to a list
  pub unfed-first : (n : ℕ) (list : PartSpec) → n < length nodes
      → spec_at specs n ≡ list_source list → input_count (formed nodes).wires n ≡ 0
  unfed-first n list lt is = graph.graph.inputs n ∙ (list-ports x.copies n list lt is).0

  -- the spec of a list's node
  pub list-reads : (n : ℕ) (list : PartSpec) → n < length nodes
      → (box_at ended n).spec ≡ Some (list_source list) → spec_at specs n ≡ list_source list
  list-reads n list lt is = grind (arith, ran-at x n lt)

  -- ---- over an honest rack

  module _ (keeps : KeepsBehind (length nodes) (formed nodes)) (started : List BoxPicture)
      (kinds_are : kinds_in started ≡ kinds_for nodes)
      (starting : AreStarting (formed nodes).reserves started) where
    started-count : length started ≡ length nodes + kept
    started-count = grind (arith, length-map, kinds-count)

    pub none-kept-at : (n : ℕ) → kept_growths (box_at started n) ≡ []
    unfolding box_at
    none-kept-at n = grind (arith, cases_lt, none-kept, get_or_past)

    -- a box that is kept starts blank
    pub blank-kept : (n : ℕ) → length nodes ≤ n → n < length nodes + kept
        → (box_at started n).spec ≡ None
    unfolding box_at
    blank-kept n le lt = subst (λ b. StartsAs b (box_at started n))
        (keeps.kept n (ranked-within nodes n lt) ∙ le-leb (length nodes) n le)
        (starting n (omega (arith, lt, started-count)))

    module _ (births : List Birth) (are : AreBirths (formed nodes).reserves started ended births)
        (files : Files) (honest : AreLawfulOver files before) where
      pub grows : GrowsLawfully files nodes (formed nodes).reserves started ended births
      unfolding spec_at
      grows = record {
        are = are;
        ungrown = none-kept-at;
        lawful = λ n lt. ended-lawful x files honest n lt;
        told = λ n s lt is source.
            ended-files x files honest n lt
            (subst IsSourceKind (loaded-kind x n s lt is)
            source);
        specs = λ n z lt is. (ran-at x n lt).spec
            ∙ ap (λ s. Some s) (get_or-map (λ (n : DraftNode). n.spec) nodes n z no_spec lt
            ∙ ap (λ (n : DraftNode). n.spec) is);
        behind = λ n k held.
            let edges : ℕ = length (formed nodes).wires in
            let low = grower-within k n 0 (length nodes) edges nodes held in (
              omega (arith, low),
              (holds-within k n (length nodes) edges (reserves_from 0 nodes)
                  held).0,
            );
        few = omega (arith, ended-count);
        graph = graph.graph;
        lists_unfed = λ n list lt is.
            let ports = list-ports x.copies n list lt (list-reads n list lt is) in
            (graph.graph.inputs n ∙ ports.0, graph.graph.outputs n ∙ ports.1);
      }

      abbrev R : List Reserve
      R = (formed nodes).reserves

      abbrev edges : ℕ
      edges = length (formed nodes).wires

      one-holder : (node m n : ℕ) → holds_node node (reserve_of R m) ≡ true
          → holds_node node (reserve_of R n) ≡ true → m ≡ n
      one-holder node m n h k = holds-one node m n _ _ _ h k

      -- what a loaded box that is kept for a list reads: the part of its place
      pub record IsListed (node : ℕ) (f : IsKeptFor 0 (length nodes) nodes node) : Type 0 where
        pub text : List ℕ
        pub bytes_are : file_bytes files f.list.path ≡ Some text
        pub path : List ℕ
        pub in_range : f.place < length (paths_in (Some text))
        pub is : get_or (paths_in (Some text)) f.place path ≡ path
        pub loaded : (box_at ended node).spec ≡ Some (part_source (listed_part f.list f.place path))

      module _ (node : ℕ) (f : IsKeptFor 0 (length nodes) nodes node)
          (born : is_some (box_at ended node).spec ≡ true) where
        abbrev m : ℕ
        m = f.lister

        reserve : IsListReserve (reserve_of R m)
            (length nodes + reserved_nodes (reserves_from 0 (take m nodes)))
        reserve = kept-of nodes edges m f.list f.in_range f.reads

        abbrev first : ℕ
        first = (reserve_of R m).first_node

        at-place : node ≡ first + f.place
        at-place = let is = f.is in let e = reserve.first_node in omega (arith, is, e)

        -- each node of the list's reserve is held by it, and was a blank source
        held : (k : ℕ) → k < 32 → holds_node (first + k) (reserve_of R m) ≡ true
        held = held-of nodes edges m f.list f.in_range f.reads

        left : (k : ℕ) → k < 32 → ((box_at started (first + k)).spec ≡ None)
            × ((box_at started (first + k)).kind ≡ grown_kind)
        left k lt =
            let w = past-of nodes edges m f.list f.in_range f.reads k lt in (
              blank-kept (first + k) w.0 w.1,
              kind-kept (λ j. j ≡ grown_kind) specs _ started kinds_are
                  (kept-sources (λ j. j ≡ grown_kind) refl 0 nodes) (first + k)
                  (rw length-map w.0) (omega (arith, w.1, started-count)),
            )

        took : (t : IsTaken R started ended node) × (births ≡ t.earlier ++ t.birth ∷ t.later)
        took = elim (cases_Bool (is_place births node)) [
          | inl new ↦ taken-by R started ended births node are.each new
          | inr old ↦
              let same : first + f.place ≡ node = sym at-place in
              let none = are.stay_blank node (rw same at (left f.place f.place_in_range).0) old in
              absurd (both_ways _ (ap is_some none) born)
        ]

        abbrev taken : IsTaken R started ended node
        taken = took.0

        abbrev birth : Birth
        birth = taken.birth

        expander : birth.expander ≡ m
        expander = one-holder node birth.expander m
            (rw taken.is at (taken.is_birth.reserved taken.place taken.in_range))
            (subst (λ n. holds_node n (reserve_of R m) ≡ true) (sym at-place)
            (held f.place f.place_in_range))

        in-ended : m < length ended
        in-ended = let lt = f.in_range in omega (arith, lt, ended-count)

        lister-loaded : (box_at ended m).spec ≡ Some (list_source f.list)
        lister-loaded = (ran-at x m f.in_range).spec ∙ ap (λ s. Some s) f.reads

        lister-lawful : (box_at ended m).lawful ≡ true
        lister-lawful = ended-lawful x files honest m in-ended

        may : IsListGrowth f.list (Some files) birth.growth
        may =
            let told = ended-files x files honest m in-ended
            (subst IsSourceKind (loaded-kind x m (list_source f.list) in-ended lister-loaded) tt) in
            rw (expander, lister-loaded, told) at
            (taken.is_birth.may_grow (rw expander lister-lawful))

        abbrev paths : List (List ℕ)
        paths = paths_in (Some may.text)

        none-earlier : births_of m taken.earlier ≡ []
        none-earlier =
            let one = at-most-one (box_at ended m) in
            let all = length-map (births_of m births) (λ (b : Birth). b.growth) in
            let parts = ap (λ l. length (births_of m l)) took.1
            ∙ ap (λ l. length l)
            (filter-append (λ (b : Birth). b.expander == m) taken.earlier (birth ∷ taken.later))
            ∙ length-append (births_of m taken.earlier) (births_of m (birth ∷ taken.later)) in
            let some : 1 ≤ length (births_of m (birth ∷ taken.later)) =
            rw (eq-eqb birth.expander m expander) (omega arith) in
            let born : growths_of m births ≢ [] =
            (λ none. let len = ap (λ l. length l) none in omega (arith, len, all, parts, some)) in
            let kept = are.grew m lister-lawful born
            ∙ ap (λ l. l ++ growths_of m births) (none-kept-at m) in
            let len = ap (λ l. length l) kept in
            nil_from_length (births_of m taken.earlier) (omega (arith, one, len, all, parts, some))

        blanks : blanks_of started ([] ++ taken.earlier) (reserve_of R birth.expander).first_node
            (reserve_of R birth.expander).nodes ≡ sources first 32
        blanks =
            rw (expander, reserve.nodes) (sources-left started taken.earlier first 32 (λ k lt. (
              none-placed (first + k) taken.earlier (others-all R started ended m (Away (first + k))
                  (away-held R started ended one-holder m (first + k) (held k lt)) taken.earlier
                  taken.each none-earlier),
              left k lt,
            )))

        places : birth.places ≡ range_with_len first (length paths)
        places =
            let t = takes-at R started ended [] taken.earlier birth taken.later
            (subst (TakeBlanks R started []) took.1 are.take) in
            t.1 ∙ ap (λ l. places_for (map form_kind birth.growth.specs) l t.0) blanks
            ∙ ap (λ (h : GrowthForm). places_for (map form_kind h.specs) (sources first 32) t.0)
            may.is
            ∙ places-listed f.list 0 paths first 32 t.0 (few-paths-in (Some may.text))

        in-paths : taken.place < length paths
        in-paths =
            let len = ap (λ l. length l) places ∙ length-range_with_len first (length paths) in
            omega (arith, taken.in_range, len)

        same-place : taken.place ≡ f.place
        same-place =
            let at = sym taken.is ∙ ap (λ l. get_or l taken.place 0) places
            ∙ get_or-range_with_len first (length paths) taken.place 0 in-paths in
            omega (arith, at, at-place)

        pub listed : IsListed node f
        listed =
            let path : List ℕ = get_or paths taken.place [] in
            let is : get_or paths taken.place path ≡ path =
            get_or_default paths taken.place path [] in-paths in
            let form : form_at birth.growth.specs taken.place
            ≡ unboxed (part_source (listed_part f.list taken.place path)) =
            ap (λ (h : GrowthForm). form_at h.specs taken.place) may.is
            ∙ part-form f.list 0 paths taken.place path in-paths is
            ∙ (let none : 0 + taken.place ≡ taken.place = omega arith in
            ap (λ j. unboxed (part_source (listed_part f.list j path))) none) in
            let loaded =
            rw taken.is at (form-csv (box_at ended (get_or birth.places taken.place 0)).spec
            (form_at birth.growth.specs taken.place) (listed_part f.list taken.place path) form
            (taken.is_birth.born taken.place taken.in_range)) in
            let within_paths = rw same-place at in-paths in
            record {
              text = may.text;
              bytes_are = may.are;
              path = get_or paths f.place [];
              in_range = within_paths;
              is = get_or_default paths f.place (get_or paths f.place []) [] within_paths;
              loaded = rw same-place at loaded;
            }

      pub reads-its-name : (n : ℕ) → n < length ended
          → ReadsItsName c q files (names n) (box_at ended n).spec
      reads-its-name n lt = elim (cases_lt n (length nodes)) [
        | inl less ↦
            rw ((ran-at x n less).spec, named-first n less)
            (first-named x.copies files n less)
        | inr past ↦ elim (cases_Bool (is_some (box_at ended n).spec)) [
          | inl born ↦
              let f = kept-list n past lt in
              let u = used-list n f in
              let l = listed n f born in
              let p : UsedPart = used_part (listed_part f.list f.place l.path) in
              let among : Contains (used_parts files c.tables q) p =
              u.among files p (rw l.bytes_are (numbered-contains f.list.table f.list.types 1
              (paths_in (Some l.text)) f.place l.path l.in_range l.is)) in
              rw (l.loaded, named-kept n f)
              (part-named x.copies files p u.table u.declared among, u.header_is)
          | inr unborn ↦ none-reads (box_at ended n).spec unborn
        ]
      ]
        where
          none-reads : (o : Option Spec) → is_some o ≡ false → ReadsItsName c q files (names n) o
          none-reads None e = tt
          none-reads (Some s) e = absurd cc
