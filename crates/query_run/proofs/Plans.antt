-- The nodes of a checked query's plan, and the boxes that they take from a rack.
use Rattle.query_run.proofs.Imports.{AllByRecursion, AreLawfulOver, BoxPicture, Checked, Command, Contains, Contains-append_right, DraftNode, FileHas, FileRead, Files, HasBoxes, HasStock, IsCheckedCommand, IsListNamed, IsListOf, IsPartNamed, IsPartOf, IsQueryPlan, IsReadNamed, IsRunnable, IsSmall, IsSourceKind, IsStep, IsWithinLimits, Kind, List, NamesFewPaths, NoFile, OfFile, OfPart, Option, PartFile, PartName, PartSpec, PartsFile, PlanReserve, RanWith, ReadsNamed, RunsPlan, Some, SourceHas, Spec, TableDecl, UsedPart, [], ap, arith, at-recursion, both_ways, box_at, boxes-counted, boxes_for, boxes_reserved, cases_lt, collect_node, count_by, ended-later, file_place, file_read, flat_map, forms, get_or, get_or-map, get_or_default, in-front, is-small, join_use, joined-parts, kind_of, kinds-counted, kinds-same, kinds_for, kinds_reserved, length, length-map, list_source, map, name_at, name_of, part_place, parts_used, plan-needs, plan-steps, plan_nodes, plan_of, query-plan, refl, reserves-same, reserves_from, same_kind, slice_get, slice_get-get_or, slice_get-map, spec_at, specs_in, subst, sum_by, sum_by-append, sum_by-cons, sym, table-parts, taken-has, taken_at, true, used_part, used_parts, used_tables, ℕ, ◌<◌, ◌∙◌, ◌∷◌, ◌≡◌, ⊤}
use Rattle.query_run.proofs.Commands.{typed_by_tables}

-- a source's spec reads a file
source-reads : (s : Spec) → IsSourceKind (kind_of s) → OfPart (Some s) (λ part. ⊤)
source-reads s source = grind arith

-- ---- the plan of a query

reserved-counted : (k : Kind) (rs : List PlanReserve)
    → count_by (λ j. same_kind j k) (kinds_reserved rs) ≡ sum_by (boxes_reserved k) rs
reserved-counted k [] = refl
reserved-counted k (r ∷ rs) = search (arith, sum_by-append, sum_by-cons, reserved-counted k rs)

-- copies of nodes take boxes of the same kinds
pub kinds-for-same : (xs ys : List DraftNode) → forms xs ≡ forms ys → kinds_for xs ≡ kinds_for ys
kinds-for-same xs ys e = grind (arith, kinds-same, reserves-same)

-- a rack with the boxes that the query needs has the stock of copies of its plan
pub plan_stock : (c : Command) (q : Checked) (nodes : List DraftNode) (boxes : List BoxPicture)
    → forms nodes ≡ forms (plan_nodes (plan_of c q)) → HasBoxes (boxes_for c q) boxes
    → HasStock (kinds_for nodes) boxes
plan_stock c q nodes boxes same enough =
    subst (λ ks. HasStock ks boxes) (sym (kinds-for-same nodes steps same)) stock
  where
    steps : List DraftNode
    steps = plan_nodes (plan_of c q)

    stock : HasStock (kinds_for steps) boxes
    stock k = grind (
      arith,
      sum_by-append,
      steps,
      reserved-counted k (reserves_from 0 steps),
      kinds-counted k steps,
      boxes-counted k 0 steps,
      plan-needs q c.tables c.threads c.chunk_rows c.header k,
    )

-- ---- the parts that nodes read

-- the query uses the part, which is read as the command says
abbrev pub IsUsedPart : Command → Checked → PartSpec → Type 0
IsUsedPart c q part = IsPartOf c.header c.tables (λ files. used_parts files c.tables q) part

-- the query uses the list, which is read as the command says
abbrev pub IsUsedList : Command → Checked → PartSpec → Type 0
IsUsedList c q list =
    IsListOf c.header c.tables (used_tables q) (λ files. used_parts files c.tables q) list

abbrev pub HasItsName : Command → Checked → Files → PartName → FileRead → Type 0
HasItsName c q files name NoFile = ⊤
HasItsName c q files name (PartFile part) =
    IsPartNamed c q files name (used_part part) × (part.header ≡ c.header)
HasItsName c q files name (PartsFile list) = IsListNamed c q name 0 list.path

-- what a box reads has this name
abbrev pub ReadsItsName : Command → Checked → Files → PartName → Option Spec → Type 0
ReadsItsName c q files name o = HasItsName c q files name (file_read o)

-- copies of the nodes of a checked query's plan
pub record AreCopies (c : Command) (q : Checked) (nodes : List DraftNode) : Type 0 where
  pub within : IsWithinLimits c
  pub checked : IsCheckedCommand c q
  pub same : forms nodes ≡ forms (plan_nodes (plan_of c q))

module _ {c : Command} {q : Checked} {nodes : List DraftNode} (copies : AreCopies c q nodes) where
  query_plan : IsQueryPlan (plan_of c q)
  query_plan = search (arith, query-plan, typed_by_tables)

  pub small_plan : NamesFewPaths c q → IsSmall (plan_of c q)
  small_plan few = grind (arith, is-small)

  -- each node's kind is known, and a part that it reads is one that the query uses
  pub steps_are : AllByRecursion (IsStep (IsUsedPart c q) (IsUsedList c q)) nodes
  steps_are =
      let used : Files → List UsedPart = λ files. used_parts files c.tables q in
      let more : Files → List UsedPart =
      λ files. flat_map (parts_used files c.tables) (join_use q.join) in
      plan-steps (IsUsedPart c q) (IsUsedList c q) (plan_of c q) nodes query_plan.is (
        table-parts c.header c.tables c.chunk_rows (used_tables q) used q.from
            (0, omega arith, refl)
            (λ files u m. in-front u (parts_used files c.tables q.from) (more files) m),
        joined-parts c.header c.tables c.chunk_rows (used_tables q) used q.from q.join
            (λ u m. Contains-append_right (q.from ∷ []) (join_use q.join) u m)
            (λ files u m.
            Contains-append_right (parts_used files c.tables q.from) (more files) u m),
      ) copies.same

  step-at : (n : ℕ) → n < length nodes
      → IsStep (IsUsedPart c q) (IsUsedList c q) (get_or nodes n collect_node)
  step-at n lt = at-recursion (IsStep (IsUsedPart c q) (IsUsedList c q)) nodes steps_are n _ lt
      (get_or_default nodes n (get_or nodes n collect_node) collect_node lt)

  spec-is : (n : ℕ) → n < length nodes
      → spec_at (specs_in nodes) n ≡ (get_or nodes n collect_node).spec
  unfolding spec_at
  spec-is n lt = grind (arith, get_or-map)

  -- what a node reads is a part, or a list, that the query uses
  pub source-at : (n : ℕ) → n < length nodes
      → SourceHas (IsUsedPart c q) (IsUsedList c q) (spec_at (specs_in nodes) n)
  source-at n lt = grind (arith, spec-is n lt, step-at n lt)

  -- the ports of a list's node
  pub list-ports : (n : ℕ) (list : PartSpec) → n < length nodes
      → spec_at (specs_in nodes) n ≡ list_source list
      → (get_or (map (λ (z : DraftNode). z.takes) nodes) n 0 ≡ 0)
      × (get_or (map (λ (z : DraftNode). z.gives) nodes) n 0 ≡ 1)
  list-ports n list lt is = grind (arith, get_or-map, spec-is n lt, step-at n lt)

  -- a used list has the name that is noted of its part k
  pub list-named : (list : PartSpec) (u : IsUsedList c q list) (k : ℕ)
      → IsListNamed c q
      (name_at c.tables (Some (record { table = list.table; part = k }))) k list.path
  list-named list u k = record {
    list = record {
      place = list.table;
      used = u.is_used;
      table = u.table;
      declared = u.declared;
      names_list = u.names_list;
    };
    named = ap (λ t. record { table = name_of t; part = k }) u.declared;
  }

  -- and so has a used part
  pub part-named : (files : Files) (p : UsedPart) (table : TableDecl)
      → slice_get c.tables p.table ≡ Some table → Contains (used_parts files c.tables q) p
      → IsPartNamed c q files
      (name_at c.tables (Some (record { table = p.table; part = p.part }))) p
  part-named files p table declared used = grind arith

  -- what a node reads has the name that is noted of it
  pub first-named : (files : Files) (n : ℕ) → n < length nodes
      → ReadsItsName c q files (name_at c.tables (Some (part_place (spec_at (specs_in nodes) n))))
      (Some (spec_at (specs_in nodes) n))
  first-named files n lt = each (file_read (Some (spec_at (specs_in nodes) n))) (source-at n lt)
    where
      each : (r : FileRead) → FileHas (IsUsedPart c q) (IsUsedList c q) r
          → HasItsName c q files (name_at c.tables (Some (file_place r))) r
      each NoFile u = tt
      each (PartFile part) u =
          grind (arith, part-named files (used_part part) u.table u.declared (u.among files))
      each (PartsFile list) u = grind (arith, list-named list u 0)

  -- a node of a source's kind reads the part or list with that name
  pub reads-named : (n : ℕ) → n < length nodes → IsSourceKind (kind_of (spec_at (specs_in nodes) n))
      → ReadsNamed c q (name_at c.tables (Some (part_place (spec_at (specs_in nodes) n))))
      (spec_at (specs_in nodes) n)
  reads-named n lt source =
      each (file_read (Some s)) (λ files. first-named files n lt) (source-reads s source)
    where
      s : Spec
      s = spec_at (specs_in nodes) n

      each : (r : FileRead) → ((files : Files) → HasItsName c q files
          (name_at c.tables (Some (part_place s))) r) → OfFile r (λ part. ⊤)
          → IsReadNamed c q (name_at c.tables (Some (part_place s))) r
      each NoFile h some = absurd some
      each (PartFile part) h some = λ files. (h files).0
      each (PartsFile list) h some = h []

-- the place that was noted of a node is that of its spec
pub place-at : (specs : List Spec) (n : ℕ) → n < length specs
    → slice_get (map part_place specs) n ≡ Some (part_place (spec_at specs n))
unfolding spec_at
place-at specs n lt = grind (arith, slice_get-map, slice_get-get_or)

-- ---- the boxes as a run left them

ran-kind : (s t : Spec) (p q : BoxPicture) → RanWith t p q → q.spec ≡ Some s → kind_of s ≡ q.kind
ran-kind s t p q r is = grind arith

-- such copies that ran over a rack within the limits of their plan
pub record RanCopies (c : Command) (q : Checked) (before after : List BoxPicture)
    (nodes : List DraftNode) (ended : List BoxPicture) : Type 0 where
  pub copies : AreCopies c q nodes
  pub runnable : IsRunnable c q before
  pub run : RunsPlan (specs_in nodes) (kinds_reserved (reserves_from 0 nodes)) before after ended

module _ {c : Command} {q : Checked} {before after : List BoxPicture} {nodes : List DraftNode}
    {ended : List BoxPicture} (x : RanCopies c q before after nodes ended) where
  abbrev specs : List Spec
  specs = specs_in nodes

  pub stock : HasStock (kinds_for nodes) before
  stock = plan_stock c q nodes before x.copies.same x.runnable.boxes

  -- the box that a node ran
  pub ran-at : (n : ℕ) → n < length nodes
      → RanWith (spec_at specs n) (taken_at (kinds_for nodes) before n) (box_at ended n)
  ran-at n lt = x.run.boxes.ran n (rw length-map lt)

  pub ended-kind : (n : ℕ) → n < length nodes → (box_at ended n).kind ≡ kind_of (spec_at specs n)
  ended-kind n lt = grind (arith, ran-at)

  -- a loaded box is of the kind of its spec
  pub loaded-kind : (n : ℕ) (s : Spec) → n < length ended → (box_at ended n).spec ≡ Some s
      → kind_of s ≡ (box_at ended n).kind
  loaded-kind n s lt is =
      grind (arith, ran-kind, ran-at, length-map, both_ways, cases_lt n (length nodes))

  module _ (files : Files) (honest : AreLawfulOver files before) (n : ℕ)
      (lt : n < length ended) where
    pub ended-lawful : (box_at ended n).lawful ≡ true
    ended-lawful = (ended-later x.run n lt).lawful
        ∙ taken-has x.run (λ (p : BoxPicture). p.lawful ≡ true) stock honest.lawful n lt

    -- a source tells the files of an honest rack
    pub ended-files : IsSourceKind (box_at ended n).kind → (box_at ended n).files ≡ Some files
    ended-files source =
        let told = taken-has x.run (λ (p : BoxPicture). IsSourceKind p.kind → p.files ≡ Some files)
        stock honest.told n lt in
        grind (arith, ended-later x.run n lt, told)
