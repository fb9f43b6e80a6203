-- From the chunks that a plan's graph gives to the text of one answer of a command.
use Rattle.query_run.proofs.Imports.{All, All-append, AllPartsValid, AreLawfulOver, Bool, BoxPicture, Checked, ColumnType, Command, DraftNode, Files, GivesText, GrowsLawfully, HasEnoughRows, HasGrown, HasPulled, IfSome, IsCertain, IsDone, IsPlain, IsRunnable, IsUngrown, IsValidUsed, KeepsBehind, Kind, LawfulSnapshot, List, MakesText, NodePort, None, Option, PulledMore, PullsItsFlow, QueryAnswered, Row, SelectPlan, Shape, Some, SortKey, Spec, Stream, [], answer_text, ap, arith, body_nodes, born_wires, both-valid, box_at, chunk_rows, collect_node, database, false, flat_map, flow, get_or-map, grown-lists, grown_kind, handed_out_by, heading, if◌then◌else◌, inl, inr, join_use, join_valid, joined-valid, kind_of, kinds_reserved, length, length-append, length-map, lists-valid, map, needed_valid, no_spec, order_of, parts_used, plan_nodes, plan_of, plan_valid, planned-ended, ports_of, pulled_rows, refl, reserves_from, row_of, rows_text, rows_together, same_kind, shape_of, shape_types, since-pulled, source_types, sources_of_files, spec_at, specs_in, stream_pulled_at, stream_rows, subst, sym, table-valid, true, ℕ, ◌++◌, ◌+◌, ◌-◌, ◌<◌, ◌∙◌, ◌∷◌, ◌≡◌, ◌⊎◌, run-count}
use Rattle.query_model.specs.declared.processor_spec.Kind.TheVariants as kind
use Rattle.query_run.proofs.Commands.{typed_by_tables}
use Rattle.query_run.proofs.Grown.{formed, grows}
use Rattle.query_run.proofs.Plans.{AreCopies, RanCopies, ended-kind, loaded-kind, small_plan, stock}
use Rattle.query_run.proofs.Pulling.{kept-other, kind-pulled}
use Rattle.query_run.proofs.Reserves.{kept-sources}

-- the rows under the names, where those head them
pub heading_before_rows : (header : Bool) (names : List (List ℕ)) (rows : List Row)
    → heading (if header then Some names else None) ++ rows_text rows
    ≡ answer_text header names rows
heading_before_rows header names rows = grind arith

if-some : {A : Type 0} {P Q : A → Type 0} (o : Option A) → ((x : A) → P x → Q x) → IfSome o P
    → IfSome o Q
if-some o f h = grind arith

-- a plan that was cut short reads valid parts alone, or the query has no groups and no order, and
-- the joined table's parts are valid
cut_or_valid : (s : Shape) (from types : List ColumnType) (rows : ℕ) (keys : List SortKey)
    (all join : Bool)
    → needed_valid (shape_of s from rows) (order_of types rows keys) all join ≡ true
    → (all ≡ true) ⊎ (IsPlain s × (keys ≡ []) × (join ≡ true))
cut_or_valid s from types rows keys all join e = grind arith

-- a node of another kind than lists
ungrown-kind : (k : Kind) (s : Spec) → (row_of k).reads_list ≡ false
    → same_kind (kind_of s) k ≡ true → IsUngrown s
ungrown-kind k s told of = grind arith

-- ---- an ended plan

module _ {c : Command} {q : Checked} {before after : List BoxPicture} {nodes : List DraftNode}
    (copies : AreCopies c q nodes) (runnable : IsRunnable c q before)
    (keeps : KeepsBehind (length nodes) (formed nodes)) (text : List ℕ)
    (g : GivesText c.header q.names (specs_in nodes) (kinds_reserved (reserves_from 0 nodes))
    (formed nodes) before after text) where
  abbrev plan : SelectPlan
  plan = plan_of c q

  abbrev specs : List Spec
  specs = specs_in nodes

  abbrev ended : List BoxPicture
  ended = g.gives.holds.ended

  so : RanCopies c q before after nodes ended
  so = record { copies = copies; runnable = runnable; run = g.gives.holds.runs }

  abbrev grown : HasGrown (record {
    ranks = (formed nodes).ranks;
    wires = (formed nodes).wires;
    reserves = (formed nodes).reserves;
    boxes = g.gives.boxes;
  }) ended (λ wires. IsDone wires ended)
  grown = g.gives.holds.done.grown

  -- the collector's node
  abbrev last : ℕ
  last = length (body_nodes plan)

  count : length (plan_nodes plan) ≡ last + 1
  count = length-append (body_nodes plan) (collect_node ∷ [])

  nodes_count : length nodes ≡ last + 1
  nodes_count = grind (arith, length-map, count, copies.same)

  boxes_count : length ended ≡ length nodes + length (kinds_reserved (reserves_from 0 nodes))
  boxes_count = grind (arith, run-count so.run, length-map)

  in_ended : (n : ℕ) → n < length nodes → n < length ended
  in_ended n lt = omega (arith, lt, boxes_count)

  module _ (files : Files) (honest : AreLawfulOver files before) where
    lawfully : GrowsLawfully files nodes (formed nodes).reserves g.gives.boxes
        ended grown.births
    lawfully = grows so keeps g.gives.boxes g.gives.kinds_are g.gives.starting grown.births
        grown.are files honest

    abbrev at_end : LawfulSnapshot files nodes ended
    at_end = record {
      more = flat_map born_wires grown.births;
      count = omega (arith, boxes_count);
      specs = lawfully.specs;
      lawful = lawfully.lawful;
      told = lawfully.told;
      grown = grown-lists files nodes (formed nodes).reserves g.gives.boxes
          ended grown.births lawfully g.gives.holds.done.all;
      lists = grown.holds.snapshot;
    }

    answered : QueryAnswered q c.header files c.tables c.threads plan nodes ended at_end last
    answered =
        planned-ended q c.tables c.threads c.chunk_rows c.header files nodes ended last
        (typed_by_tables c q copies.checked)
        (let some = copies.within.some_threads in omega (arith, some))
        (small_plan copies runnable.paths) copies.same count
        (record { at_end = at_end; over = grown.holds.over })

    abbrev rows : List Row
    rows = chunk_rows (at_end.lists.pulled last 0)

    text_is : text ≡ answer_text c.header q.names rows
    text_is =
        let lt : last < length nodes = let n = nodes_count in omega (arith, n) in
        let collected = answered.run.collected in
        let of_kind : (box_at ended last).kind ≡ kind_of collect_node.spec =
        sym (loaded-kind so last collect_node.spec (in_ended last lt)
        collected.loaded) in
        let place : length specs - 1 ≡ last =
        omega (arith, nodes_count, length-map nodes (λ (n : DraftNode). n.spec)) in
        g.is
        ∙ ap (λ l. answer_text c.header q.names (chunk_rows l))
        (g.gives.holds.rows
        ∙ ap (λ n. handed_out_by (box_at ended n).kind (box_at ended n).work) place
        ∙ ap (λ k. handed_out_by k (box_at ended last).work) of_kind ∙ collected.gathered)

    joined : join_valid (sources_of_files files) plan.join ≡ true
        → All (IsValidUsed c.header files) (flat_map (parts_used files c.tables) (join_use q.join))
    joined e = (joined-valid c.tables c.header c.chunk_rows files q.from q.join e).0

    all_parts : plan_valid (sources_of_files files) plan ≡ true
        → AllPartsValid c.header files c.tables q
    all_parts all =
        let both = both-valid (sources_of_files files) plan.sources plan.join all in
        All-append (IsValidUsed c.header files) (parts_used files c.tables q.from)
        (flat_map (parts_used files c.tables) (join_use q.join))
        (table-valid c.tables c.header c.chunk_rows files q.from both.0).parts
        (joined both.1)

    certain : IsCertain c.header files c.tables q
    certain = elim answered.valid [
      | inl all ↦ inl (all_parts all)
      | inr cut ↦
          elim (cut_or_valid q.shape
          (source_types c.tables q.from q.join)
          (shape_types q.shape (source_types c.tables q.from q.join)) c.chunk_rows q.order
          (plan_valid (sources_of_files files) plan) (join_valid (sources_of_files files) plan.join)
          cut.needed) [
            | inl all ↦ inl (all_parts all)
            | inr free ↦ inr (record {
              enough_rows = subst (HasEnoughRows q.limit) answered.output cut.enough_rows;
              ungrouped = free.0;
              unordered = free.1;
              joined = joined free.2;
            })
          ]
    ]

    -- a kind of which nothing is kept pulled what its nodes did
    nodes_pulled : (k : Kind) (n : ℕ) → (row_of k).reads_list ≡ false
        → same_kind grown_kind k ≡ false
        → pulled_rows k 0 nodes (stream_pulled_at ended at_end.lists.pulled) ≡ n
        → PulledMore k before after (Some n)
    unfolding spec_at
    nodes_pulled k n list csv e =
        let f : NodePort → Stream = stream_pulled_at ended at_end.lists.pulled in
        let others = kept-sources (λ j. same_kind j k ≡ false) csv 0 nodes in
        kind-pulled (stock so) so.run k others n
        (elim (since-pulled k f 0 nodes ended at_end.count
        (λ i le lt. kept-other (stock so) so.run k others i (rw length-map le) lt)
        (λ i z lt is. (
          ended-kind so i lt
              ∙ ap kind_of (get_or-map (λ (n : DraftNode). n.spec) nodes i z no_spec lt
              ∙ ap (λ (n : DraftNode). n.spec) is),
          λ of. subst (λ m. HasPulled (box_at ended i)
              (length (rows_together (stream_rows (map f (ports_of m 0 z.takes))))))
              (let e : i ≡ 0 + i = omega arith in e)
              (answered.run.counted i z lt is (ungrown-kind k z.spec list of)),
        ))) [ inl a ↦ inl (a ∙ e) | inr b ↦ inr b ])

    -- nothing is told of sources
    told-kind : (k : Kind)
        → ((n : ℕ) → (row_of k).reads_list ≡ false → same_kind grown_kind k ≡ false
        → pulled_rows k 0 nodes (stream_pulled_at ended at_end.lists.pulled) ≡ n
        → PulledMore k before after (Some n))
        → IfSome (flow k q (database c.header files c.tables) rows)
        (λ n. pulled_rows k 0 nodes (stream_pulled_at ended at_end.lists.pulled) ≡ n)
        → PulledMore k before after (flow k q (database c.header files c.tables) rows)
    told-kind kind.Csv more h = tt
    told-kind kind.List more h = tt
    told-kind k more h =
        if-some (flow k q (database c.header files c.tables) rows) (λ n. more n refl refl) h

    pub flow_told : PullsItsFlow c files text before after
    flow_told = record {
      answer = record {
        checked = q;
        is_checked = copies.checked;
        certain = certain;
        lists = lists-valid c.tables c.header c.chunk_rows files q.from q.join plan refl refl
            answered.valid;
        rows = rows;
        is_answer = answered.answer;
        is = text_is;
      };
      pulled = λ unlimited k taken.
          told-kind k (nodes_pulled k) (answered.pulled unlimited k taken);
      collected = nodes_pulled _ (length rows) refl refl answered.collected;
    }

  -- what a run of the plan gave is the text of an answer
  pub makes_text : MakesText c q text before after
  makes_text = search (arith, flow_told)
