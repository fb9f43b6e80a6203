-- The graph that is run is that of the query's plan.
use Rattle.query_run.proofs.Imports.{All, BoxPicture, Checked, Command, DraftNode, GivesText, HasStock, IsBlank, IsCheckedCommand, IsGraph, IsGraphOf, IsPlanned, IsRunnable, IsWithinLimits, KeepsBehind, LeavesRack, List, MakesText, MayRunPlan, PartPlace, Plan, PlanFailsFor, PlanFaultHolds, GraphBegins, RunsPlan, PlanFailure, PlanFault, PlanGraph, TableDecl, Tells, [], ap₂, arith, edges_kept, failure_of, kinds_for, kinds_reserved, kinds_taken, length, length-append, length-map, length-replicate, map, map-map, name_at, no_draft, node_specs, places_in, plan_ranks, reserved_nodes, reserves_from, slice_get, specs_in, subst, sym, with_nodes, ℕ, ◌+◌, ◌∙◌, ◌≡◌, ◌≤◌}
use Rattle.query_run.proofs.Causes.{told-cause}
use Rattle.query_run.proofs.Composing.{makes_text}
use Rattle.query_run.proofs.Grown.{formed}
use Rattle.query_run.proofs.Plans.{AreCopies, plan_stock}
use Rattle.query_run.proofs.Reserves.{edges-as-nodes, keeps-behind, kinds-length}

-- the lists that the code made of the plan are those of its nodes
module _ {c : Command} {q : Checked} {p : Plan} (within : IsWithinLimits c)
    (h : IsCheckedCommand c q) (planned : IsPlanned c q p)
  where
    abbrev nodes : List DraftNode
    nodes = planned.laid.copies

    copies : AreCopies c q nodes
    copies = record { within = within; checked = h; same = planned.laid.same }

    nodes_count : length p.nodes ≡ length nodes
    nodes_count = grind (arith, length-map)

    edges_count : length p.edges ≡ length (with_nodes nodes no_draft).wires
    edges_count = grind arith

    ranks_are : plan_ranks p ≡ map (λ (n : DraftNode). n.rank) nodes
    ranks_are = grind (arith, map-map)

    few_kept : length nodes + reserved_nodes (reserves_from 0 nodes) ≤ 124
    few_kept = grind (arith, nodes_count)

    -- few enough edges are kept
    pub few-edges : length p.edges + edges_kept p.reserves ≤ 1024
    few-edges = grind (arith, few_kept, edges-as-nodes)

    some-nodes : 1 ≤ length nodes
    some-nodes = grind (arith, length-map, length-append)

    keeps : KeepsBehind (length nodes) (formed nodes)
    keeps =
        let ranks : List ℕ = map (λ (n : DraftNode). n.rank) nodes in
        let len : length ranks ≡ length nodes = length-map nodes (λ (n : DraftNode). n.rank) in
        let base : IsGraph ranks (with_nodes nodes no_draft).wires [] =
        subst (λ r. IsGraph r (with_nodes nodes no_draft).wires []) ranks_are
        (subst (λ w. IsGraph (plan_ranks p) w []) planned.laid.edges planned.sound.graph) in
        rw len at (keeps-behind ranks (with_nodes nodes no_draft).wires base nodes (sym len)
        (omega (arith, len, few_kept))
        (omega (arith, planned.sound.few_edges, edges_count, few_kept, edges-as-nodes 0 nodes)))

    -- the code's graph, with the kinds that it keeps
    module _ {g : PlanGraph} (made : IsGraphOf p g) where
      of_nodes : g.specs.items ≡ specs_in nodes
      of_nodes = grind (arith, map-map)

      specs_count : length g.specs.items ≡ length nodes
      specs_count = grind (arith, of_nodes, length-map)

      of_kept : g.kept ≡ kinds_reserved (reserves_from 0 nodes)
      of_kept = grind arith

      of_form : g.form ≡ formed nodes
      of_form = grind (arith, made, ranks_are, nodes_count, edges_count, kinds-length)

      one-each : length g.form.ranks ≡ length g.specs.items + length g.kept
      one-each =
          grind (
            arith,
            of_form,
            of_kept,
            specs_count,
            length-append,
            length-map,
            length-replicate,
            kinds-length,
          )

      module _ {before : List BoxPicture} (runnable : IsRunnable c q before) where
        abbrev of_kinds : kinds_taken g.specs.items g.kept ≡ kinds_for nodes
        of_kinds = ap₂ (λ l k. kinds_taken l k) of_nodes of_kept

        pub made-runnable : (workers : ℕ) → All IsBlank before → 1 ≤ workers → workers ≤ 16
            → MayRunPlan g workers before
        made-runnable workers blank some few = record {
          blank = blank;
          stock = subst (λ ks. HasStock ks before) (sym of_kinds)
              (plan_stock c q nodes before planned.laid.same runnable.boxes);
          graph = record {
            some_nodes = omega (arith, some-nodes, specs_count);
            one_each = one-each;
            graph = subst (λ f. KeepsBehind (length g.specs.items) f) (sym of_form)
                (subst (λ n. KeepsBehind n (formed nodes)) (sym specs_count) keeps);
            some_workers = some;
            few_workers = few;
          };
        }

        pub made-text : {after : List BoxPicture} (text : List ℕ)
            → GivesText c.header q.names g.specs.items g.kept g.form before after text
            → MakesText c q text before after
        made-text {after} text given =
            makes_text copies runnable keeps text (rw (of_nodes, of_kept, of_form) at given)

        pub made-cause : {after : List BoxPicture} (f : PlanFault) (told : PlanFailure)
            {tables : List TableDecl} {places seen : List PartPlace} → tables ≡ c.tables
            → seen ≡ places → places ≡ places_in (node_specs p.nodes) p.reserves
            → Tells told (failure_of f (λ node. name_at tables (slice_get seen node)))
            → LeavesRack (kinds_taken g.specs.items g.kept) before after
            → PlanFaultHolds f (GraphBegins g.form (kinds_taken g.specs.items g.kept))
            (RunsPlan g.specs.items g.kept before after) → PlanFailsFor told c q before after
        made-cause {after} f told {tables} {places}
            {seen} tables_are seen_are places_are tells left why =
            let of_places : seen ≡ places_in (specs_in nodes) (reserves_from 0 nodes) =
            seen_are ∙ places_are
            ∙ ap₂ (λ l rs. places_in l rs) (sym made.specs_are ∙ of_nodes) planned.laid.reserves in
            told-cause after copies runnable keeps f told
            (rw (of_places, tables_are) at tells) (rw (of_nodes, of_kept) at left)
            (rw (of_nodes, of_kept, of_form) at why)
