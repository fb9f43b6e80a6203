use Rattle.std.proofs.Common.{◌≡◌, ℕ, zero, suc, ◌<◌, ◌≤◌, List, rules, [], ◌∷◌, true, refl, sym, subst, arith, nat_le, length, map}
use Rattle.port_word.specs.declared.flags.Wire.{Wire}
use Rattle.proc_api.specs.Names.{IsEdge, IsGraph, is_gapless}
use Rattle.proc_api.specs.Settled.{wire_at}
use Rattle.proc_api.specs.Graphs.{rank_at}
use Rattle.proc_api.specs.Reserves.{AreReserves, IsAdded, is_reserved}
use Rattle.plan_run.specs.Plans.{KeepsBehind}
use Rattle.plan_run.specs.Stock.{HasStock}
use Rattle.proc_api.specs.Names.{BoxPicture, is_of}
use Rattle.query_model.specs.declared.processor_spec.Kind.TheVariants as kind
use Rattle.std.specs.List.{count_by}
use Rattle.exec_tests.proofs.plan_run_tests.run_pair.Goals as goal

abbrev wire : Wire
wire = record { from = 0; out = 0; to = 1; input = 0 }

only_wire : (e : ℕ) → e < 1 → wire_at (wire ∷ []) e ≡ wire
unfolding wire_at
only_wire zero lt = refl
only_wire (suc e) lt = absurd (omega (arith, lt))

is_edge : IsEdge (1 ∷ 2 ∷ []) wire
unfolding rank_at
is_edge = record {
  from_in_range = omega arith;
  to_in_range = omega arith;
  ranked = omega arith;
  few_inputs = omega arith;
  few_outputs = omega arith;
}

has_no_gap : (n : ℕ) → n < 2 → is_gapless (wire ∷ []) n ≡ true
has_no_gap zero lt = refl
has_no_gap (suc zero) lt = refl
has_no_gap (suc (suc n)) lt = absurd (omega (arith, lt))

is_graph : IsGraph (1 ∷ 2 ∷ []) (wire ∷ []) []
is_graph = record {
  so_far = record {
    few_nodes = omega arith;
    few_edges = omega arith;
    edges = λ e lt. subst (IsEdge (1 ∷ 2 ∷ [])) (sym (only_wire e lt)) is_edge;
    inputs_once = λ e f le lf _. omega (arith, le, lf);
    outputs_once = λ e f le lf _. omega (arith, le, lf);
  };
  gapless = has_no_gap;
}

is_kept_behind : (n : ℕ) → n < 2 → is_reserved [] n ≡ nat_le 2 n
is_kept_behind zero lt = refl
is_kept_behind (suc zero) lt = refl
is_kept_behind (suc (suc n)) lt = absurd (omega (arith, lt))

are_reserves : AreReserves 2 1 (wire ∷ []) []
are_reserves = record {
  growing = λ k lt. absurd (omega (arith, lt));
  nodes_within = λ k lt. absurd (omega (arith, lt));
  edges_behind = λ k lt. absurd (omega (arith, lt));
  edges_within = λ k lt. absurd (omega (arith, lt));
  apart = λ j k below lt. absurd (omega (arith, lt));
  from_added = λ e lt. subst (λ (w : Wire). IsAdded 2 [] w.from) (sym (only_wire e lt))
      (record { in_range = omega arith; unreserved = refl });
  to_added = λ e lt. subst (λ (w : Wire). IsAdded 2 [] w.to) (sym (only_wire e lt))
      (record { in_range = omega arith; unreserved = refl });
}

keeps_behind : KeepsBehind 2
    (record { ranks = 1 ∷ 2 ∷ []; wires = wire ∷ []; reserves = [] })
keeps_behind = record { graph = is_graph; reserves_fit = are_reserves; kept = is_kept_behind }

has_pair : (boxes : List BoxPicture) {sources collectors : ℕ}
    → sources ≡ count_by (is_of kind.Csv) boxes → collectors ≡ count_by (is_of kind.Collect) boxes
    → 1 ≤ sources → 1 ≤ collectors → HasStock (kind.Csv ∷ kind.Collect ∷ []) boxes
has_pair boxes s c source collector kind.Csv = omega (arith, s, source)
has_pair boxes s c source collector kind.List = omega arith
has_pair boxes s c source collector kind.Numbers = omega arith
has_pair boxes s c source collector kind.Filter = omega arith
has_pair boxes s c source collector kind.Expression = omega arith
has_pair boxes s c source collector kind.Resize = omega arith
has_pair boxes s c source collector kind.PartialAggregate = omega arith
has_pair boxes s c source collector kind.MergeAggregate = omega arith
has_pair boxes s c source collector kind.HashJoin = omega arith
has_pair boxes s c source collector kind.Sort = omega arith
has_pair boxes s c source collector kind.MergeSorted = omega arith
has_pair boxes s c source collector kind.Limit = omega arith
has_pair boxes s c source collector kind.Collect = omega (arith, c, collector)

pub run_plan-requires-clause-runnable : goal.run_plan-requires-clause-runnable
run_plan-requires-clause-runnable g c κs lives =
    let boxes = map (λ b. (goal.Processor-dyn g (b.vtable, b.value)).seen b.value)
    c.args.rack.now.boxes.items in
    let two : length c.push-2.new.self.items ≡ 2 =
    omega (arith, c.in_ok-push-2.ensures.len, c.in_ok-push.ensures.len, c.new-specs.ensures.len) in
    record {
      blank = c.requires;
      stock = λ k. rw c.in_ok-push-2.ensures.items (rw c.in_ok-push.ensures.items
          (rw c.new-specs.ensures.items (rw c.new.ensures
          (has_pair boxes c.count.ensures c.count-2.ensures (search rules) (search rules) k))));
      graph = record {
        some_nodes = omega (arith, two);
        one_each = rw two (rw c.new.ensures (rw c.in_ok-pair_ranks.ensures refl));
        graph = rw two (rw c.in_ok-pair_ranks.ensures (rw c.in_ok-pair_wires.ensures
            (rw c.new-2.ensures keeps_behind)));
        some_workers = omega arith;
        few_workers = omega arith;
      };
    }
