use Rattle.query_run.proofs.Imports.{PlanReserve, arith, length, rules, ◌<◌, ◌≡◌}
use Rattle.query_run.proofs.NextKept.{behind-pushed, one-more}
use Rattle.query_run.proofs.planning.reserves_of.Goals as goal

pub loop-reserve-preserved : goal.loop-reserve-preserved
loop-reserve-preserved c =
    let rs = c.args.reserves.now in
    let i = c.loop-reserve.reserve-index in
    let r = c.reserve-item.result in
    let lt : i < length rs = search rules in
    let kept : c.len-kept.result ≡ length r.kinds = search rules in
    let nodes = one-more (λ (p : PlanReserve). length p.kinds) rs i r lt (search rules) in
    let edges = one-more (λ (p : PlanReserve). p.edges) rs i r lt (search rules) in
    record {
      all = behind-pushed c.args.nodes c.args.edges rs i r c.loop-reserve.all.items _
          c.loop-reserve.first_node c.len-kept.result c.loop-reserve.first_edge lt (search rules)
          c.loop-reserve.invariant.all (search rules) c.loop-reserve.invariant.nodes kept
          c.loop-reserve.invariant.edges;
      nodes = omega (arith, nodes, kept, c.loop-reserve.invariant.nodes);
      edges = omega (arith, edges, c.loop-reserve.invariant.edges);
    }
