use Rattle.std.proofs.Common.{length, map, rules, subst, sym, true, ◌<◌, ◌≡◌, ℕ}
use Rattle.proc_api.specs.Graphs.{IsGraphSoFar, is_gapless}
use Rattle.proc_api.specs.Reserves.{AreReserves, behind_wires}
use Rattle.proc_api.proofs.Reserving.{graph-behind, reserves-behind, starting-behind}
use Rattle.exec_graph.proofs.graph.GraphBuilder.finish.Goals as goal

pub invariant_of-result : goal.invariant_of-result
invariant_of-result g c =
    let old = c.args.self in
    let e : c.behind_wires-reserves.result ≡ map (behind_wires (length old.wires)) old.reserves =
    search rules in
    let gaps : (n : ℕ) → n < length old.ranks → is_gapless old.wires n ≡ true = search rules in
    record {
      one_each = old.one_each;
      well_formed = record {
        so_far = subst (IsGraphSoFar old.ranks old.wires) (sym e)
            (graph-behind old.ranks old.wires old.reserves _ old.well_formed);
        gapless = gaps;
      };
      reserves_fit = subst (AreReserves (length old.ranks) (length old.wires) old.wires) (sym e)
          (reserves-behind (length old.ranks) _ old.wires old.reserves old.reserves_fit);
    }

pub returns-clause-starting : goal.returns-clause-starting
returns-clause-starting g c =
    let old = c.args.self in
    let e : c.behind_wires-reserves.result ≡ map (behind_wires (length old.wires)) old.reserves =
    search rules in
    λ h. starting-behind _ old.reserves old.boxes.items h (length old.wires) _ e
