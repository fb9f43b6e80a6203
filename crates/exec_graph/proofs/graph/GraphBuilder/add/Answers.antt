use Rattle.std.proofs.Common.{◌++◌, ◌∷◌, ◌≡◌, [], List, ℕ, ◌+◌, arith, length, subst, sym}
use Rattle.std.proofs.lemmas.List.{length-append}
use Rattle.proc_api.specs.Graphs.{IsGraphSoFar}
use Rattle.proc_api.specs.Reserves.{AreReserves}
use Rattle.proc_api.proofs.Graphs.{node-added}
use Rattle.proc_api.proofs.Reserving.{none-behind, reserves-node, starting-fresh}
use Rattle.exec_graph.proofs.graph.GraphBuilder.add.Goals as goal

pub invariant_of-self-in-Ok-push-clause-well_formed :
    goal.invariant_of-self-in-Ok-push-clause-well_formed
invariant_of-self-in-Ok-push-clause-well_formed g c =
    let old = c.args.self.now in
    subst (λ (ranks : List ℕ). IsGraphSoFar ranks old.wires old.reserves)
    (sym c.in-Ok-push.ensures.ok) (node-added old.ranks old.wires old.reserves c.args.rank
    old.well_formed (omega (arith, c.if-node-ge-MAX_NODES.false, c.len-node.ensures)))

pub invariant_of-self-in-Ok-push-clause-reserves_fit :
    goal.invariant_of-self-in-Ok-push-clause-reserves_fit
invariant_of-self-in-Ok-push-clause-reserves_fit g c =
    let old = c.args.self.now in
    let more : length (old.ranks ++ c.args.rank ∷ []) ≡ length old.ranks + 1 =
    length-append old.ranks (c.args.rank ∷ []) in
    subst (λ (ranks : List ℕ). AreReserves (length ranks) 0 old.wires old.reserves)
    (sym c.in-Ok-push.ensures.ok) (reserves-node (length old.ranks) 0 old.wires old.reserves
    old.reserves_fit _ (omega (arith, more)))

pub returns-in-Ok-push-clause-starting : goal.returns-in-Ok-push-clause-starting
returns-in-Ok-push-clause-starting g c =
    let old = c.args.self.now in
    λ h. starting-fresh _ old.reserves old.boxes.items h c.push.new.self.items c.args.b
    c.in-Ok.ensures.items c.requires.fresh (none-behind (length old.ranks) _ old.reserves
    (omega (arith, old.one_each)) old.reserves_fit.nodes_within)
