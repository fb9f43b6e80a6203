use Rattle.plan_laws.proofs.graph.Building.{fit-at, nodes-more}
use Rattle.plan_laws.proofs.graph.GraphLaws.{ranks-count}
use Rattle.plan_laws.proofs.Imports.{Draft, FitsDraft, no_draft, with_node, with_nodes}
use Rattle.std.proofs.Common.{ap, arith, length, length-take-le, sym, take, ◌<◌, ◌∙◌}
use Rattle.plan_laws.proofs.builder.build.Goals as goal

pub add-requires-clause-ends_there : goal.add-requires-clause-ends_there
add-requires-clause-ends_there c =
    let within : c.loop-node.node-index < length c.args.nodes.now = omega arith in
    let before : Draft = with_nodes (take c.loop-node.node-index c.args.nodes.now) no_draft in
    let fit : FitsDraft c.node-item.result before =
    rw c.node-item.is (fit-at c.args.nodes.now c.loop-node.node-index c.node-item.result no_draft
    within c.requires.fit) in
    let le = fit.in_range in
    let same = ap (λ (d : Draft). length d.ends) c.loop-node.invariant in
    omega (arith, le, same)

pub add-requires-clause-few_nodes : goal.add-requires-clause-few_nodes
add-requires-clause-few_nodes c = grind (
  arith,
  length-take-le c.loop-node.node-index c.args.nodes.now (omega arith),
  ranks-count (take c.loop-node.node-index c.args.nodes.now) no_draft,
)

pub loop-node-preserved : goal.loop-node-preserved
loop-node-preserved c =
    let within : c.loop-node.node-index < length c.args.nodes.now = omega arith in
    c.in_ok-add.ensures ∙ ap (with_node c.node-item.result) c.loop-node.invariant
    ∙ sym (nodes-more c.args.nodes.now c.loop-node.node-index c.node-item.result no_draft within
    c.node-item.is)
