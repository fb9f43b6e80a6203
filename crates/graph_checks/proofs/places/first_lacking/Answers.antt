use Rattle.graph_checks.proofs.Imports.{grown_kinds, lacks_blank, le-ltb, sym, ◌∙◌}
use Rattle.graph_checks.proofs.BlankLaws.{find-on, kinds-count}
use Rattle.graph_checks.proofs.places.first_lacking.Goals as goal

pub loop-kind-preserved : goal.loop-kind-preserved
loop-kind-preserved c =
    let nodes = c.args.nodes.now in
    let few = c.count_nodes.ensures ∙ sym (kinds-count _ nodes) in
    let test = rw (few, c.count_blanks.ensures) at c.if-count_blanks-count_nodes.false in
    c.loop-kind.invariant
    ∙ find-on
    (lacks_blank (grown_kinds nodes) c.args.blanks.now) c.args.kinds.now c.loop-kind.kind-index
    _ c.loop-kind-test.true (le-ltb _ _ test)
