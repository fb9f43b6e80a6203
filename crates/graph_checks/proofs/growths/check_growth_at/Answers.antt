use Rattle.graph_checks.proofs.Imports.{None, Some, arith, length, ◌≡◌}
use Rattle.graph_checks.proofs.FlawLaws.{by-blanks, by-wires}
use Rattle.graph_checks.proofs.growths.check_growth_at.Goals as goal

pub returns-in-Err-clause-flaw : goal.returns-in-Err-clause-flaw
returns-in-Err-clause-flaw c =
    let many : c.len.result ≡ length c.args.blanks.items =
    omega (arith, c.len.ensures, c.args.blanks.ok.0) in
    by-wires c.args.rank c.args.past c.args.wires.now c.args.blanks.items c.args.left c.args.n
    c.args.growth.now c.as_slice-nodes.result.now c.as_slice-nodes.ensures
    c.as_slice-edges.result.now c.as_slice-edges.ensures c.len.result many
    c.in-None.ensures.flaw c.in_ok-places.places.items c.in_ok-places.ensures
    c.as_slice-2.result.now c.as_slice-2.ensures.value c.in-Err.flaw
    (rw c.in-Err.is at c.in_ok-all.ensures.flaw)

pub returns-in-Some-lacking-clause-flaw : goal.returns-in-Some-lacking-clause-flaw
returns-in-Some-lacking-clause-flaw c =
    let many : c.len.result ≡ length c.args.blanks.items =
    omega (arith, c.len.ensures, c.args.blanks.ok.0) in
    by-blanks c.args.rank c.args.past c.args.wires.now c.args.blanks.items c.args.left c.args.n
    c.args.growth.now c.as_slice-nodes.result.now c.as_slice-nodes.ensures
    c.as_slice-edges.result.now c.as_slice-edges.ensures c.len.result many
    c.in-None.ensures.flaw c.in_ok-places.places.items c.in_ok-places.ensures
    c.as_slice-2.result.now c.as_slice-2.ensures.value c.as_slice.result.now
    c.as_slice.ensures.value (Some c.in-Some-lacking.flaw) c.in-Some-lacking.ensures
    (rw c.in-Ok.is at c.in_ok-all.ensures.none)

pub returns-in-None-lacking-clause-none : goal.returns-in-None-lacking-clause-none
returns-in-None-lacking-clause-none c =
    let many : c.len.result ≡ length c.args.blanks.items =
    omega (arith, c.len.ensures, c.args.blanks.ok.0) in
    by-blanks c.args.rank c.args.past c.args.wires.now c.args.blanks.items c.args.left c.args.n
    c.args.growth.now c.as_slice-nodes.result.now c.as_slice-nodes.ensures
    c.as_slice-edges.result.now c.as_slice-edges.ensures c.len.result many
    c.in-None.ensures.flaw c.in_ok-places.places.items c.in_ok-places.ensures
    c.as_slice-2.result.now c.as_slice-2.ensures.value c.as_slice.result.now
    c.as_slice.ensures.value None c.in-None-lacking.ensures
    (rw c.in-Ok.is at c.in_ok-all.ensures.none)
