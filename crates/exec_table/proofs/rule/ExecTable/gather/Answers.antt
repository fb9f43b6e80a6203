use Rattle.exec_table.proofs.Imports.{IsLent, IsSeatOf, [], ap, arith, get_or, identity_of, refl, some, subst, sym, view, ◌++◌, ◌∙◌, ◌∷◌}
use Rattle.exec_table.proofs.Surveying.{at-now, each-all, each-next, next-view}
use Rattle.exec_table.proofs.rule.ExecTable.gather.Goals as goal

pub move_node-requires : goal.move_node-requires
move_node-requires c = let many = c.loop-i.auto.seats in let test = c.loop-i-test.true in
    let x = c.loop-i.invariant.seats _ _ (at-now c.loop-i.seats c.loop-i.i
    c.index-seats-i.result (omega arith) c.index-seats-i.is) in
    let o = subst (IsSeatOf (identity_of c.args.self.now)) (x.3 (omega arith))
    (c.requires.seats.1 _ x.0 x.1).0 in record {
      from = o.table;
      to = c.loop-i.invariant.table ∙ c.requires.root.0;
      node = (_, _, o.single);
    }

pub loop-i-init : goal.loop-i-init
loop-i-init c = record {
  table = refl;
  nodes = c.requires.root.1;
  noted = c.requires.root.2;
  seats = λ k s h. (s, h, (λ l. absurd (omega arith)), (λ _. refl));
}

pub loop-i-preserved : goal.loop-i-preserved
loop-i-preserved c = let many = c.loop-i.auto.seats in let test = c.loop-i-test.true in
    let inv = c.loop-i.invariant in
    let now = get_or c.loop-i.seats c.loop-i.i c.index-seats-i.result in
    let x = inv.seats c.loop-i.i now (at-now c.loop-i.seats c.loop-i.i c.index-seats-i.result
    (omega arith) c.index-seats-i.is) in let same = x.3 (omega arith) in
    let o = (c.requires.seats.1 _ x.0 x.1).0 in let did = c.move_node.ensures in record {
      table = did.to.0 ∙ inv.table;
      nodes = ap (λ m. m.0.nodes) did.to.1 ∙ (ap (λ l. l ++ view now ∷ []) inv.nodes
          ∙ sym (next-view c.args.seats.now c.loop-i.i now (x.1 ∙ ap some same)));
      noted = ap (λ m. m.0.noted) did.to.1;
      seats = each-next IsLent _ c.args.seats.now c.loop-i.seats c.loop-i.i x.0
          (record now { seat = c.move_node.new.from }) x.1 (grind (arith, same, o.single, did.from))
          inv.seats;
    }

pub returns-clause-seats : goal.returns-clause-seats
returns-clause-seats c = each-all IsLent _ _ _ _ c.loop-i.invariant.seats
    (let e = c.loop-i-test.false in let n = c.loop-i.auto.seats in omega arith)
