use Rattle.exec_table.proofs.Imports.{IsBack, IsLent, ap, arith, first_or_none, get_or, identity_of, refl, rest_of, ◌∙◌}
use Rattle.exec_table.proofs.Surveying.{all-there, at-now, each-all, each-next, enter-allowed, is-back, left-views}
use Rattle.exec_table.proofs.rule.ExecTable.survey.Goals as goal

pub load_new_seat-requires : goal.load_new_seat-requires
load_new_seat-requires c = let w = c.args.self.now.words in (omega arith, enter-allowed _ _ _)

pub note-requires-clause-all : goal.note-requires-clause-all
note-requires-clause-all c = all-there _ c.args.seats.now c.gather.new.root.me.0
    c.requires.seats c.gather.ensures.root.1

pub loop-i-init : goal.loop-i-init
loop-i-init c = record {
  table = c.note.ensures.root.0 ∙ (c.gather.ensures.root.0 ∙ c.load_new_seat.ensures.0);
  nodes = c.note.ensures.root.1 ∙ c.gather.ensures.root.1;
  seats = λ k s h. let x = c.gather.ensures.seats k s h in
      (x.0, x.1, (λ l. absurd (omega arith)), (λ _. x.2));
}

pub move_node-requires : goal.move_node-requires
move_node-requires c = let many = c.loop-i.auto.seats in let test = c.loop-i-test.true in
    let i = c.loop-i.i in let x = c.loop-i.invariant.seats _ _ (at-now c.loop-i.seats i
    c.index-seats-i.result (omega arith) c.index-seats-i.is) in record {
      from = c.loop-i.invariant.table;
      to = (x.3 (omega arith)).0 ∙ (c.requires.seats.1 _ x.0 x.1).0.table;
      node = (_, _, c.loop-i.invariant.nodes ∙ left-views c.args.seats.now i x.0 x.1);
    }

pub loop-i-preserved : goal.loop-i-preserved
loop-i-preserved c = let many = c.loop-i.auto.seats in let test = c.loop-i-test.true in
    let inv = c.loop-i.invariant in let i = c.loop-i.i in let seats = c.args.seats.now in
    let now = get_or c.loop-i.seats i c.index-seats-i.result in
    let x = inv.seats i now (at-now c.loop-i.seats i c.index-seats-i.result (omega arith)
    c.index-seats-i.is) in let did = c.move_node.ensures in
    let first = inv.nodes ∙ left-views seats i x.0 x.1 in record {
      table = did.from.0 ∙ inv.table;
      nodes = ap (λ m. m.0.nodes) did.from.1 ∙ ap rest_of first;
      seats = each-next (IsBack (identity_of c.args.self.now)) IsLent seats c.loop-i.seats i x.0
          (record now { seat = c.move_node.new.to }) x.1 (is-back _ x.0 now _ c.loop-i.root.me.0
          (c.requires.seats.1 i x.0 x.1).0 (x.3 (omega arith)) (ap first_or_none first) did.to.0
          did.to.1 refl refl) inv.seats;
    }

pub returns-clause-seats : goal.returns-clause-seats
returns-clause-seats c = each-all (IsBack (identity_of c.args.self.now)) IsLent _ _ _
    c.loop-i.invariant.seats
    (let e = c.loop-i-test.false in let n = c.loop-i.auto.seats in
    let m = c.gather.ensures.many in omega arith)
