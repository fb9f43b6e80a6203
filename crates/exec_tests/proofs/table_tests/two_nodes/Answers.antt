use Rattle.exec_tests.proofs.TableRows.{IsStartNode, ap, dealt_are_open, false, first, identity_of, option_to_list, true, ◌++◌, ◌∙◌}
use Rattle.exec_tests.proofs.table_tests.two_nodes.Goals as goal
use Rattle.exec_tests.proofs.table_tests.two_nodes.Goals.{After-drop-sizes-3}

both : (c : After-drop-sizes-3)
    → IsStartNode c.args.many 0 (identity_of c.in_ok-table.field-0.table) c.unwrap-zero.result
    × IsStartNode c.args.many 1 (identity_of c.in_ok-table.field-0.table) c.unwrap-one.result
both c = let m = c.in_ok-table.ensures in let sizes = m.key ∙ (λ i. record {
  nodes = 2;
  wires = (c.from_vec.ensures ∙ c.in_ok-wires.ensures) i;
  reserves = c.new.ensures i;
  workers = 1;
}) in let given = dealt_are_open c.in_ok-table.field-0.table _ _ _ _ _ (c.pop.ensures.items
    ∙ ap (λ r. c.pop.new.self.items ++ option_to_list r) c.unwrap-one.ensures)
    (c.pop-2.ensures.items ∙ ap (λ r. c.pop-2.new.self.items ++ option_to_list r)
    c.unwrap-zero.ensures) (m.nodes.0 ∙ ap (λ z. z.nodes) sizes) m.nodes.1 in
    (first c.args.many false _ _ sizes given.0, first c.args.many true _ _ sizes given.1)

pub returns-clause-zero : goal.returns-clause-zero
returns-clause-zero c = (both c).0

pub returns-clause-one : goal.returns-clause-one
returns-clause-one c = (both c).1
