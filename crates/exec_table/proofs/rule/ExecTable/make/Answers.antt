use Rattle.exec_table.proofs.Imports.{CoreState, [], ap, edge_count, first_view, fits, length, ports-length, sym, words_of, ◌+◌, ◌∙◌}
use Rattle.exec_table.proofs.Starting.{starts, words-long}
use Rattle.exec_table.proofs.rule.ExecTable.make.Goals as goal

pub vacant-requires : goal.vacant-requires
vacant-requires c = let is = c.in_ok-core.ensures.is_start in starts c.args.sizes.now _ _ c.requires
    (c.as_slice.ensures.value ∙ (c.in_ok-words.ensures ∙ ap words_of is))
    (c.len-edges.ensures ∙ ap (λ (k : CoreState). length k.ports) is)

pub invariant_of-table : goal.invariant_of-table
invariant_of-table c = let is = c.in_ok-core.ensures.is_start in let s = c.args.sizes.now in
    let made = c.in_ok-table.ensures in
    let edges = c.len-edges.ensures ∙ (ap (λ (k : CoreState). length k.ports) is
    ∙ ports-length s) in record {
      fit = ap fits made.5 ∙ c.requires;
      nodes_are = ap (λ k. k.nodes) (sym made.5);
      edges_are = edges ∙ ap edge_count (sym made.5);
      words = made.0 ∙ (ap length (c.as_slice.ensures.value ∙ (c.in_ok-words.ensures
          ∙ ap words_of is)) ∙ (words-long s ∙ ap (λ k. (s.nodes + (k + k)) + 1) (sym edges)));
      slots = made.1;
    }

pub deal-requires-clause-view : goal.deal-requires-clause-view
deal-requires-clause-view c = let made = c.in_ok-table.ensures in
    made.4 ∙ ap (λ k. (first_view k, [])) (sym made.5)
