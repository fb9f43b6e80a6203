use Rattle.exec_table.proofs.Imports.{AreAll, ap, identity_of, subst, sym, views, ◌∙◌}
use Rattle.exec_table.proofs.Surveying.{ends_are_final}
use Rattle.exec_table.proofs.rule.ExecTable.shut.Goals as goal

pub gather-requires-clause-seats : goal.gather-requires-clause-seats
gather-requires-clause-seats c = subst (AreAll (identity_of c.args.self))
    (sym c.as_mut_slice.ensures.value) c.requires.nodes

pub returns : goal.returns
returns c = ends_are_final _ _ _ _ _ _ _ c.close_with.ensures.values.2 c.unload.ensures.words
    c.unload.ensures.slots (c.gather.ensures.root.1 ∙ ap views c.as_mut_slice.ensures.value)
