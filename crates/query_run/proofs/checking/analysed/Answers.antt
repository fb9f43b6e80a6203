use Rattle.query_run.proofs.Imports.{IsDueRefusal, List, Schema, TableDecl, analysable_of_read, ap, map, subst, ◌∙◌}
use Rattle.query_run.proofs.Commands.{checked_command}
use Rattle.query_run.proofs.checking.analysed.Goals as goal

pub analyse-requires : goal.analyse-requires
analyse-requires c = analysable_of_read c.args.query c.args.command.now.query c.requires

pub returns-in-Ok-analyse-clause-checked : goal.returns-in-Ok-analyse-clause-checked
returns-in-Ok-analyse-clause-checked c =
    checked_command c.args.command.now c.args.query c.requires c.in-Ok.schemas
    (c.in-Ok.ensures ∙ ap (map (λ (t : TableDecl). t.schema)) c.as_slice.ensures)
    c.in-Ok-analyse.checked c.in-Ok-analyse.ensures.accepted c.in-Ok-analyse.ensures.checked
    c.in-Ok-analyse.ensures.typed

pub returns-clause-refused : goal.returns-clause-refused
returns-clause-refused c = record {
  query = c.args.query;
  read = c.requires;
  due = subst (λ (s : List Schema). IsDueRefusal c.args.query s c.in-Err.refusal)
      (c.in-Ok.ensures ∙ ap (map (λ (t : TableDecl). t.schema)) c.as_slice.ensures)
      c.in-Err.ensures.refused;
}
