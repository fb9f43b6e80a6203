use Rattle.command_line.proofs.tables.TableDeclPiece.read.Goals as goal

pub returns : goal.returns
returns c =
    rw (
      c.text_before-name.ensures,
      c.text_before-parts.ensures,
      c.text_after.ensures,
      c.text_after-behind.ensures,
    ) at c.read_table.ensures
