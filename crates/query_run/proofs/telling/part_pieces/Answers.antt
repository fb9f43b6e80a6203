use Rattle.std.proofs.Common.{[], codes, ◌∷◌, ◌∙◌}
use Rattle.query_run.proofs.Lines.{words-last}
use Rattle.query_run.specs.Names.{place_words}
use Rattle.query_run.proofs.telling.part_pieces.Goals as goal

pub returns-in-TooLong : goal.returns-in-TooLong
returns-in-TooLong c = rw c.in-TooLong.is (c.line-in-TooLong.ensures
    ∙ rw (c.as_slice-table.ensures, c.place_words-part.ensures)
    (words-last (codes "qrun: limit: bytes of table ") c.args.name.now.table
    (place_words c.args.name.now.part) (codes ", at most 1073741824") (10 ∷ [])))
