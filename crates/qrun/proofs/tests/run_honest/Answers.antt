use Rattle.outside_io.specs.Told.{files_of}
use Rattle.qrun.proofs.tests.run_honest.Goals as goal

pub returns-clause-answered : goal.returns-clause-answered
returns-clause-answered g c = let files = files_of c.args.files.now in record {
  answered = λ e. c.run.ensures.answered e files c.requires.honest.boxes_are;
  succeeds = c.run.ensures.succeeds files c.requires.honest;
}
