use Rattle.growth_notes.proofs.Imports.{rules}
use Rattle.growth_notes.proofs.NotesRule.{noted-opening}
use Rattle.growth_notes.proofs.notes.GrowthNotes.make.Goals as goal

pub of_words-requires : goal.of_words-requires
of_words-requires g c = noted-opening c.args.reserves _ (search rules)
