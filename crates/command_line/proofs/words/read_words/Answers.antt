use Rattle.command_line.proofs.Imports.{map, string_bytes, sym, ◌∙◌}
use Rattle.command_line.proofs.Meanings.{command_means, limits_kept, means_none}
use Rattle.command_line.proofs.words.read_words.Goals as goal

pub returns-in-Ok-Some-clause-means : goal.returns-in-Ok-Some-clause-means
returns-in-Ok-Some-clause-means c =
    command_means (map string_bytes c.args.words.now) c.in-Ok-Some.command (sym c.in-Ok-Some.ensures
    ∙ c.in-Ok-Some.field-0-is)

pub returns-in-Ok-Some-clause-within : goal.returns-in-Ok-Some-clause-within
returns-in-Ok-Some-clause-within c =
    let words = map string_bytes c.args.words.now in
    limits_kept words c.in-Ok-Some.command
    (command_means words c.in-Ok-Some.command (sym c.in-Ok-Some.ensures ∙ c.in-Ok-Some.field-0-is))

pub returns-in-Ok-None-clause-meaningless : goal.returns-in-Ok-None-clause-meaningless
returns-in-Ok-None-clause-meaningless c =
    λ _ command means. means_none (map string_bytes c.args.words.now) (sym c.in-Ok-None.ensures
    ∙ c.in-Ok-None.field-0-is) command means
