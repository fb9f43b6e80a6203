use Rattle.std.proofs.Common.{◌≡◌, ◌∷◌, map, take, codes}
use Rattle.std.specs.String.{string_bytes}
use Rattle.command_options.proofs.options.with_program_name.Given as goal

abbrev pub invariant-loop-word : goal.invariant-loop-word
invariant-loop-word l =
    map (λ t. t.now) l.texts.items ≡ codes "qrun" ∷ map string_bytes (take l.word-index l.words)
