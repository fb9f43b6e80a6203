use Rattle.aggregate_proc.proofs.Imports.{arith, ◌∙◌}
use Rattle.aggregate_proc.proofs.BuilderLaws.{key-push, no-keys}
use Rattle.aggregate_proc.proofs.group_builder.key_columns.Goals as goal

pub loop-c-init : goal.loop-c-init
loop-c-init c = c.new-columns.ensures.items ∙ no-keys c.args.types.now

pub loop-c-preserved : goal.loop-c-preserved
loop-c-preserved c = grind (arith, key-push)
