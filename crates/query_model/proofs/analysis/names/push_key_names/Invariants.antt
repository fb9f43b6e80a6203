use Rattle.query_model.proofs.Imports.{take, ◌++◌, ◌≡◌}
use Rattle.query_model.proofs.analysis.names.push_key_names.Given as goal

abbrev pub invariant-loop-key : goal.invariant-loop-key
invariant-loop-key l = l.names.items ≡ l.fn.names.items ++ take l.key-index l.keys
