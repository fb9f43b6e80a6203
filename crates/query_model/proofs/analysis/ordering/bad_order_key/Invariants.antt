use Rattle.query_model.proofs.Imports.{length, bad_order_key, ◌≡◌}
use Rattle.query_model.proofs.analysis.ordering.bad_order_key.Given as goal

abbrev pub invariant-loop-key : goal.invariant-loop-key
invariant-loop-key l = bad_order_key l.names l.order ≡ bad_order_key l.names l.rest

abbrev pub decreases-loop-key : goal.decreases-loop-key
decreases-loop-key l = length l.rest
