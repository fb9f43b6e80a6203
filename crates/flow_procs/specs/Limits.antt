-- A limit makes of its chunks the rows of its span.
use Rattle.flow_procs.specs.Prelude.{IsShelled, OwnState, Span, Spec, idle_own, refl, shelled-of, ℕ}

abbrev pub read_own : ℕ → OwnState
read_own n = record idle_own { read = n }

pub limit_shelled : (span : Span) → IsShelled (Spec.Limit span)
limit_shelled span =
    shelled-of (Spec.Limit span) 1 refl (record { ports = λ growth m n h. h })
