-- A filter makes of its chunks the rows at which its condition is true.
use Rattle.flow_procs.specs.Prelude.{Cond, IsMaker, IsShelled, Spec, filter, filter-append, holds, refl, shelled-of}

pub filter_maker : (c : Cond) → IsMaker (Spec.Filter c) (filter (holds c))
filter_maker c = record {
  both = filter-append (holds c);
  into = λ x own worked outs wait h. h;
  from = λ x own worked outs wait h. h;
}

pub filter_shelled : (c : Cond) → IsShelled (Spec.Filter c)
filter_shelled c =
    shelled-of (Spec.Filter c) 1 refl (record { ports = λ growth m n h. h })
