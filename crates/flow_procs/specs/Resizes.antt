-- A resize passes rows on as they are: those of all outputs and those that wait are those of all
-- inputs.
use Rattle.flow_procs.specs.Prelude.{IsShelled, Spec, inl, inr, resize-pushes}

pub resize_shelled : IsShelled Spec.Resize
resize_shelled = record {
  still = λ growth kept m n had h position. elim position
      [ inl same ↦ inl same | inr open' ↦ inr (open', λ own i n. n) ];
  enough_one = λ ins enough growth m n h. absurd enough;
  lets_push = resize-pushes;
}
