-- A collector hands out the chunks that it pulled.
use Rattle.std.specs.Prelude.{◌==◌, ◌≡◌, ◌⊎◌}
use Rattle.flow_procs.specs.Prelude.{Bool, IsShelled, IsWorkOf, KernelState, Kind, List, Some, Spec, Table, [], ap, first-source, first_stage, idle_own, inl, sym, true, work_of, ℕ, ◌∙◌}

abbrev pub gathering : List Table → (handed_out : Bool) → KernelState
gathering chunks handed_out = record {
  kind = Kind.Collect;
  spec = Spec.Collect;
  own = record idle_own { gathered = chunks };
  stage = record first_stage { handed_out = handed_out };
}

pub collect_uses : (chunks : List Table) (handed_out : Bool) (i : ℕ) (unworked made : List Table)
    → ((i ≡ 0) × (unworked ≡ [])) ⊎ ((i == 0) ≡ true) → made ≡ []
    → IsWorkOf (Some Spec.Collect) (work_of (gathering chunks handed_out) i unworked made)
collect_uses chunks handed_out i unworked made e none =
    first-source (gathering chunks handed_out) i unworked made e
    ∙ ap (λ l. work_of (gathering chunks handed_out) 0 unworked l) none

pub collect_shelled : IsShelled Spec.Collect
collect_shelled = record {
  still = λ growth kept m n had h position. inl (h.0 ∙ sym had.0, h.1 ∙ sym had.1);
  enough_one = λ ins enough growth m n h. absurd enough;
  lets_push = λ x own worked outs more growth inputs outputs o pushed rest ports by others h. h;
}
