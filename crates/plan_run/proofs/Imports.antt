-- The names from outside that this crate's proofs use, in one place.
pub use Rattle.chunk_data.proofs.Places.{Changes-map_set}
pub use Rattle.exec_laws.proofs.Imports.{GivenBack, GivesBox, IsBorn, StaysBox, count_by-cons, set}
pub use Rattle.exec_laws.specs.Prelude.{kind_of}
pub use Rattle.pipeline_exec.specs.Ends.{Begun}
pub use Rattle.plan_run.specs.Boxes.{AreRun, EachBox, FirstBoxes, IsBlankAgain, IsLater, IsStill, LeavesStill, LoadsFirst, PutsBehind, RanKept, RanWith}
pub use Rattle.plan_run.specs.Plans.{GivesBack, GivesPlan, GraphBegins, KeepsBehind, PlanFaultHolds, RunsPlan, kinds_in, kinds_of, kinds_taken, taken_at}
pub use Rattle.plan_run.specs.Stock.{HasStock, first_box_of, left_after, taken_for, without_first_box}
pub use Rattle.plan_run.specs.declared.run.GraphForm.{GraphForm}
pub use Rattle.plan_run.specs.declared.run.PlanFault.{PlanFault}
pub use Rattle.proc_api.proofs.Imports.{All, All-from_get_or, All-get_or, All-head, All-tail, AreStarting, Bool, BoxPicture, Changes, IsBlank, Kind, List, None, Some, Spec, Table, TakesOut, [], ap, ap₂, arith, cases_eq, cases_lt, cond, count_by, drop, eq-eqb, eqb-true, false, get_or, get_or-append-add, get_or-map, get_or_append_left, get_or_default, inl, inr, is_of, kind_place, length, length-append, length-map, lt-leb, map, no_box, raised, refl, subst, suc, sym, take, take_more, true, vec_capacity, zero, ℕ, ◌++◌, ◌+◌, ◌<◌, ◌∙◌, ◌∷◌, ◌≡◌, ◌≤◌, ◌⊎◌}
pub use Rattle.proc_api.proofs.RackLaws.{kind-at}
pub use Rattle.proc_api.specs.Names.{HasNoReader, Loads, SameBox, SameCounts, Unloads, no_spec, same_kind}
pub use Rattle.query_model.proofs.Imports.{All-append, All-cons, All-nil, Global}
pub use Rattle.std.proofs.Common.{Err, Ok, Result, Vec}
pub use Rattle.std.proofs.lemmas.List.{drop-drop, ext_get_or, get_or-drop, map_push}
unfoldable pub use Rattle.exec_laws.proofs.Imports.{box_at}
unfoldable pub use Rattle.plan_run.specs.Boxes.{spec_at}
