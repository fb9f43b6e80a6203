-- The names from outside that this crate's proofs use, in one place.
pub use Rattle.atomic_table.proofs.Lists.{at_last, at_longer}
pub use Rattle.atomic_table.specs.Seated.{TableId}
pub use Rattle.core_laws.specs.Views.{reserved_edge_count}
pub use Rattle.exec_laws.proofs.Growing.{grew-list}
pub use Rattle.exec_laws.proofs.Imports.{All, Files, PartSpec, drop, is_me, length-set, list_growth, paths_in, set}
pub use Rattle.exec_laws.specs.declared.edges.DueCall.TheVariants.{Expand}
pub use Rattle.exec_laws.specs.declared.edges.NodeStatus.TheVariants.{AtWork, Due, Unborn}
pub use Rattle.exec_laws.specs.declared.edges.NodeStatus.{NodeStatus}
pub use Rattle.exec_table.proofs.Imports.{at_index, at_map, rest, some-injective, vec_capacity}
pub use Rattle.growth_notes.specs.Notes.{IsNoteOf, IsRootOf, noted, noted_in, reserve_count}
pub use Rattle.growth_notes.specs.declared.notes.GrowthNote.{GrowthNote}
pub use Rattle.growth_notes.specs.declared.notes.NoteCopy.{NoteCopy}
pub use Rattle.node_births.proofs.BlankPlaces.{blanks-count, is-counted}
pub use Rattle.node_births.proofs.Imports.{AreReservedWires, AreReserves, AwaitsBirth, Birth, Blank, Bool, BoxPicture, Edge, GetsPorts, Grew, GrowNode, GrowthForm, GrowthStays, HasForm, HasWidened, Identity, IfOk, IsAtWork, IsBorn, IsBoxLeft, IsDue, IsGrowing, IsNamedReserve, IsNewborn, IsSeatOf, IsTrue, List, Loads, LosesGrowth, MayGain, MayGrow, NodeCell, NodeMark, NodeReserve, None, Option, Picture, Reserve, Sizes, Some, Spec, StandsAmong, StaysBox, StopCause, Wire, [], ap, append-nil, append_assoc, arith, births_by, blanks_of, born_wires, cases_eq, cases_lt, cell_ports, count_by-le-length, edge_count, eq-eqb, false, form_at, get_elem?, get_or, growth_form, identity_of, inl, inr, length, length-append, length-map, list_any, map, map-append, new_wire, new_wires, not-blank, or_parts, own_flaw, refl, reserve_after, reserve_form, reserve_of, reserved_edges, rules, slice_index_or, some, some-ne-none, spec_form, subst, suc, sum_by-cons, sym, take, true, view, zero, ℕ, ◌++◌, ◌+◌, ◌-◌, ◌<◌, ◌==◌, ◌∙◌, ◌∷◌, ◌≡◌, ◌≢◌, ◌≤◌}
pub use Rattle.node_births.proofs.NextBoxes.{left-grown, left-newborn, left-unborn}
pub use Rattle.node_births.proofs.NextPlaces.{place-held, place-other}
pub use Rattle.node_births.proofs.NextStands.{loses-birth, stands-grown, stands-whole}
pub use Rattle.node_births.proofs.NextWires.{edges-left, next-wires}
pub use Rattle.node_births.proofs.NotedBirths.{noted-more, noted-next, noted-own}
pub use Rattle.node_births.proofs.ReserveLaws.{first-of}
pub use Rattle.node_births.proofs.SoundBirths.{as-many, flawless, holds-within}
pub use Rattle.node_births.proofs.StandLaws.{left-both, left-itself, stands-new, stands-still}
pub use Rattle.node_births.proofs.WidenLaws.{asked-to-grow, gets-widened, widened-due}
pub use Rattle.node_births.specs.Left.{NamedNode}
pub use Rattle.node_births.specs.declared.noted_growth.NotedGrowth.{NotedGrowth}
pub use Rattle.node_cells.proofs.QueueLaws.{turns-offer}
pub use Rattle.node_cells.proofs.VisitLaws.{lies-seat, seat-as}
pub use Rattle.node_cells.specs.NewCells.{AreNewCells, AreNewReserves, IsGraphOfNodes, sizes_of}
pub use Rattle.node_cells.specs.NewReserves.{IsNewReserve}
pub use Rattle.node_cells.specs.Stops.{wires_known}
pub use Rattle.node_cells.specs.Stored.{StoredAs}
pub use Rattle.node_cells.specs.Turns.{IsStopped, RunEndHolds, Stays}
pub use Rattle.node_cells.specs.Visits.{LeavesCell, LiesAs, Visits, run_end_of}
pub use Rattle.node_cells.specs.declared.new_cells.Cells.{Cells}
pub use Rattle.node_cells.specs.declared.node_run.RunEnd.TheVariants.{Rests}
pub use Rattle.node_cells.specs.declared.node_run.RunEnd.{RunEnd}
pub use Rattle.node_cells.specs.declared.stop_cause.StopCause.TheVariants.{Fault, Memory}
pub use Rattle.node_ports.proofs.LoopLaws.{same-ports}
pub use Rattle.node_workers.specs.Births.{AreLost, AwaitGrowth, FitsOwnPlace, HasGrown, HoldsMore, IsGrowthOf, IsLostThere, KeepsPlaces, number_of, place_at}
pub use Rattle.node_workers.specs.Ended.{AreNamed, AreStored, named_by, no_node}
pub use Rattle.node_workers.specs.Growths.{CellKnows, HasOwnOutputs, IsAsked, IsFlawless, own_wires_in, step_after}
pub use Rattle.node_workers.specs.Named.{AreNamedReserves, CellFits, IsNoteFor, births_in, first_edge_in, named_node}
pub use Rattle.node_workers.specs.Names.{Names}
pub use Rattle.node_workers.specs.NewNodes.{AwaitsGrowth, EndsNote, HasNewOutputs, HasWires, IsLost, IsNewNode, IsNextStep, KnowsGrowth, NotedStep, birth_in, births_now, new_edge, reserve_in}
pub use Rattle.node_workers.specs.Notes.{HaveFirstNotes, IsFirstNamed, IsFirstNote}
pub use Rattle.node_workers.specs.Rooms.{HasEndRoom, IsDequeFor, as_ended, as_named, node_cell}
pub use Rattle.node_workers.specs.Runs.{RunHasEnded}
pub use Rattle.node_workers.specs.Visits.{VisitsCell, grows_once, grows_turns, visit_end}
pub use Rattle.node_workers.specs.Workers.{HasSpare, IsWorkerAt, IsWorkerOver, WorkerHasEnded, parts_of}
pub use Rattle.node_workers.specs.declared.growth.FlawlessGrowth.{FlawlessGrowth}
pub use Rattle.node_workers.specs.declared.named_cell.CellNote.TheVariants.{Bare, Copied, Own}
pub use Rattle.node_workers.specs.declared.named_cell.CellNote.{CellNote}
pub use Rattle.node_workers.specs.declared.named_cell.EndedCell.{EndedCell}
pub use Rattle.node_workers.specs.declared.named_cell.NamedCell.{NamedCell}
pub use Rattle.node_workers.specs.declared.worker.Worker.{Worker}
pub use Rattle.proc_api.proofs.Imports.{IsAdded}
pub use Rattle.query_model.proofs.query.CondOf.TheLaws.TheKnot.{send-CondOf}
pub use Rattle.query_model.proofs.query.ExprOf.TheLaws.TheKnot.{send-ExprOf}
pub use Rattle.std.proofs.Common.{reverse}
pub use Rattle.std.proofs.Crossing.{crosses}
pub use Rattle.std.proofs.Math.Seq.{drop-append_seam}
pub use Rattle.std.proofs.lemmas.List.Elements.{All-pop, All-push}
pub use Rattle.std.proofs.lemmas.List.{reverse-append}
pub use Rattle.std.proofs.lemmas.Option.{none-some}
pub use Rattle.std.specs.Prelude.{Err, Ok, OnErr, Result}
pub use Rattle.std.specs.Result.{result_err, result_unwrap_or}
pub use Rattle.task_queue.proofs.Counts.{below_from_once, hit_other, hit_same, nil_from_let_go, nil_from_times, times-append, times-single, times-taken_and_left, total-push, total-same}
pub use Rattle.task_queue.proofs.KeptNumbers.{offers-both, offers-none}
pub use Rattle.task_queue.specs.Numbers.{hit, once_below, times, total_over}
pub use Rattle.task_queue.specs.Queues.{IsPassOf}
pub use Rattle.task_queue.specs.Rules.{all_shares}
pub use Rattle.task_queue.specs.Shelves.{IsIdleSeatOf, IsSameSeat, held, parts, places}
pub use Rattle.task_queue.specs.Tasks.{AreOffered, OffersNumbers, offered_more, offered_none}
pub use Rattle.task_queue.specs.Values.{AllFit}
pub use Rattle.task_queue.specs.declared.queue.TaskQueue.{TaskQueue}
pub use Rattle.task_queue.specs.declared.seat.ShelfSeat.{ShelfSeat}
pub use Rattle.task_queue.specs.declared.tasks.WorkerTasks.{WorkerTasks}
pub use denote.Param.Send.{IsSend, IsSync, arg_send, arg_sync, param_send, param_sync, recorded_send, recorded_sync, sendable, shr_sync, struct_send, struct_sync}
pub use denote.Param.{arg, param}
pub use denote.RattleType.{RattleType}
pub use denote.Struct.Declared.{shape}
pub use denote.Struct.Tuple.{TupleAt, type_at}
pub use lib.Seq.{take-append_seam}
pub use mir.Syntax.{Ty}
unfoldable pub use Rattle.node_births.proofs.Imports.{reserve_at}
