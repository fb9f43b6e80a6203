-- The names from outside that this crate's proofs use, in one place.
pub use Rattle.chunk_data.proofs.Laws.{same_plain-is}
pub use Rattle.chunk_data.proofs.Places.{count_by-append, count_by-cons, AreOnce-append}
pub use Rattle.chunk_data.specs.Values.{is_text, plain_type, type_at}
pub use Rattle.chunk_data.specs.Places.{AreOnce}
pub use Rattle.exec_laws.proofs.BirthLaws.{grows-lawfully}
pub use Rattle.exec_laws.proofs.Growing.{grew-list}
pub use Rattle.exec_laws.proofs.Imports.{few-inputs, few-outputs}
pub use Rattle.exec_laws.specs.Births.{AreAllBorn, Birth, HasForm, IsBirth, all_places, births_of, born_wires, form_at, growth_list, growths_of, kept_growths}
pub use Rattle.exec_laws.proofs.ListGrowths.{edges-count, parts-count}
pub use Rattle.exec_laws.specs.Growths.{end_node, has_wrong_end, is_named, new_wire, new_wires}
pub use Rattle.exec_laws.specs.Names.{HasFinished, Snapshot}
pub use Rattle.plan_laws.specs.Blocks.{joint_node, lane_nodes, moved_node, moved_nodes, nodes_behind, nodes_raised, source_nodes}
pub use Rattle.plan_laws.specs.Boxes.{reserved_nodes}
pub use Rattle.plan_laws.specs.Building.{draft_of}
pub use Rattle.plan_laws.specs.Counts.{Count, count_over, each_input, each_kept, kept_for, of_kind, sources_count}
pub use Rattle.plan_laws.specs.Drafts.{AllFitDraft, AllFitEnds, Draft, FitsDraft, FitsEnds, IsDraft, IsDraftGraph, consumer_of, given_by, no_draft, ports_from, ports_of, producer_of, ranks_after, ranks_with, replaced, run_of, taken_by, wires_to, with_node, with_nodes}
pub use Rattle.plan_laws.specs.Ended.{BoxGives, FileHas, HasEnded, LawfulSnapshot, HasFullCount, HasGrownByLists, HasListed, HasPulled, IsKnown, IsListedNode, IsOrdinary, IsReady, IsStep, KeepsContract, KindGives, KnownPorts, SourceHas, chunk_types, in_stream, is_valid_list, list_in, listed_sources, out_stream, part_of, parts_of_files, pulled_since, reading_in, sources_of_files, stream_pulled_at, stream_pushed_at, used_part}
pub use Rattle.plan_laws.specs.Gives.{GivesFront, GivesHeld, GivesJoined, GivesLimited, GivesListed, GivesMerged, GivesResized, GivesSource, GivesThrough, HoldsBack, IsMergeOf}
pub use Rattle.plan_laws.specs.Grown.{GrowsLawfully, AreLoaded, IsPlacedGraph, JoinsWithin, NodeList, grown_nodes, grown_places, new_wires_from, wire_between}
pub use Rattle.plan_laws.specs.Meaning.{Completes, IsFront, MeansNode, NodesMean, meant_by}
pub use Rattle.plan_laws.specs.Plans.{FewJoined, FewSources, HasEnoughRows, IsCut, IsPlan, IsSmall, IsTold, JoinsSources, PlanJoin, PlanShape, SelectPlan, StopsEarly, all_valid, body_nodes, collect_node, collector, collector_kind, filter_nodes, filter_pulls, gather_nodes, gather_pulls, grouped, grouped_of, join_pulls, join_step, join_valid, joined_from, lane_steps, limit_nodes, made_pulls, made_rows, merge_step, needed_valid, plain, plan_count, plan_keys, plan_nodes, plan_pulls, plan_rows, plan_valid, pulls, pulls_from, read_rows, read_steps, read_valid, resize_node, select_steps, shape_count, shape_nodes, shape_pulls, shape_rows, sort_nodes, sort_pulls, sort_step, sources_rows, valid_from}
pub use Rattle.plan_laws.specs.Queries.{HasCalls, IsCall, IsPlanOf, call_arguments, column_items, group_spec, shape_of, state_call}
pub use Rattle.plan_laws.specs.Refusals.{crowded, crowded_decl, first_crowded, path_count}
pub use Rattle.plan_laws.specs.Roles.{Gives, IsAmong, IsSourceSpec, MakesRows, MakesType, Types, is_certain, is_needed, is_valid_source, source_list}
pub use Rattle.plan_laws.specs.Runs.{AllInputsDone, AllPull, EachGives, HasRun, IsOpenNode, PlanRuns, Pulls, RunsNode, if_kind, pulled_by_nodes, pulled_rows}
pub use Rattle.plan_laws.specs.Same.{NodeForm, forms, node_form}
pub use Rattle.plan_laws.specs.Shapes.{IsSoundPlan, LaysDown, boxes_needed, boxes_reserved, boxes_taken, kept_at, plan_ranks, reserves_from}
pub use Rattle.plan_laws.specs.Steps.{SourceReading, declared_sources, join_of, join_spec, list_kind, list_source, order_of, ordered_plan, part_source, part_sources, part_spec, path_sources, select_plan, source_types, table_reading, table_sources, types_declared, used_types}
pub use Rattle.plan_laws.specs.Streams.{Flow, ManyToOne, OneToOne, RowsOfSources, Source, SourceRows, Stream, TwoToOne, all_certain, all_done, any_done, any_needs, flow_rows, flows_of, rows_together, stream_rows}
pub use Rattle.plan_laws.specs.Types.{EachGivesIf, FitFrom, GivesIf, HasTypes, TypesFit, TypesNode, TypesTo, pulled_types}
pub use Rattle.plan_laws.specs.declared.nodes.DraftNode.{DraftNode}
pub use Rattle.plan_laws.specs.declared.nodes.NodePort.{NodePort}
pub use Rattle.plan_laws.specs.declared.plan.Plan.{Plan}
pub use Rattle.plan_laws.specs.declared.plan.PlanReserve.{PlanReserve}
pub use Rattle.port_word.specs.declared.flags.Reserve.{Reserve}
pub use Rattle.proc_api.proofs.Graphs.{is-gapless, rank-kept, wire-input, wire-output}
pub use Rattle.proc_api.proofs.Imports.{Contains, IsGraph, IsPermutation-same, and_from, and_parts, both_ways, cases_lt, eq-eqb, eqb-true, false_from_ne_true}
pub use Rattle.proc_api.proofs.Keeping.{KeepsWorked, rows-append, worked-where-fit}
pub use Rattle.proc_api.proofs.Orders.{InOrder, every-append, every-contains, every-front, every-none, every-permuted, every-turned, every-weaker, order-cross, order-from_sorted, order-front, order-joined, ordered, ordered-none, ordered-order, ordered-same, rows-ordered, sorted-from_order}
pub use Rattle.proc_api.specs.KindContract.{grown_inputs, is_me}
pub use Rattle.proc_api.specs.Names.{AllFit, AreAsKept, AreOpen, AreInputsSorted, AreKeyPairs, AreMerged, ArePortsOf, ArePortsOnce, AreResized, BoxPicture, FitsGroups, FitsInput, FitsOrder, GrowthForm, HasReadEnough, IsBeforeNone, IsKeyPair, IsListGrowth, IsOver, IsPulled, IsReadUp, IsSortOf, IsWorkOf, Keeps, KeepsRows, Lists, MakesTypes, MayGrow, NotesEnd, OwnState, SpecForm, SumsNoTexts, WorkState, argument_types, calls_from, chunk_rows, expression, head_at, head_rows, input_count, is_count, is_of, kept_ports, list_growth, listed_edge, listed_edges, listed_part, listed_parts, merged_rows, no_table, no_wire, output_count, own_of, partial_rows, partial_types, same_kind, spec_form, spec_group_types, sums_texts, unboxed, unworked_at, FileRead, file_read, grown_kind, row_of}
pub use Rattle.proc_api.specs.Prelude.{AggCall, AggOp, ExprOf, GroupSpec, JoinSpec, KeyPair, Kind, Operand, PartSpec, SortSpec, Span, Spec, StateCall, Wire, formula}
pub use Rattle.proc_api.specs.SpecContracts.{IsNoLimit, IsUngrown}
pub use Rattle.proc_api.specs.declared.growth.Edge.{Edge}
pub use Rattle.proc_api.specs.declared.growth.Who.{Who}
pub use Rattle.proc_api.specs.declared.growth.Who.TheVariants.{Me, New}
pub use Rattle.query_model.proofs.Accepted.{none_found, unrefused_is_accepted}
pub use Rattle.query_model.proofs.AnswerLaws.{joined_rows-append}
pub use Rattle.query_model.proofs.Imports.{All-append, All-cons, All-head, All-nil, All-tail, AllByRecursion, Call, ColumnType, IsPermutation-append, IsPermutation-append_comm, IsPermutation-append_left, IsPermutation-append_right, IsPermutation-map, IsPermutation-refl, IsPermutation-trans, IsTyped, IsTypedOperand, Row, SortKey, Table, Text, call_of, combine_of, filter-append, flat_map-append, grouped_by, length_permutation, list_all, means, merged_groups, operand_type, plain_of, value_at, values_at, ⊤}
pub use Rattle.query_model.proofs.Lists.{IsPermutation-filter, filter-map, map-map}
pub use Rattle.query_model.proofs.Merge.{merged_in_any_order}
pub use Rattle.query_model.proofs.Placed.{length-item_names}
pub use Rattle.query_model.proofs.PartLaws.{IsPermutation-joined_rows}
pub use Rattle.query_model.proofs.TypedQueries.{IsOfKind, column_is_of_kind}
pub use Rattle.query_model.specs.Answers.{grouped_rows}
pub use Rattle.query_model.specs.Database.{IsListDeclared, IsListUsed, IsValidList, bad_line_in, column_types, part_paths, paths_in}
pub use Rattle.query_model.specs.Formulas.{cond_form, operand_form}
pub use Rattle.query_model.specs.ListFiles.{is_path}
pub use Rattle.query_model.specs.Names.{AreColumnsFrom, ArePicks, BothOrNone, Cond, Database, EachWith, Expr, Files, FromColumn, IsAnalysable, IsAnswer, IsChecked, IsCheckedJoin, IsItem, IsShape, IsTypedCall, IsTypedCond, IsTypedFilter, IsTypedQuery, IsTypedShape, IsValidPart, IsValidUsed, UsedPart, database, declared_table, enough, file_bytes, filtered_rows, flow, from_columns, from_types, group_types, groups, groups_or_default, groups_tested, holds, if_declared, if_grouped, if_ordered, if_plain, is_grouped, is_join_pair, item_calls, item_row, join_columns, join_tables, join_use, joined_rows, joined_table, kind_of, limited, list_sources_need, meant_type, numbered_parts, numbers, output_names, output_rows, pair_of, pairs_fit, part_rows, part_sources_need, parts_declared, parts_used, place_of, query_boxes, rows_joined, rows_tested, rows_where, selected_rows, shape_types, sort_key, source_rows, source_table, table_columns, table_need, types_of, use_of, used_table, used_tables, query_tree, selection}
pub use Rattle.query_model.specs.Refusals.{joins, same_known_type}
pub use Rattle.query_model.specs.Typing.{AreComparable, IsTypedArgument, is_null_operand}
pub use Rattle.query_model.specs.declared.checked.Checked.{Checked}
pub use Rattle.query_model.specs.declared.checked.CheckedJoin.{CheckedJoin}
pub use Rattle.query_model.specs.declared.checked.Grouping.{Grouping}
pub use Rattle.query_model.specs.declared.checked.Shape.{Shape}
pub use Rattle.query_model.specs.declared.checked.Shape.TheVariants.{Grouped, Plain}
pub use Rattle.query_model.specs.declared.checked.TableUse.{TableUse}
pub use Rattle.query_model.specs.declared.checked.TableUse.TheVariants.{Declared, Numbers}
pub use Rattle.query_model.specs.declared.query.ColumnDecl.{ColumnDecl}
pub use Rattle.query_model.specs.declared.query.ColumnRef.{ColumnRef}
pub use Rattle.query_model.specs.declared.query.Item.{Item}
pub use Rattle.query_model.specs.declared.query.Join.{Join}
pub use Rattle.query_model.specs.declared.query.NamePair.{NamePair}
pub use Rattle.query_model.specs.declared.query.OrderKey.{OrderKey}
pub use Rattle.query_model.specs.declared.query.PartsDecl.{PartsDecl}
pub use Rattle.query_model.specs.declared.query.PartsDecl.TheVariants.{ListFile, Paths}
pub use Rattle.query_model.specs.declared.query.Query.{Query}
pub use Rattle.query_model.specs.declared.query.Schema.{Schema}
pub use Rattle.query_model.specs.declared.query.TableDecl.{TableDecl}
pub use Rattle.query_model.specs.declared.query.TableRef.{TableRef}
pub use Rattle.std.proofs.Common.{All, Any, Bool, IfSome, IsPermutation, IsSorted, List, None, Option, Some, [], ap, append_assoc, ap₂, arith, bytes_eq, cond, count_by, drop, false, filter, flat_map, get_or, inl, inr, is_lt, is_none, is_some, leb, nat_lt, length, length-append, map, not, option_map, refl, replicate, slice_get, slice_index_or, subst, suc, sum_by, sym, take, true, zero, ℕ, ◌&&◌, ◌*◌, ◌++◌, ◌+◌, ◌-◌, ◌<◌, ◌==◌, ◌||◌, ◌∙◌, ◌∷◌, ◌≡◌, ◌≤◌, ◌⊎◌}
pub use Rattle.std.proofs.lemmas.Bool.{cases_eq, ltb-true, cond_both, le-leb, leb-true, not-true, or_cases, or_left, or_right}
pub use Rattle.std.proofs.lemmas.Bool.Decides.{nat_tests}
pub use Rattle.std.proofs.lemmas.List.{append-nil, append_cancel_left, drop-append-le, drop-drop, drop-map, drop_at, get_or-append-add, get_or-append_right, get_or-drop, get_or-map, get_or_append_left, get_or_at, get_or_default, get_or_past, length-drop, length-map, length-replicate, length-take, length-take-le, map-append, nil_from_length, take-append-drop, take-append-le, take-map, take_at, take_more}
pub use Rattle.std.proofs.lemmas.List.Elements.{All-contains_itself, All-drop, All-filter, All-from_recursion, All-push, All-replicate, All-take, All-weaker, Contains-append_left, Contains-append_right, filter_passes, recursion_from_All}
pub use Rattle.std.proofs.lemmas.List.FromFn.{get_or-range_with_len, length-range_with_len}
pub use Rattle.std.proofs.lemmas.List.Folds.{list_all-append, sum_by-replicate}
pub use Rattle.std.proofs.lemmas.List.Sorted.{All-permutation, Contains-permutation, IsPermutation-sym, sum_by-IsPermutation}
pub use Rattle.std.proofs.lemmas.List.Sums.{count_by-le-length, sum-map, sum_by-append, sum_by-cons}
pub use Rattle.std.proofs.lemmas.Map.Keys.{IsDistinct-IsPermutation, IsDistinct-cons, apart_from_distinct}
pub use Rattle.std.proofs.lemmas.Option.{slice_get_cases}
pub use Rattle.std.proofs.lemmas.Slice.Zip.{AllZip-long}
pub use Rattle.std.specs.List.{AllZip, list_any, range_with_len}
unfoldable pub use Rattle.chunk_data.specs.Values.{row_cmp}
unfoldable pub use Rattle.exec_laws.specs.Names.{box_at}
unfoldable pub use Rattle.proc_api.specs.Names.{all_rows as first_rows, kept_inputs, kept_output, kept_outputs, rank_at, total_rows, wire_at}
unfoldable pub use Rattle.query_model.specs.ListFiles.{bad_line}
unfoldable pub use Rattle.query_model.specs.Names.{count_up, operand_value, refusal_of, truth_of, type_of, value_of}
unfoldable pub use Rattle.std.specs.List.{IsDistinct}
