-- The names of other crates and of the definitions that the proofs use, in one place.
pub use Rattle.key_codes.specs.declared.key_code.SeenKeys.{SeenKeys}
pub use Rattle.std.proofs.Common.{Bool, IsPermutation, List, None, Some, [], ap, append_assoc, ap₂, arith, cond, drop, eq-eqb, false, filter, flat_map, fold, get_or, inl, inr, leb, length, ltb, map, max, nat_eq, ne_eqb, not, refl, set, subst, suc, sym, take, true, zero, ℕ, ◌&&◌, ◌++◌, ◌+◌, ◌-◌, ◌<◌, ◌==◌, ◌||◌, ◌∙◌, ◌∷◌, ◌≡◌, ◌≤◌, ◌⊎◌}
pub use Rattle.std.proofs.lemmas.Grind.{common_steps}
pub use denote.Enum.Bare.{same_true, true_same}
pub use Rattle.chunk_data.proofs.Nulls.{no_null}
pub use Rattle.chunk_data.specs.Names.{Row, Table, append_each, is_null, row_at, type_at, value_at, value_cmp}
pub use Rattle.indexmap.specs.IndexSet.{insert_key}
pub use Rattle.join_proc.specs.Joinings.{IsJoinPhase, IsJoining, IsNextOfJoin, JoiningView, gathered_right, is_open, join_own, join_unmade, joining_own, view_of, with_end}
pub use Rattle.join_proc.specs.Joins.{AreFit, AreLinked, AreStarts, IsIndexOf, IsStart, JoinsRows, JoinsSome, MovesOn, PairsMore, is_full, key_codes, key_places, left_places, no_start, paired, right_places, row_after, rows_to_join, start_rows, starts_at}
pub use Rattle.join_proc.specs.declared.join_index.JoinIndex.{JoinIndex}
pub use Rattle.join_proc.specs.declared.joining.JoinPhase.{JoinPhase}
pub use Rattle.join_proc.specs.declared.left_rows.LeftRows.{LeftRows}
pub use Rattle.join_proc.specs.declared.left_rows.PlacePairs.{PlacePairs}
pub use Rattle.join_proc.specs.declared.left_rows.LeftStart.{LeftStart}
pub use Rattle.key_codes.proofs.KeyLaws.{codes-agree, same_code_is}
pub use Rattle.key_codes.specs.Keys.{AreKeyValues, HasKey, IsSeenFor, codes_in, first_key_column, key_at, places_from, plain_types_at, row_code, same_code, with_key}
pub use Rattle.proc_api.specs.Names.{AreJoined, AreKeyPairs, FitsJoin, IsKeyPair, Lists, OwnState, chunk_rows, no_lists, side_types}
pub use Rattle.proc_api.specs.Prelude.{JoinSpec, KeyPair, Picture, in_count, input_at, is_in_finished}
pub use Rattle.proc_shell.proofs.Through.{chunk-elsewhere, chunk-here, makes-nothing, one-more}
pub use Rattle.proc_shell.specs.Kernels.{AreInputsOver, Begins, Makes, OfferComes, Offers, Takes, with_chunk}
pub use Rattle.proc_shell.specs.declared.kernel.Offer.{Offer}
pub use Rattle.query_model.proofs.Distinct.{IsSame}
pub use Rattle.query_model.proofs.Imports.{ColumnType, IsPermutation-append_left, Null, Value, agree, flat_map-append, joined_rows, list_any-append, same_row}
pub use Rattle.query_model.proofs.Lists.{IsPermutation-same, map-map}
pub use Rattle.query_model.specs.Sources.{values_agree}
pub use Rattle.query_model.proofs.ValueOrder.{same_row_is}
pub use Rattle.std.proofs.Math.Seq.{drop-cons}
pub use Rattle.std.specs.Ordering.{is_eq}
pub use Rattle.std.proofs.lemmas.Bool.{and_parts, cases_eq, cases_lt, le-leb, leb-false, leb-true, lt-leb, ltb-true}
pub use Rattle.std.proofs.lemmas.List.{append-nil, drop-drop, drop-map, drop-set, drop_all, get_or-drop, get_or-map, get_or-set_other, get_or-set_same, get_or_default, length-append, length-drop, length-map, length-set, map-append, take_more}
pub use Rattle.std.proofs.lemmas.List.Elements.{All-append, All-from_recursion, All-map, All-set, recursion_from_All}
pub use Rattle.std.proofs.lemmas.List.Sums.{passes_at_first, prefix_len-le-length}
pub use Rattle.std.proofs.lemmas.Slice.Eq.{slice_eq-Decides}
pub use Rattle.std.specs.List.{All, AllByRecursion, list_any, position_or_len}
