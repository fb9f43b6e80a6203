-- The names from outside that this crate's proofs use, in one place.
pub use Rattle.atomic_table.proofs.Lists.{at_index, at_map, drop_at, set_again, set_else, set_here}
pub use Rattle.atomic_table.specs.Table.{Act, Allows, Final, Joins, Me, Seen, Splits, State, Valid, carried_after, gives, keeps, opening, rest, step, stepped, takes, turned}
pub use Rattle.crossbeam_queue.specs.Fifo.{Forks, Learns, Pops, Pushes}
pub use Rattle.std.proofs.Common.{All, Bool, Global, IfNone, IfSome, List, None, Option, Some, Vec, [], ap, append-nil, append_assoc, arith, cond, drop, eq-eqb, eqb, false, get_or, get_or-set_other, get_or-set_same, inl, inr, le-ltb, length, length-append, length-set, lt-ltb, lt_of_not-le, map, ne_eqb, refl, replicate, reverse, rules, set, subst, suc, sym, take, true, vec_capacity, zero, ℕ, ⊎_elim, ◌++◌, ◌+◌, ◌<◌, ◌∙◌, ◌∷◌, ◌≡◌, ◌≢◌, ◌≤◌, ◌⊎◌}
pub use Rattle.std.proofs.lemmas.List.{length-map, length-replicate, map-append, reverse-append, reverse-reverse}
pub use Rattle.std.proofs.lemmas.List.Elements.{All-pop}
pub use Rattle.std.specs.Slots.{slots_counts, slots_filled, slots_items, slots_len}
pub use Rattle.std.specs.Slots.Ownership.{Filled}
pub use Rattle.task_queue.specs.Numbers.{hit, once_below, times, total_over, without_each}
pub use Rattle.task_queue.specs.Passages.{IsBalanced, IsMoment, empty_passage, with_put, with_taken}
pub use Rattle.task_queue.specs.Rules.{HasRoom, IsHome, IsKept, IsOut, all_shares, held_at, whole_holding}
pub use Rattle.task_queue.specs.Shelves.{held, parts}
pub use Rattle.task_queue.specs.Steps.{Claims, Returns, Takes, leaving, less_one_share, no_share, one_share, taking, with_shares_of}
pub use Rattle.task_queue.specs.Values.{AllFit, SlotsFit, values_of}
pub use Rattle.task_queue.specs.declared.queue.Passage.{Passage}
pub use Rattle.task_queue.specs.declared.seat.Holding.{Holding}
pub use Rattle.task_queue.specs.declared.seat.ShelfSeat.{ShelfSeat}
pub use lib.ListN.{get_elem?}
pub use mathlib.Core.Logic.{dite}
pub use mathlib.Core.Option.{none, some, some-injective, some-ne-none}
pub use native.Mathlib.Decide.{dec_le, ℕ_discrete}
pub use prog.Atomic.{either}
