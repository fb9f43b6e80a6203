-- The names from outside that proofs use, in one place.
pub use Rattle.atomic_table.proofs.Lists.{at_index, at_map, at_set, set_again, set_else, set_here}
pub use Rattle.exec_laws.proofs.Imports.{BoxPicture, GivenBack, GivesBox, IsBorn, List, None, Option, Reserve, Some, Wire, [], append-nil, ap, arith, both_ways, cases_Bool, cases_lt, eq-eqb, false, get_or, get_or-eq_default, get_or-set_other, get_or-set_same, inl, inr, is_some, length, length-map, length-set, list_any, map, no_box, refl, rules, set, subst, suc, sym, true, zero, ℕ, ◌++◌, ◌+◌, ◌<◌, ◌==◌, ◌∙◌, ◌∷◌, ◌≡◌, ◌≢◌, ◌≤◌, ◌⊎◌}
pub use Rattle.exec_laws.proofs.Nodes.{not-blank}
pub use Rattle.exec_laws.specs.Prelude.{holds_node}
pub use Rattle.growth_notes.specs.Rules.{AreFirst}
pub use Rattle.node_births.proofs.ReserveLaws.{grower-unheld, held-once, node-once}
pub use Rattle.node_ends.proofs.Lists.{there}
pub use Rattle.node_workers.proofs.SentNotes.{noted_sent}
pub use Rattle.std.proofs.Common.{IfNone, IfSome, ⊎_elim}
pub use Rattle.std.proofs.lemmas.List.{map-set}
pub use Rattle.std.proofs.lemmas.Simd.{map-map}
pub use denote.Param.Send.{arg_send, param_send}
unfoldable pub use Rattle.exec_laws.proofs.Imports.{box_at}
