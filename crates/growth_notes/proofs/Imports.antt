-- The names from outside that this crate's proofs use, in one place.
pub use Rattle.atomic_table.proofs.Lists.{at_index, at_set, exchanged, set_again, set_else, set_here}
pub use Rattle.atomic_table.specs.Table.{Act, Allows, Joins, Me, Splits, State, Valid, carried_after, keeps, opening, step, stepped}
pub use Rattle.growth_notes.specs.Rules.{AreFirst, AreNoted, HasSeen, may_append, writes}
pub use Rattle.growth_notes.specs.Steps.{Appends, Compares, appended, as_copy, as_root_of_next, copied, first_note, joining, spent}
pub use Rattle.growth_notes.specs.declared.rule.NoteView.{NoteView}
pub use Rattle.growth_notes.specs.declared.rule.Role.TheVariants.{Root, Writer, Reader}
pub use Rattle.std.proofs.Common.{Bool, List, [], ap, append-nil, append_assoc, arith, cond, eq-eqb, eqb, eqb-true, false, get_or, get_or-set_other, get_or-set_same, inl, inr, le-leb, leb-true, length, length-append, length-set, ne_eqb, refl, replicate, rules, set, subst, suc, sym, true, zero, ℕ, ⊎_elim, ◌%◌, ◌++◌, ◌+◌, ◌<◌, ◌^◌, ◌∙◌, ◌∷◌, ◌≡◌, ◌≢◌, ◌⊎◌}
pub use Rattle.std.proofs.Math.Nat.{mod-add-mod}
pub use Rattle.std.proofs.lemmas.List.{length-replicate}
pub use lib.ListN.{get_elem?}
pub use mathlib.Core.Logic.{dite}
pub use mathlib.Core.Option.{none, some, some-injective, some-ne-none}
pub use native.Mathlib.Decide.{ℕ_discrete}
pub use prog.Atomic.{either}
