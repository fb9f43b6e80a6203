-- The names from outside that this crate's definitions use, in one place.
pub use Rattle.chunk_data.specs.Values.{Table}
pub use Rattle.port_word.specs.declared.flags.Action.{Action}
pub use Rattle.port_word.specs.declared.flags.Action.TheVariants.{Close, Finish, Pull, Push, Unwant, Want}
pub use Rattle.port_word.specs.declared.flags.Flags.{Flags}
pub use Rattle.port_word.specs.declared.flags.Port.{Port}
pub use Rattle.port_word.specs.declared.flags.Port.TheVariants.{Input, Output}
pub use Rattle.port_word.specs.declared.port_view.InputPort.{InputPort}
pub use Rattle.std.specs.Prelude.{Bool, List, None, Option, Some, [], cond, false, is_some, length, max, not, replicate, slice_index_or, slice_set, true, ℕ}
