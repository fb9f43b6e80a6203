use Rattle.std.proofs.Common.{◌≡◌, drop}
use Rattle.outside_io.specs.Told.{told_bytes}
use Rattle.outside_io.proofs.memory_files.find_entry.Given as goal

-- no entry before the index has the path
abbrev pub invariant-loop-i : goal.invariant-loop-i
invariant-loop-i l = record {
  same : l.entry-items ≡ l.entries;
  sought : told_bytes (drop l.i l.entries) l.path ≡ told_bytes l.entries l.path;
}
