use Rattle.std.proofs.Common.{◌≡◌, ◌<◌, ◌≤◌, length, slice_index_or, sym, ◌∙◌, true, false}
use Rattle.std.specs.Str.{bytes_eq}
use Rattle.outside_io.proofs.Finding.{passed-over, entry-found, none-left}
use Rattle.outside_io.proofs.memory_files.find_entry.Goals as goal

pub returns-then-eq-clause-found : goal.returns-then-eq-clause-found
returns-then-eq-clause-found c =
    let within : c.loop-i.i < length c.args.entries.now =
    rw (← c.as_slice-entry-items.ensures) c.loop-i-test.true in
    let here : c.entry-item.result ≡ slice_index_or c.args.entries.now c.loop-i.i
    c.entry-item.result = rw (← c.as_slice-entry-items.ensures) c.entry-item.is in
    let same : bytes_eq c.entry-item.result.path c.args.path.now ≡ true = cc in
    entry-found _ _ _ c.entry-item.result within here same c.loop-i.invariant.sought

pub loop-i-preserved : goal.loop-i-preserved
loop-i-preserved c =
    let within : c.loop-i.i < length c.args.entries.now =
    rw (← c.as_slice-entry-items.ensures) c.loop-i-test.true in
    let here : c.entry-item.result ≡ slice_index_or c.args.entries.now c.loop-i.i
    c.entry-item.result = rw (← c.as_slice-entry-items.ensures) c.entry-item.is in
    let other : bytes_eq c.entry-item.result.path c.args.path.now ≡ false = cc in
    record {
      same = c.loop-i.invariant.same;
      sought = sym (passed-over _ _ _ c.entry-item.result within here other)
          ∙ c.loop-i.invariant.sought;
    }

pub returns-clause-absent : goal.returns-clause-absent
returns-clause-absent c =
    let past : length c.args.entries.now ≤ c.loop-i.i =
    rw (← c.as_slice-entry-items.ensures) c.loop-i-test.false in
    sym c.loop-i.invariant.sought ∙ none-left _ _ _ past
