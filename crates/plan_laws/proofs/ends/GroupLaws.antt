-- What a partial aggregate and a merge of groups keep is what they give.
use Rattle.plan_laws.proofs.Imports.{FitsGroups, KeepsWorked, arith, IsPermutation, List, refl, sym, ◌∙◌, ◌≡◌, GroupSpec, IsPermutation-refl, Row, Spec, all_done, rows_together, chunk_rows, first_rows, merged_rows, partial_rows, partial_types, stream_rows, KindGives, in_stream}
use Rattle.query_model.specs.declared.processor_spec.Spec.TheVariants as spec
use Rattle.plan_laws.proofs.ends.KindLaws.{at-ports, kept-rows, one-fits, one-output}
use Rattle.plan_laws.proofs.ends.ResizeLaws.{all-done, all-ports, at_ports}
use Rattle.plan_laws.proofs.ends.SortLaws.{all-fit-at, all-worked, gives-held}

-- A partial aggregate gives the groups of its input.
pub partial-gives : (g : GroupSpec) → KindGives (spec.PartialAggregate g)
partial-gives g files takes gives n p ins outs k =
    at-ports n 1 1 k.ports.0 k.ports.1
    (λ h. one-output n h (λ fit.
    let m : KeepsWorked (spec.PartialAggregate g) p ins outs =
    kept-rows h (one-fits (spec.PartialAggregate g) (FitsGroups g (partial_types g)) ins
    (λ i t x. x) h.nothing_past fit.0) in
    let whole : List Row = partial_rows g (chunk_rows (ins 0)) in
    gives-held (λ rows. IsPermutation whole rows) p outs (in_stream p ins 0).done
    (whole, IsPermutation-refl whole) (λ e. (m.rows.gathering e).nothing_made)
    (λ e. let all = all-worked h m (λ i. e) 0 in (
      all.0 (omega arith),
      grind arith,
    ))
    (λ f. let end = m.over 0 f in (end.nothing_waits, end.all_made, end.noted))) (λ t e. e)) k

-- A merge gives the merged groups of all its inputs.
pub merged-gives : (g : GroupSpec) → KindGives (spec.MergeAggregate g)
merged-gives g files takes gives n p ins outs k =
    at-ports n takes 1 refl k.ports
    (λ h. one-output n h (λ fit.
    let s : Spec = spec.MergeAggregate g in
    let m : KeepsWorked s p ins outs =
    kept-rows h (all-fit-at s p ins n takes h.nothing_past fit) in
    let lists : List (List Row) = stream_rows (at_ports (in_stream p ins) n 0 takes) in
    let rows : rows_together lists ≡ first_rows 32 ins =
    all-ports ins (in_stream p ins) (λ i. refl) n takes 32 h.few_inputs h.nothing_past in
    let whole : List Row = merged_rows g (rows_together lists) in
    gives-held (λ out. IsPermutation whole out) p outs
    (all_done (at_ports (in_stream p ins) n 0 takes)) (whole, IsPermutation-refl whole)
    (λ e. (m.rows.gathering e).nothing_made)
    (λ e.
    let all = all-worked h m (λ i. e) in
    let worked : first_rows 32 m.worked ≡ rows_together lists =
    (λ j. first_rows 32 (λ i. (all i).1 j)) ∙ sym rows in (
      all-done (in_stream p ins) n 0 takes (λ i le lt. (all i).0 (omega (arith, lt))),
      grind arith,
    ))
    (λ f. let end = m.over 0 f in (end.nothing_waits, end.all_made, end.noted))) (λ t e. e)) k
