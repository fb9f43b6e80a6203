use Rattle.chunk_data.proofs.Imports.{[], arith, length, length-map, map, ◌<◌, ◌∷◌, ◌≡◌}
use Rattle.chunk_data.proofs.ColumnLists.{Joined-more, Joined-all, Joined-back, Joined-same, Joined-long, fits_at, fits_long, other_at}
use Rattle.chunk_data.proofs.Laws.{length-FitsTypes}
use Rattle.chunk_data.proofs.column_list.push_all.Goals as goal

pub push_copy-requires : goal.push_copy-requires
push_copy-requires c =
    fits_at _ _ _ _ _ _ c.requires.fits c.loop-i.invariant.kinds (omega arith) c.index-row-i.is

pub returns-in-Err-clause-kinds : goal.returns-in-Err-clause-kinds
returns-in-Err-clause-kinds c = search (arith, Joined-same)

pub returns-in-Err-clause-err : goal.returns-in-Err-clause-err
returns-in-Err-clause-err c = search (arith, Joined-back, Joined-same)

pub loop-i-preserved : goal.loop-i-preserved
loop-i-preserved c =
    let long : length (map (λ v. v ∷ []) c.args.row.now) ≡ length c.args.columns.now =
    fits_long _ _ (λ v. v ∷ []) c.requires.fits in
    let lt : c.loop-i.i < length c.args.row.now = omega
    (arith, long, length-map c.args.row.now (λ v. v ∷ []), Joined-long c.loop-i.invariant) in
    Joined-more c.index-columns-i.result _ _ c.loop-i.invariant long (omega arith)
    c.push_copy.ensures.kind (other_at (λ v. v ∷ []) _ _ _ c.index-row-i.is lt)
    c.in-Ok.ensures.ok

pub returns-clause-ok : goal.returns-clause-ok
returns-clause-ok c =
    Joined-all c.loop-i.invariant (fits_long _ _ (λ v. v ∷ []) c.requires.fits) (omega arith)

pub bounds-row-i : goal.bounds-row-i
bounds-row-i c = search (arith, length-FitsTypes, length-map, Joined-long)
