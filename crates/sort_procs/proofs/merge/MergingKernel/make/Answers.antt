use Rattle.std.proofs.Common.{arith, ◌≡◌, ◌++◌, drop, length, take, ap, subst, sym, ◌∙◌, ◌&&◌, not}
use Rattle.sort_procs.proofs.Imports.{MergesSome, is_ready, is_used, list_all, makes-nothing, written_back}
use Rattle.sort_procs.proofs.MergeLaws.{makes, none-ready, rows-ready}
use Rattle.sort_procs.proofs.merge.MergingKernel.make.Goals as goal

pub returns-then-not-can_make-clause-makes : goal.returns-then-not-can_make-clause-makes
returns-then-not-can_make-clause-makes c = grind (arith, makes-nothing, none-ready)

pub returns-in-Ok-clause-makes : goal.returns-in-Ok-clause-makes
returns-in-Ok-clause-makes c =
    let s = c.args.self.now in
    let new = c.merge_chunk.new.heads in
    let given = c.as_mut_slice.ensures.value in
    let back : take s.heads.len (new ++ drop (length new) s.heads.items) ≡ new =
    grind (arith, written_back) in
    rw back (makes s.order s.heads.items new c.in-Ok.chunk
    (rows-ready s.heads.items (ap (λ l. list_all is_ready l && not (list_all is_used l))
    (sym c.as_slice.ensures.value) ∙ sym c.can_make.ensures ∙ c.if-not-can_make.false))
    (subst (λ l. MergesSome s.order l new c.in-Ok.chunk) given c.in-Ok.ensures.merges))
