use Rattle.std.proofs.Common.{ap, not, sym, ◌∙◌, ◌&&◌}
use Rattle.sort_procs.proofs.Imports.{Rows, Wants, is_ready, is_used, list_all}
use Rattle.sort_procs.proofs.MergeLaws.{offers, rows-ready, slice_written_back, wants-come}
use Rattle.sort_procs.proofs.merge.MergingKernel.offer.Goals as goal

pub returns-then-can_make-clause-offers : goal.returns-then-can_make-clause-offers
returns-then-can_make-clause-offers c =
    let s = c.args.self.now in
    let new = c.note_ends.new.heads in
    let w = slice_written_back c.args.view.now s.heads.items c.as_mut_slice.result.now new
    s.heads.len
    s.are.count c.as_mut_slice.ensures.value c.as_mut_slice.ensures.len c.note_ends.ensures.ends in
    rw w.0 (offers s.order c.args.view.now s.heads.items new w.1 s.are.count Rows
    c.note_ends.ensures.few
    (rows-ready new (ap (λ l. list_all is_ready l && not (list_all is_used l))
    (sym (c.as_slice.ensures.value ∙ w.0)) ∙ sym c.can_make.ensures ∙ c.if-can_make.true)))

pub returns-else-can_make-clause-offers : goal.returns-else-can_make-clause-offers
returns-else-can_make-clause-offers c =
    let s = c.args.self.now in
    let new = c.note_ends.new.heads in
    let w = slice_written_back c.args.view.now s.heads.items c.as_mut_slice.result.now new
    s.heads.len
    s.are.count c.as_mut_slice.ensures.value c.as_mut_slice.ensures.len c.note_ends.ensures.ends in
    rw w.0 (offers s.order c.args.view.now s.heads.items new w.1 s.are.count Wants
    c.note_ends.ensures.few
    (wants-come s.order c.args.view.now s.heads.items new w.1 s.are.count c.note_ends.ensures.few
    (ap (λ l. list_all is_ready l && not (list_all is_used l))
    (sym (c.as_slice.ensures.value ∙ w.0)) ∙ sym c.can_make.ensures ∙ c.if-can_make.false)))
