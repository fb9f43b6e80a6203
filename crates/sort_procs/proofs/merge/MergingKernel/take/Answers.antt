use Rattle.std.proofs.Common.{sym, ap, ◌∙◌, arith}
use Rattle.sort_procs.proofs.Imports.{Head, get_or_read, no_head}
use Rattle.sort_procs.proofs.MergeLaws.{takes}
use Rattle.sort_procs.proofs.merge.MergingKernel.take.Goals as goal

pub returns-in-Ok-clause-takes : goal.returns-in-Ok-clause-takes
returns-in-Ok-clause-takes c = λ wanted.
    let s = c.args.self.now in
    takes s.order s.heads.items c.args.input c.args.chunk _ s.are c.requires
    (c.fits_order.ensures.0 c.if-not-fits_order.false) wanted
    (ap (λ (h : Head). h.ended) (sym (get_or_read s.heads.items c.args.input c.index.result.now
    (omega (arith, c.requires, s.are.count)) c.index.ensures no_head)) ∙ c.if-index.false)
