use Rattle.chunk_data.proofs.Imports.{ap, arith, drop, drop_all, ◌∙◌}
use Rattle.chunk_data.proofs.Cuts.{length-cut, rest_above, AreEnds_rest, cut_rest_of}
use Rattle.chunk_data.proofs.text_column.Texts.remove_front.Goals as goal

pub returns-then-len-n : goal.returns-then-len-n
returns-then-len-n c = search (arith, length-cut, drop_all)

pub shift_down-requires : goal.shift_down-requires
shift_down-requires c =
    rest_above _ _ _ c.args.n _ c.self.invariant (omega arith)
    (rw (← c.as_slice.ensures.value) c.start_of-start.ensures) c.remove_front-2.ensures

pub invariant_of-self-2 : goal.invariant_of-self-2
invariant_of-self-2 c =
    rw (c.shift_down.ensures, c.remove_front-2.ensures, c.remove_front.ensures)
    (AreEnds_rest _ _ c.args.n _ c.self.invariant (omega arith)
    (rw (← c.as_slice.ensures.value) c.start_of-start.ensures))

pub returns : goal.returns
returns c =
    rw (c.shift_down.ensures, c.remove_front-2.ensures, c.remove_front.ensures)
    (cut_rest_of _ _ c.args.n _ c.self.invariant (omega arith) (rw (← c.as_slice.ensures.value)
    c.start_of-start.ensures) ∙ ap (λ l. drop c.args.n l) c.self.view_is)
