use Rattle.port_word.proofs.Imports.{ap, get_or, is_want, rules, sym, true, ◌∙◌, ◌≡◌}
use Rattle.port_word.proofs.Slots.{noted_want-found}
use Rattle.port_word.proofs.notes.want_place.Goals as goal

pub returns-then-is_want_at-clause-found : goal.returns-then-is_want_at-clause-found
returns-then-is_want_at-clause-found c = λ h b.
    let at : is_want c.args.i (get_or c.args.actions.now c.loop-k.k c.index-actions-k.result)
    ≡ true = ap (is_want c.args.i) (sym c.index-actions-k.is) ∙ search rules in
    noted_want-found c.args.i c.loop-k.k b c.args.actions.now c.index-actions-k.result h at
    (c.loop-k.invariant b)
