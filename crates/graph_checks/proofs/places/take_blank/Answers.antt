use Rattle.graph_checks.proofs.Imports.{Blank, ap, arith, blank_place, eq-eqb, get_or_default, is_blank_of, kind_place, length, same_true, sym, true, without_blank, ◌<◌, ◌∙◌, ◌≡◌}
use Rattle.graph_checks.proofs.BlankLaws.{blank-found}
use Rattle.query_model.specs.contracts.processor_spec.Kind as kind
use Rattle.graph_checks.proofs.places.take_blank.Goals as goal

pub returns-then-eq-clause-place : goal.returns-then-eq-clause-place
returns-then-eq-clause-place c =
    let same = ap length c.loop-i.invariant.same in
    let len = c.args.blanks.now.ok.0 in
    let lt : c.loop-i.i < length c.loop-i.blanks.items =
    omega (arith, c.loop-i-test.true, c.len-i-end.ensures, len, same) in
    let is : c.index.result.now ≡ c.remove.result =
    c.index.ensures ∙ get_or_default _ _ _ _ lt ∙ sym c.remove.ensures.value in
    let of_kind : c.index.result.now.kind ≡ c.args.kind =
    same_true kind.the_type tt _ _ (sym c.eq.ensures ∙ c.if-eq.true) in
    let found : is_blank_of c.args.kind c.remove.result ≡ true =
    eq-eqb _ _ (ap (λ (b : Blank). kind_place b.kind) (sym is) ∙ ap kind_place of_kind) in
    sym (blank-found c.args.kind c.loop-i.blanks.items c.loop-i.i c.args.past c.remove.result lt
    c.remove.ensures.value found).0 ∙ sym c.loop-i.invariant.place
    ∙ ap (λ l. blank_place c.args.kind l c.args.past) c.loop-i.invariant.same

pub returns-then-eq-clause-rest : goal.returns-then-eq-clause-rest
returns-then-eq-clause-rest c =
    let same = ap length c.loop-i.invariant.same in
    let len = c.args.blanks.now.ok.0 in
    let lt : c.loop-i.i < length c.loop-i.blanks.items =
    omega (arith, c.loop-i-test.true, c.len-i-end.ensures, len, same) in
    let is : c.index.result.now ≡ c.remove.result =
    c.index.ensures ∙ get_or_default _ _ _ _ lt ∙ sym c.remove.ensures.value in
    let of_kind : c.index.result.now.kind ≡ c.args.kind =
    same_true kind.the_type tt _ _ (sym c.eq.ensures ∙ c.if-eq.true) in
    let found : is_blank_of c.args.kind c.remove.result ≡ true =
    eq-eqb _ _ (ap (λ (b : Blank). kind_place b.kind) (sym is) ∙ ap kind_place of_kind) in
    c.remove.ensures.items
    ∙ sym (blank-found c.args.kind c.loop-i.blanks.items c.loop-i.i c.args.past c.remove.result lt
    c.remove.ensures.value found).1 ∙ sym c.loop-i.invariant.rest
    ∙ ap (λ l. without_blank c.args.kind l) c.loop-i.invariant.same
