use Rattle.std.proofs.Common.{ap, arith, ext_get_or, length, map, rules, sym, ◌<◌, ◌∙◌, ◌≡◌, ◌≤◌, ℕ}
use Rattle.std.proofs.lemmas.Grind.{common_steps}
use Rattle.std.proofs.lemmas.List.{get_or-map, length-map}
use Rattle.port_word.specs.declared.flags.Reserve.{Reserve}
use Rattle.proc_api.specs.Reserves.{behind_wires, no_reserve}
unfoldable use Rattle.proc_api.specs.Reserves.{reserve_at}
use Rattle.exec_graph.proofs.reserves.behind_wires.Goals as goal

pub overflow_add-reserve : goal.overflow_add-reserve
unfolding reserve_at
overflow_add-reserve c =
    let i : ℕ = c.loop-reserve.reserve-index in
    let lt : i < length c.args.reserves = search rules in
    let small = c.requires.edges i lt in
    let same = ap (λ (q : Reserve). q.first_edge) (c.loop-reserve.invariant.2 i (omega arith)) in
    omega (arith, same, small, c.requires.wires)

pub returns : goal.returns
returns c =
    let all = c.loop-reserve.reserve-items in
    let len : length all ≡ length c.args.reserves = c.loop-reserve.invariant.0 in
    let past : length c.args.reserves ≤ c.loop-reserve.reserve-index = search rules in
    let e : all ≡ map (behind_wires c.args.wires) c.args.reserves =
    ext_get_or no_reserve all (map (behind_wires c.args.wires) c.args.reserves)
    (len ∙ sym (length-map c.args.reserves (behind_wires c.args.wires)))
    (λ k lt. let lk : k < length c.args.reserves = omega (arith, lt, len) in
    c.loop-reserve.invariant.1 k (omega (arith, lk, past))
    ∙ sym (get_or-map (behind_wires c.args.wires) c.args.reserves k no_reserve no_reserve lk)) in
    c.from_vec.ensures ∙ grind (arith, common_steps, e, len, c.into_vec-all.ensures)
