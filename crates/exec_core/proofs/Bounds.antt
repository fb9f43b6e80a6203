-- What the laws give to a step: bounds of the pending number, and the peer that a mark tells.
use Rattle.exec_core.proofs.Imports.{CoreState, Event, Laws, arith, length, may, pending-most, some-pending, subst, true, ◌<◌, ◌≡◌, ◌≤◌}
use Rattle.core_laws.specs.declared.types.Step.TheVariants as step

-- the pending number is far from its type's end
pub pending-small : (c : CoreState) → Laws c → c.pending ≤ 768
pending-small c h = let a = pending-most c h.tokens in let f = h.fit in let k = h.nodes.number in
    let b : length c.nodes ≤ 256 = grind (arith, f, k) in omega (arith, a, b)

-- where a token goes out, some is pending
pub token-pending : (c : CoreState) (ev : Event) → ev.step ≡ step.TokenOut
    → may c ev.seat ev.step ≡ true → Laws c → 0 < c.pending
token-pending c ev is g h = let z = subst (λ s. may c ev.seat s ≡ true) is g in
    some-pending c ev.seat (grind (arith, z)) (grind (arith, z)) h.tokens
