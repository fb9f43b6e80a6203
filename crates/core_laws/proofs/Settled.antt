-- What a state shows in which nothing is pending.
use Rattle.core_laws.proofs.Imports.{Bool, CoreState, Knows, Laws, Nodes, Some, TokensHold, Wire, and_parts, arith, cases_Bool, cases_lt, counts, end_of, false, flags_at, get_or-le-sum_by, get_or_past, has, knows, length, node_at, port_at, true, ℕ, ◌<◌, ◌≡◌}
use Rattle.core_laws.proofs.Bits.{zero-clear}
use Rattle.core_laws.proofs.Kept.{held-word}

-- no node has a token, or is charged or held
pub quiet-node : (c : CoreState) (n : ℕ) → c.pending ≡ 0 → TokensHold c
    → (counts (node_at c n).word ≡ 0) × ((node_at c n).tokens ≡ 0)
quiet-node c n q h = grind (arith, cases_lt, get_or-le-sum_by, get_or_past)

-- no node owes a telling
pub quiet-owes : (c : CoreState) (n e : ℕ) → c.pending ≡ 0 → Nodes c → TokensHold c
    → has e (node_at c n).owes ≡ true → ⊥
quiet-owes c n e q nodes h z = grind (arith, held-word, and_parts, quiet-node c n q h)

-- quiet, and an end whose word is 0, that has learned its port and looked at it: it knows the port
pub quiet-knows : (c : CoreState) (e : ℕ) (b : Bool) (w : Wire) → c.pending ≡ 0 → e < length c.ports
    → (port_at c e).wire ≡ Some w → (node_at c (end_of b w)).word ≡ 0 → knows e
    (node_at c (end_of b w)).seen ≡ true → has e (node_at c (end_of b w)).unlooked ≡ false → Laws c
    → Knows b (flags_at e (node_at c (end_of b w)).seen) (port_at c e).flags
quiet-knows c e b w q i is idle known looked h = grind (arith, cases_Bool, quiet-owes, zero-clear)
