-- What is left of a place of a list that was emptied and filled again, and of a node that was told.
use Rattle.exec_core.proofs.Imports.{CoreState, arith, common_steps, get_or-set_other, no_node, node_at, pow-lt, put_node, set-set, sym, with_bit, ℕ, ◌%◌, ◌*◌, ◌-◌, ◌<◌, ◌^◌, ◌≡◌, ◌≢◌}

pub ruleset replaced = (set-set)

-- another node than the one that was told is as before
pub untold : (c : CoreState) (n m k : ℕ) → m ≢ n
    → node_at (put_node c m (with_bit k (node_at c m))) n ≡ node_at c n
untold c n m k apart =
    get_or-set_other c.nodes m n (with_bit k (node_at c m)) no_node (λ z. apart (sym z))

-- a bit of a word, shifted into its place
pub shifted_bit : (k : ℕ) → k < 48 → 1 * 2 ^ k % 2 ^ 64 ≡ 2 ^ k
shifted_bit k h = let p : 2 ^ k < 2 ^ 48 = pow-lt h in grind (arith, common_steps, p)

pub ruleset telling = (set-set, shifted_bit)
