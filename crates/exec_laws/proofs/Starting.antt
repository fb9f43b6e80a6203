-- A graph before its first move.
use Rattle.exec_laws.proofs.Imports.{arith, get_or-replicate, in_count, input_at, length-replicate, new_input, new_picture, no_flags, out_count, output_at, ℕ, ◌<◌, ◌≡◌}

-- a new view has these ports, on which nothing passed
pub new-view : (m n : ℕ) → let v = new_picture m n in (in_count v ≡ m) × (out_count v ≡ n)
    × ((i : ℕ) → i < m → input_at v i ≡ new_input) × ((o : ℕ) → o < n → output_at v o ≡ no_flags)
unfolding input_at output_at in_count out_count
new-view m n = grind (arith, length-replicate, get_or-replicate)
