use Rattle.exec_table.proofs.Imports.{arith, ℕ, Bool, bit_and, not, eqb, flags_word, Flags, ◌≡◌}
use Rattle.exec_table.proofs.port_steps.flags_of.Goals as goal

abbrev bit_read : ℕ → ℕ → Bool
bit_read w k = not (eqb (bit_and w k) 0)

read : (f : Flags) → (bit_read (flags_word f) 1 ≡ f.needed) × (bit_read (flags_word f) 2
    ≡ f.has_data) × (bit_read (flags_word f) 4 ≡ f.fin_out) × (bit_read (flags_word f) 8 ≡ f.fin_in)
read f = grind arith

pub returns : goal.returns
returns c = λ f e. rw e (grind (arith, read f))
