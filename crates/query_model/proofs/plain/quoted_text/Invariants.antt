use Rattle.query_model.proofs.Imports.{doubled, flat_map, take, ◌∷◌, ◌≡◌}
use Rattle.query_model.proofs.plain.quoted_text.Given as goal

abbrev pub invariant-loop-byte : goal.invariant-loop-byte
invariant-loop-byte l = l.text.items ≡ 34 ∷ flat_map doubled (take l.byte-index l.bytes)
