use Rattle.key_codes.proofs.Imports.{◌<◌, ◌^◌, ℕ, [], get_or, length, byte_code, map, IsNullWithin, option_map, valid_codes, with_null, byte_codes}
use Rattle.key_codes.proofs.KeyLaws.{FindsSome}
use Rattle.key_codes.proofs.places.text_places.Given as goal

abbrev pub invariant-loop-i : goal.invariant-loop-i
invariant-loop-i l =
    FindsSome l.adds (valid_codes (option_map (λ v. v.now) l.validity) (map byte_code l.texts))
    (with_null l.initial.null (byte_codes l.initial.seen)) l.i
    (with_null l.null (byte_codes l.seen)) l.found.items
    × IsNullWithin l.null (byte_codes l.seen)
    × ((k : ℕ) → k < l.i → length (get_or l.texts k []) < 2 ^ 64)
