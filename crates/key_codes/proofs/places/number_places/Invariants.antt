use Rattle.key_codes.proofs.Imports.{[], ◌∷◌, map, IsNullWithin, option_map, valid_codes, with_null, number_codes}
use Rattle.key_codes.proofs.KeyLaws.{FindsSome}
use Rattle.key_codes.proofs.places.number_places.Given as goal

abbrev pub invariant-loop-i : goal.invariant-loop-i
invariant-loop-i l =
    FindsSome l.adds
    (valid_codes (option_map (λ v. v.now) l.validity) (map (λ n. n ∷ []) l.numbers))
    (with_null l.initial.null (number_codes l.initial.seen)) l.i
    (with_null l.null (number_codes l.seen)) l.found.items
    × IsNullWithin l.null (number_codes l.seen)
