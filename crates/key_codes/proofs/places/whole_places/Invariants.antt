use Rattle.key_codes.proofs.Imports.{[], replicate, whole_codes}
use Rattle.key_codes.proofs.KeyLaws.{FindsSome}
use Rattle.key_codes.proofs.places.whole_places.Given as goal

abbrev pub invariant-loop-i : goal.invariant-loop-i
invariant-loop-i l =
    FindsSome l.adds (replicate l.rows []) (whole_codes l.initial.some) l._i
    (whole_codes l.some) l.found.items
