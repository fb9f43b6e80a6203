use Rattle.key_codes.proofs.Imports.{List, ℕ, [], replicate, sym, arith, get_or-replicate, length-replicate, whole_codes}
use Rattle.key_codes.proofs.KeyLaws.{finds-next}
use Rattle.key_codes.proofs.places.whole_places.Goals as goal

pub loop-i-preserved : goal.loop-i-preserved
loop-i-preserved c =
    let lt = c.loop-i-test.true in
    let long = length-replicate {A = List ℕ} c.args.rows [] in
    finds-next c.args.adds (replicate c.args.rows []) (whole_codes c.args.some.now) c.loop-i._i
    (whole_codes c.loop-i.some) _ c.loop-i.found.items _ [] _ (omega (arith, lt, long))
    (sym (get_or-replicate c.args.rows c.loop-i._i [] [] (omega (arith, lt)))) c.loop-i.invariant
    c.place_of_whole.ensures c.in_ok-push.ensures.items
