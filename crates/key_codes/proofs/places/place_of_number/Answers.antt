use Rattle.key_codes.proofs.Imports.{[], ◌∷◌, subst, sym, arith, FindsCode, number_codes}
use Rattle.key_codes.proofs.CodeLaws.{finds-number, misses-number, puts-number}
use Rattle.key_codes.proofs.places.place_of_number.Goals as goal

pub returns-in-Some : goal.returns-in-Some
returns-in-Some c = grind (arith, finds-number)

pub returns-in-None : goal.returns-in-None
returns-in-None c = grind (arith, misses-number)

pub returns-in-Ok : goal.returns-in-Ok
returns-in-Ok c =
    subst (λ b. FindsCode b (c.args.number ∷ []) (number_codes c.args.seen.now)
    (number_codes c.insert_full.new.self) c.in-Ok.place) (sym c.if-not-adds.false)
    (puts-number c.args.number c.args.seen.now.keys c.insert_full.new.self.keys c.in-Ok.place
    c.in-Ok.ensures.index c.in-Ok.ensures.keys)
