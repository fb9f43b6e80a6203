use Rattle.key_codes.proofs.Imports.{Global, Vec, ℕ, ap, subst, sym, arith, FindsCode, byte_code, byte_codes}
use Rattle.key_codes.proofs.CodeLaws.{finds-code, misses-code, puts-code}
use Rattle.key_codes.proofs.places.place_of.Goals.{in-Ok, in-Err}
use Rattle.key_codes.proofs.places.place_of.Goals as goal

pub returns-in-Some : goal.returns-in-Some
returns-in-Some c =
    finds-code (λ (k : Vec ℕ Global). byte_code k.items) c.args.adds (byte_code c.args.code.now)
    c.args.seen.now.keys
    c.in-Some.place c.in-Some.ensures.index c.in-Some.ensures.found

pub returns-then-not-adds : goal.returns-then-not-adds
returns-then-not-adds c = grind (arith, misses-code)

pub returns : goal.returns
returns c = elim c.match-insert_full.branch [
  | in-Ok w ↦ rw w.result-is
      (subst (λ b. FindsCode b (byte_code c.args.code.now) (byte_codes c.args.seen.now)
      (byte_codes c.insert_full.new.self) w.in-Ok.place) (sym c.if-not-adds.false) (puts-code
      (λ (k : Vec ℕ Global). byte_code k.items) (byte_code c.args.code.now) c.args.seen.now.keys
      c.insert_full.new.self.keys c.in_ok-from_slice.field-0 w.in-Ok.place
      (ap byte_code c.in_ok-from_slice.ensures.items) w.in-Ok.ensures.index w.in-Ok.ensures.keys))
  | in-Err w ↦ rw w.result-is tt
]
