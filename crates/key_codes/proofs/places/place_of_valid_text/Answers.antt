use Rattle.key_codes.proofs.Imports.{FindsCode, Global, IfOk, Vec, [], byte_code, byte_codes, cond, length-map, subst, sym, with_null, ℕ, ◌∙◌, ◌∷◌}
use Rattle.key_codes.proofs.CodeLaws.{finds-beside, finds-null, if-ok-more, on-ok}
use Rattle.key_codes.proofs.places.place_of_valid_text.Goals as goal

pub returns-then-not-valid-clause-finds : goal.returns-then-not-valid-clause-finds
returns-then-not-valid-clause-finds c =
    let codes = byte_codes c.args.seen.now in
    let h = finds-null (λ (k : Vec ℕ Global). 0)
    (λ (k : Vec ℕ Global). k.items) c.args.adds c.len.result c.args.null.now
    c.place_of_null.new.null c.args.seen.now.keys c.place_of_null.result c.place_of_null.ensures
    (c.len.ensures.len
    ∙ sym (length-map c.args.seen.now.keys (λ (k : Vec ℕ Global). byte_code k.items)))
    c.requires in
    subst (λ b. FindsCode c.args.adds (cond b (byte_code c.args.text.now) [])
    (with_null c.args.null.now codes)
    (with_null c.place_of_null.new.null codes) c.place_of_null.result) (sym c.if-not-valid.true) h.0

pub returns-then-not-valid-clause-within : goal.returns-then-not-valid-clause-within
returns-then-not-valid-clause-within c =
    (finds-null (λ (k : Vec ℕ Global). 0)
    (λ (k : Vec ℕ Global). k.items) c.args.adds c.len.result c.args.null.now
    c.place_of_null.new.null c.args.seen.now.keys c.place_of_null.result c.place_of_null.ensures
    (c.len.ensures.len
    ∙ sym (length-map c.args.seen.now.keys (λ (k : Vec ℕ Global). byte_code k.items)))
    c.requires).1

pub returns-clause-finds : goal.returns-clause-finds
returns-clause-finds c =
    let old = byte_codes c.args.seen.now in
    let new = byte_codes c.place_of.new.seen in
    let h = finds-beside c.args.adds c.args.null.now 0 c.args.text.now old new c.in_ok-place.place
    c.requires c.in_ok-place.ensures in
    subst (λ b. IfOk c.beside_null.result
    (FindsCode c.args.adds (cond b (byte_code c.args.text.now) [])
    (with_null c.args.null.now old) (with_null c.args.null.now new))) (sym c.if-not-valid.false)
    (if-ok-more c.beside_null.result
    (λ place is. subst (FindsCode c.args.adds (byte_code c.args.text.now)
    (with_null c.args.null.now old) (with_null c.args.null.now new)) (sym is) h.0)
    c.beside_null.ensures)

pub returns-clause-within : goal.returns-clause-within
returns-clause-within c =
    on-ok c.beside_null.result (finds-beside c.args.adds c.args.null.now 0 c.args.text.now
    (byte_codes c.args.seen.now) (byte_codes c.place_of.new.seen) c.in_ok-place.place
    c.requires c.in_ok-place.ensures).1
