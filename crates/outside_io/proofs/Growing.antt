-- How the growths of several writes make one.
use Rattle.std.proofs.Common.{◌≡◌, ℕ, ◌+◌, List, [], ◌++◌, length, take, drop, ◌-◌, length-drop, Option, Some, None, ◌∙◌, sym, ap, append_assoc, refl, arith, length-append}
use Rattle.std.proofs.lemmas.List.{take-append-le}
use Rattle.std.proofs.Math.Seq.{take-length, take-append-add, take-add}
use Rattle.outside_io.specs.Growth.{grown, GrewBy, GrewByPrefix}

pub grown-append : (told : Option (List ℕ)) (xs ys : List ℕ)
    → grown (grown told xs) ys ≡ grown told (xs ++ ys)
grown-append None xs ys = refl
grown-append (Some told) xs ys = ap Some (append_assoc told xs ys)

-- two writes are one
pub GrewBy-trans : (first second third : Option (List ℕ)) (xs ys : List ℕ) → GrewBy first second xs
    → GrewBy second third ys → GrewBy first third (xs ++ ys)
GrewBy-trans first second third xs ys one two =
    two ∙ ap (λ told. grown told ys) one ∙ grown-append first xs ys

-- a front of the first of two texts is a front of both
pub GrewByPrefix-append : (before after : Option (List ℕ)) (xs ys : List ℕ)
    → GrewByPrefix before after xs → GrewByPrefix before after (xs ++ ys)
GrewByPrefix-append before after xs ys front = (
  front.0,
  omega (arith, front.1, length-append xs ys),
  front.2
      ∙ ap (grown before) (sym (take-append-le front.0 xs ys front.1)),
)

-- a whole text, and then a front of the next
pub GrewByPrefix-after : (first second third : Option (List ℕ)) (xs ys : List ℕ)
    → GrewBy first second xs → GrewByPrefix second third ys → GrewByPrefix first third (xs ++ ys)
GrewByPrefix-after first second third xs ys one front = (
  length xs + front.0,
  omega (arith, front.1, length-append xs ys),
  GrewBy-trans first second third xs (take front.0 ys) one front.2
      ∙ ap (grown first) (sym (take-append-add xs ys front.0)),
)

-- the rest of a text from a place on, as a slice of it reads
rest_whole : (bytes : List ℕ) (at : ℕ) → take (length bytes - at) (drop at bytes) ≡ drop at bytes
rest_whole bytes at = ap (λ n. take n (drop at bytes)) (sym (length-drop at bytes))
    ∙ take-length (drop at bytes)

-- a write of a front of the rest moves the place by its length
pub GrewBy-rest : (first second third : Option (List ℕ)) (bytes : List ℕ) (at n : ℕ)
    → GrewBy first second (take at bytes) → GrewBy second third
    (take n (take (length bytes - at) (drop at bytes))) → GrewBy first third (take (at + n) bytes)
GrewBy-rest first second third bytes at n one two =
    GrewBy-trans first second third (take at bytes) (take n (drop at bytes)) one
    (two ∙ ap (λ rest. grown second (take n rest)) (rest_whole bytes at))
    ∙ ap (grown first) (sym (take-add at n bytes))
