-- What each node may grow by in a graph that wasn't run.
use Rattle.std.proofs.Common.{List, [], ap, arith, cond, get_or, inl, inr, length, length-append, map, refl, suc, sym, zero, ℕ, ◌++◌, ◌+◌, ◌<◌, ◌==◌, ◌∙◌, ◌∷◌, ◌≡◌, ◌≤◌, ◌⊎◌}
use Rattle.std.proofs.lemmas.Bool.{and_from, cases_Bool, le-leb, lt-ltb}
use Rattle.std.proofs.lemmas.List.{get_or-map}
use Rattle.std.proofs.lemmas.List.Folds.{list_any_at}
use native.Mathlib.Numerals.{unary_clauses}
use Rattle.exec_laws.specs.Names.{blanks_of, reserve_of}
use Rattle.exec_laws.specs.Prelude.{BoxPicture, Reserve, no_box}
use Rattle.node_cells.specs.NewReserves.{IsBlankReserve}
use Rattle.port_word.specs.declared.flags.Wire.{Wire}
use Rattle.proc_api.specs.Reserves.{AreReserves, AreStarting, no_reserve}
unfoldable use Rattle.exec_laws.specs.Names.{box_at}
unfoldable use Rattle.proc_api.specs.Reserves.{reserve_at}

-- the box at a place that was read
pub box-read : {P : Type 0} (f : P → BoxPicture) (boxes : List P) (n : ℕ) (x : P)
    → n < length boxes → x ≡ get_or boxes n x → box_at (map f boxes) n ≡ f x
unfolding box_at
box-read f boxes n x lt read = get_or-map f boxes n x no_box lt ∙ ap f (sym read)

-- one more blank
pub more-blanks : (boxes : List BoxPicture) (r : Reserve) → IsBlankReserve boxes r → (k : ℕ)
    → k < r.nodes → blanks_of boxes [] r.first_node k
    ++ record { node = r.first_node + k; kind = (box_at boxes (r.first_node + k)).kind } ∷ []
    ≡ blanks_of boxes [] r.first_node (k + 1)
more-blanks boxes r h k lt = grind (arith, unary_clauses)

-- they are no more than the nodes of the reserve
pub few-blanks : (boxes : List BoxPicture) (first k : ℕ)
    → length (blanks_of boxes [] first k) ≤ k
few-blanks boxes first zero = omega arith
few-blanks boxes first (suc k) = grind (arith, length-append, few-blanks boxes first k)

-- a node has one of the reserves, or none
found : (rs : List Reserve) (n : ℕ) → (reserve_of rs n ≡ no_reserve)
    ⊎ ((k : ℕ) × ((k < length rs) × (reserve_at rs k ≡ reserve_of rs n)))
unfolding reserve_at
found [] n = inl refl
found (r ∷ rs) n = elim (cases_Bool (r.node == n)) [
  | inl is ↦ inr (0, (omega arith, sym (ap (λ b. cond b r (reserve_of rs n)) is)))
  | inr other ↦ let past = ap (λ b. cond b r (reserve_of rs n)) other in elim (found rs n) [
    | inl none ↦ inl (past ∙ none)
    | inr at ↦ let lt = at.1.0 in inr (suc at.0, (omega (arith, lt), at.1.1 ∙ sym past))
  ]
]

-- the nodes of each reserve of a starting graph are blank
pub blank-reserve : (nodes base : ℕ) (wires : List Wire) (rs : List Reserve)
    (boxes : List BoxPicture) → AreReserves nodes base wires rs → AreStarting rs boxes
    → length boxes ≡ nodes → nodes ≤ 256 → (n : ℕ) → IsBlankReserve boxes (reserve_of rs n)
unfolding reserve_at box_at
blank-reserve nodes base wires rs boxes are starting many few n =
    grind (arith, found, list_any_at, and_from, le-leb, lt-ltb)
