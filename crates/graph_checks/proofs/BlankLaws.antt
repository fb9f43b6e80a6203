-- The kinds of a growth's new nodes, and blanks of a kind.
use Rattle.graph_checks.proofs.Imports.{Blank, GrowNode, Kind, List, Spec, [], ap, arith, blank_place, cond, count_by, drop, drop-cons, false, find, form_kind, get_or, grown_kinds, is_blank_of, kind_of, length, map, refl, remove, same_kind, spec_form, suc, sum_by-cons, sym, take, true, without_blank, Bool, ℕ, ◌++◌, ◌+◌, ◌<◌, ◌∙◌, ◌∷◌, ◌≡◌}

form-kind : (s : Spec) → form_kind (spec_form s) ≡ kind_of s
form-kind s = grind arith

-- the kinds by the forms of the specs are those by the specs
pub kinds-are : (nodes : List GrowNode)
    → map form_kind (map (λ (x : GrowNode). spec_form x.spec) nodes) ≡ grown_kinds nodes
kinds-are [] = refl
kinds-are (x ∷ nodes) = rw (form-kind x.spec) (ap (λ l. kind_of x.spec ∷ l) (kinds-are nodes))

-- the new nodes of a kind
pub kinds-count : (k : Kind) (nodes : List GrowNode)
    → count_by (λ (j : Kind). same_kind j k) (grown_kinds nodes)
    ≡ count_by (λ (x : GrowNode). same_kind (kind_of x.spec) k) nodes
kinds-count k [] = refl
kinds-count k (x ∷ nodes) =
    sum_by-cons (λ (j : Kind). cond (same_kind j k) 1 0) (kind_of x.spec) (grown_kinds nodes)
    ∙ ap (λ n. cond (same_kind (kind_of x.spec) k) 1 0 + n) (kinds-count k nodes)
    ∙ sym (sum_by-cons (λ (y : GrowNode). cond (same_kind (kind_of y.spec) k) 1 0) x nodes)

-- the first blank of the kind is found and taken out
pub blank-found : (k : Kind) (blanks : List Blank) (i past : ℕ) (b : Blank) → i < length blanks
    → b ≡ get_or blanks i b → is_blank_of k b ≡ true → (blank_place k (drop i blanks) past ≡ b.node)
    × (take i blanks ++ without_blank k (drop i blanks) ≡ remove blanks i)
blank-found k blanks i past b lt is h = rw (drop-cons blanks i b lt, ← is, h) (refl, refl)

-- the search goes on past a kind that fails
pub find-on : (test : Kind → Bool) (ks : List Kind) (i : ℕ) (d : Kind) → i < length ks
    → test (get_or ks i d) ≡ false → find test (drop i ks) ≡ find test (drop (i + 1) ks)
find-on test ks i d lt h =
    let next : i + 1 ≡ suc i = omega arith in
    rw (next, drop-cons ks i d lt, h) refl
