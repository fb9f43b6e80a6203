-- The rows that boxes count are those that were pulled at their inputs.
use Rattle.plan_laws.proofs.Imports.{Bool, List, [], arith, cond, false, get_or, length, length-append, map, refl, suc, true, zero, ℕ, ◌+◌, ◌<◌, ◌∷◌, ◌≡◌, ◌≤◌, ◌⊎◌, BoxPicture, DraftNode, Files, Kind, Lists, NodePort, Spec, Stream, rows_together, box_at, first_rows, is_of, kind_of, ports_of, pulled_rows, stream_rows, same_kind, total_rows, HasFullCount, HasPulled, KeepsContract, in_stream, pulled_since}
use Rattle.plan_laws.proofs.ends.ResizeLaws.{all-ports, at_ports}

-- the rows of the first lists, counted
total-first : (n : ℕ) (lists : Lists) → total_rows n lists ≡ length (first_rows n lists)
unfolding total_rows first_rows
total-first zero lists = refl
total-first (suc n) lists = search (arith, length-append, total-first n lists)

pub kept-counted : (s : Spec) (files : Files) (takes gives : ℕ) (p : BoxPicture) (ins outs : Lists)
    → KeepsContract s files takes gives p ins outs → (n : ℕ)
    → HasPulled p (length (rows_together (stream_rows (at_ports (in_stream p ins) n 0 takes))))
kept-counted s files takes gives p ins outs k n = search (arith, total-first, all-ports)

none-since : (k : Kind) (boxes : List BoxPicture)
    → ((i : ℕ) → i < length boxes → is_of k (box_at boxes i) ≡ false) → pulled_since k boxes ≡ 0
unfolding box_at
none-since k [] other = refl
none-since k (p ∷ boxes) other =
    grind (arith, other 0, none-since k boxes (λ i lt. other (suc i) (omega (arith, lt))))

-- Where each box of the kind is a node's and counts what that pulled, these boxes pulled what their
-- nodes did, or one has a full count.
pub since-pulled : (k : Kind) (f : NodePort → Stream) (n : ℕ) (nodes : List DraftNode)
    (boxes : List BoxPicture) → length nodes ≤ length boxes
    → ((i : ℕ) → length nodes ≤ i → i < length boxes → is_of k (box_at boxes i) ≡ false)
    → ((i : ℕ) (z : DraftNode) → i < length nodes → get_or nodes i z ≡ z
    → ((box_at boxes i).kind ≡ kind_of z.spec) × (same_kind (kind_of z.spec) k ≡ true
    → HasPulled (box_at boxes i)
    (length (rows_together (stream_rows (map f (ports_of (n + i) 0 z.takes)))))))
    → (pulled_since k boxes ≡ pulled_rows k n nodes f) ⊎ HasFullCount k boxes
unfolding box_at
since-pulled k f n (z ∷ nodes) (p ∷ boxes) e other each =
    go (same_kind (kind_of z.spec) k) refl (each 0 z (omega arith) refl).1
    (since-pulled k f (suc n) nodes boxes (omega (arith, e))
    (λ i le lt. other (suc i) (omega (arith, le)) (omega (arith, lt))) (λ i y lt is.
    let next : n + suc i ≡ suc n + i = omega arith in
    let there = each (suc i) y (omega (arith, lt)) is in (
      there.0,
      rw next at there.1,
    )))
  where
    kinds : p.kind ≡ kind_of z.spec
    kinds = (each 0 z (omega arith) refl).0

    rows_at : ℕ → ℕ
    rows_at m = length (rows_together (stream_rows (map f (ports_of m 0 z.takes))))

    more : HasFullCount k boxes → HasFullCount k (p ∷ boxes)
    more there = let lt = there.in_range in record {
      place = suc there.place;
      in_range = omega (arith, lt);
      of_kind = there.of_kind;
      full = there.full;
    }

    go : (b : Bool) → same_kind (kind_of z.spec) k ≡ b → (b ≡ true → HasPulled p (rows_at (n + 0)))
        → (pulled_since k boxes ≡ pulled_rows k (suc n) nodes f) ⊎ HasFullCount k boxes
        → (cond (is_of k p) p.notes.pulled 0 + pulled_since k boxes
        ≡ cond (same_kind (kind_of z.spec) k) (rows_at n) 0 + pulled_rows k (suc n) nodes f)
        ⊎ HasFullCount k (p ∷ boxes)
    go b is here either = grind (arith, more, kinds, rows_at)
since-pulled k f n nodes boxes e other each = grind (arith, none-since)
