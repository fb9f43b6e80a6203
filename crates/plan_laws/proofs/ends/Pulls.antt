-- Along each wire what was pulled is the first of what was pushed.
use Rattle.plan_laws.proofs.Imports.{List, arith, get_or, length, length-append, subst, sym, true, ℕ, ◌++◌, ◌<◌, ◌∙◌, ◌≡◌, AllPull, BoxPicture, Pulls, Wire, both_ways, box_at, consumer_of, flat_map-append, get_or_append_left, get_or_default, map-append, no_wire, not-true, producer_of, wire_at, stream_pulled_at, stream_pushed_at, Snapshot, and_parts, and_from}

-- the wire's ends are lawful boxes
pub record IsWireOf (boxes : List BoxPicture) (w : Wire) : Type 0 where
  pub from_lawful : (box_at boxes w.from).lawful ≡ true
  pub to_lawful : (box_at boxes w.to).lawful ≡ true

pub wire-pulls : (wires : List Wire) (boxes : List BoxPicture) (d : Snapshot wires boxes) (e : ℕ)
    → e < length wires → IsWireOf boxes (wire_at wires e)
    → Pulls (stream_pulled_at boxes d.pulled (consumer_of (wire_at wires e)))
    (stream_pushed_at boxes d.pushed (producer_of (wire_at wires e)))
wire-pulls wires boxes d e lt is =
    grind (arith, map-append, flat_map-append, and_parts, and_from, both_ways, not-true)

pub all-pull : (wires more : List Wire) (boxes : List BoxPicture)
    (d : Snapshot (wires ++ more) boxes)
    → ((e : ℕ) → e < length wires → IsWireOf boxes (wire_at wires e))
    → AllPull (stream_pulled_at boxes d.pulled) (stream_pushed_at boxes d.pushed) wires
unfolding wire_at
all-pull wires more boxes d are e w lt =
    let all : e < length (wires ++ more) = omega (arith, lt, length-append wires more) in
    let same : wire_at (wires ++ more) e ≡ wire_at wires e = grind (arith, get_or_append_left) in
    let here : wire_at wires e ≡ get_or wires e w = get_or_default wires e no_wire w lt in
    subst (λ v. Pulls (stream_pulled_at boxes d.pulled (consumer_of v))
    (stream_pushed_at boxes d.pushed (producer_of v))) (same ∙ here)
    (wire-pulls (wires ++ more) boxes d e all
    (subst (IsWireOf boxes) (sym same) (are e lt)))
