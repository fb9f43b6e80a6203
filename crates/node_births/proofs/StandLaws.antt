-- What a node knows of its wires, its reserve and its box: before anything was born, and after
-- calls that leave its ports.
use Rattle.node_births.proofs.Imports.{Birth, Blank, BoxPicture, Fault, Flaw, GrowthForm, GrowthStays, GrowthsLeft, HasNewWire, HasPlaces, IsBorn, IsBoxLeft, IsSome, List, Memory, None, Option, Port, PortsPicture, ReserveForm, SamePorts, Some, Spec, StandsAmong, StaysBox, StopCause, Wire, [], ap, append-nil, arith, cond, edge-stays, edge_of, filter, growth_list, growths_of, inl, inr, is_some, kept_growths, length, refl, reserve_after, stays-both, stays-itself, sym, true, ℕ, ◌++◌, ◌+◌, ◌-◌, ◌∙◌, ◌∷◌, ◌≡◌}

-- ---- nothing was born

filter-all : {A : Type 0} (xs : List A) → filter (λ (x : A). true) xs ≡ xs
filter-all [] = refl
filter-all (x ∷ xs) = ap (λ l. x ∷ l) (filter-all xs)

-- no births leave a reserve as it is
pub reserve-unborn : (r : ReserveForm) → reserve_after r [] ≡ r
reserve-unborn r = let edges : r.left.edges - 0 ≡ r.left.edges = omega arith in
    let next : r.next_edge + 0 ≡ r.next_edge = omega arith in λ j. record {
      rank = r.rank;
      nodes = r.nodes;
      left = record { blanks = filter-all {A = Blank} r.left.blanks j; edges = edges j };
      next_edge = next j;
    }

-- a node of a new table has the wires of the graph
pub stands-new : (wires : List Wire) (first n : ℕ) (r : ReserveForm) (c : PortsPicture)
    (p : BoxPicture) → c.node.number ≡ n → HasPlaces wires (λ e. e) n c.inputs c.outputs c
    → StandsAmong wires first [] n r c r p
stands-new wires first n r c p number h = record {
  number = number;
  wired = grind (arith, h.numbers.at, h.numbers.ins, h.numbers.outs, h.wire_is);
  ins = λ born. rw append-nil h.numbers.ins;
  outs = λ born. rw append-nil h.numbers.outs;
  reserve_is = sym (reserve-unborn r);
  sound = tt;
}

-- ---- calls that leave the ports

-- the ports of a node are the same, and have the same wires
same-wire : (first : ℕ) (wires : List Wire) (c d : PortsPicture) → SamePorts c d → (p : Port)
    → HasNewWire first wires c p → HasNewWire first wires d p
same-wire first wires c d s p x = record {
  place = x.place;
  has_edge = rw s.number x.has_edge;
  edge_is = edge-stays c d s p ∙ x.edge_is;
  wire_is = rw (edge-stays c d s p) (s.wires (edge_of c p) ∙ x.wire_is);
}

pub stands-still : (wires : List Wire) (first : ℕ) (births : List Birth) (n : ℕ)
    (r s z : ReserveForm) (c d : PortsPicture) (p q : BoxPicture) → SamePorts c d → z ≡ s
    → (IsBorn q → IsBorn p) → StandsAmong wires first births n r c s p
    → StandsAmong wires first births n r d z q
stands-still wires first births n r s z c d p q same is born h = record {
  number = same.number ∙ h.number;
  wired = grind (arith, same-wire, same.inputs, same.outputs, h.wired.each);
  ins = λ b. ap length same.inputs ∙ h.ins (born b);
  outs = λ b. ap length same.outputs ∙ h.outs (born b);
  reserve_is = is ∙ h.reserve_is;
  sound = h.sound;
}

-- ---- the box

pub kept-some : (s : Option Spec) (g : Option GrowthForm) → IsSome s
    → cond (is_some s) (growth_list g) [] ≡ growth_list g
kept-some s g h = ap (λ b. cond b (growth_list g) []) h

-- a box is what nothing leaves of it
pub left-itself : (n : ℕ) (p : BoxPicture) → IsBoxLeft None [] n p p
left-itself n p = grind (arith, stays-itself p, append-nil (kept_growths p))

growths-both : (o : Option StopCause) (own : List GrowthForm) (p q r : BoxPicture) → StaysBox q r
    → GrowthsLeft None own p q → GrowthStays o q r → GrowthsLeft o own p r
growths-both o own p q r stays h = go o
  where
    same : r.growth ≡ q.growth → kept_growths r ≡ kept_growths q
    same e = ap (λ (x : Option Spec × Option GrowthForm). cond (is_some x.0) (growth_list x.1) [])
        (λ j. (stays.same.spec j, e j))

    go : (o : Option StopCause) → GrowthStays o q r → GrowthsLeft o own p r
    go None k = λ l. same (k l) ∙ h (rw (← stays.same.lawful) l)
    go (Some (Fault f)) k = λ l. same (k l) ∙ h (rw (← stays.same.lawful) l)
    go (Some (Flaw f)) k = λ l. sym (h (rw (← stays.same.lawful) l)) ∙ none q.spec (k l)
      where
        none : (s : Option Spec) → q.growth ≡ None → cond (is_some s) (growth_list q.growth) [] ≡ []
        none (Some s) e = ap growth_list e
        none None e = refl
    go (Some Memory) k = tt

-- what further calls leave, of which the last may stop the run
pub left-both : (o : Option StopCause) (births : List Birth) (n : ℕ) (p q r : BoxPicture)
    → StaysBox q r → GrowthStays o q r → (q.spec ≡ None → r ≡ q) → IsBoxLeft None births n p q
    → IsBoxLeft o births n p r
left-both o births n p q r stays growth blank h = record {
  born = λ b. stays-both p q r (h.born b) stays;
  unborn = λ none. elim (h.unborn none) [
    | inl same ↦ inl (blank (rw same none) ∙ same)
    | inr was ↦ inr record {
      number = was.number;
      birth = was.birth;
      among = was.among;
      place = was.place;
      in_range = was.in_range;
      at_place = was.at_place;
      spec = was.spec;
      loaded = was.loaded;
      loads = was.loads;
      form = was.form;
      stays = stays-both was.loaded q r was.stays stays;
    }
  ];
  growth = growths-both o (growths_of n births) p q r stays h.growth growth;
  may_grow = λ k b at of lawful. let may = h.may_grow k b at of (rw (← stays.same.lawful) lawful) in
      rw (stays.same.spec, stays.same.files) may;
}
