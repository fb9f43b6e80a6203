-- A graph that has grown is running on: new nodes as before their first move, new wires over which
-- nothing passed, and a node with new ports.
use Rattle.exec_laws.proofs.Imports.{ArePortsOf, BoxPicture, Files, FollowsKept, GrowthForm, Input, IsListGrowth, IsPort, List, MayGrow, Me, New, NewEdge, None, Option, Output, PartSpec, Picture, Port, Some, Spec, Who, Wire, [], after_grow, ap, arith, cases_lt, count_by, count_by-append, count_by-cons, end_node, eq-eqb, false, get_or, get_or-append_right, get_or-eq_default, get_or-replicate, get_or_append_left, grown_inputs, has_wrong_end, in_count, inl, input_at, input_count, inr, is_me, is_named, kept_input, kept_inputs, kept_output, kept_outputs, length-append, length-replicate, list_any, listed_edges, ltb-true, ne_eqb, new_input, new_wire, new_wires, no_flags, not, or_parts, out_count, output_at, output_count, refl, sym, true, ℕ, ◌++◌, ◌+◌, ◌<◌, ◌==◌, ◌∙◌, ◌∷◌, ◌≡◌, ◌≢◌, ◌≤◌}
use Rattle.exec_laws.proofs.GrownGraphs.{not-false}
use Rattle.exec_laws.proofs.Sides.{SamePort, input-itself}
use Rattle.query_model.specs.declared.processor_spec.Spec.TheVariants as spec

-- ---- a view with more ports

module _ (v : Picture) (ins outs : ℕ) (le_in : in_count v ≤ ins) (le_out : out_count v ≤ outs) where
  abbrev wide : Picture
  wide = after_grow v ins outs

  pub wide-counts : (in_count wide ≡ ins) × (out_count wide ≡ outs)
  unfolding in_count out_count
  wide-counts = grind (arith, length-append, length-replicate)

  pub wide-old : (p : Port) → IsPort (in_count v) (out_count v) p → SamePort p wide v
  unfolding in_count out_count input_at output_at
  wide-old p lt = grind (arith, get_or_append_left)

  pub wide-input : (i : ℕ) → in_count v ≤ i → i < ins → input_at wide i ≡ new_input
  unfolding in_count input_at
  wide-input i le lt = grind (arith, get_or-append_right, get_or-replicate)

  pub wide-output : (o : ℕ) → out_count v ≤ o → o < outs → output_at wide o ≡ no_flags
  unfolding out_count output_at
  wide-output o le lt = grind (arith, get_or-append_right, get_or-replicate)

  pub follows-wide : (p : BoxPicture) → FollowsKept p v → FollowsKept p wide
  unfolding kept_inputs kept_outputs kept_input kept_output
  follows-wide p h = record {
    inputs_stay = let le = h.inputs_stay in omega (arith, le, le_in, wide-counts.0);
    outputs_stay = let le = h.outputs_stay in omega (arith, le, le_out, wide-counts.1);
    inputs = λ i lt. elim (cases_lt i (in_count v)) [
      | inl less ↦ rw (wide-old (Input i) less) (h.inputs i less)
      | inr le ↦
          let stay = h.inputs_stay in
          let out : kept_inputs p ≤ i = omega (arith, le, stay) in
          let past : kept_input p i ≡ no_flags = get_or-eq_default _ no_flags out in
          rw (wide-input i le (rw wide-counts.0 at lt), past) (input-itself no_flags)
    ];
    outputs = λ o lt. elim (cases_lt o (out_count v)) [
      | inl less ↦ rw (wide-old (Output o) less) (h.outputs o less)
      | inr le ↦
          let stay = h.outputs_stay in
          let out : kept_outputs p ≤ o = omega (arith, le, stay) in
          let past : kept_output p o ≡ no_flags = get_or-eq_default _ no_flags out in
          rw (wide-output o le (rw wide-counts.1 at lt), past)
          record { fin_out = refl; fin_in = λ e. e }
    ];
  }

-- ---- the ports of a lawful box before its growth

me-counts : (n count : ℕ) (places : List ℕ) (end : NewEdge → Who) (at : Wire → ℕ)
    → ((e : NewEdge) → at (new_wire n places e) ≡ end_node n places (end e))
    → ((k : ℕ) → k < count → get_or places k 0 ≢ n) → (edges : List NewEdge)
    → list_any (λ e. not (is_named count (end e))) edges ≡ false
    → count_by (λ (w : Wire). at w == n) (new_wires n places edges)
    ≡ count_by (λ (e : NewEdge). is_me (end e)) edges
me-counts n count places end at is other [] h = refl
me-counts n count places end at is other (e ∷ edges) h =
    let both = or_parts _ _ h in
    count_by-cons (λ (w : Wire). at w == n) (new_wire n places e) (new_wires n places edges)
    ∙ rw (
      is e,
      own (end e) (not-false _ both.0),
      me-counts n count places end at is other edges both.1,
    )
    (sym (count_by-cons (λ (x : NewEdge). is_me (end x)) e edges))
  where
    own : (w : Who) → is_named count w ≡ true → (end_node n places w == n) ≡ is_me w
    own Me h = eq-eqb n n refl
    own (New k) h = ne_eqb _ n (other k (ltb-true k count h))

named-ends : (count : ℕ) (edges : List NewEdge) → list_any (has_wrong_end count) edges ≡ false
    → (list_any (λ (e : NewEdge). not (is_named count e.from.who)) edges ≡ false)
    × (list_any (λ (e : NewEdge). not (is_named count e.to.who)) edges ≡ false)
named-ends count [] h = (refl, refl)
named-ends count (e ∷ edges) h = grind (arith, named-ends count edges)

-- the ports of the node that grows, with the new wires
pub grown-counts : (n count : ℕ) (places : List ℕ) (wires : List Wire) (edges : List NewEdge)
    → ((k : ℕ) → k < count → get_or places k 0 ≢ n) → list_any (has_wrong_end count) edges ≡ false
    → (input_count (wires ++ new_wires n places edges) n
    ≡ input_count wires n + count_by (λ (e : NewEdge). is_me e.to.who) edges)
    × (output_count (wires ++ new_wires n places edges) n
    ≡ output_count wires n + count_by (λ (e : NewEdge). is_me e.from.who) edges)
grown-counts n count places wires edges other h =
    let named = named-ends count edges h in
    let ins = count_by-append (λ (w : Wire). w.to == n) wires (new_wires n places edges) in
    let outs = count_by-append (λ (w : Wire). w.from == n) wires (new_wires n places edges) in
    let to = me-counts n count places (λ e. e.to.who) (λ w. w.to) (λ e. refl) other edges named.1 in
    let from =
    me-counts n count places (λ e. e.from.who) (λ w. w.from) (λ e. refl) other edges named.0 in
    (ins ∙ ap (λ k. input_count wires n + k) to, outs ∙ ap (λ k. output_count wires n + k) from)

-- a list's new parts are all its inputs
pub no-outputs : (paths : List (List ℕ)) (k : ℕ)
    → count_by (λ (e : NewEdge). is_me e.from.who) (listed_edges k paths) ≡ 0
no-outputs [] k = refl
no-outputs (path ∷ paths) k = grind (arith, count_by-cons, no-outputs paths (k + 1))

-- a lawful box that grew is a list of parts
pub record GrewList (s : Option Spec) (files : Option Files) (g : GrowthForm) : Type 0 where
  pub list : PartSpec
  pub is : s ≡ Some (spec.List list)
  pub growth : IsListGrowth list files g

pub grew-list : (s : Option Spec) (files : Option Files) (g : GrowthForm) → MayGrow s files (Some g)
    → GrewList s files g
grew-list (Some (spec.List list)) files g h = record { list = list; is = refl; growth = h }
grew-list s files g h = absurd h

-- where the grown ports are those of the spec and growth, the ones before were those of the spec
pub ports-before : (s : Option Spec) (files : Option Files) (g : GrowthForm) (i o : ℕ)
    → MayGrow s files (Some g)
    → ArePortsOf s (Some g) (i + grown_inputs (Some g))
    (o + count_by (λ (e : NewEdge). is_me e.from.who) g.edges) → ArePortsOf s None i o
ports-before s files g i o h k = grind (arith, grew-list, no-outputs)
