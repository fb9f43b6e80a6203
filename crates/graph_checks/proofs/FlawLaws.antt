-- The first flaw of a growth, by its three parts, and over the wires at the node alone.
use Rattle.graph_checks.proofs.Imports.{Blank, Bool, Edge, GrowNode, Growth, GrowthFlaw, GrowthForm, Kind, Left, List, Me, New, None, Option, Some, TakeSamePorts, Who, Wire, [], and_parts, ap, ap₂, arith, blanks_flaw, cond, edges_flaw, end_node, false, first_flaw, flaw_over, form_kind, get_or, growth_flaw, growth_form, grown_kinds, has_gap, has_large_port, has_wrong_end, inl, inr, is_named, is_out_of_order, is_port_taken, length, length-map, list_any, ltb-true, map, nat_lt, new_wires, or_parts, places_for, rank_at, ranks_of, refl, subst, suc, sym, true, wires_flaw, without_blank, ⊎_elim, ℕ, ◌++◌, ◌<◌, ◌∙◌, ◌∷◌, ◌≡◌, ◌⊎◌}
use Rattle.exec_laws.proofs.GrownGraphs.{not-false}
use Rattle.exec_laws.specs.declared.growth.GrowthFlaw.TheVariants as flaw
use Rattle.graph_checks.proofs.BlankLaws.{kinds-are}
use Rattle.graph_checks.proofs.SamePorts.{AreAll, JoinOnly, gaps-same, same-with, taken-same}

in-parts : (a b c d e f g : Bool) (rest : Option GrowthFlaw)
    → cond a (Some flaw.TooManyNodes) (cond b (Some flaw.TooManyEdges)
    (cond c (Some flaw.WrongEnd) (cond d (Some flaw.RankOrder) (cond e (Some flaw.TooManyPorts)
    (cond f (Some flaw.PortTaken) (cond g (Some flaw.PortGap) rest))))))
    ≡ first_flaw (cond a (Some flaw.TooManyNodes) (cond b (Some flaw.TooManyEdges)
    (cond c (Some flaw.WrongEnd) (cond d (Some flaw.RankOrder)
    (cond e (Some flaw.TooManyPorts) None)))))
    (first_flaw (cond f (Some flaw.PortTaken) (cond g (Some flaw.PortGap) None)) rest)
in-parts true b c d e f g rest = refl
in-parts false true c d e f g rest = refl
in-parts false false true d e f g rest = refl
in-parts false false false true e f g rest = refl
in-parts false false false false true f g rest = refl
in-parts false false false false false true g rest = refl
in-parts false false false false false false true rest = refl
in-parts false false false false false false false rest = refl

-- the first flaw is the first one of the edges, of the wires and of the blanks
pub growth-flaw-is : (ranks : List ℕ) (wires : List Wire) (left : Left) (n : ℕ) (g : GrowthForm)
    → growth_flaw ranks wires left n g
    ≡ flaw_over (rank_at ranks n) (length ranks) wires left n g
growth-flaw-is ranks wires left n g =
    let wanted : List Kind = map form_kind g.specs in
    let places : List ℕ = places_for wanted left.blanks (length ranks) in
    let more : List Wire = new_wires n places g.edges in
    in-parts (nat_lt (length left.blanks) (length g.specs)) (nat_lt left.edges (length g.edges))
    (list_any (has_wrong_end (length g.specs)) g.edges)
    (list_any (is_out_of_order (rank_at ranks n) g.ranks) g.edges)
    (list_any has_large_port g.edges) (is_port_taken wires more)
    (list_any (has_gap (wires ++ more)) (n ∷ places)) (blanks_flaw wanted left.blanks)

-- the flaw of a growth, by its nodes and edges
pub flaw-of-nodes : (rank past : ℕ) (wires : List Wire) (left : Left) (n : ℕ) (g : Growth)
    → flaw_over rank past wires left n (growth_form g)
    ≡ first_flaw (edges_flaw rank (length left.blanks) left.edges (length g.nodes)
    (ranks_of g.nodes) g.edges)
    (first_flaw (wires_flaw wires n (places_for (grown_kinds g.nodes) left.blanks past) g.edges)
    (blanks_flaw (grown_kinds g.nodes) left.blanks))
flaw-of-nodes rank past wires left n g = ap₂ (λ (count : ℕ) (kinds : List Kind).
    first_flaw (edges_flaw rank (length left.blanks) left.edges count (ranks_of g.nodes) g.edges)
    (first_flaw (wires_flaw wires n (places_for kinds left.blanks past) g.edges)
    (blanks_flaw kinds left.blanks))) (length-map g.nodes _) (kinds-are g.nodes)

third-passes : (a b c d e : Bool)
    → cond a (Some flaw.TooManyNodes) (cond b (Some flaw.TooManyEdges)
    (cond c (Some flaw.WrongEnd) (cond d (Some flaw.RankOrder)
    (cond e (Some flaw.TooManyPorts) None)))) ≡ None → c ≡ false
third-passes true b c d e h = absurd (cc)
third-passes false true c d e h = absurd (cc)
third-passes false false true d e h = absurd (cc)
third-passes false false false d e h = refl

-- where the edges have no flaw, none has a wrong end
ends-right : (rank blanks left count : ℕ) (ranks : List ℕ) (edges : List Edge)
    → edges_flaw rank blanks left count ranks edges ≡ None
    → list_any (has_wrong_end count) edges ≡ false
ends-right rank blanks left count ranks edges h =
    third-passes (nat_lt blanks count) (nat_lt left (length edges))
    (list_any (has_wrong_end count) edges) (list_any (is_out_of_order rank ranks) edges)
    (list_any has_large_port edges) h

module _ (n : ℕ) (places : List ℕ) where
  -- node n, or one of the places
  abbrev IsEndNode : ℕ → Type 0
  IsEndNode m = (m ≡ n) ⊎ ((k : ℕ) × (k < length places) × (get_or places k 0 ≡ m))

  end-there : (w : Who) → is_named (length places) w ≡ true → IsEndNode (end_node n places w)
  end-there Me h = inl refl
  end-there (New k) h = inr (k, ltb-true k (length places) h, refl)

  wires-join : (edges : List Edge) → list_any (has_wrong_end (length places)) edges ≡ false
      → JoinOnly IsEndNode (new_wires n places edges)
  wires-join [] h = tt
  wires-join (e ∷ edges) h =
      let parts = or_parts _ _ h in
      let named = and_parts _ _ (not-false _ (or_parts _ _ parts.0).0) in
      (end-there e.to.who named.1, end-there e.from.who named.0, wires-join edges parts.1)

  places-all : (all : List ℕ) → ((k : ℕ) → k < length all → IsEndNode (get_or all k 0))
      → AreAll IsEndNode all
  places-all [] h = tt
  places-all (x ∷ all) h =
      (h 0 (omega arith), places-all all (λ k lt. h (suc k) (omega (arith, lt))))

  -- the first flaw of the new wires is that over wires which take the same ports of these nodes
  wires-same : (a b : List Wire) (edges : List Edge) → TakeSamePorts a b n
      → ((k : ℕ) → k < length places → TakeSamePorts a b (get_or places k 0))
      → list_any (has_wrong_end (length places)) edges ≡ false
      → wires_flaw a n places edges ≡ wires_flaw b n places edges
  wires-same a b edges own others ends =
      let more : List Wire = new_wires n places edges in
      let gaps : list_any (has_gap (a ++ more)) (n ∷ places)
      ≡ list_any (has_gap (b ++ more)) (n ∷ places) =
      gaps-same IsEndNode (a ++ more) (b ++ more) (n ∷ places)
      (λ m p. same-with a b more m (same m p))
      (inl refl, places-all places (λ k lt. inr (k, lt, refl))) in
      ap₂ (λ t u. cond t (Some flaw.PortTaken) (cond u (Some flaw.PortGap) None))
      (taken-same IsEndNode a b more same (wires-join edges ends)) gaps
    where
      same : (m : ℕ) → IsEndNode m → TakeSamePorts a b m
      same m p = ⊎_elim (λ e. subst (TakeSamePorts a b) (sym e) own)
          (λ t. subst (TakeSamePorts a b) t.2 (others t.0 t.1)) p

pub places-length : (ks : List Kind) (blanks : List Blank) (past : ℕ)
    → length (places_for ks blanks past) ≡ length ks
places-length [] blanks past = refl
places-length (k ∷ ks) blanks past = ap suc (places-length ks (without_blank k blanks) (suc past))

module _ (rank past : ℕ) (left : Left) (n : ℕ) (g : GrowthForm) where
  abbrev kinds : List Kind
  kinds = map form_kind g.specs

  abbrev places : List ℕ
  places = places_for kinds left.blanks past

  -- A growth has the same first flaw over wires that take the same ports of its node and of the
  -- places of its new nodes: those at the node alone, where the new nodes have none yet.
  pub flaw-over-own : (own wires : List Wire) → TakeSamePorts own wires n
      → ((k : ℕ) → k < length places → TakeSamePorts own wires (get_or places k 0))
      → flaw_over rank past own left n g ≡ flaw_over rank past wires left n g
  flaw-over-own own wires here there =
      after (edges_flaw rank (length left.blanks) left.edges (length g.specs) g.ranks g.edges) refl
    where
      many : length places ≡ length g.specs
      many = places-length kinds left.blanks past ∙ length-map g.specs form_kind

      after : (o : Option GrowthFlaw)
          → edges_flaw rank (length left.blanks) left.edges (length g.specs) g.ranks g.edges ≡ o
          → first_flaw o (first_flaw (wires_flaw own n places g.edges)
          (blanks_flaw kinds left.blanks))
          ≡ first_flaw o (first_flaw (wires_flaw wires n places g.edges)
          (blanks_flaw kinds left.blanks))
      after (Some f) e = refl
      after None e = ap (λ o. first_flaw o (blanks_flaw kinds left.blanks))
          (wires-same n places own wires g.edges here there
          (subst (λ c. list_any (has_wrong_end c) g.edges ≡ false) (sym many)
          (ends-right rank (length left.blanks) left.edges (length g.specs) g.ranks g.edges e)))

-- a growth that was checked: its nodes and edges, so many blanks, its places, and edges without a
-- flaw
module _ (rank past : ℕ) (wires : List Wire) (blanks : List Blank) (left n : ℕ) (g : Growth)
    (nodes : List GrowNode) (nodes_are : nodes ≡ g.nodes) (edges : List Edge)
    (edges_are : edges ≡ g.edges) (many : ℕ) (many_is : many ≡ length blanks)
    (none : None ≡ edges_flaw rank many left (length nodes) (ranks_of nodes) edges)
    (at : List ℕ) (at_is : at ≡ places_for (grown_kinds nodes) blanks past) where
  abbrev whole : Option GrowthFlaw
  whole = flaw_over rank past wires (record { blanks = blanks; edges = left }) n (growth_form g)

  by-rest : whole
      ≡ first_flaw (wires_flaw wires n at edges) (blanks_flaw (grown_kinds nodes) blanks)
  by-rest = flaw-of-nodes rank past wires (record { blanks = blanks; edges = left }) n g
      ∙ (λ j. first_flaw (edges_flaw rank (sym many_is j) left (length (sym nodes_are j))
      (ranks_of (sym nodes_are j)) (sym edges_are j))
      (first_flaw (wires_flaw wires n (places_for (grown_kinds (sym nodes_are j)) blanks past)
      (sym edges_are j)) (blanks_flaw (grown_kinds (sym nodes_are j)) blanks)))
      ∙ (λ j. first_flaw (sym none j) (first_flaw (wires_flaw wires n (sym at_is j) edges)
      (blanks_flaw (grown_kinds nodes) blanks)))

  -- the first flaw is that of the wires, or else that of the blanks
  pub by-wires : (shown : List ℕ) → shown ≡ at → (f : GrowthFlaw)
      → wires_flaw wires n shown edges ≡ Some f → whole ≡ Some f
  by-wires shown same f found = by-rest
      ∙ (λ j. first_flaw (wires_flaw wires n (sym same j) edges)
      (blanks_flaw (grown_kinds nodes) blanks))
      ∙ ap (λ o. first_flaw o (blanks_flaw (grown_kinds nodes) blanks)) found

  pub by-blanks : (shown : List ℕ) → shown ≡ at → (left_blanks : List Blank)
      → left_blanks ≡ blanks → (b : Option GrowthFlaw)
      → b ≡ blanks_flaw (grown_kinds nodes) left_blanks
      → wires_flaw wires n shown edges ≡ None → whole ≡ b
  by-blanks shown same left_blanks blanks_are b is found = by-rest
      ∙ (λ j. first_flaw (wires_flaw wires n (sym same j) edges)
      (blanks_flaw (grown_kinds nodes) (sym blanks_are j)))
      ∙ ap (λ o. first_flaw o (blanks_flaw (grown_kinds nodes) left_blanks)) found ∙ sym is
