-- The first flaw of a growth as the first one of three: of its edges, of the wires that they
-- become, and of blanks that are too few.
use Rattle.std.specs.List.{list_any}
use Rattle.std.specs.Option.{option_map}
use Rattle.std.specs.Prelude.{List, None, Option, Some, find, if◌then◌else◌, length, map, nat_lt, ℕ, ◌++◌, ◌∷◌, ◌≡◌}
use Rattle.exec_laws.specs.Growths.{Left, form_kind, has_gap, has_large_port, has_wrong_end, is_out_of_order, is_port_taken, lacks_blank, new_wires, places_for}
use Rattle.exec_laws.specs.declared.growth.Blank.{Blank}
use Rattle.exec_laws.specs.declared.growth.GrowthFlaw.{GrowthFlaw}
use Rattle.exec_laws.specs.declared.growth.GrowthFlaw.TheVariants as flaw
use Rattle.port_word.specs.declared.flags.Wire.{Wire}
use Rattle.proc_api.specs.Forms.{GrowthForm}
use Rattle.proc_api.specs.Graphs.{has_input, has_output}
use Rattle.proc_api.specs.KindRows.{all_kinds}
use Rattle.proc_api.specs.declared.growth.Edge.{Edge}
use Rattle.proc_api.specs.declared.growth.GrowNode.{GrowNode}
use Rattle.query_model.specs.Kinds.{kind_of}
use Rattle.query_model.specs.declared.processor_spec.Kind.{Kind}

abbrev pub grown_kinds : List GrowNode → List Kind
grown_kinds nodes = map (λ (x : GrowNode). kind_of x.spec) nodes

abbrev pub ranks_of : List GrowNode → List ℕ
ranks_of nodes = map (λ (x : GrowNode). x.rank) nodes

-- the first of two flaws, if there is one
abbrev pub first_flaw : Option GrowthFlaw → Option GrowthFlaw → Option GrowthFlaw
first_flaw (Some f) other = Some f
first_flaw None other = other

-- the first flaw of the edges of a growth of so many nodes with these ranks, by the rank of the
-- node that grows, and by how many blanks and edges are left
abbrev pub edges_flaw : (rank blanks left count : ℕ) → List ℕ → List Edge → Option GrowthFlaw
edges_flaw rank blanks left count ranks edges =
    if nat_lt blanks count then Some flaw.TooManyNodes
    else if nat_lt left (length edges) then Some flaw.TooManyEdges
    else if list_any (has_wrong_end count) edges then Some flaw.WrongEnd
    else if list_any (is_out_of_order rank ranks) edges then Some flaw.RankOrder
    else if list_any has_large_port edges then Some flaw.TooManyPorts
    else None

-- the first flaw of the wires of a growth of node n whose new nodes are at these places
abbrev pub wires_flaw : List Wire → ℕ → List ℕ → List Edge → Option GrowthFlaw
wires_flaw wires n places edges =
    let more : List Wire = new_wires n places edges in
    if is_port_taken wires more then Some flaw.PortTaken
    else if list_any (has_gap (wires ++ more)) (n ∷ places) then Some flaw.PortGap
    else None

-- the flaw of blanks that are too few, of the first kind of which there are
abbrev pub blanks_flaw : List Kind → List Blank → Option GrowthFlaw
blanks_flaw wanted blanks = option_map flaw.NoBlank (find (lacks_blank wanted blanks) all_kinds)

-- the first flaw of a growth of node n with this rank over wires; numbers from `past` on are those
-- of no nodes
abbrev pub flaw_over : (rank past : ℕ) → List Wire → Left → ℕ → GrowthForm → Option GrowthFlaw
flaw_over rank past wires left n g =
    let wanted : List Kind = map form_kind g.specs in
    first_flaw (edges_flaw rank (length left.blanks) left.edges (length g.specs) g.ranks g.edges)
    (first_flaw (wires_flaw wires n (places_for wanted left.blanks past) g.edges)
    (blanks_flaw wanted left.blanks))

-- some wires take the same ports of the node as others
pub record TakeSamePorts (wires others : List Wire) (n : ℕ) : Type 0 where
  pub inputs : (i : ℕ) → has_input wires n i ≡ has_input others n i
  pub outputs : (o : ℕ) → has_output wires n o ≡ has_output others n o
