-- Graphs of lawful boxes that grew.
use Rattle.std.specs.List.{AllByRecursion, range_with_len}
use Rattle.std.specs.Prelude.{List, Some, [], flat_map, length, map, slice_index_or, true, ℕ, ◌++◌, ◌+◌, ◌<◌, ◌∷◌, ◌≡◌, ◌≤◌}
use Rattle.chunk_data.specs.Places.{AreOnce}
use Rattle.exec_laws.specs.Births.{AreBirths, Birth, HasForm, all_places, form_at, kept_growths, reserve_of}
use Rattle.exec_laws.specs.Growths.{new_wires}
use Rattle.exec_laws.specs.Names.{box_at}
use Rattle.plan_laws.specs.Drafts.{IsDraftGraph, no_draft, with_nodes}
use Rattle.plan_laws.specs.declared.nodes.DraftNode.{DraftNode}
use Rattle.proc_api.specs.Names.{BoxPicture, IsSourceKind, SpecForm, input_count, output_count, spec_form}
use Rattle.proc_api.specs.Prelude.{PartSpec, Spec, Wire, kind_of}
use Rattle.proc_api.specs.Reserves.{holds_node}
use Rattle.port_word.specs.declared.flags.Reserve.{Reserve}
use Rattle.query_model.specs.Names.{Files}
use Rattle.plan_laws.specs.Steps.{list_source}

-- Births of a graph whose first nodes are these, and whose reserves are behind them: none of its
-- boxes had grown before, and each is lawful.
pub record GrowsLawfully (files : Files) (nodes : List DraftNode) (reserves : List Reserve)
    (before after : List BoxPicture) (births : List Birth) : Type 0 where
  pub are : AreBirths reserves before after births
  pub ungrown : (n : ℕ) → kept_growths (box_at before n) ≡ []
  pub lawful : (n : ℕ) → n < length after → (box_at after n).lawful ≡ true
  pub told : (n : ℕ) (s : Spec) → n < length after → (box_at after n).spec ≡ Some s
      → IsSourceKind (kind_of s) → (box_at after n).files ≡ Some files
  pub specs : (n : ℕ) (z : DraftNode) → n < length nodes → slice_index_or nodes n z ≡ z
      → (box_at after n).spec ≡ Some z.spec
  pub behind : (n q : ℕ) → holds_node q (reserve_of reserves n) ≡ true
      → (n < length nodes) × (length nodes ≤ q)
  pub few : length nodes ≤ length after
  pub graph : IsDraftGraph nodes
  -- no list is fed by one of its wires
  pub lists_unfed : (n : ℕ) (list : PartSpec) → n < length nodes
      → (box_at after n).spec ≡ Some (list_source list)
      → (input_count (with_nodes nodes no_draft).wires n ≡ 0)
      × (output_count (with_nodes nodes no_draft).wires n ≡ 1)

-- ---- one list of nodes

-- Nodes in order, by what their boxes are loaded with, and the wires by the numbers that the nodes
-- have in the list. What feeds a node may stand behind it, as the parts of a list do, so that it
-- isn't enough to say which open ends each node takes.
pub record NodeList : Type 0 where
  pub forms : List SpecForm
  pub wires : List Wire

-- the wires of growths whose new nodes have the numbers from this one on
abbrev pub new_wires_from : ℕ → List Birth → List Wire
new_wires_from first [] = []
new_wires_from first (b ∷ births) =
    let count : ℕ = length b.growth.specs in
    new_wires b.expander (range_with_len first count) b.growth.edges
    ++ new_wires_from (first + count) births

-- the nodes, and behind them the new ones of each growth
abbrev pub grown_nodes : List DraftNode → List Birth → NodeList
grown_nodes nodes births = record {
  forms = map (λ (z : DraftNode). spec_form z.spec) nodes
      ++ flat_map (λ (b : Birth). b.growth.specs) births;
  wires = (with_nodes nodes no_draft).wires ++ new_wires_from (length nodes) births;
}

-- where they stand: the first ones at their own numbers
abbrev pub grown_places : List DraftNode → List Birth → List ℕ
grown_places nodes births = range_with_len 0 (length nodes) ++ all_places births

-- the wire where node k of the list stands at place k of these
abbrev pub wire_between : List ℕ → Wire → Wire
wire_between places w = record {
  from = slice_index_or places w.from 0;
  out = w.out;
  to = slice_index_or places w.to 0;
  input = w.input;
}

-- the wire joins two of the first n nodes
abbrev pub JoinsWithin : ℕ → Wire → Type 0
JoinsWithin n w = (w.from < n) × (w.to < n)

-- the box at place k of these is loaded with form k
abbrev pub AreLoaded : List BoxPicture → List ℕ → List SpecForm → Type 0
AreLoaded boxes places forms = (k : ℕ) → k < length places
    → HasForm (box_at boxes (slice_index_or places k 0)).spec (form_at forms k)

-- The graph of a list whose node k stands at place k of these, each of which is a place of its own:
-- the boxes are loaded with what the list says, and the wires are those of the list, in order.
pub record IsPlacedGraph (l : NodeList) (places : List ℕ) (wires : List Wire)
    (boxes : List BoxPicture) : Type 0 where
  pub count : length places ≡ length l.forms
  pub once : AreOnce places
  pub loaded : AreLoaded boxes places l.forms
  pub within : AllByRecursion (JoinsWithin (length places)) l.wires
  pub wires_are : wires ≡ map (wire_between places) l.wires
