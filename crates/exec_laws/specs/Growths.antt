-- What is wrong with a growth, over plain data: the graph before it, and what is left of the
-- reserve.
use Rattle.exec_laws.specs.Prelude.{Blank, GrowthFlaw, GrowthForm, Kind, Me, New, NewEdge, Who, Wire, has_input, has_output, is_gapless, is_me, rank_at, same_kind}
use Rattle.std.specs.List.{list_any}
use Rattle.std.specs.Option.{option_map}
use Rattle.std.specs.Prelude.{Bool, List, Option, Some, [], cond, count_by, false, find, if◌then◌else◌, length, map, nat_lt, not, slice_index_or, suc, true, ℕ, ◌&&◌, ◌++◌, ◌||◌, ◌∷◌}
use Rattle.proc_api.specs.KindRows.{all_kinds}
pub use Rattle.proc_api.specs.Forms.{form_kind}
use Rattle.exec_laws.specs.declared.growth.GrowthFlaw.TheVariants as flaw

-- ---- ends and wires of a growth of node n, whose new nodes are at these places

abbrev pub end_node : ℕ → List ℕ → Who → ℕ
end_node n places Me = n
end_node n places (New k) = slice_index_or places k 0

abbrev pub new_wire : ℕ → List ℕ → NewEdge → Wire
new_wire n places e = record {
  from = end_node n places e.from.who;
  out = e.from.port;
  to = end_node n places e.to.who;
  input = e.to.port;
}

abbrev pub new_wires : ℕ → List ℕ → List NewEdge → List Wire
new_wires n places edges = map (new_wire n places) edges

-- ---- the places of new nodes: each takes the first blank of its kind that no earlier one took

abbrev pub is_blank_of : Kind → Blank → Bool
is_blank_of k b = same_kind b.kind k

-- the node of the first blank of the kind; where there is none, a number past all nodes
abbrev pub blank_place : Kind → List Blank → (past : ℕ) → ℕ
blank_place k [] past = past
blank_place k (b ∷ blanks) past = cond (is_blank_of k b) b.node (blank_place k blanks past)

-- the blanks without that one
abbrev pub without_blank : Kind → List Blank → List Blank
without_blank k [] = []
without_blank k (b ∷ blanks) = cond (is_blank_of k b) blanks (b ∷ without_blank k blanks)

abbrev pub places_for : List Kind → List Blank → (past : ℕ) → List ℕ
places_for [] blanks past = []
places_for (k ∷ ks) blanks past =
    blank_place k blanks past ∷ places_for ks (without_blank k blanks) (suc past)

-- ---- the flaws

-- whether the end is the node that grows, or one of so many new nodes
abbrev pub is_named : ℕ → Who → Bool
is_named count Me = true
is_named count (New k) = nat_lt k count

abbrev pub has_wrong_end : ℕ → NewEdge → Bool
has_wrong_end count e =
    not (is_named count e.from.who && is_named count e.to.who)
    || (is_me e.from.who && is_me e.to.who)

-- the rank of an end, where the node that grows has rank r
abbrev pub end_rank : ℕ → List ℕ → Who → ℕ
end_rank r ranks Me = r
end_rank r ranks (New k) = slice_index_or ranks k 0

abbrev pub is_out_of_order : ℕ → List ℕ → NewEdge → Bool
is_out_of_order r ranks e = not (nat_lt (end_rank r ranks e.from.who) (end_rank r ranks e.to.who))

abbrev pub has_large_port : NewEdge → Bool
has_large_port e = not (nat_lt e.to.port 32 && nat_lt e.from.port 16)

-- whether one of the wires has a port that a wire before it has
abbrev pub is_port_taken : List Wire → List Wire → Bool
is_port_taken wires [] = false
is_port_taken wires (w ∷ more) =
    (has_input wires w.to w.input || has_output wires w.from w.out)
    || is_port_taken (wires ++ w ∷ []) more

abbrev pub has_gap : List Wire → ℕ → Bool
has_gap wires n = not (is_gapless wires n)

-- whether there are fewer blanks of the kind than new nodes
abbrev pub lacks_blank : List Kind → List Blank → Kind → Bool
lacks_blank wanted blanks k =
    nat_lt (count_by (is_blank_of k) blanks) (count_by (λ j. same_kind j k) wanted)

-- what is left for a growth of a node: its unborn blanks in order, and how many edges aren't wired
pub record Left : Type 0 where
  pub blanks : List Blank
  pub edges : ℕ

-- the first flaw of a growth of node n over the graph before it, if it has one
abbrev pub growth_flaw : List ℕ → List Wire → Left → ℕ → GrowthForm → Option GrowthFlaw
growth_flaw ranks wires left n g =
    let count : ℕ = length g.specs in
    let wanted : List Kind = map form_kind g.specs in
    let places : List ℕ = places_for wanted left.blanks (length ranks) in
    let more : List Wire = new_wires n places g.edges in
    if nat_lt (length left.blanks) count then Some flaw.TooManyNodes
    else if nat_lt left.edges (length g.edges) then Some flaw.TooManyEdges
    else if list_any (has_wrong_end count) g.edges then Some flaw.WrongEnd
    else if list_any (is_out_of_order (rank_at ranks n) g.ranks) g.edges then Some flaw.RankOrder
    else if list_any has_large_port g.edges then Some flaw.TooManyPorts
    else if is_port_taken wires more then Some flaw.PortTaken
    else if list_any (has_gap (wires ++ more)) (n ∷ places) then Some flaw.PortGap
    else option_map flaw.NoBlank (find (lacks_blank wanted left.blanks) all_kinds)
