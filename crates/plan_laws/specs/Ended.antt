-- The streams of a run, at one moment and when it has ended.
use Rattle.exec_laws.specs.Names.{AllNodesOver, Snapshot, box_at}
use Rattle.plan_laws.specs.Types.{GivesIf}
use Rattle.plan_laws.specs.Streams.{RowsOfSources, SourceRows, Stream}
use Rattle.plan_laws.specs.Plans.{all_valid, sources_rows}
use Rattle.plan_laws.specs.declared.nodes.DraftNode.{DraftNode}
use Rattle.plan_laws.specs.declared.nodes.NodePort.{NodePort}
use Rattle.plan_laws.specs.Drafts.{no_draft, ports_of, with_nodes}
use Rattle.proc_api.specs.Names.{ArePortsOf, BoxPicture, FileRead, GrowthForm, IsSourceKind, Keeps, Lists, NoFile, PartFile, PartsFile, chunk_rows, file_read, input_count, is_ended, is_of, kept_input, kept_output, last_count, output_count}
unfoldable use Rattle.proc_api.specs.Names.{wire_at}
use Rattle.proc_api.specs.Prelude.{ColumnType, Kind, PartSpec, Spec, Table, Wire, kind_of}
use Rattle.proc_api.specs.SpecContracts.{IsUngrown, StandStill}
use Rattle.query_model.specs.Database.{paths_in}
use Rattle.query_model.specs.ListFiles.{list_bad_line}
use Rattle.query_model.specs.Names.{Files, UsedPart, bad_line_in, bad_place, file_bytes, good_rows, part_records}
use Rattle.plan_laws.specs.Steps.{SourceReading, list_source, part_source, part_spec, path_sources}
use Rattle.std.specs.Prelude.{Bool, List, None, Option, Some, [], cond, false, is_none, length, map, not, slice_index_or, suc, true, ℕ, ⊤, ◌&&◌, ◌++◌, ◌+◌, ◌<◌, ◌∷◌, ◌≡◌, ◌≤◌, ◌⊎◌}

abbrev pub part_in : PartSpec → Option (List ℕ) → SourceRows
part_in part None = record { rows = []; valid = false }
part_in part (Some bytes) =
    let records = part_records part.header bytes in
    record {
      rows = good_rows part.types records;
      valid = is_none (bad_place 1 part.types records);
    }

abbrev pub part_of : Files → PartSpec → SourceRows
part_of files part = part_in part (file_bytes files part.path)

-- the rows of a part of the files, and none of what is no part
abbrev pub part_read : Files → FileRead → SourceRows
part_read files NoFile = record { rows = []; valid = true }
part_read files (PartFile part) = part_of files part
part_read files (PartsFile list) = record { rows = []; valid = true }

-- the parts of the files, none of which is a list
abbrev pub parts_of_files : Files → RowsOfSources
parts_of_files files s = part_read files (file_read (Some s))

-- how the parts of a list are read
abbrev pub reading_in : PartSpec → SourceReading
reading_in list =
    record { table = list.table; types = list.types; header = list.header; rows = list.rows }

-- the sources of the parts that a list's file names
abbrev pub listed_sources : PartSpec → Option (List ℕ) → List Spec
listed_sources list text = path_sources (reading_in list) 1 (paths_in text)

abbrev pub is_valid_list : Option (List ℕ) → Bool
is_valid_list None = false
is_valid_list (Some text) = is_none (list_bad_line text)

-- a list of parts, by the bytes of its own file
abbrev pub list_in : Files → PartSpec → Option (List ℕ) → SourceRows
list_in files list text = record {
  rows = sources_rows (parts_of_files files) (listed_sources list text);
  valid = is_valid_list text && all_valid (parts_of_files files) (listed_sources list text);
}

abbrev pub source_in : Files → FileRead → SourceRows
source_in files NoFile = part_read files NoFile
source_in files (PartFile part) = part_read files (PartFile part)
source_in files (PartsFile list) = list_in files list (file_bytes files list.path)

-- the parts and the lists of parts of the files
abbrev pub sources_of_files : Files → RowsOfSources
sources_of_files files s = source_in files (file_read (Some s))

abbrev pub chunk_types : List Table → List (List ColumnType)
chunk_types chunks = map (λ (t : Table). t.types) chunks

-- what a box pulled at an input, which is done where the box saw its end and didn't close it
abbrev pub in_stream : BoxPicture → Lists → ℕ → Stream
in_stream p ins i = record {
  rows = chunk_rows (ins i);
  done = is_ended (kept_input p i) && not (kept_input p i).fin_in;
  types = chunk_types (ins i);
}

-- what a box pushed to an output, which is done where the box finished it and no consumer closed it
abbrev pub out_stream : BoxPicture → Lists → ℕ → Stream
out_stream p outs o = record {
  rows = chunk_rows (outs o);
  done = (kept_output p o).fin_out && not (kept_output p o).fin_in;
  types = chunk_types (outs o);
}

abbrev pub stream_pulled_at : List BoxPicture → (ℕ → Lists) → NodePort → Stream
stream_pulled_at boxes pulled p = in_stream (box_at boxes p.node) (pulled p.node) p.port

abbrev pub stream_pushed_at : List BoxPicture → (ℕ → Lists) → NodePort → Stream
stream_pushed_at boxes pushed p = out_stream (box_at boxes p.node) (pushed p.node) p.port

-- nothing is in the list of a port past the last one
abbrev pub NothingPast : ℕ → Lists → Type 0
NothingPast ports lists = (i : ℕ) → ports ≤ i → lists i ≡ []

-- A box with the ports of its spec, which keeps its contract of these lists. A source tells these
-- files.
pub record KeepsContract (s : Spec) (files : Files) (takes gives : ℕ) (p : BoxPicture)
    (ins outs : Lists)
    : Type 0 where
  pub loaded : p.spec ≡ Some s
  pub told : IsSourceKind (kind_of s) → p.files ≡ Some files
  pub ports : ArePortsOf (Some s) p.growth takes gives
  pub still : StandStill (Some s) p.notes.view takes gives
  pub few_inputs : takes ≤ 32
  pub few_outputs : gives ≤ 16
  pub keeps : Keeps p ins outs
  pub nothing_past : NothingPast takes ins
  pub nothing_pushed_past : NothingPast gives outs

-- the promises of kind s hold of the streams at the ports of node n
abbrev pub BoxGives : Spec → Files → (takes gives n : ℕ) → BoxPicture → (ins outs : Lists) → Type 0
BoxGives s files takes gives n p ins outs =
    GivesIf (sources_of_files files) s
    (map (λ (q : NodePort). in_stream p ins q.port) (ports_of n 0 takes))
    (map (λ (q : NodePort). out_stream p outs q.port) (ports_of n 0 gives))

-- Of each such box the lists are streams for which the kind's promises hold.
abbrev pub KindGives : Spec → Type 0
KindGives s = (files : Files) (takes gives n : ℕ) (p : BoxPicture) (ins outs : Lists)
    → KeepsContract s files takes gives p ins outs → BoxGives s files takes gives n p ins outs

-- the count of pulled rows of a box rose by so many since `load`, or stands at its last value
abbrev pub HasPulled : BoxPicture → ℕ → Type 0
HasPulled p n = (p.notes.pulled ≡ n) ⊎ (p.pulled ≡ last_count)

-- the count of a box of the kind stands at its last value
pub record HasFullCount (k : Kind) (boxes : List BoxPicture) : Type 0 where
  pub place : ℕ
  pub in_range : place < length boxes
  pub of_kind : is_of k (box_at boxes place) ≡ true
  pub full : (box_at boxes place).pulled ≡ last_count

-- the rows that the boxes of a kind pulled since they were loaded
abbrev pub pulled_since : Kind → List BoxPicture → ℕ
pulled_since k [] = 0
pulled_since k (p ∷ boxes) = cond (is_of k p) p.notes.pulled 0 + pulled_since k boxes

-- a node with the ports of its spec, of whose kind the processor contract gives the promises
pub record IsOrdinary (n : DraftNode) : Type 0 where
  pub ungrown : IsUngrown n.spec
  pub ports : (g : Option GrowthForm) → ArePortsOf (Some n.spec) g n.takes n.gives
  pub gives : KindGives n.spec

-- a list of parts, whose inputs come with its growth
pub record IsListNode (n : DraftNode) : Type 0 where
  pub list : PartSpec
  pub is : n.spec ≡ list_source list
  pub takes : n.takes ≡ 0
  pub gives : n.gives ≡ 1

abbrev pub IsReady : DraftNode → Type 0
IsReady n = IsOrdinary n ⊎ IsListNode n

-- ports of a kind whose promises the processor contract gives by the proofs of this crate
abbrev pub KnownPorts : Spec → (takes gives : ℕ) → Type 0
KnownPorts s takes gives = ArePortsOf (Some s) None takes gives

-- a part or a list that a source is loaded with, as queries use parts
abbrev pub used_part : PartSpec → UsedPart
used_part p = record { table = p.table; part = p.part; types = p.types; path = p.path }

-- what is true of the part, or of the list of parts, that a source reads
abbrev pub FileHas : (P L : PartSpec → Type 0) → FileRead → Type 0
FileHas P L NoFile = ⊤
FileHas P L (PartFile part) = P part
FileHas P L (PartsFile list) = L list

abbrev pub SourceHas : (P L : PartSpec → Type 0) → Spec → Type 0
SourceHas P L s = FileHas P L (file_read (Some s))

-- a node of a known kind, and this is true of its part or list where it reads one
abbrev pub IsStep : (P L : PartSpec → Type 0) → DraftNode → Type 0
IsStep P L n = KnownPorts n.spec n.takes n.gives × SourceHas P L n.spec

-- a node of a known kind
abbrev pub IsKnown : DraftNode → Type 0
IsKnown n = IsStep (λ part. ⊤) (λ list. ⊤) n

-- ---- lists that grew

-- The node that was born for a list's part, with an edge from its output to input i of the list.
pub record IsListedNode (list : PartSpec) (wires : List Wire) (boxes : List BoxPicture) (n i : ℕ)
    (path : List ℕ) : Type 0 where
  pub node : ℕ
  pub in_range : node < length boxes
  pub loaded : (box_at boxes node).spec
      ≡ Some (part_source (part_spec (reading_in list) (suc i) path))
  pub inputs : input_count wires node ≡ 0
  pub outputs : output_count wires node ≡ 1
  pub edge : ℕ
  pub edge_in_range : edge < length wires
  pub wire : wire_at wires edge ≡ record { from = node; out = 0; to = n; input = i }

-- The list at node n is valid, and it grew by a source for each of its parts.
pub record HasListed (list : PartSpec) (files : Files) (wires : List Wire)
    (boxes : List BoxPicture) (n : ℕ) : Type 0 where
  pub text : List ℕ
  pub are : file_bytes files list.path ≡ Some text
  pub valid : bad_line_in (Some text) ≡ None
  pub nodes : (i : ℕ) (path : List ℕ) → i < length (paths_in (Some text))
      → slice_index_or (paths_in (Some text)) i path ≡ path
      → IsListedNode list wires boxes n i path
  pub count : input_count wires n ≡ length (paths_in (Some text))

-- A graph that grew by its lists alone: each of them grew by its parts' sources or has no input,
-- and else the first nodes have the ports that they had.
pub record HasGrownByLists (files : Files) (nodes : List DraftNode) (wires more : List Wire)
    (boxes : List BoxPicture) : Type 0 where
  pub inputs : (n : ℕ) (z : DraftNode) → n < length nodes → slice_index_or nodes n z ≡ z
      → IsUngrown z.spec → input_count (wires ++ more) n ≡ input_count wires n
  pub outputs : (n : ℕ) → n < length nodes
      → output_count (wires ++ more) n ≡ output_count wires n
  pub list_ports : (n : ℕ) (list : PartSpec) → n < length nodes
      → (box_at boxes n).spec ≡ Some (list_source list)
      → ArePortsOf (Some (list_source list)) (box_at boxes n).growth (input_count (wires ++ more) n)
      (output_count (wires ++ more) n)
  pub lists : (n : ℕ) (list : PartSpec) → n < length nodes
      → (box_at boxes n).spec ≡ Some (list_source list)
      → (input_count (wires ++ more) n ≡ 0) ⊎ HasListed list files (wires ++ more) boxes n

-- One moment of a run by lawful boxes, of which the first were loaded with the specs of these
-- nodes. The sources tell these files.
pub record LawfulSnapshot (files : Files) (nodes : List DraftNode) (boxes : List BoxPicture) : Type
    0 where
  pub more : List Wire
  pub count : length nodes ≤ length boxes
  pub specs : (n : ℕ) (z : DraftNode) → n < length nodes → slice_index_or nodes n z ≡ z
      → (box_at boxes n).spec ≡ Some z.spec
  pub lawful : (n : ℕ) → n < length boxes → (box_at boxes n).lawful ≡ true
  pub told : (n : ℕ) (s : Spec) → n < length boxes → (box_at boxes n).spec ≡ Some s
      → IsSourceKind (kind_of s) → (box_at boxes n).files ≡ Some files
  pub grown : HasGrownByLists files nodes (with_nodes nodes no_draft).wires more boxes
  pub lists : Snapshot ((with_nodes nodes no_draft).wires ++ more) boxes

-- such a run that has ended
pub record HasEnded (files : Files) (nodes : List DraftNode) (boxes : List BoxPicture) : Type 0
  where
    pub at_end : LawfulSnapshot files nodes boxes
    pub over : AllNodesOver ((with_nodes nodes no_draft).wires ++ at_end.more) boxes at_end.lists
