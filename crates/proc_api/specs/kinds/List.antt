-- A list of parts grows by a source for each path, and passes on what these give.
use Rattle.std.specs.Prelude.{◌++◌, ◌+◌, ◌<◌, ◌∷◌, ◌≡◌}
use Rattle.query_model.specs.declared.processor_spec.Spec.TheVariants as spec
use Rattle.proc_api.specs.Forms.{GrowthForm, SpecForm}
use Rattle.proc_api.specs.KindContract.{AreCounts, ArePartBytes, AreResized, Edge, FileSeen, Files, IfSome, KindContract, List, Lists, Me, New, None, Option, PartSpec, PartsFile, Row, Some, [], bad_line_in, chunk_by_chunk, false, grown_inputs, length, map, moved_work, paths_in, true, unboxed, ℕ}

-- the part of a path: the list's own, with that path and with its place, from 1, as part
abbrev pub listed_part : PartSpec → ℕ → List ℕ → PartSpec
listed_part list k path = record list { part = k + 1; path = path }

-- the sources of the paths from place k on
abbrev pub listed_parts : PartSpec → ℕ → List (List ℕ) → List SpecForm
listed_parts list k [] = []
listed_parts list k (path ∷ paths) =
    unboxed (spec.Csv (listed_part list k path)) ∷ listed_parts list (k + 1) paths

-- from the output of new node k to input k
abbrev pub listed_edge : ℕ → Edge
listed_edge k =
    record { from = record { who = New k; port = 0 }; to = record { who = Me; port = k } }

abbrev pub listed_edges : ℕ → List (List ℕ) → List Edge
listed_edges k [] = []
listed_edges k (path ∷ paths) = listed_edge k ∷ listed_edges (k + 1) paths

-- the growth of a list of parts: a source of rank 0 for each path, joined to the input of its place
abbrev pub list_growth : PartSpec → List (List ℕ) → GrowthForm
list_growth list paths = record {
  specs = listed_parts list 0 paths;
  ranks = map (λ path. 0) paths;
  edges = listed_edges 0 paths;
}

-- the paths and the bad line are those of the list's file, or of any text where no files are told
pub record IsListRead (list : PartSpec) (files : Option Files) (f : FileSeen) : Type 0 where
  pub text : List ℕ
  pub are : ArePartBytes files list.path text
  pub paths_are : f.paths ≡ paths_in (Some text)
  pub bad_line_is : f.bad_line ≡ bad_line_in (Some text)

-- nothing is known of a list's file, and it hasn't grown
pub record IsListUnread (f : FileSeen) : Type 0 where
  pub no_paths : f.paths ≡ []
  pub no_bad_line : f.bad_line ≡ None
  pub ungrown : f.growth ≡ None

-- What a list knows of its file. It grew, if at all, by a source for each path.
pub record KnowsList (list : PartSpec) (files : Option Files) (f : FileSeen) : Type 0 where
  pub before : f.fetched ≡ false → IsListUnread f
  pub read : f.fetched ≡ true → IsListRead list files f
  pub grown : IfSome f.growth (λ g. g ≡ list_growth list f.paths)

-- the growth of a valid list that names a path
pub record IsListGrowth (list : PartSpec) (files : Option Files) (g : GrowthForm) : Type 0 where
  pub text : List ℕ
  pub are : ArePartBytes files list.path text
  pub valid : bad_line_in (Some text) ≡ None
  pub names_path : 0 < length (paths_in (Some text))
  pub is : g ≡ list_growth list (paths_in (Some text))

-- A valid list is fetched, and each of its paths has its input.
pub record IsListReadOut (f : FileSeen) : Type 0 where
  pub fetched : f.fetched ≡ true
  pub valid : f.bad_line ≡ None
  pub inputs : grown_inputs f.growth ≡ length f.paths

-- What it knows of its file, and that it has passed on what it is given.
pub record IsListPassed (files : Option Files) (f : FileSeen) (list : PartSpec)
    (worked outs : Lists) (wait : List Row) : Type 0 where
  pub knows : KnowsList list files f
  pub resized : AreResized worked outs wait

abbrev pub list_contract : PartSpec → KindContract
list_contract list = record {
  ports = λ growth i o. AreCounts i o (grown_inputs growth) 1;
  fits = λ i types. types ≡ list.types;
  types = λ ins types. types ≡ list.types;
  most_rows = Some list.rows;
  idle = λ w. w ≡ record (moved_work w) {
    unmade = w.unmade;
    opened = w.opened;
    fetched = w.fetched;
    paths = w.paths;
    bad_line = w.bad_line;
  };
  made = λ x own worked outs wait.
      IsListPassed x.files x.file list worked outs (wait ++ own.unmade);
  traits = record chunk_by_chunk {
    ungrown = ⊥;
    reads = PartsFile list;
    grows = IsListGrowth list;
    growth = λ paths. Some (list_growth list paths);
    read_out = IsListReadOut;
    in_order = false;
  };
}
