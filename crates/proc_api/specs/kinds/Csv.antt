-- A source gives the good rows of its part, those before its first bad place.
use Rattle.std.specs.Prelude.{◌++◌, ◌≡◌}
use Rattle.proc_api.specs.KindContract.{ArePartBytes, FileSeen, Files, KindContract, List, None, Option, PartFile, PartSpec, Row, Some, [], bad_place, chunk_by_chunk, chunk_rows, false, fixed_ports, good_rows, idle_work, part_records, true, ℕ, ⊤}

-- the rows and those not yet made are the good rows of the part, and its bad place is known
pub record ArePartRows (files : Option Files) (f : FileSeen) (part : PartSpec)
    (unmade rows : List Row) : Type 0 where
  pub bytes : List ℕ
  pub are : ArePartBytes files part.path bytes
  pub rows_are : rows ++ unmade ≡ good_rows part.types (part_records part.header bytes)
  pub bad : f.bad ≡ bad_place 1 part.types (part_records part.header bytes)

-- no row was made so far
pub record HasMadeNothing (f : FileSeen) (unmade rows : List Row) : Type 0 where
  pub no_rows : rows ≡ []
  pub nothing_unmade : unmade ≡ []
  pub nothing_bad : f.bad ≡ None

-- until a file is fetched whole no row is made of it
pub record ArePartRead (files : Option Files) (f : FileSeen) (part : PartSpec)
    (unmade rows : List Row) : Type 0 where
  pub before : f.fetched ≡ false → HasMadeNothing f unmade rows
  pub fetched : f.fetched ≡ true → ArePartRows files f part unmade rows

-- a part is fetched whole, and valid
pub record IsPartRead (f : FileSeen) : Type 0 where
  pub fetched : f.fetched ≡ true
  pub valid : f.bad ≡ None

-- Once it has itself finished its output all rows are pushed, and the part is valid.
abbrev pub part_contract : PartSpec → KindContract
part_contract part = record {
  ports = fixed_ports 0 1;
  fits = λ i types. ⊤;
  types = λ ins types. types ≡ part.types;
  most_rows = Some part.rows;
  idle = λ w. w ≡ record idle_work
      { made = w.made; unmade = w.unmade; opened = w.opened; fetched = w.fetched; bad = w.bad };
  made = λ x own worked outs wait.
      ArePartRead x.files x.file part own.unmade (chunk_rows (outs 0) ++ wait);
  traits = record chunk_by_chunk { reads = PartFile part; read_out = IsPartRead };
}
