-- What the code of a kind promises, over plain data: its own state, a chunk, and the rows that it
-- makes.
use Rattle.std.specs.Prelude.{◌++◌, ◌<◌, ◌==◌, ◌∷◌, ◌≡◌, ◌≢◌, ◌⊎◌}
use Rattle.proc_shell.specs.Prelude.{AreCounts, AreOpen, ArePortsOf, BadPlace, Bool, ColumnType, FileSeen, Files, FitsInput, GrowthForm, HasMade, HasNotedEnd, HasReadEnough, IfSome, IsAtMost, IsBadFile, IsPulled, IsSourceKind, IsWanting, Kind, List, Lists, MakesTypes, MayExpand, None, NotesEnd, Offer, Option, OwnState, Picture, PortFlags, ReadsList, ReadsPart, Row, Some, Spec, StandStill, Table, WorkFault, WorkState, [], chunk_rows, cond, false, idle_work, in_count, input_at, is_in_finished, kind_of, length, most_rows, no_lists, no_spec, out_count, row_of, true, ℕ, Reading, IsReadOut, spec_growth}
use Rattle.proc_api.specs.declared.status.WorkFault.TheVariants as fault
use Rattle.proc_shell.specs.declared.kernel.Offer.TheVariants as offer
use Rattle.proc_shell.specs.Steps.{AreWantedOver}

abbrev pub rows_if_some : Option Table → List Row
rows_if_some None = []
rows_if_some (Some t) = t.rows

abbrev pub chunk_list : Option Table → List Table
chunk_list None = []
chunk_list (Some t) = t ∷ []

-- What no call that works a chunk changes: whether the kernel has opened its file, whether it has
-- fetched it whole, its first bytes until then, what is known of the file from then on, whether it
-- let its graph grow, and whether it has handed its chunks out.
pub record SourceStage : Type 0 where
  pub opened : Bool
  pub fetched : Bool
  pub held : List ℕ
  pub bad : Option BadPlace
  pub paths : List (List ℕ)
  pub bad_line : Option ℕ
  pub grown : Bool
  pub handed_out : Bool

abbrev pub first_stage : SourceStage
first_stage = record {
  opened = false;
  fetched = false;
  held = [];
  bad = None;
  paths = [];
  bad_line = None;
  grown = false;
  handed_out = false;
}

-- by what it let its graph grow
abbrev pub growth_in : Spec → SourceStage → Option GrowthForm
growth_in s g = cond g.grown (spec_growth s g.paths) None

-- what is known of its file
abbrev pub file_in : Spec → SourceStage → FileSeen
file_in s g = record {
  fetched = g.fetched;
  bad = g.bad;
  paths = g.paths;
  bad_line = g.bad_line;
  growth = growth_in s g;
}

-- a kernel: its kind and spec, its own state, and its stage
pub record KernelState : Type 0 where
  pub kind : Kind
  pub spec : Spec
  pub own : OwnState
  pub stage : SourceStage

-- a kernel that reads no file
abbrev pub kernel_of : Kind → Spec → OwnState → KernelState
kernel_of k s own = record { kind = k; spec = s; own = own; stage = first_stage }

-- its own state alone is another
abbrev pub IsKernelOf : KernelState → KernelState → Type 0
IsKernelOf x y = y ≡ record x { own = y.own }

-- after a fault nothing is said of what is left
abbrev pub IsLeftOf : KernelState → KernelState → Type 0
IsLeftOf x y = y ≡ record x { own = y.own; stage = record x.stage { bad = y.stage.bad } }

-- What a box shows as gathered. Where it hands its chunks out, the one that isn't worked yet is
-- among them.
abbrev pub gathered_with : Spec → (gathered unworked : List Table) → List Table
gathered_with s gathered unworked =
    cond (row_of (kind_of s)).hands_out (gathered ++ unworked) gathered

-- the state of a box, by its kernel and the chunks that its shell holds
abbrev pub work_of : KernelState → (source : ℕ) → (unworked made : List Table) → WorkState
work_of x source unworked made = record idle_work {
  unworked = unworked;
  source = source;
  made = made;
  unmade = x.own.unmade;
  gathered = gathered_with x.spec x.own.gathered unworked;
  handed_out = x.stage.handed_out;
  read = x.own.read;
  ended = x.own.ended;
  heads = x.own.heads;
  opened = x.stage.opened;
  fetched = x.stage.fetched;
  bad = x.stage.bad;
  paths = x.stage.paths;
  bad_line = x.stage.bad_line;
}

-- ---- what a kind means

abbrev pub unread : Option Files → Reading
unread files = record { files = files; file = file_in no_spec first_stage; unworked = [] }

-- What a kind's kernel has made, whatever its shell holds for it.
abbrev pub Means : Reading → Spec → OwnState → (worked outs : Lists) → (wait : List Row) → Type 0
Means x s own worked outs wait = HasMade (record x { unworked = [] }) s own worked outs wait

-- ---- a kernel's calls

-- one chunk more is worked of input i
abbrev pub with_chunk : ℕ → Table → Lists → Lists
with_chunk i t worked j = worked j ++ cond (j == i) (t ∷ []) []

-- a kernel that was loaded with a spec has made nothing
pub record Begins (s t : Spec) (own : OwnState) : Type 0 where
  pub spec : t ≡ s
  pub nothing : (files : Option Files) → Means (unread files) s own no_lists no_lists []
  pub unended : (i : ℕ) → NotesEnd (Some t) own i → ⊥

-- a kind that may end by itself takes every chunk, and has read enough of those that it worked
pub record HasEnough (s : Spec) (own : OwnState) : Type 0 where
  pub any : (i : ℕ) (types : List ColumnType) → FitsInput (Some s) i types
  pub enough : (x : Reading) (worked outs ins : Lists) (wait : List Row)
      → ((i : ℕ) → ins i ≡ worked i) → Means x s own worked outs wait → HasReadEnough (Some s) ins
  pub nothing : own.unmade ≡ []
  pub noted : HasNotedEnd s own

-- each input is finished or closed
abbrev pub AreInputsOver : Picture → Type 0
AreInputsOver v = (i : ℕ) → i < in_count v → is_in_finished (input_at v i).flags ≡ true

-- where each wanted input is finished, all are, and the kernel has noted the end
pub record WantsMore (wants : ℕ → Bool) (s : Spec) (v : Picture) (own : OwnState) : Type 0 where
  pub nothing : own.unmade ≡ []
  pub wanting : IsWanting (Some s) own.read
  pub all_over : AreWantedOver wants v → AreInputsOver v
  pub noted : AreWantedOver wants v → HasNotedEnd s own

-- why an offer comes over these ports
abbrev pub OfferComes : (ℕ → Bool) → Offer → Spec → Picture → OwnState → Type 0
OfferComes wants offer.Rows s v own = 0 < length own.unmade
OfferComes wants offer.Fetch s v own = Unit {0}
OfferComes wants offer.Record s v own = Unit {0}
OfferComes wants offer.Grow s v own = AreCounts (in_count v) (out_count v) 0 1
OfferComes wants offer.Enough s v own = HasEnough s own
OfferComes wants offer.Wants s v own = WantsMore wants s v own

-- what has to be answered to a record that is left: its row can be made, or it is bad; to a list,
-- that it is bad
abbrev pub IsRecordLeft : KernelState → Type 0
IsRecordLeft x = (0 < length x.own.unmade) ⊎ IsBadFile x.kind (file_in x.spec x.stage)

-- why an offer comes, by what was read
abbrev pub Reads : KernelState → Offer → Type 0
Reads x offer.Rows = Unit {0}
Reads x offer.Fetch = IsSourceKind x.kind × (x.stage.fetched ≡ false)
Reads x offer.Record = IsRecordLeft x
Reads x offer.Grow = MayExpand x.kind (file_in x.spec x.stage)
Reads x _ = IsReadOut x.spec (file_in x.spec x.stage)

-- why no rows are made: memory is wanting, or the next record or the list is bad
abbrev pub Fails : KernelState → WorkFault → Type 0
Fails x fault.Memory = Unit {0}
Fails x (fault.Bad place) = ReadsPart x.kind × (x.stage.bad ≡ Some place)
Fails x (fault.BadList line) = ReadsList x.kind × (x.stage.bad_line ≡ Some line)
Fails x _ = ⊥

-- a row was made, or no bad record is left, and the list isn't bad
abbrev pub IsValid : KernelState → Option Table → Type 0
IsValid x o = (0 < length (rows_if_some o)) ⊎ ((x.stage.bad ≡ None) × (x.stage.bad_line ≡ None))

-- an offer leaves what was made, and what was over stays over
pub record Leaves (s : Spec) (old new : OwnState) : Type 0 where
  pub means : (x : Reading) (worked outs : Lists) (wait : List Row) → Means x s old worked outs wait
      → Means x s new worked outs wait
  pub stays_over : old.unmade ≡ [] → HasNotedEnd s old → (new.unmade ≡ []) × HasNotedEnd s new

pub record Offers (wants : ℕ → Bool) (s : Spec) (v : Picture) (old new : OwnState)
    (o : Offer) : Type 0 where
  pub leaves : Leaves s old new
  pub comes : OfferComes wants o s v new
  -- an end that is noted now
  pub ends : (i : ℕ) → i < in_count v → NotesEnd (Some s) new i
      → NotesEnd (Some s) old i ⊎ (is_in_finished (input_at v i).flags ≡ true)

-- no end is noted
abbrev pub NotesNoEnd : Spec → (old new : OwnState) → Type 0
NotesNoEnd s old new = (i : ℕ) → NotesEnd (Some s) new i → NotesEnd (Some s) old i

-- a chunk that doesn't fit leaves what is made and gathered as it was
pub record Drops (s : Spec) (old : OwnState) (i : ℕ) (t : Table) (new : OwnState)
    (o : Option Table) : Type 0 where
  pub misfit : FitsInput (Some s) i t.types → ⊥
  pub same : new ≡ old
  pub none : o ≡ None

-- a chunk of input i is worked
pub record Takes (s : Spec) (old : OwnState) (i : ℕ) (t : Table) (new : OwnState)
    (o : Option Table) : Type 0 where
  pub means : (x : Reading) → FitsInput (Some s) i t.types → (worked outs : Lists)
      → Means x s old worked outs [] → Means x s new (with_chunk i t worked) outs (rows_if_some o)
  pub fits : FitsInput (Some s) i t.types ⊎ Drops s old i t new o
  pub types : (ins : Lists) → IsPulled ins t.types
      → IfSome o (λ (c : Table). MakesTypes (Some s) ins c.types)
  pub sizes : IfSome o (λ (c : Table). IsAtMost (most_rows (Some s)) (length c.rows))
  pub ends : NotesNoEnd s old new

-- rows that can be made are made, where there are some
pub record Makes (s : Spec) (old new : OwnState) (o : Option Table) : Type 0 where
  pub means : (x : Reading) (worked outs : Lists) → Means x s old worked outs []
      → Means x s new worked outs (rows_if_some o)
  pub types : (ins : Lists) → IfSome o (λ (c : Table). MakesTypes (Some s) ins c.types)
  pub sizes : IfSome o (λ (c : Table). IsAtMost (most_rows (Some s)) (length c.rows))
  pub progress : (0 < length (rows_if_some o)) ⊎ (new.unmade ≡ [])
  pub nothing : old.unmade ≡ [] → (new ≡ old) × (o ≡ None)
  pub ends : NotesNoEnd s old new

-- a chunk that waited leaves by an output, or is dropped where there is none
abbrev pub LetsPush : Spec → Type 0
LetsPush s =
    (x : Reading) (own : OwnState) (worked outs more : Lists) (growth : Option GrowthForm)
    (inputs outputs o : ℕ) (pushed rest : List Table) → ArePortsOf (Some s) growth inputs outputs
    → ((o < outputs) × (o < 16) × (more o ≡ outs o ++ pushed)) ⊎ (outputs ≡ 0)
    → ((j : ℕ) → j ≢ o → more j ≡ outs j)
    → Means x s own worked outs (chunk_rows (pushed ++ rest))
    → Means x s own worked more (chunk_rows rest)

-- as many ports as these, or others where each of these is open and no end of an input is noted
abbrev pub HasSamePorts : Spec → PortFlags → (inputs outputs : ℕ) → Type 0
HasSamePorts s kept inputs outputs =
    ((inputs ≡ length kept.inputs) × (outputs ≡ length kept.outputs))
    ⊎ (AreOpen kept × ((own : OwnState) (i : ℕ) → NotesEnd (Some s) own i → ⊥))

-- what a shell must know of the ports of a kind, and that what waits may leave by an output
pub record IsShelled (s : Spec) : Type 0 where
  pub still : (growth : Option GrowthForm) (kept : PortFlags) (inputs outputs : ℕ)
      → ArePortsOf (Some s) growth (length kept.inputs) (length kept.outputs)
      → ArePortsOf (Some s) growth inputs outputs → StandStill (Some s) (Some kept) inputs outputs
      → HasSamePorts s kept inputs outputs
  pub enough_one : (ins : Lists) → HasReadEnough (Some s) ins → (growth : Option GrowthForm)
      (inputs outputs : ℕ) → ArePortsOf (Some s) growth inputs outputs → outputs ≡ 1
  pub lets_push : LetsPush s
