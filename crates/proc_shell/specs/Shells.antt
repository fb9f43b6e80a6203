-- What is seen of a shell, and what its calls do.
use Rattle.std.specs.Prelude.{◌+◌, ◌≡◌, ◌≤◌, ◌⊎◌}
use Rattle.proc_shell.specs.Prelude.{ArePortsOf, Bool, BoxPicture, ChangedByCalls, Err, Files, FollowsKept, GrowthForm, Held, IsRunning, IsShut, IsWorkOf, Kind, List, Made, None, Notes, Nothing, Ok, Option, OwnState, Picture, Prepared, PreparesLawfully, Result, RowCount, SameChunks, Scheduled, Some, Spec, Status, Table, Unworked, Wake, WorkFault, WorkState, all_port_flags, false, handed_out_by, idle_work, in_count, kind_of, no_notes, out_count, row_of, rows_pulled, true, ℕ}
use Rattle.proc_api.specs.declared.status.Status.TheVariants as status
use Rattle.proc_shell.specs.Steps.{CountsRows, held_made, held_option, held_unworked, source_of}
use Rattle.proc_shell.specs.Kernels.{Begins, IsKernelOf, IsLeftOf, IsShelled, IsValid, KernelState, Makes, Takes, first_stage, growth_in, work_of}
use Rattle.proc_shell.specs.Turning.{Pushes, Turns}

-- a loaded shell: its kernel, the chunk that it holds, and its notes
pub record LoadedShell : Type 0 where
  pub kernel : KernelState
  pub held : Held
  pub notes : Notes

abbrev pub shell_state : KernelState → Held → Notes → LoadedShell
shell_state x h n = record { kernel = x; held = h; notes = n }

abbrev pub shell_work : LoadedShell → WorkState
shell_work p = work_of p.kernel (source_of p.held) (held_unworked p.held) (held_made p.held)

-- a reader: the files that it tells, and its counts
pub record ReaderView : Type 0 where
  pub files : Option Files
  pub faults : ℕ
  pub pendings : ℕ

-- what is seen of a reader, if there is one
abbrev pub reader_by : Option ReaderView → ReaderView
reader_by None = record { files = None; faults = 0; pendings = 0 }
reader_by (Some r) = r

abbrev pub files_by : Option ReaderView → Option Files
files_by d = (reader_by d).files

-- what was noted of it
abbrev pub noted_by : Option ReaderView → ℕ → ℕ
noted_by None n = 0
noted_by (Some r) n = n

-- a processor of a kind, by its spec, its state and its notes
abbrev pub box_seen : Kind → Option ReaderView → RowCount → Option Spec → WorkState → Notes
    → Option GrowthForm → BoxPicture
box_seen k d count s w n growth = record {
  kind = k;
  lawful = true;
  files = files_by d;
  spec = s;
  faults = (reader_by d).faults;
  pendings = (reader_by d).pendings;
  pulled = count.total;
  work = w;
  notes = n;
  growth = growth;
}

abbrev pub loaded_seen : Kind → Option ReaderView → RowCount → LoadedShell → BoxPicture
loaded_seen k d count p = box_seen k d count (Some p.kernel.spec) (shell_work p) (record p.notes {
  given = noted_by d p.notes.given;
  faults = noted_by d p.notes.faults;
  pendings = noted_by d p.notes.pendings;
  pulled = count.since;
}) (growth_in p.kernel.spec p.kernel.stage)

abbrev pub shell_seen : Kind → Option ReaderView → RowCount → Option LoadedShell → BoxPicture
shell_seen k d count None = box_seen k d count None idle_work no_notes None
shell_seen k d count (Some p) = loaded_seen k d count p

-- a shell, which counts the rows that it pulled
pub record ShellView : Type 0 where
  pub count : RowCount
  pub loaded : Option LoadedShell

abbrev pub view_seen : Kind → ShellView → BoxPicture
view_seen k s = shell_seen k None s.count s.loaded

-- the view has the ports of the kernel's spec and growth
abbrev pub HasSpecPorts : KernelState → Picture → Type 0
HasSpecPorts x v = ArePortsOf (Some x.spec) (growth_in x.spec x.stage) (in_count v) (out_count v)

-- a shell as it is loaded
pub record IsBegun (s : Spec) (p : LoadedShell) : Type 0 where
  pub begins : Begins s p.kernel.spec p.kernel.own
  pub stage : p.kernel.stage ≡ first_stage
  pub held : p.held ≡ Nothing
  pub notes : p.notes ≡ no_notes
  pub uses : IsWorkOf (Some p.kernel.spec) (shell_work p)

-- the notes of a view that a prepare leaves, and of its answer
abbrev pub with_view : Picture → Status → Notes → Notes
with_view w s n =
    record n { view = Some (all_port_flags w); answer = Some (Prepared s); acted = false }

-- What was made is pushed, and then the turn is taken that is due. The view has the ports of the
-- spec.
pub record Passes (p : LoadedShell) (v : Picture) (n : RowCount) (q : LoadedShell) (w : Picture)
    (m : RowCount) (s : Status)
    : Type 0 where
  pub held : Held
  pub view : Picture
  pub pushes : Pushes p.held held v view
  pub turns : Turns p.kernel q.kernel.own held q.held view w s
  pub counts : CountsRows (rows_pulled view w) n m
  pub notes : q.notes ≡ with_view w s p.notes

-- a prepare over a view with other ports
pub record ShutsShell (p : LoadedShell) (v : Picture) (n : RowCount) (q : LoadedShell) (w : Picture)
    (m : RowCount) (s : Status)
    : Type 0 where
  pub changed : ChangedByCalls v w
  pub shut : IsShut w
  pub chunks : SameChunks v w
  pub status : s ≡ status.Finished
  pub counts : CountsRows 0 n m
  pub notes : q.notes ≡ with_view w s (record p.notes { fits = false })

-- a kernel of the kind, which goes on with another state of its own and a chunk that is held
pub record Continues (k : Kind) (x y : KernelState) (h : Held) : Type 0 where
  pub kernel : IsKernelOf x y
  pub kind : (x.kind ≡ k) × (kind_of x.spec ≡ k)
  pub shelled : IsShelled x.spec
  pub uses : IsWorkOf (Some x.spec) (work_of y (source_of h) (held_unworked h) (held_made h))

-- a turn of a kernel: how it and what is held go on, and the rows that it counts
pub record RunsTurn (k : Kind) (x y : KernelState) (i j : Held) (n m : RowCount) (v w : Picture)
    (s : Status) : Type 0 where
  pub continues : Continues k x y j
  pub turns : Turns x y.own i j v w s
  pub counts : CountsRows (rows_pulled v w) n m

-- a prepare: what every box owes, and what a lawful one owes, whatever its reader is
pub record ShellPrepares (k : Kind) (p : LoadedShell) (v : Picture) (n : RowCount) (q : LoadedShell)
    (w : Picture) (m : RowCount) (s : Status)
    : Type 0 where
  pub continues : Continues k p.kernel q.kernel q.held
  pub changed : ChangedByCalls v w
  pub grows : n.total ≤ m.total
  pub since : m.total + n.since ≡ n.total + m.since
  pub fits : Bool
  pub notes : q.notes ≡ with_view w s (record p.notes { fits = fits })
  pub lawful : (d : Option ReaderView) → IsRunning (loaded_seen k d n p)
      → FollowsKept (loaded_seen k d n p) v
      → PreparesLawfully (loaded_seen k d n p) v (loaded_seen k d m q) w s

-- chunks are moved, as in a prepare of a part with any notes
abbrev pub AreMoved : Kind → KernelState → Held → Picture → RowCount
    → KernelState → Held → Picture → RowCount → Status → Type 0
AreMoved k x h v n y j w m s =
    (notes : Notes) → ShellPrepares k (shell_state x h notes) v n
    (shell_state y j (with_view w s notes)) w m s

pub record TakesHeld (x : KernelState) (i : ℕ) (t : Table) (new : OwnState)
    (h : Held) : Type 0 where
  pub out : Option Table
  pub takes : Takes x.spec x.own i t new out
  pub held : h ≡ held_option out

pub record MakesHeld (x : KernelState) (new : OwnState) (h : Held) : Type 0 where
  pub out : Option Table
  pub makes : Makes x.spec x.own new out
  pub valid : IsValid x out
  pub held : h ≡ held_option out

-- what lies unworked is worked, and where nothing is held rows are made
abbrev pub WorksHeld : KernelState → Held → OwnState → Held → Type 0
WorksHeld x Nothing new k = MakesHeld x new k
WorksHeld x (Made t) new k = ⊥
WorksHeld x (Unworked i t) new k = TakesHeld x i t new k

-- a work, before which no chunk waits
pub record ShellWorks (k : Kind) (p q : LoadedShell) : Type 0 where
  pub continues : Continues k p.kernel q.kernel q.held
  pub works : WorksHeld p.kernel p.held q.kernel.own q.held
  pub notes : q.notes ≡ record p.notes { acted = true }

-- the notes with an answer, or with a fault
abbrev pub with_answer : Result Wake WorkFault → Notes → Notes
with_answer (Ok a) n = record n { answer = Some (Scheduled a); acted = false }
with_answer (Err f) n = record n { fault = Some f }

-- an answer or a fault is noted, and nothing else is changed
pub record ShellNotes (r : Result Wake WorkFault) (p q : LoadedShell) : Type 0 where
  pub kernel : q.kernel ≡ p.kernel
  pub held : q.held ≡ p.held
  pub notes : q.notes ≡ with_answer r p.notes

-- a fault of a work is kept
pub record ShellFails (f : WorkFault) (p q : LoadedShell) : Type 0 where
  pub kernel : IsLeftOf p.kernel q.kernel
  pub notes : q.notes ≡ record p.notes { fault = Some f }

-- chunks are handed out, those that a collector gathered
pub record ShellGives (k : Kind) (p : LoadedShell) (given : List Table) (q : LoadedShell)
    : Type 0 where
  pub rows : given ≡ handed_out_by k (shell_work p)
  pub spec : q.kernel.spec ≡ p.kernel.spec
  pub notes : q.notes ≡ p.notes
  pub out : ((row_of k).hands_out ≡ true) × (q.kernel.stage.handed_out ≡ true)
      ⊎ ((row_of k).hands_out ≡ false) × (q ≡ p)
