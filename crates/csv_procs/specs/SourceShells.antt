-- A source's kernel inside the shell: its kind, its ports, and what it leaves idle.
use Rattle.std.specs.Prelude.{◌++◌, ◌≡◌, ◌⊎◌}
use Rattle.std.proofs.Common.{ap, inl, inr, refl, subst, sym, ◌∙◌}
use Rattle.std.proofs.lemmas.Grind.{common_steps}
use Rattle.csv_procs.specs.Prelude.{Bool, Fetching, FileState, List, PartSpec, Paths, Rows, Shut, Some, Table, [], false, true, ℕ}
use Rattle.proc_api.proofs.Imports.{append_assoc, arith}
use Rattle.proc_api.proofs.Keeping.{rows-append}
use Rattle.proc_api.specs.Names.{AreResized, IsWorkOf, chunk_rows}
use Rattle.proc_shell.proofs.Resizing.{resized-pushes}
use Rattle.proc_shell.proofs.Through.{shelled-of}
use Rattle.proc_shell.specs.Kernels.{IsShelled, LetsPush, work_of}
use Rattle.proc_shell.specs.Prelude.{kind_of}
use Rattle.csv_procs.specs.Parts.{csv_kind, csv_spec, lists_in, open_in, sourcing}

pub source_kinds : (lists : Bool) (part : PartSpec) (s : FileState)
    → ((sourcing lists part s).kind ≡ csv_kind lists)
    × (kind_of (sourcing lists part s).spec ≡ csv_kind lists)
source_kinds false part s = (refl, refl)
source_kinds true part s = (refl, refl)

list_pushes : (list : PartSpec) → LetsPush (csv_spec true list)
list_pushes list x own worked outs more growth m n o pushed rest ports (inr none) others h =
    absurd (let one = ports.1 in omega (arith, one, none))
list_pushes list x own worked outs more growth m n o pushed rest ports (inl at) others h = record {
  knows = h.knows;
  resized = resized-pushes worked outs more o pushed (chunk_rows rest ++ own.unmade) at.1 at.2
      others
      (subst (AreResized worked outs) (ap (λ l. l ++ own.unmade) (rows-append pushed rest)
      ∙ append_assoc (chunk_rows pushed) (chunk_rows rest) own.unmade) h.resized);
}

pub source_shelled : (lists : Bool) (part : PartSpec) (s : FileState)
    → IsShelled (sourcing lists part s).spec
source_shelled false part s =
    shelled-of (csv_spec false part) 0 refl (record { ports = λ growth m n h. h })
source_shelled true list s = record {
  still = λ growth kept m n had h position. inl (h.0 ∙ sym had.0, h.1 ∙ sym had.1);
  enough_one = λ ins enough growth m n h. absurd enough;
  lets_push = list_pushes list;
}

-- a part's rows are pulled from no input
part_uses : (part : PartSpec) (s : FileState) → lists_in false s ≡ false → (i : ℕ)
    (unworked made : List Table) → ((i ≡ 0) × (unworked ≡ [])) ⊎ (false ≡ true)
    → IsWorkOf (Some (sourcing false part s).spec) (work_of (sourcing false part s) i unworked made)
part_uses part s read i unworked made e = grind (arith, common_steps)

-- a list leaves idle what only a part has
pub list_uses : (list : PartSpec) (s : FileState) → lists_in true s ≡ true
    → (i : ℕ) (unworked made : List Table)
    → IsWorkOf (Some (sourcing true list s).spec) (work_of (sourcing true list s) i unworked made)
list_uses list Shut read i unworked made = refl
list_uses list (Fetching held) read i unworked made = refl
list_uses list (Rows r) read i unworked made = absurd (cc)
list_uses list (Paths l) read i unworked made = refl

pub source_uses : (lists : Bool) (part : PartSpec) (s : FileState) → lists_in lists s ≡ lists
    → (i : ℕ) (unworked made : List Table) → ((i ≡ 0) × (unworked ≡ [])) ⊎ (open_in s ≡ true)
    → IsWorkOf (Some (sourcing lists part s).spec) (work_of (sourcing lists part s) i unworked made)
source_uses false part Shut read i unworked made e = part_uses part Shut read i unworked made e
source_uses false part (Fetching held) read i unworked made e =
    part_uses part (Fetching held) read i unworked made e
source_uses false part (Rows r) read i unworked made e =
    part_uses part (Rows r) read i unworked made e
source_uses false part (Paths l) read i unworked made e = absurd (cc)
source_uses true list s read i unworked made e = list_uses list s read i unworked made
