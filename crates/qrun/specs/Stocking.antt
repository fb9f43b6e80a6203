-- Racks that are filled with new boxes, one after another.
use Rattle.std.specs.Prelude.{◌≡◌, ◌⊎◌, ℕ, ◌+◌, cond, true, List, ◌∷◌, [], count_by, Option}
use Rattle.std.specs.List.{All}
use Rattle.outside_io.specs.Growth.{GrewBy}
use Rattle.query_model.specs.Database.{Files}
use Rattle.query_model.specs.declared.processor_spec.Kind.{Kind}
use Rattle.proc_api.specs.Names.{BoxPicture, IsBlank, IsSourceKind, is_of, same_kind}
use Rattle.query_run.specs.Names.{IsAnswerable, IsEither, IsTextOfAnswer, OfCommand, ReaderFails}

-- the box is blank and meets its contract; where it is a source, its reader tells these files
pub record IsServing (files : Option Files) (p : BoxPicture) : Type 0 where
  pub blank : IsBlank p
  pub lawful : p.lawful ≡ true
  pub told : IsSourceKind p.kind → p.files ≡ files

-- all boxes are such, and there are so many of each kind
pub record IsStocked (files : Option Files) (stock : Kind → ℕ) (boxes : List BoxPicture) : Type 0
  where
    pub each : All (IsServing files) boxes
    pub count : (k : Kind) → count_by (is_of k) boxes ≡ stock k

-- so many more of the kind
abbrev pub with_more : Kind → ℕ → (Kind → ℕ) → Kind → ℕ
with_more k n stock j = cond (same_kind k j) n 0 + stock j

-- so many boxes of the kind were added, which tell these files where they are sources
abbrev pub AddsTold : Kind → ℕ → Option Files → (before after : List BoxPicture) → Type 0
AddsTold k n files before after = (stock : Kind → ℕ)
    → IsStocked files stock before → IsStocked files (with_more k n stock) after

-- so many boxes of a kind that reads no file
abbrev pub Adds : Kind → ℕ → (before after : List BoxPicture) → Type 0
Adds k n before after = (files : Option Files) → AddsTold k n files before after

-- so many more of each kind in turn
abbrev pub with_each : List (Kind × ℕ) → (Kind → ℕ) → Kind → ℕ
with_each [] stock = stock
with_each (p ∷ more) stock = with_each more (with_more p.0 p.1 stock)

-- they were added
abbrev pub AddsEach : List (Kind × ℕ) → (before after : List BoxPicture) → Type 0
AddsEach more before after = (files : Option Files) → (stock : Kind → ℕ)
    → IsStocked files stock before → IsStocked files (with_each more stock) after

-- exactly the text of an answer of the words' query over the files was written
abbrev pub WroteAnswer : List (List ℕ) → Files → (before after : Option (List ℕ)) → Type 0
WroteAnswer words files before after =
    (text : List ℕ) × OfCommand words (λ c. IsTextOfAnswer c files text) × GrewBy before after text

-- a run over an honest rack that tells these files: what it wrote is an answer, and it succeeds
-- where its command can be answered and no device fails
pub record IsAnsweredOver (files : Files) (words : List (List ℕ)) (before after : List BoxPicture)
    (status : ℕ) (out₀ out : Option (List ℕ)) (write : Type 0) : Type 0 where
  pub answered : status ≡ 0 → WroteAnswer words files out₀ out
  pub succeeds : OfCommand words (IsAnswerable files)
      → (ReaderFails words before after ⊎ write → ⊥) → IsEither 0 7 status
