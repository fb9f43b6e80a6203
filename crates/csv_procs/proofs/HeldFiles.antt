-- What is held of a file that is fetched block by block.
use Rattle.std.proofs.Common.{◌≡◌, ℕ, ◌+◌, ◌<◌, List, [], ◌++◌, length, take, drop, refl, ap, ap₂, sym, ◌∙◌, arith, length-append, Option, Some, ◌∷◌}
use Rattle.csv_procs.proofs.Imports.{IfSome, IsSome, drop-take, take-append-drop, take-take, take_all}
use Rattle.outside_io.specs.declared.entries.FileEntry.{FileEntry}
use Rattle.outside_io.specs.Told.{files_of, told_bytes, moved_by, GivesNext, StandsAtEnd}
use Rattle.query_model.specs.Database.{file_bytes as pair_bytes}
use Rattle.csv_procs.specs.FileFetch.{HoldsFront, IsFile}

-- a fact of what is told, if anything is
if_told : {X : Type 0} (o : Option X) {P : X → Type 0} → ((x : X) → o ≡ Some x → P x) → IfSome o P
if_told o h = grind arith

some_such : {X : Type 0} (o : Option X) {Q : Type 0} → IsSome o → ((x : X) → o ≡ Some x → Q) → Q
some_such o s h = grind arith

take_both : (a b : ℕ) (xs : List ℕ) → take (a + b) xs ≡ take a xs ++ take b (drop a xs)
take_both a b xs = sym (take-append-drop a (take (a + b) xs))
    ∙ ap₂ ◌++◌ (take-take a (a + b) xs (omega arith)) (drop-take a b xs)

-- one block more is held
pub HoldsFront-block : {files : Option (List FileEntry)} {old new : Option (List ℕ × ℕ)}
    {path held : List ℕ} → (block : List ℕ) → HoldsFront files old path held
    → GivesNext files old (length block) block → new ≡ moved_by (length block) old
    → HoldsFront files new path (held ++ block)
HoldsFront-block {files = files} {path = path} {held = held} block h next moved = record {
  at = moved ∙ ap (moved_by (length block)) h.at
      ∙ ap (λ k. Some (path, k)) (sym (length-append held block));
  front = if_told files (λ all there. if_told (told_bytes all path) (λ content is.
      let front = rw (there, is) at h.front in
      let given = rw (h.at, there, is) at next in (
        rw length-append given.0,
        ap₂ ◌++◌ front.1 (sym (take_all (length block) block (omega arith)) ∙ given.1)
            ∙ sym (take_both (length held) (length block) content)
            ∙ ap (λ k. take k content) (sym (length-append held block)),
      )));
}

-- what is held at the file's end is the file
pub HoldsFront-whole : {files : Option (List FileEntry)} {position : Option (List ℕ × ℕ)}
    {path held : List ℕ} → HoldsFront files position path held → StandsAtEnd files position
    → IfSome files (λ all. IsSome (told_bytes all path)) → IsFile files path held
HoldsFront-whole {files = files} {path = path} {held = held} h end found =
    if_told files (λ all there. some_such (told_bytes all path) (rw there at found) (λ content is.
    let front = rw (there, is) at h.front in
    let whole = rw (h.at, there, is) at end in
    is ∙ ap Some (sym (front.1 ∙ take_all (length held) content (omega (arith, whole))))))

-- the reader's told bytes are those of the files as pairs
pub told_as_pairs : (told : List FileEntry) (path : List ℕ)
    → pair_bytes (files_of told) path ≡ told_bytes told path
unfolding told_bytes
told_as_pairs [] path = refl
told_as_pairs (e ∷ told) path = grind (arith, told_as_pairs told path)
