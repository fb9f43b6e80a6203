-- A search for the first entry with a path.
use Rattle.std.proofs.Common.{◌≡◌, ℕ, ◌+◌, ◌<◌, ◌≤◌, true, false, cond, List, [], ◌∷◌, length, drop, slice_index_or, Some, None, ◌∙◌, sym, ap, add-one, suc}
use Rattle.std.specs.Str.{bytes_eq}
use Rattle.std.proofs.lemmas.List.{get_or-map}
use Rattle.std.proofs.lemmas.Slice.Eq.{bytes_eq-Decides}
use Rattle.std.proofs.Math.Seq.{drop-cons}
use Rattle.std.proofs.Math.ListN.{drop_of_length-le}
use Rattle.outside_io.specs.declared.entries.FileEntry.{FileEntry}
use Rattle.outside_io.specs.Told.{told_bytes}
use Rattle.outside_io.specs.MemEntries.{IsEntryOf}

-- the entries from the place on
coming_are : (entries : List FileEntry) (i : ℕ) (e : FileEntry) → i < length entries
    → e ≡ slice_index_or entries i e → drop i entries ≡ e ∷ drop (i + 1) entries
coming_are entries i e within here =
    drop-cons entries i e within ∙ ap (λ x. x ∷ drop (suc i) entries) (sym here)
    ∙ ap (λ n. e ∷ drop n entries) (sym (add-one i))

-- an entry with another path is passed over
pub passed-over : (entries : List FileEntry) (path : List ℕ) (i : ℕ) (e : FileEntry)
    → i < length entries → e ≡ slice_index_or entries i e → bytes_eq e.path path ≡ false
    → told_bytes (drop i entries) path ≡ told_bytes (drop (i + 1) entries) path
unfolding told_bytes
passed-over entries path i e within here other =
    ap (λ es. told_bytes es path) (coming_are entries i e within here)
    ∙ ap (λ b. cond b (Some e.bytes) (told_bytes (drop (i + 1) entries) path)) other

-- the first entry with the path is found
pub entry-found : (entries : List FileEntry) (path : List ℕ) (i : ℕ) (e : FileEntry)
    → i < length entries → e ≡ slice_index_or entries i e → bytes_eq e.path path ≡ true
    → told_bytes (drop i entries) path ≡ told_bytes entries path → IsEntryOf entries path i
unfolding told_bytes
entry-found entries path i e within here same sought = record {
  within = within;
  path_is = get_or-map (λ (x : FileEntry). x.path) entries i e [] within
      ∙ ap (λ (x : FileEntry). x.path) (sym here) ∙ (bytes_eq-Decides e.path path).0 same;
  bytes_are =
      sym sought ∙ ap (λ es. told_bytes es path) (coming_are entries i e within here)
      ∙ ap (λ b. cond b (Some e.bytes) (told_bytes (drop (i + 1) entries) path)) same
      ∙ ap (λ (x : FileEntry). Some x.bytes) here
      ∙ ap Some (sym (get_or-map (λ (x : FileEntry). x.bytes) entries i e [] within));
}

-- behind the last entry no path is found
pub none-left : (entries : List FileEntry) (path : List ℕ) (i : ℕ) → length entries ≤ i
    → told_bytes (drop i entries) path ≡ None
unfolding told_bytes
none-left entries path i past = ap (λ es. told_bytes es path) (drop_of_length-le entries past)
