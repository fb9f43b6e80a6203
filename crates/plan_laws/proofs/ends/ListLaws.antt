-- What a list of parts keeps, with what its parts' sources give, is what it gives.
use Rattle.plan_laws.proofs.Imports.{IsPermutation, KeepsWorked, List, None, Option, Some, [], ap, ap₂, arith, filter, get_or, inl, inr, length, length-append, refl, subst, suc, sym, true, ℕ, ◌++◌, ◌+◌, ◌-◌, ◌<◌, ◌∙◌, ◌∷◌, ◌≡◌, ◌≤◌, ◌⊎◌, All-nil, AllByRecursion, AllZip, BoxPicture, Files, Flow, GivesIf, GivesListed, GivesSource, GivesResized, IsFront, IsPermutation-refl, Lists, MakesRows, SourceRows, PartSpec, RowsOfSources, Pulls, SourceReading, Row, Spec, Stream, all_certain, rows_together, all_valid, and_from, and_parts, any_needs, append-nil, bad_line, bad_line_in, cases_lt, chunk_rows, every-front, file_bytes, flow_rows, flows_of, get_or_default, is_path, is_valid_source, length_permutation, part_spec, path_sources, paths_in, source_list, sources_rows, KeepsContract, in_stream, list_in, listed_sources, out_stream, part_of, sources_of_files, parts_of_files, reading_in, nil_from_length}
use Rattle.plan_laws.proofs.KindTable.{complete-kind}
use Rattle.plan_laws.proofs.meaning.KindLaws.{CompletesKind, part-front}
use Rattle.plan_laws.proofs.meaning.Fronts.{pulled-front}
use Rattle.query_model.specs.declared.processor_spec.Spec.TheVariants as spec
use Rattle.plan_laws.proofs.ends.KindLaws.{kept-rows, made-typed, types-fit}
use Rattle.plan_laws.proofs.ends.ResizeLaws.{at_ports, gives-resized}

-- ---- few parts

-- where no line is bad, there are at most so many paths as there is room for
few-lines : (n room : ℕ) (lines : List (List ℕ)) → bad_line n room lines ≡ None
    → length (filter is_path lines) ≤ room
unfolding bad_line
few-lines n room [] e = omega arith
few-lines n room ([] ∷ lines) e = few-lines (n + 1) room lines e
few-lines n room ((b ∷ line) ∷ lines) e = grind (arith, few-lines (n + 1) (room - 1) lines)

-- A list of parts names at most 32 paths.
pub few-paths-in : (text : Option (List ℕ)) → length (paths_in text) ≤ 32
few-paths-in text = grind (arith, few-lines)

-- ---- what the sources of a list's parts give

-- An input has the first of what the source of a part gave, whose chunks have the part's types.
pub record IsFed (files : Files) (r : SourceReading) (i : Stream) (k : ℕ) (path : List ℕ) : Type
    0 where
  pub pushed : Stream
  pub gives : GivesSource (part_of files (part_spec r k path)) pushed
  pub typed : AllByRecursion (λ t. t ≡ r.types) pushed.types
  pub pulls : Pulls i pushed

-- each of the first inputs is that of a path
abbrev pub AreFed : Files → SourceReading → (ℕ → Stream) → List (List ℕ) → Type 0
AreFed files r f paths = (i : ℕ) (path : List ℕ) → i < length paths → get_or paths i path ≡ path
    → IsFed files r (f i) (suc i) path

-- what such sources give where nobody closes an input
abbrev source_flows : RowsOfSources → List Spec → List Flow
source_flows parts [] = []
source_flows parts (s ∷ specs) = record {
  rows = source_list parts s;
  certain = is_valid_source parts s;
  needs = true;
} ∷ source_flows parts specs

flows-rows : (parts : RowsOfSources) (specs : List Spec)
    → rows_together (flow_rows (source_flows parts specs)) ≡ sources_rows parts specs
flows-rows parts [] = refl
flows-rows parts (s ∷ specs) = ap (λ l. source_list parts s ++ l) (flows-rows parts specs)

flows-certain : (parts : RowsOfSources) (specs : List Spec)
    → all_certain (source_flows parts specs) ≡ all_valid parts specs
flows-certain parts [] = refl
flows-certain parts (s ∷ specs) = grind (arith, flows-certain parts specs)

fed-fronts : (files : Files) (r : SourceReading) (f : ℕ → Stream) (n i : ℕ) (paths : List (List ℕ))
    → ((k : ℕ) (path : List ℕ) → k < length paths → get_or paths k path ≡ path
    → IsFed files r (f (i + k)) (suc (i + k)) path)
    → AllZip IsFront (at_ports f n i (length paths))
    (source_flows (parts_of_files files) (path_sources r (suc i) paths))
fed-fronts files r f n i [] h = tt
fed-fronts files r f n i (path ∷ paths) h =
    let part : SourceRows = part_of files (part_spec r (suc i) path) in
    let here : i + 0 ≡ i = omega arith in
    let fed = rw here at (h 0 path (omega arith) refl) in (
      search (arith, pulled-front, part-front),
      fed-fronts files r f n (suc i) paths (λ k p lt is.
          let next : i + suc k ≡ suc i + k = omega arith in
          rw next at (h (suc k) p (omega (arith, lt)) is)),
    )

-- the chunks of an input have the list's types
fed-typed : (files : Files) (r : SourceReading) (i : Stream) (k : ℕ) (path : List ℕ)
    → IsFed files r i k path → AllByRecursion (λ t. t ≡ r.types) i.types
fed-typed files r i k path h = grind (arith, every-front)

-- ---- the list

-- where the inputs are those of all parts, the list gives the first of all their rows in some order
all-fed : (files : Files) (list : PartSpec) (text : List ℕ) (f : ℕ → Stream) (n : ℕ) (o : Stream)
    → AreFed files (reading_in list) f (paths_in (Some text))
    → GivesResized (at_ports f n 0 (length (paths_in (Some text)))) (o ∷ [])
    → (o.done ≡ true → bad_line_in (Some text) ≡ None)
    → GivesListed (list_in files list (Some text)) o
all-fed files list text f n o fed resized good =
    go done.lists done.makes done.fronts
  where
    flows : List Flow
    flows = source_flows (parts_of_files files) (listed_sources list (Some text))

    part : SourceRows
    part = list_in files list (Some text)

    done : CompletesKind (MakesRows (parts_of_files files) spec.Resize) (all_certain flows)
        (any_needs flows) flows (o ∷ [])
    done =
        complete-kind (parts_of_files files) spec.Resize
        (at_ports f n 0 (length (paths_in (Some text)))) (o ∷ []) flows resized
        (fed-fronts files (reading_in list) f n 0 (paths_in (Some text)) (λ k path lt is.
        let same : k ≡ 0 + k = omega arith in rw same at (fed k path lt is)))

    go : (lists : List (List Row)) → IsPermutation (rows_together (flow_rows flows))
        (rows_together lists) → AllZip IsFront (o ∷ [])
        (flows_of (all_certain flows) (any_needs flows) lists)
        → GivesListed part o
    go [] same fronts = absurd fronts
    go (rows ∷ []) same fronts = grind (arith, flows-rows, append-nil, and_from, flows-certain)
    go lists same fronts = grind arith

-- The list named these parts, and each input has the first of what its part's source gave.
pub record IsGrownList (list : PartSpec) (files : Files) (takes : ℕ) (p : BoxPicture) (ins : Lists)
    : Type 0 where
  pub text : List ℕ
  pub are : file_bytes files list.path ≡ Some text
  pub valid : bad_line_in (Some text) ≡ None
  pub fed : AreFed files (reading_in list) (in_stream p ins) (paths_in (Some text))
  pub count : takes ≡ length (paths_in (Some text))

-- A list gives the rows of its parts in some order.
pub list-gives : (list : PartSpec) (files : Files) (takes n : ℕ) (p : BoxPicture) (ins outs : Lists)
    → KeepsContract (spec.List list) files takes 1 p ins outs
    → (takes ≡ 0) ⊎ IsGrownList list files takes p ins
    → GivesIf (sources_of_files files) (spec.List list) [] (out_stream p outs 0 ∷ [])
list-gives list files takes n p ins outs k h =
    record { gives = λ none. go h; typed = λ none. (made-typed k [] 0 (λ t e. e), tt) }
  where
    o : Stream
    o = out_stream p outs 0

    resized : KeepsWorked (spec.List list) p ins outs
        → GivesResized (at_ports (in_stream p ins) n 0 takes) (o ∷ [])
    resized keeps =
        gives-resized k n (chunk_rows p.work.made ++ p.work.unmade) (omega arith) (λ x. x)
        keeps
        keeps.rows.resized (λ over. ap₂ (λ a b. chunk_rows a ++ b) over.nothing_waits over.all_made)

    -- a list without paths
    unfed : takes ≡ 0 → KeepsWorked (spec.List list) p ins outs
        → GivesListed (sources_of_files files (spec.List list)) o
    unfed none keeps =
        let part : SourceRows = sources_of_files files (spec.List list) in
        let g = resized keeps in
        let rows = length_permutation _ _ g.rows in
        let empty : at_ports (in_stream p ins) n 0 takes ≡ [] =
        ap (at_ports (in_stream p ins) n 0) none in
        let nothing : length (o.rows ++ []) ≡ 0 = grind (arith, length-append, o) in
        let out : o.rows ≡ [] = grind (arith, append-nil, o, nil_from_length) in
        record {
          order = part.rows;
          same = IsPermutation-refl part.rows;
          gives = record {
            front = record {
              rest = part.rows;
              is = ap (λ l. l ++ part.rows) out;
              all = λ done. out ∙ sym (ended none keeps done).0;
            };
            valid = λ done. (ended none keeps done).1;
          };
        }
      where
        ended : takes ≡ 0 → KeepsWorked (spec.List list) p ins outs → o.done ≡ true
            → ((sources_of_files files (spec.List list)).rows ≡ [])
            × ((sources_of_files files (spec.List list)).valid ≡ true)
        ended none keeps done =
            let over = keeps.read 0 (and_parts _ _ done).0 in
            let read = keeps.rows.knows.read over.fetched in
            let told : file_bytes files list.path ≡ Some read.text = grind arith in
            let paths : paths_in (Some read.text) ≡ [] = grind (arith, nil_from_length, k.ports) in
            let sources : listed_sources list (Some read.text) ≡ [] = grind arith in
            grind (arith, told, sources, and_from)

    go : (takes ≡ 0) ⊎ IsGrownList list files takes p ins
        → GivesListed (sources_of_files files (spec.List list)) o
    go (inl none) = unfed none (kept-rows k (λ i. grind (arith, k.nothing_past i, All-nil)))
    go (inr g) =
        let count = g.count in
        let keeps : KeepsWorked (spec.List list) p ins outs =
        kept-rows k (λ i. elim (cases_lt i takes) [
          | inl lt ↦ types-fit (λ t. t ≡ list.types) (ins i)
              (let paths : List (List ℕ) = paths_in (Some g.text) in
              let within : i < length paths = omega (arith, lt, count) in
              fed-typed files (reading_in list) (in_stream p ins i) (suc i) (get_or paths i [])
              (g.fed i (get_or paths i []) within (get_or_default paths i _ [] within)))
          | inr le ↦ grind (arith, k.nothing_past i le, All-nil)
        ]) in
        let made : GivesListed (list_in files list (Some g.text)) o =
        all-fed files list g.text (in_stream p ins) n o g.fed
        (subst (λ m. GivesResized (at_ports (in_stream p ins) n 0 m) (o ∷ [])) count
        (resized keeps)) (λ done. g.valid) in
        subst (λ t. GivesListed (list_in files list t) o) (sym g.are) made
