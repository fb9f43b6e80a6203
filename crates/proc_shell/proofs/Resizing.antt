-- What passes rows on as they are, from any input to any output.
use Rattle.std.proofs.lemmas.Grind.{common_steps}
use Rattle.proc_shell.proofs.Imports.{AreResized, Begins, IsPermutation-append_left, IsPermutation-same, IsPermutation-sym, IsPermutation-trans, KernelState, LetsPush, List, Lists, OwnState, Row, Some, Spec, Table, Takes, [], all_rows, append-nil, append_assoc, arith, cases_eq, chunk_rows, idle_own, inl, inr, kind_of, more-rows, no-rows, no_lists, rows-append, subst, sym, with_chunk, ℕ, ◌++◌, ◌<◌, ◌∙◌, ◌∷◌, ◌≡◌, ◌≢◌, row_of, true}
use Rattle.query_model.specs.declared.processor_spec.Spec.TheVariants as spec
use Rattle.proc_shell.proofs.PortMoves.{both-none}
use Rattle.proc_shell.proofs.SeveralTurns.{PassesChunks}
use Rattle.proc_shell.proofs.Through.{all-more, chunk-elsewhere, chunk-here, rows-here}

-- nothing was passed on
pub resized-nothing : AreResized no_lists no_lists []
resized-nothing = grind (arith, no-rows)

pub begins-resized : (s : Spec) → s ≡ spec.Resize → Begins s spec.Resize idle_own
begins-resized s e = grind (arith, resized-nothing)

-- chunks that waited leave by any of 16 outputs
pub resized-pushes : (worked outs more : Lists) (o : ℕ) (pushed : List Table) (rest : List Row)
    → o < 16 → more o ≡ outs o ++ pushed → ((j : ℕ) → j ≢ o → more j ≡ outs j)
    → AreResized worked outs (chunk_rows pushed ++ rest) → AreResized worked more rest
resized-pushes worked outs more o pushed rest lt here others h = record {
  same_rows =
      IsPermutation-trans _ _ _ h.same_rows (IsPermutation-trans _ _ _
      (IsPermutation-same _ _ (sym (append_assoc (all_rows 16 outs) (chunk_rows pushed) rest)))
      (IsPermutation-append_left rest _ _
      (IsPermutation-sym _ _ (more-rows 16 o outs more pushed here others lt))));
  in_order = grind (arith, cases_eq, both-none, rows-append, append_assoc, append-nil);
}

pub resize-pushes : LetsPush spec.Resize
resize-pushes x own worked outs more growth inputs outputs o pushed rest ports (inr none) others h =
    absurd (omega (arith, ports, none))
resize-pushes x own worked outs more growth inputs outputs o pushed rest ports (inl at) others h = (
  h.0,
  resized-pushes worked outs more o pushed (chunk_rows rest) at.1 at.2 others
      (subst (AreResized worked outs) (rows-append pushed rest) h.1),
)

-- a chunk of any input is worked, and its rows wait as they are
pub resized-takes : (worked outs : Lists) (i : ℕ) (t : Table) → i < 32
    → AreResized worked outs [] → AreResized (with_chunk i t worked) outs t.rows
resized-takes worked outs i t lt h = record {
  same_rows = IsPermutation-trans _ _ _ (all-more i t worked lt)
      (IsPermutation-append_left t.rows _ _ (IsPermutation-trans _ _ _ h.same_rows
      (IsPermutation-same _ _ (append-nil (all_rows 16 outs)))));
  in_order = λ one alone. elim (cases_eq i 0) [
    | inl z ↦ grind (arith, common_steps, chunk-elsewhere, append-nil, rows-here)
    | inr ne ↦ absurd (
        let none = both-none (worked i) (t ∷ [])
        (sym (chunk-here i t worked) ∙ one i (omega (arith, ne))) in
        let e : t ∷ [] ≡ [] = none.1 in cc
        )
  ];
}

pub takes-resized : (own : OwnState) (i : ℕ) (t : Table) → i < 32
    → Takes spec.Resize own i t own (Some t)
takes-resized own i t lt = record {
  means = λ x fits worked outs h. (h.0, resized-takes worked outs i t lt h.1);
  fits = inl tt;
  types = λ ins pulled. pulled;
  sizes = tt;
  ends = λ i n. n;
}

-- it passes chunks on as they are
pub resize-passes : (x : KernelState) → (row_of (kind_of x.spec)).passes_on ≡ true → PassesChunks x
resize-passes x e = go x.spec e
  where
    go : (s : Spec) → (row_of (kind_of s)).passes_on ≡ true → PassesChunks (record x { spec = s })
    go spec.Resize e = record {
      takes = λ i t lt. takes-resized x.own i t lt;
      waits = grind arith;
    }
    go s e = absurd (cc)
