-- What is proved of each kind.
use Rattle.plan_laws.proofs.Imports.{IsPermutation, List, Some, arith, filter, map, refl, subst, sym, true, ℕ, AllZip, IsPermutation-refl, IsSortOf, Spec, filter-append, holds, item_row, map-append, numbers, Flow, RowsOfSources, Stream, all_certain, all_done, rows_together, flow_rows, Gives, merged_rows, partial_rows, IsFront, MakesRows, is_certain, is_needed, Option, ArePortsOf, GrowthForm, IsUngrown, KindGives, KnownPorts}
use Rattle.query_model.specs.declared.processor_spec.Spec.TheVariants as spec
use Rattle.plan_laws.proofs.meaning.Fronts.{certain-inputs}
use Rattle.plan_laws.proofs.meaning.KindLaws.{CompletesKind, done-rows, held-completes, held-one-completes, join-completes, limit-completes, many-completes, merge-completes, one-completes, part-front, resize-completes, sort-exists, source-completes, through-completes, two-completes}
use Rattle.plan_laws.proofs.ends.GroupLaws.{merged-gives, partial-gives}
use Rattle.plan_laws.proofs.ends.JoinLaws.{join-gives}
use Rattle.plan_laws.proofs.ends.KindLaws.{collect-gives, expression-gives, filter-gives, limit-gives, numbers-gives, part-gives}
use Rattle.plan_laws.proofs.ends.ResizeLaws.{resize-gives}
use Rattle.plan_laws.proofs.ends.SortLaws.{merge-gives, sort-gives}

-- What a kind gave so far is the first of what it makes where nobody closes an input.
pub complete-kind : (parts : RowsOfSources) (s : Spec) (ins outs : List Stream) (fs : List Flow)
    → Gives parts s ins outs → AllZip IsFront ins fs
    → CompletesKind (MakesRows parts s) (is_certain parts s fs) (is_needed parts s fs) fs outs
complete-kind parts (spec.Csv part) ins outs fs g z =
    source-completes parts (spec.Csv part) (λ o p. record {
      out = (parts (spec.Csv part)).rows;
      makes = refl;
      front = part-front (parts (spec.Csv part)) o p;
    }) ins outs fs g z
complete-kind parts (spec.List list) ins outs fs g z =
    source-completes parts (spec.List list) (λ o p. record {
      out = p.order;
      makes = p.same;
      front = grind (arith, part-front);
    }) ins outs fs g z
complete-kind parts (spec.Numbers n rows) ins outs fs g z =
    source-completes parts (spec.Numbers n rows) (λ o p. record {
      out = (numbers n).rows;
      makes = refl;
      front = part-front (record { rows = (numbers n).rows; valid = true }) o p;
    }) ins outs fs g z
complete-kind parts (spec.Filter c) ins outs fs g z =
    one-completes parts (spec.Filter c) (through-completes (filter (holds c))
    (λ xs ys. (filter (holds c) ys, sym (filter-append (holds c) xs ys))) refl) ins outs fs g z
complete-kind parts (spec.Expression items) ins outs fs g z =
    one-completes parts (spec.Expression items) (through-completes (map (item_row items))
    (λ xs ys. (map (item_row items) ys, sym (map-append (item_row items) xs ys))) refl) ins outs
    fs g z
complete-kind parts spec.Resize ins outs fs g z = resize-completes ins outs fs g z
complete-kind parts (spec.Limit span) ins outs fs g z =
    one-completes parts (spec.Limit span) (limit-completes span) ins outs fs g z
complete-kind parts (spec.PartialAggregate p) ins outs fs g z =
    one-completes parts (spec.PartialAggregate p) (held-one-completes (λ rows. IsPermutation
    (partial_rows p rows))
    (λ rows. (partial_rows p rows, IsPermutation-refl _))) ins outs fs g z
complete-kind parts (spec.MergeAggregate p) ins outs fs g z =
    many-completes parts (spec.MergeAggregate p) (λ is o l r h. held-completes _
    (IsPermutation (merged_rows p (rows_together (flow_rows l))))
    (all_done is) (all_certain l) (certain-inputs is l h)
    (λ e rows m. subst (λ k. IsPermutation (merged_rows p (rows_together k)) rows)
    (done-rows is l h e) m) (merged_rows p (rows_together (flow_rows l)), IsPermutation-refl _) o r)
    ins outs fs g z
complete-kind parts (spec.HashJoin join) ins outs fs g z =
    two-completes parts (spec.HashJoin join) (join-completes join.pairs) ins outs fs g z
complete-kind parts (spec.Sort order) ins outs fs g z =
    one-completes parts (spec.Sort order)
    (held-one-completes (IsSortOf order.keys) (sort-exists order.keys)) ins outs fs g z
complete-kind parts (spec.MergeSorted order) ins outs fs g z =
    many-completes parts (spec.MergeSorted order) (merge-completes order.keys) ins outs fs g z
complete-kind parts spec.Collect ins outs fs g z = grind arith

-- where its graph gives it the ports of its spec, it has them in every run
pub known-ports : (s : Spec) (takes gives : ℕ) → IsUngrown s → KnownPorts s takes gives
    → (g : Option GrowthForm) → ArePortsOf (Some s) g takes gives
known-ports s takes gives u h g = grind arith

-- the contract of each known kind gives its promises
pub known-gives : (s : Spec) → IsUngrown s → KindGives s
known-gives (spec.Csv part) h = part-gives part
known-gives (spec.Numbers count rows) h = numbers-gives count rows
known-gives (spec.Filter c) h = filter-gives c
known-gives (spec.Expression items) h = expression-gives items
known-gives spec.Resize h = resize-gives
known-gives (spec.Limit span) h = limit-gives span
known-gives (spec.PartialAggregate groups) h = partial-gives groups
known-gives (spec.MergeAggregate groups) h = merged-gives groups
known-gives (spec.Sort order) h = sort-gives order
known-gives (spec.MergeSorted order) h = merge-gives order
known-gives (spec.HashJoin join) h = join-gives join
known-gives spec.Collect h = collect-gives
known-gives (spec.List list) h = absurd h
