-- A grouping keeps what its kind says of the chunks that it worked.
use Rattle.aggregate_proc.proofs.Imports.{All, AllByRecursion, AreGrouped, AreInputsOver, ArePortsOf, Begins, ColumnType, FitsGroups, FitsInput, FitsTypes, GroupSpec, GroupsMore, HasNotedEnd, IsAtMost, IsNextOfGroups, IsPermutation-append_left, IsPermutation-same, IsPermutation-trans, IsGroupTableFor, Lists, Makes, MakesTypes, Means, NotesGroupsEnd, Offer, OfferComes, Offers, OwnState, Picture, Reading, Row, Table, GroupTableView, Takes, all-more, append-nil, calls_for, chunk_rows, distinct, drops-misfit, eqb-true, gathering_own, giving_own, idle_own, spec_group_types, grouped_by, groups_for, in_count, key_of, fold_types, length-append, length-drop, length-take, most_rows, no-rows, open_for, recursion_from_All, rows-here, group_table_rows, aggregate_spec, take-append-drop, types_for, whole_for, with_chunk, worked_rows, every-append, EndIsNoted, Spec, Bool, IsPermutation, List, None, Some, [], ap, append_assoc, arith, drop, drop-drop, false, inl, length, max, refl, subst, sym, take, true, ℕ, ◌++◌, ◌+◌, ◌<◌, ◌∙◌, ◌≡◌, ◌≤◌, ◌⊎◌}
use Rattle.aggregate_proc.proofs.CallLaws.{calls-are, given-whole, groups-by}

-- ---- by whether partial groups are merged

abbrev Made : Bool → GroupSpec → OwnState → Lists → List Row → Type 0
Made merges g own worked made =
    AreGrouped (types_for merges g) (groups_for merges g) (whole_for merges g) own
    (worked_rows merges worked) made

-- what the contract says of both kinds
record IsGroupKind (merges : Bool) (g : GroupSpec) : Type 0 where
  into : (x : Reading) (own : OwnState) (worked outs : Lists) (wait : List Row)
      → Made merges g own worked (chunk_rows (outs 0) ++ wait)
      → Means x (aggregate_spec merges g) own worked outs wait
  from : (x : Reading) (own : OwnState) (worked outs : Lists) (wait : List Row)
      → Means x (aggregate_spec merges g) own worked outs wait
      → Made merges g own worked (chunk_rows (outs 0) ++ wait)
  noted : (own : OwnState) → own.ended ≡ true → HasNotedEnd (aggregate_spec merges g) own
  ended : (own : OwnState) → HasNotedEnd (aggregate_spec merges g) own → own.ended ≡ true
  notes : (own : OwnState) (i : ℕ) → own.ended ≡ true
      → EndIsNoted (Some (aggregate_spec merges g)) own i
  noting : (own : OwnState) (i : ℕ) → EndIsNoted (Some (aggregate_spec merges g)) own i → own.ended
      ≡ true
  fits : (i : ℕ) (types : List ColumnType) → FitsGroups g (types_for merges g) types
      → FitsInput (Some (aggregate_spec merges g)) i types
  fitting : (i : ℕ) (types : List ColumnType) → FitsInput (Some (aggregate_spec merges g)) i types
      → FitsGroups g (types_for merges g) types
  types : (ins : Lists) (types : List ColumnType) → types ≡ spec_group_types g
      → MakesTypes (Some (aggregate_spec merges g)) ins types
  size : (n : ℕ) → n ≤ max g.rows 1 → IsAtMost (most_rows (Some (aggregate_spec merges g))) n

group-kind : (merges : Bool) (g : GroupSpec) → IsGroupKind merges g
group-kind false g = grind arith
group-kind true g = grind arith

-- the rows of one chunk more
worked-more : (merges : Bool) (i : ℕ) (t : Table) (worked : Lists) → open_for merges i ≡ true
    → i < 32
    → IsPermutation (worked_rows merges (with_chunk i t worked))
    (worked_rows merges worked ++ t.rows)
worked-more false i t worked w lt = grind (arith, eqb-true, IsPermutation-same, rows-here)
worked-more true i t worked w lt = all-more i t worked lt

none-grouped : (merges : Bool) (g : GroupSpec) → groups_for merges g [] ≡ []
unfolding distinct
none-grouped merges g = grind arith

pub one-input : (merges : Bool) (g : GroupSpec) (inputs outputs : ℕ)
    → ArePortsOf (Some (aggregate_spec merges g)) None inputs outputs → (inputs ≡ 1)
    ⊎ (merges ≡ true)
one-input merges g inputs outputs h = grind arith

abbrev pub table_own : GroupTableView → OwnState
table_own t = gathering_own (record { types = fold_types t; rows = group_table_rows t })

module _ (merges : Bool) (g : GroupSpec) where
  abbrev s : Spec
  s = aggregate_spec merges g

  is : IsGroupKind merges g
  is = group-kind merges g

  pub begins : (t : GroupTableView) → group_table_rows t ≡ [] → Begins s s (table_own t)
  begins t none = grind (arith, is, IsPermutation-same, append-nil, none-grouped, no-rows)

  -- where no chunk fits it has no groups
  pub begins-dropping : Begins s s idle_own
  begins-dropping = grind (arith, is, IsPermutation-same, none-grouped, no-rows)

  -- ---- a chunk more

  more-groups : (old new : GroupTableView) (more : List Row) → IsGroupTableFor merges g old
      → GroupsMore old more new → (rows : List Row)
      → group_table_rows old ≡ grouped_by (key_of (length g.keys)) (calls_for merges g) rows
      → group_table_rows new ≡ grouped_by (key_of (length g.keys)) (calls_for merges g)
      (rows ++ more)
  more-groups old new more h m = grind (arith, calls-are)

  pub takes : (old new : GroupTableView) (i : ℕ) (t : Table) → IsGroupTableFor merges g old
      → open_for merges i ≡ true → i < 32 → t.types ≡ old.types → All (FitsTypes t.types) t.rows
      → GroupsMore old t.rows new → Takes s (table_own old) i t (table_own new) None
  takes old new i t h w lt same fit m = record {
    means = λ x fits worked outs made.
        let a = (is.from x (table_own old) worked outs [] made).gathering refl in
        let row_fit = subst (λ ts. AllByRecursion (FitsTypes ts) t.rows) (same ∙ h.types)
        (recursion_from_All (FitsTypes t.types) t.rows fit) in
        let all_fit = every-append (FitsTypes (types_for merges g)) a.order t.rows a.fit row_fit in
        is.into x (table_own new) (with_chunk i t worked) outs [] (record {
          gathering = λ e. record {
            nothing_made = a.nothing_made;
            nothing_unmade = refl;
            order = a.order ++ t.rows;
            same = IsPermutation-trans _ _ _ (worked-more merges i t worked w lt)
                (IsPermutation-append_left t.rows _ _ a.same);
            fit = all_fit;
            groups_are = append-nil (group_table_rows new)
                ∙ more-groups old new t.rows h m a.order
                (sym (append-nil (group_table_rows old)) ∙ a.groups_are
                ∙ groups-by merges g a.order a.fit)
                ∙ sym (groups-by merges g (a.order ++ t.rows) all_fit);
          };
          grouped = λ e. absurd (cc);
        });
    fits = inl (is.fits i t.types (record { types_are = same ∙ h.types; summed = h.summed }));
    types = λ ins pulled. tt;
    sizes = tt;
    ends = λ j n. absurd (let e = is.noting (table_own new) j n in cc);
  }

  -- a chunk of other types is dropped, and every chunk where texts are summed
  pub drops : (own : OwnState) (i : ℕ) (t : Table)
      → (FitsGroups g (types_for merges g) t.types → ⊥) → Takes s own i t own None
  drops own i t never = drops-misfit s own i t (λ fits. never (is.fitting i t.types fits))

  -- ---- the end

  goes-on : (old new : OwnState) → NotesGroupsEnd merges g old new
      → (worked : Lists) (made : List Row)
      → (b : Bool) → old.ended ≡ b → Made merges g old worked made → Made merges g new worked made
  goes-on old new n worked made b e h = grind (arith, given-whole)

  pub offers : (wants : ℕ → Bool) (v : Picture) (old new : OwnState) (o : Offer) → AreInputsOver v
      → NotesGroupsEnd merges g old new → OfferComes wants o s v new → Offers wants s v old new o
  offers wants v old new o over n comes = grind (arith, is, goes-on)

  pub comes : (v : Picture) (own : OwnState) (o : Offer) → IsNextOfGroups own o
      → (in_count v ≡ 1) ⊎ (merges ≡ true) → (AreInputsOver v → own.ended ≡ true)
      → OfferComes (open_for merges) o s v own
  comes v own h n one ended = grind arith

  -- ---- rows are made

  makes : (old rest : List Row) (c : Table) → old ≡ c.rows ++ rest → 0 < length c.rows
      → length c.rows ≤ max g.rows 1 → c.types ≡ spec_group_types g
      → Makes s (giving_own old) (giving_own rest) (Some c)
  makes old rest c e some most types =
      grind (arith, is, append-nil, append_assoc, length-append c.rows rest)

  -- so many rows more are made
  pub makes-part : (rows : List Row) (next count : ℕ) (c : Table)
      → c.rows ≡ take count (drop next rows) → 0 < count → next + count ≤ length rows
      → count ≤ max g.rows 1 → c.types ≡ spec_group_types g
      → Makes s (giving_own (drop next rows)) (giving_own (drop (next + count) rows)) (Some c)
  makes-part rows next count c e some within most types =
      let l = ap length e in
      let m = length-take count (drop next rows) in
      let d = length-drop next rows in
      let long : length c.rows ≡ count = omega (arith, l, m, d, within) in
      makes (drop next rows) (drop (next + count) rows) c
      (sym (take-append-drop count (drop next rows))
      ∙ ap (λ l. l ++ drop count (drop next rows)) (sym e)
      ∙ ap (λ l. c.rows ++ l) (drop-drop count next rows))
      (omega (arith, long, some)) (omega (arith, long, most)) types
