-- What each kind is for in a plan, in one role a kind.
use Rattle.std.specs.Prelude.{Bool, IsPermutation, List, None, Option, Some, [], false, filter, length, map, nat_le, true, ⊤, ◌&&◌, ◌++◌, ◌||◌, ◌∷◌, ◌≡◌}
use Rattle.plan_laws.specs.Prelude.{Any, ColumnType, IsSortOf, Row, Spec, enough, holds, item_row, joined_rows, limited, list_all, merged_rows, numbers, partial_rows, spec_group_types, type_of}
use Rattle.plan_laws.specs.Streams.{Flow, ManyToOne, OneToNone, OneToOne, RowsOfSources, Source, SourceRows, Stream, TwoToOne, all_certain, all_done, any_needs, flow_rows, rows_together, stream_rows}
use Rattle.plan_laws.specs.Gives.{GivesHeld, GivesJoined, GivesLimited, GivesListed, GivesMerged, GivesResized, GivesSource, GivesThrough, IsMergeOf}
use Rattle.query_model.specs.declared.processor_spec.Spec.TheVariants as spec

abbrev pub Types : Type 0
Types = List ColumnType

-- one of these types
abbrev pub IsAmong : List Types → Types → Type 0
IsAmong ins t = Any (λ u. t ≡ u) ins

pub record Role : Type 1 where
  -- what it has given at any moment of a run
  pub gives : RowsOfSources → (ins outs : List Stream) → Type 0
  -- what it makes of all that could pass
  pub makes : RowsOfSources → (ins outs : List (List Row)) → Type 0
  -- whether that is certain
  pub certain : RowsOfSources → List Flow → Bool
  -- whether those parts are valid that it reads to the end before it gives a row
  pub needed : List Flow → Bool
  -- what it makes of a chunk of some of these types
  pub makes_type : List Types → Types → Type 0
  -- what it reads, where it takes no rows of others
  pub source : Option (RowsOfSources → SourceRows)

-- ---- what several kinds share

abbrev pub source_role : (RowsOfSources → SourceRows) → Types → Role
source_role read types = record {
  gives = λ parts. Source (GivesSource (read parts));
  makes = λ parts. Source (λ o. o ≡ (read parts).rows);
  certain = λ parts ins. (read parts).valid;
  needed = λ ins. true;
  makes_type = λ ins t. t ≡ types;
  source = Some read;
}

-- a kind that takes rows of others
abbrev pub inner_role : (gives : (ins outs : List Stream) → Type 0)
    → (makes : (ins outs : List (List Row)) → Type 0) → (needed : List Flow → Bool)
    → (makes_type : List Types → Types → Type 0) → Role
inner_role gives makes needed makes_type = record {
  gives = λ parts. gives;
  makes = λ parts. makes;
  certain = λ parts. all_certain;
  needed = needed;
  makes_type = makes_type;
  source = None;
}

-- it makes each chunk's rows one by one
abbrev pub through_role : (List Row → List Row) → (List Types → Types → Type 0) → Role
through_role make =
    inner_role (OneToOne (GivesThrough make)) (OneToOne (λ i o. o ≡ make i)) any_needs

-- it gives nothing before its input is done
abbrev pub held_role : (List Row → List Row → Type 0) → Types → Role
held_role M types =
    inner_role (OneToOne (λ (i o : Stream). GivesHeld (M i.rows) i.done o)) (OneToOne M) all_certain
    (λ ins t. t ≡ types)

abbrev pub join_needs : List Flow → Bool
join_needs (l ∷ r ∷ []) = l.needs && r.certain
join_needs _ = false

-- ---- the role of each kind

abbrev pub role_of : Spec → Role
role_of (spec.Csv part) = source_role (λ parts. parts (spec.Csv part)) part.types
-- the rows of a list's parts come in any order
role_of (spec.List list) = record (source_role (λ parts. parts (spec.List list)) list.types) {
  gives = λ parts. Source (GivesListed (parts (spec.List list)));
  makes = λ parts. Source (λ o. IsPermutation (parts (spec.List list)).rows o);
}
role_of (spec.Numbers n rows) =
    source_role (λ parts. record { rows = (numbers n).rows; valid = true }) (numbers n).types
role_of (spec.Filter c) = through_role (filter (holds c)) IsAmong
role_of (spec.Expression items) =
    through_role (map (item_row items)) (λ ins t. Any (λ u. t ≡ map (λ e. type_of e u) items) ins)
role_of spec.Resize =
    inner_role GivesResized (λ ins outs. IsPermutation (rows_together ins) (rows_together outs))
    any_needs IsAmong
role_of (spec.Limit span) = record (inner_role (OneToOne (GivesLimited span))
    (OneToOne (λ i o. o ≡ limited (Some span) i)) any_needs IsAmong) {
      certain = λ parts ins. all_certain ins
          || (any_needs ins && nat_le (enough span) (length (rows_together (flow_rows ins))));
    }
role_of spec.Collect = inner_role OneToNone OneToNone any_needs IsAmong
role_of (spec.PartialAggregate g) =
    held_role (λ i o. IsPermutation (partial_rows g i) o) (spec_group_types g)
role_of (spec.MergeAggregate g) =
    inner_role
    (ManyToOne (λ (is : List Stream) (o : Stream). GivesHeld
    (λ rows. IsPermutation (merged_rows g (rows_together (stream_rows is))) rows) (all_done is) o))
    (ManyToOne (λ is o. IsPermutation (merged_rows g (rows_together is)) o)) all_certain
    (λ ins t. t ≡ spec_group_types g)
role_of (spec.HashJoin join) =
    inner_role (TwoToOne (GivesJoined join.pairs))
    (TwoToOne (λ l r o. IsPermutation (joined_rows join.pairs l r) o)) join_needs
    (λ ins t. t ≡ join.left ++ join.right)
role_of (spec.Sort order) = held_role (IsSortOf order.keys) order.types
role_of (spec.MergeSorted order) =
    inner_role (ManyToOne (GivesMerged order.keys)) (ManyToOne (λ is o. IsMergeOf order.keys is o))
    (λ ins. list_all (λ (f : Flow). f.certain || f.needs) ins) (λ ins t. t ≡ order.types)

-- ---- what clauses cite of it

-- what a kind has given at any moment of a run
abbrev pub Gives : RowsOfSources → Spec → List Stream → List Stream → Type 0
Gives parts s ins outs = (role_of s).gives parts ins outs

-- what a kind makes of all that could pass
abbrev pub MakesRows : RowsOfSources → Spec → List (List Row) → List (List Row) → Type 0
MakesRows parts s ins outs = (role_of s).makes parts ins outs

-- whether what a kind makes is certain
abbrev pub is_certain : RowsOfSources → Spec → List Flow → Bool
is_certain parts s ins = (role_of s).certain parts ins

-- whether those parts are valid that a kind reads to the end before it gives a row
abbrev pub is_needed : RowsOfSources → Spec → List Flow → Bool
is_needed parts s ins = (role_of s).needed ins

-- what a kind makes of a chunk of some of these types
abbrev pub MakesType : Spec → List Types → Types → Type 0
MakesType s ins t = (role_of s).makes_type ins t

abbrev pub ReadsSource : Option (RowsOfSources → SourceRows) → Type 0
ReadsSource None = ⊥
ReadsSource (Some read) = ⊤

-- a kind that takes no rows of others
abbrev pub IsSourceSpec : Spec → Type 0
IsSourceSpec s = ReadsSource (role_of s).source

abbrev pub source_read : Option (RowsOfSources → SourceRows) → RowsOfSources → SourceRows
source_read None parts = record { rows = []; valid = true }
source_read (Some read) parts = read parts

-- the rows of a source, and whether they are all that its part should have
abbrev pub source_list : RowsOfSources → Spec → List Row
source_list parts s = (source_read (role_of s).source parts).rows

abbrev pub is_valid_source : RowsOfSources → Spec → Bool
is_valid_source parts s = (source_read (role_of s).source parts).valid
