-- What passed at a port at one moment of a run, and what would pass if nobody closed an input.
use Rattle.std.specs.Prelude.{Bool, List, [], flat_map, map, ⊤, ◌∷◌}
use Rattle.plan_laws.specs.Prelude.{ColumnType, Row, Spec, list_all, list_any}

-- ---- rows

-- the rows of a part before its first bad record, and whether it has none; of a list of parts,
-- those of all its parts, and whether it and each of them are valid
pub record SourceRows : Type 0 where
  pub rows : List Row
  pub valid : Bool

-- what the sources of these specs read
abbrev pub RowsOfSources : Type 0
RowsOfSources = Spec → SourceRows

abbrev pub rows_together : List (List Row) → List Row
rows_together lists = flat_map (λ rows. rows) lists

-- What passed so far: the rows, and whether the port was finished by its producer. At an input that
-- counts only where all was pulled.
pub record Stream : Type 0 where
  pub rows : List Row
  pub done : Bool
  -- the types of the chunks, in order
  pub types : List (List ColumnType)

-- What passes where nobody closes an input. It is certain where it comes of valid parts alone, or a
-- limit has enough rows of it. `needs` tells
-- whether those parts are valid that were read to the end before a row passes.
pub record Flow : Type 0 where
  pub rows : List Row
  pub certain : Bool
  pub needs : Bool

abbrev pub stream_rows : List Stream → List (List Row)
stream_rows streams = map (λ (s : Stream). s.rows) streams

abbrev pub flow_rows : List Flow → List (List Row)
flow_rows flows = map (λ (f : Flow). f.rows) flows

abbrev pub flows_of : (certain needs : Bool) → List (List Row) → List Flow
flows_of c n lists = map (λ rows. record { rows = rows; certain = c; needs = n }) lists

abbrev pub all_done : List Stream → Bool
all_done streams = list_all (λ (s : Stream). s.done) streams

abbrev pub any_done : List Stream → Bool
any_done streams = list_any (λ (s : Stream). s.done) streams

abbrev pub all_certain : List Flow → Bool
all_certain flows = list_all (λ (f : Flow). f.certain) flows

abbrev pub any_needs : List Flow → Bool
any_needs flows = list_any (λ (f : Flow). f.needs) flows

-- ---- numbers of ports

abbrev pub Source : {B : Type 0} → {A : Type 0} → (B → Type 0) → List A → List B → Type 0
Source P [] (o ∷ []) = P o
Source P _ _ = ⊥

abbrev pub OneToOne : {A B : Type 0} → (A → B → Type 0) → List A → List B → Type 0
OneToOne R (i ∷ []) (o ∷ []) = R i o
OneToOne R _ _ = ⊥

abbrev pub OneToNone : {A B : Type 0} → List A → List B → Type 0
OneToNone (i ∷ []) [] = ⊤
OneToNone _ _ = ⊥

-- ---- groups, joins and orders

abbrev pub TwoToOne : {A B : Type 0} → (A → A → B → Type 0) → List A → List B → Type 0
TwoToOne R (l ∷ r ∷ []) (o ∷ []) = R l r o
TwoToOne R _ _ = ⊥

abbrev pub ManyToOne : {A B : Type 0} → (List A → B → Type 0) → List A → List B → Type 0
ManyToOne R ins (o ∷ []) = R ins o
ManyToOne R _ _ = ⊥
