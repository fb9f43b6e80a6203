-- Numbers for each row that go before the keys, so that most rows are compared by them alone.
use Rattle.chunk_data.specs.Names.{Row, Table, is_null, is_text, row_at, row_cmp, type_at, value_at}
use Rattle.chunk_data.specs.declared.typed_value.ColumnType.{ColumnType}
use Rattle.query_model.specs.Prelude.{All, Int, Null, Ordering, SortKey, Text, UInt, Value, unsigned_abs}
use Rattle.sort_procs.specs.declared.ranks.Ranked.{Ranked}
use Rattle.std.specs.Ordering.{bool_cmp, is_lt, nat_cmp, ordering_then}
use Rattle.std.specs.Prelude.{Bool, IsPermutation, IsSortedBy, List, [], cond, drop, false, leb, length, map, min, not, pos, slice_index_or, suc, take, true, zero, ℕ, ⊤, ◌%◌, ◌&&◌, ◌*◌, ◌+ℤ◌, ◌+◌, ◌-◌, ◌<◌, ◌==◌, ◌^◌, ◌||◌, ◌∷◌, ◌≡◌}

-- what a digit before n others counts
unfoldable pub byte_weight : ℕ → ℕ
byte_weight zero = 1
byte_weight (suc n) = 257 * byte_weight n

-- The first n bytes as digits of which none is 0, and last whether there are more. So a text is
-- lower than the longer ones that begin with it, and with 0 as the last it is told whole.
unfoldable pub text_rank : ℕ → List ℕ → ℕ
text_rank n [] = 0
text_rank zero (byte ∷ bytes) = 1
text_rank (suc n) (byte ∷ bytes) = (suc byte * byte_weight n) * 2 + text_rank n bytes

-- the digit of the byte at a place, if it is there
abbrev pub digit : List ℕ → ℕ → ℕ
digit bytes i = slice_index_or (map suc bytes) i 0

-- the first n elements are bytes
unfoldable pub AreBytes : ℕ → List ℕ → Type 0
AreBytes n [] = ⊤
AreBytes zero (byte ∷ bytes) = ⊤
AreBytes (suc n) (byte ∷ bytes) = (byte < 256) × AreBytes n bytes

-- a number that is lower only where a value that isn't NULL comes before
abbrev pub value_rank : Value → ℕ
value_rank (Int z) = unsigned_abs (z +ℤ pos (2 ^ 63))
value_rank (UInt n) = n
value_rank (Text bytes) = text_rank 7 bytes
value_rank Null = 0

-- what a column keeps, which has a rank of 64 bits
abbrev pub HasValueRank : Value → Type 0
HasValueRank (Int z) = (pos (value_rank (Int z)) ≡ z +ℤ pos (2 ^ 63))
    × (value_rank (Int z) < 2 ^ 64)
HasValueRank (UInt n) = n < 2 ^ 64
HasValueRank (Text bytes) = AreBytes 7 bytes
HasValueRank Null = ⊤

-- a rank in the order of a key, which may turn that of the values round
abbrev pub in_direction : (descending : Bool) → ℕ → ℕ
in_direction descending r = cond descending (2 ^ 64 - 1 - r) r

-- NULL alone has this rank, behind all others
abbrev pub null_rank : ℕ
null_rank = 2 ^ 64 - 1

-- the last rank of other values, which values of the two last ranks have
abbrev pub last_rank : ℕ
last_rank = 2 ^ 64 - 2

-- the rank of a value as a key has it
abbrev pub key_rank : (descending : Bool) → Value → ℕ
key_rank descending v =
    cond (is_null v) null_rank (min (in_direction descending (value_rank v)) last_rank)

-- a rank in the order of a key
pub record IsKeyRank (descending : Bool) (v : Value) (r : ℕ) : Type 0 where
  pub is : r ≡ key_rank descending v
  pub has : HasValueRank v

-- what follows the first n bytes of a text; a number and NULL have none
abbrev pub value_behind : ℕ → Value → Value
value_behind n (Int z) = Int z
value_behind n (UInt m) = UInt m
value_behind n (Text bytes) = Text (drop n bytes)
value_behind n Null = Null

-- a row's rank is that of its first key, of whose text so many bytes are told
abbrev pub IsRank : List SortKey → (told : ℕ) → Row → ℕ → Type 0
IsRank [] told row r = r ≡ 0
IsRank (key ∷ keys) told row r =
    IsKeyRank key.descending (value_behind told (value_at row key.column)) r

-- whether a value of the type is told whole by its rank
abbrev pub is_exact_value : ColumnType → ℕ → Bool
is_exact_value t r = not (is_text t) || (r % 2 == 0)

-- whether rows of the same rank r don't differ at the first key
abbrev pub is_exact : List ColumnType → List SortKey → ℕ → Bool
is_exact types [] r = false
is_exact types (key ∷ keys) r = (r == null_rank) || (not (r == last_rank)
    && is_exact_value (type_at types key.column) (in_direction key.descending r))

-- the keys at which rows of the same rank r may differ
abbrev pub keys_left : List ColumnType → List SortKey → ℕ → List SortKey
keys_left types keys r = cond (is_exact types keys r) (drop 1 keys) keys

-- how many bytes of the text of the first of these are told then
abbrev pub bytes_told : List ColumnType → List SortKey → (told : ℕ) → ℕ → ℕ
bytes_told types keys told r = cond (is_exact types keys r) 0 (told + 7)

-- the keys at which rows of the same ranks may differ
abbrev pub keys_tied : List ColumnType → List SortKey → Ranked → List SortKey
keys_tied types keys r = keys_left types (keys_left types keys r.first) r.second

abbrev pub ranked_place : Ranked → ℕ
ranked_place r = r.place

-- a row's ranks, of which the second goes on where the first ends
pub record AreRanks (types : List ColumnType) (keys : List SortKey) (row : Row) (r : Ranked)
    : Type 0 where
  pub first : IsRank keys 0 row r.first
  pub second : IsRank (keys_left types keys r.first) (bytes_told types keys 0 r.first) row r.second

-- one of the rows, with its ranks
pub record HasRanks (t : Table) (keys : List SortKey) (r : Ranked) : Type 0 where
  pub within : r.place < length t.rows
  pub ranks : AreRanks t.types keys (row_at t.rows r.place) r

-- where ranks were found, each is one of a row's
abbrev pub HaveRanks : (found : Bool) → Table → List SortKey → List Ranked → Type 0
HaveRanks found t keys ranks = found ≡ true → All (HasRanks t keys) ranks

-- by the keys, and places past the last row behind all others
abbrev pub place_cmp : List SortKey → (left right : List Row) → ℕ → ℕ → Ordering
place_cmp keys left right i j =
    ordering_then (bool_cmp (leb (length left) i) (leb (length right) j))
    (row_cmp keys (row_at left i) (row_at right j))

-- rows of two tables by their ranks, and by the keys of which these don't tell
abbrev pub ranked_cmp : (left right : Table) → List SortKey → Ranked → Ranked → Ordering
ranked_cmp left right keys a b =
    ordering_then (nat_cmp a.first b.first) (ordering_then (nat_cmp a.second b.second)
    (place_cmp (keys_tied left.types keys a) left.rows right.rows a.place b.place))

-- whether one row of a table comes before another
abbrev pub is_ranked_before : Table → List SortKey → Ranked → Ranked → Bool
is_ranked_before t keys a b = is_lt (ranked_cmp t t keys a b)

-- the rows at the places
abbrev pub rows_at : List Row → List Ranked → List Row
rows_at rows ranks = map (λ (r : Ranked). row_at rows r.place) ranks

-- none of those behind is before one of the front
abbrev pub IsSplit : Table → List SortKey → (front behind : List Ranked) → Type 0
IsSplit t keys front behind =
    All (λ b. All (λ a. is_ranked_before t keys b a ≡ false) front) behind

-- the same ranks, of which the first so many are in order, and none of the others is before them
pub record PutsFront (t : Table) (keys : List SortKey) (count : ℕ) (old new : List Ranked)
    : Type 0 where
  pub same : IsPermutation old new
  pub sorted : IsSortedBy (is_ranked_before t keys) (take count new)
  pub split : IsSplit t keys (take count new) (drop count new)

-- the same from a place on, before which nothing changes
pub record PutsMore (t : Table) (keys : List SortKey) (from count : ℕ) (old new : List Ranked)
    : Type 0 where
  pub kept : take from new ≡ take from old
  pub puts : PutsFront t keys count (drop from old) (drop from new)
