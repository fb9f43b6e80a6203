use Rattle.join_proc.proofs.Imports.{All, All-from_recursion, AreKeyValues, ColumnType, IsSeenFor, JoinIndex, List, Row, ap, ap₂, arith, codes_in, false, is_full, key_at, left_places, length, length-map, map, map-map, places_from, plain_types_at, position_or_len, recursion_from_All, refl, right_places, row_code, same_code, starts_at, subst, suc, sym, ◌<◌, ◌∙◌, ◌≡◌}
use Rattle.join_proc.proofs.AgreeLaws.{left-within, pair-kinds}
use Rattle.join_proc.proofs.LeftLaws.{starts-left}
use Rattle.join_proc.proofs.PlaceLaws.{keys-found, places-found, places-within}
use Rattle.join_proc.proofs.join_index.JoinIndex.left_rows.Goals as goal

pub find_places-requires-clause-within : goal.find_places-requires-clause-within
find_places-requires-clause-within c = grind (arith, left-within)

pub find_places-requires-clause-form : goal.find_places-requires-clause-form
find_places-requires-clause-form c = grind (arith, pair-kinds)

pub starts_of-requires-clause-within : goal.starts_of-requires-clause-within
starts_of-requires-clause-within c = grind (arith, left-within)

pub starts_of-requires-clause-places : goal.starts_of-requires-clause-places
starts_of-requires-clause-places c =
    let x = c.args.self.now in
    let es = map (row_code c.as_slice-columns.result.now) c.args.chunk.rows in
    let firsts = ap length c.as_slice-firsts.ensures.value ∙ c.requires.index.many in
    subst (All (λ p. p < length c.as_slice-firsts.result.now))
    (sym (c.as_slice.ensures.value ∙ c.in_ok-places.ensures.places
    ∙ places-found same_code es (codes_in x.seen)))
    (All-from_recursion (λ p. p < length c.as_slice-firsts.result.now) _
    (places-within same_code (codes_in x.seen) es (length c.as_slice-firsts.result.now) firsts))

pub starts_of-requires-clause-long : goal.starts_of-requires-clause-long
starts_of-requires-clause-long c = grind (arith, places-found, length-map)

pub returns-clause-index : goal.returns-clause-index
returns-clause-index c =
    let join = c.args.join.now in
    let x = c.args.self.now in
    let was = c.requires.index in
    let seen = c.find_places.new.seen in
    let same = c.in_ok-places.ensures.seen
    ∙ keys-found same_code (map (row_code c.as_slice-columns.result.now) c.args.chunk.rows)
    (codes_in x.seen) in
    let kinds : plain_types_at c.args.chunk.types c.as_slice-columns.result.now
    ≡ plain_types_at x.rows.types (right_places join.pairs) =
    ap₂ plain_types_at c.requires.types (c.as_slice-columns.ensures.value ∙ c.in_ok-columns.ensures)
    ∙ pair-kinds join c.requires.pairs
    ∙ ap (λ (ts : List ColumnType). plain_types_at ts (right_places join.pairs))
    (sym c.requires.right) in
    record {
      form = subst (λ ks. IsSeenFor ks seen) kinds c.in_ok-places.ensures.form;
      cells = was.cells;
      codes = same ∙ was.codes;
      many = was.many ∙ ap (λ l. suc (length l)) (sym same);
      linked = was.linked;
    }

pub returns-clause-starts : goal.returns-clause-starts
returns-clause-starts c =
    let join = c.args.join.now in
    let lefts = left_places join.pairs in
    let rights = right_places join.pairs in
    let x = c.args.self.now in
    let rows = c.args.chunk.rows in
    let cols = c.as_slice-columns.ensures.value ∙ c.in_ok-columns.ensures in
    let same : codes_in c.find_places.new.seen ≡ codes_in x.seen =
    c.in_ok-places.ensures.seen
    ∙ keys-found same_code (map (row_code c.as_slice-columns.result.now) rows) (codes_in x.seen) in
    let kinds : plain_types_at c.args.chunk.types lefts ≡ plain_types_at x.rows.types rights =
    ap (λ (ts : List ColumnType). plain_types_at ts lefts) c.requires.types
    ∙ pair-kinds join c.requires.pairs
    ∙ ap (λ (ts : List ColumnType). plain_types_at ts rights) (sym c.requires.right) in
    let cells = recursion_from_All (λ (r : Row). AreKeyValues (plain_types_at x.rows.types rights)
    (key_at lefts r)) rows
    (subst (λ ks. All (λ (r : Row). AreKeyValues ks (key_at lefts r)) rows) kinds
    (subst (λ cs. All
    (λ (r : Row). AreKeyValues (plain_types_at c.args.chunk.types cs) (key_at cs r)) rows)
    cols c.in_ok-places.ensures.cells)) in
    let places : c.as_slice.result.now ≡ map (λ (r : Row). position_or_len
    (same_code (row_code lefts r)) (codes_in c.find_places.new.seen)) rows =
    c.as_slice.ensures.value ∙ c.in_ok-places.ensures.places
    ∙ ap (λ cs. places_from false same_code (codes_in x.seen) (map (row_code cs) rows)) cols
    ∙ places-found same_code (map (row_code lefts) rows) (codes_in x.seen)
    ∙ map-map (λ e. position_or_len (same_code e) (codes_in x.seen)) (row_code lefts) rows
    ∙ ap (λ s. map (λ (r : Row). position_or_len (same_code (row_code lefts r)) s) rows)
    (sym same) in
    let new : JoinIndex = record {
      rows = x.rows;
      seen = c.find_places.new.seen;
      firsts = x.firsts;
      nexts = x.nexts;
    } in
    starts-left join.pairs new (returns-clause-index c) rows
    (record { chunk = c.args.chunk; starts = c.in_ok-starts.starts; at = 0 }) refl refl cells
    (c.in_ok-starts.ensures
    ∙ ap₂ (λ fs n. starts_at fs n 0 c.as_slice.result.now
    (map (is_full c.as_slice-columns.result.now) rows)) c.as_slice-firsts.ensures.value
    c.rows-rows.ensures.count
    ∙ ap₂ (λ ps cs. starts_at x.firsts.items (length x.rows.rows) 0 ps (map (is_full cs) rows))
    places cols)
