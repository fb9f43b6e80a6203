use Rattle.join_proc.proofs.Imports.{All, ap, ap₂, arith, codes_in, fold, key_codes, key_places, length, map, places_from, right_places, row_code, same_code, subst, sym, true, with_key, ◌<◌, ◌∙◌, ◌≡◌}
use Rattle.join_proc.proofs.AgreeLaws.{right-within}
use Rattle.join_proc.proofs.IndexLaws.{key-places-long, key-places-within, none-linked}
use Rattle.join_proc.proofs.join_index.JoinIndex.new.Goals as goal

pub find_places-requires-clause-within : goal.find_places-requires-clause-within
find_places-requires-clause-within c = grind (arith, right-within)

pub link_rows-requires-clause-places : goal.link_rows-requires-clause-places
link_rows-requires-clause-places c =
    let rows = c.args.rows.rows in
    let columns = right_places c.args.join.now.pairs in
    let cols = c.as_slice-columns.ensures.value ∙ c.in_ok-columns.ensures in
    let places : c.as_slice-2.result.now ≡ key_places columns rows =
    c.as_slice-2.ensures.value ∙ c.in_ok-places.ensures.places
    ∙ ap₂ (λ s cs. places_from true same_code s (map (row_code cs) rows)) c.new-seen.ensures.none
    cols in
    let codes : codes_in c.find_places.new.seen ≡ key_codes columns rows =
    c.in_ok-places.ensures.seen
    ∙ ap₂ (λ s cs. fold (with_key true same_code) s (map (row_code cs) rows))
    c.new-seen.ensures.none cols in
    let many = c.len.ensures ∙ ap length codes in
    let added = c.in-Some.ensures.1 in
    let long = ap length c.as_mut_slice.ensures.value ∙ c.in_ok-firsts.ensures.long in
    subst (All (λ p. p < length c.as_mut_slice.result.now)) (sym places)
    (key-places-within columns rows (length c.as_mut_slice.result.now)
    (omega (arith, long, added, many)))

pub link_rows-requires-clause-none : goal.link_rows-requires-clause-none
link_rows-requires-clause-none c =
    let rows = c.args.rows.rows in
    let columns = right_places c.args.join.now.pairs in
    let cols = c.as_slice-columns.ensures.value ∙ c.in_ok-columns.ensures in
    let places : c.as_slice-2.result.now ≡ key_places columns rows =
    c.as_slice-2.ensures.value ∙ c.in_ok-places.ensures.places
    ∙ ap₂ (λ s cs. places_from true same_code s (map (row_code cs) rows)) c.new-seen.ensures.none
    cols in
    let long : length c.as_slice-2.result.now ≡ length rows =
    ap length places ∙ key-places-long columns rows in
    none-linked c.as_slice-2.result.now c.as_mut_slice.result.now c.as_mut_slice-2.result.now
    (ap length c.as_mut_slice-2.ensures.value ∙ c.in_ok-nexts.ensures.long ∙ c.rows-4.ensures.count
    ∙ sym long)
    (subst (λ n. All (λ m. m ≡ n) c.as_mut_slice.result.now) (c.rows-2.ensures.count ∙ sym long)
    (subst (All (λ m. m ≡ c.rows-2.result)) (sym c.as_mut_slice.ensures.value)
    c.in_ok-firsts.ensures.same))
