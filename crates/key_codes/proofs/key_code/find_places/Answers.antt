use Rattle.key_codes.proofs.Imports.{[], ◌≡◌, ◌<◌, ◌∙◌, ◌∷◌, length, false, true, map, sym, ap, ap₂, subst, arith, is_text, plain_type, All, All-from_recursion, IsCell, IsSeenFor, byte_code, byte_codes, codes_in, column_type, column_validity, first_key_column, number_codes, option_map, plain_types_at, recursion_from_All, stored_values, valid_codes, value_code, values, with_null}
use Rattle.key_codes.proofs.CodeLaws.{cells-valid, codes-valid, on-ok, on-ok-more}
use Rattle.key_codes.proofs.KeyLaws.{found-codes, found-places, kind-at, one-codes, kinds-long, one-form, one-keys, text-cells, text-codes, whole-codes}
use Rattle.key_codes.proofs.key_code.find_places.Goals as goal

pub returns-in-Whole-clause-places : goal.returns-in-Whole-clause-places
returns-in-Whole-clause-places c = grind (arith, found-places, whole-codes, kinds-long)

pub returns-in-Whole-clause-seen : goal.returns-in-Whole-clause-seen
returns-in-Whole-clause-seen c = grind (arith, found-codes, whole-codes, kinds-long)

pub returns-in_ok-bits-in-Numbers-clause-places : goal.returns-in_ok-bits-in-Numbers-clause-places
returns-in_ok-bits-in-Numbers-clause-places c =
    let places = c.args.places.now in
    let t = c.args.chunk.now in
    let column = c.column-column.result.now in
    let seen = subst (IsSeenFor (plain_types_at t.types places)) c.in-Numbers.is c.requires.form in
    let form = one-form t.types places false seen.0 seen.1 in
    let codes : valid_codes (option_map (λ v. v.now) c.validity-validity.result)
    (map (λ n. n ∷ []) c.as_slice.result.now) ≡ map value_code (values column) =
    ap₂ valid_codes c.validity-validity.ensures.is (ap (map (λ n. n ∷ [])) c.as_slice.ensures.value
    ∙ c.in_ok-bits-in-Numbers.ensures.codes)
    ∙ codes-valid (column_validity column) (stored_values column) in
    found-places c.number_places.result c.args.adds _
    (with_null c.in-Numbers.null (number_codes c.in-Numbers.numbers))
    (with_null c.number_places.new.null (number_codes c.number_places.new.seen)) _ _
    (codes ∙ one-codes places t.rows (values column) form.0 c.column-column.ensures.values)
    (ap codes_in c.in-Numbers.is) c.number_places.ensures.finds

pub returns-in_ok-bits-in-Numbers-clause-seen : goal.returns-in_ok-bits-in-Numbers-clause-seen
returns-in_ok-bits-in-Numbers-clause-seen c =
    let places = c.args.places.now in
    let t = c.args.chunk.now in
    let column = c.column-column.result.now in
    let seen = subst (IsSeenFor (plain_types_at t.types places)) c.in-Numbers.is c.requires.form in
    let form = one-form t.types places false seen.0 seen.1 in
    let codes : valid_codes (option_map (λ v. v.now) c.validity-validity.result)
    (map (λ n. n ∷ []) c.as_slice.result.now) ≡ map value_code (values column) =
    ap₂ valid_codes c.validity-validity.ensures.is (ap (map (λ n. n ∷ [])) c.as_slice.ensures.value
    ∙ c.in_ok-bits-in-Numbers.ensures.codes)
    ∙ codes-valid (column_validity column) (stored_values column) in
    found-codes c.number_places.result c.args.adds _
    (with_null c.in-Numbers.null (number_codes c.in-Numbers.numbers))
    (with_null c.number_places.new.null (number_codes c.number_places.new.seen)) _ _
    (codes ∙ one-codes places t.rows (values column) form.0 c.column-column.ensures.values)
    (ap codes_in c.in-Numbers.is) c.number_places.ensures.finds

pub returns-in_ok-bits-in-Numbers-clause-cells : goal.returns-in_ok-bits-in-Numbers-clause-cells
returns-in_ok-bits-in-Numbers-clause-cells c =
    let places = c.args.places.now in
    let t = c.args.chunk.now in
    let column = c.column-column.result.now in
    let kind = plain_type (column_type column) in
    let seen = subst (IsSeenFor (plain_types_at t.types places)) c.in-Numbers.is c.requires.form in
    let form = one-form t.types places false seen.0 seen.1 in
    let lt : 0 < length places = omega (arith, form.0) in
    let cells : All (IsCell kind) (values column) =
    All-from_recursion (IsCell kind) (values column) (cells-valid kind (column_validity column)
    (stored_values column) (recursion_from_All (IsCell kind) (stored_values column)
    c.in_ok-bits-in-Numbers.ensures.cells)) in
    on-ok c.number_places.result (one-keys t.types places t.rows (column_type column)
    (values column) form.0 c.column-column.ensures.kind (c.requires.within 0 0 lt)
    c.column-column.ensures.values cells)

pub returns-in-Texts-clause-places : goal.returns-in-Texts-clause-places
returns-in-Texts-clause-places c =
    let places = c.args.places.now in
    let t = c.args.chunk.now in
    let column = c.column-column-in-Texts.result.now in
    let seen = subst (IsSeenFor (plain_types_at t.types places)) c.in-Texts.is c.requires.form in
    let form = one-form t.types places true seen.0 seen.1 in
    let codes : valid_codes (option_map (λ v. v.now) c.validity.result)
    (map byte_code c.texts_of.result.now) ≡ map value_code (values column) =
    ap₂ valid_codes c.validity.ensures.is (text-codes c.texts_of.result.now
    ∙ ap (map value_code) (sym c.texts_of.ensures))
    ∙ codes-valid (column_validity column) (stored_values column) in
    found-places c.text_places.result c.args.adds _
    (with_null c.in-Texts.null (byte_codes c.in-Texts.texts))
    (with_null c.text_places.new.null (byte_codes c.text_places.new.seen)) _ _
    (codes ∙ one-codes places t.rows (values column) form.0 c.column-column-in-Texts.ensures.values)
    (ap codes_in c.in-Texts.is) c.text_places.ensures.finds

pub returns-in-Texts-clause-seen : goal.returns-in-Texts-clause-seen
returns-in-Texts-clause-seen c =
    let places = c.args.places.now in
    let t = c.args.chunk.now in
    let column = c.column-column-in-Texts.result.now in
    let seen = subst (IsSeenFor (plain_types_at t.types places)) c.in-Texts.is c.requires.form in
    let form = one-form t.types places true seen.0 seen.1 in
    let codes : valid_codes (option_map (λ v. v.now) c.validity.result)
    (map byte_code c.texts_of.result.now) ≡ map value_code (values column) =
    ap₂ valid_codes c.validity.ensures.is (text-codes c.texts_of.result.now
    ∙ ap (map value_code) (sym c.texts_of.ensures))
    ∙ codes-valid (column_validity column) (stored_values column) in
    found-codes c.text_places.result c.args.adds _
    (with_null c.in-Texts.null (byte_codes c.in-Texts.texts))
    (with_null c.text_places.new.null (byte_codes c.text_places.new.seen)) _ _
    (codes ∙ one-codes places t.rows (values column) form.0 c.column-column-in-Texts.ensures.values)
    (ap codes_in c.in-Texts.is) c.text_places.ensures.finds

pub returns-in-Texts-clause-cells : goal.returns-in-Texts-clause-cells
returns-in-Texts-clause-cells c =
    let places = c.args.places.now in
    let t = c.args.chunk.now in
    let column = c.column-column-in-Texts.result.now in
    let kind = plain_type (column_type column) in
    let seen = subst (IsSeenFor (plain_types_at t.types places)) c.in-Texts.is c.requires.form in
    let form = one-form t.types places true seen.0 seen.1 in
    let lt : 0 < length places = omega (arith, form.0) in
    let within = c.requires.within 0 0 lt in
    let text : is_text (column_type column) ≡ true = ap is_text
    (sym (kind-at t.types (first_key_column places) (column_type column)
    c.column-column-in-Texts.ensures.kind within)) ∙ form.1 in
    on-ok-more c.text_places.result (λ cells. one-keys t.types places t.rows (column_type column)
    (values column) form.0 c.column-column-in-Texts.ensures.kind within
    c.column-column-in-Texts.ensures.values
    (All-from_recursion (IsCell kind) (values column) (cells-valid kind (column_validity column)
    (stored_values column) (recursion_from_All (IsCell kind) (stored_values column)
    (subst (All (IsCell kind)) (sym c.texts_of.ensures)
    (text-cells kind c.texts_of.result.now text cells))))))
    c.text_places.ensures.cells

pub texts_of-requires : goal.texts_of-requires
texts_of-requires c =
    let places = c.args.places.now in
    let t = c.args.chunk.now in
    let seen = subst (IsSeenFor (plain_types_at t.types places)) c.in-Texts.is c.requires.form in
    let form = one-form t.types places true seen.0 seen.1 in
    let lt : 0 < length places = omega (arith, form.0) in
    ap is_text (sym (kind-at t.types (first_key_column places) _
    c.column-column-in-Texts.ensures.kind (c.requires.within 0 0 lt))) ∙ form.1

pub bits_of-requires : goal.bits_of-requires
bits_of-requires c =
    let places = c.args.places.now in
    let t = c.args.chunk.now in
    let seen = subst (IsSeenFor (plain_types_at t.types places)) c.in-Numbers.is c.requires.form in
    let form = one-form t.types places false seen.0 seen.1 in
    let lt : 0 < length places = omega (arith, form.0) in
    ap is_text (sym (kind-at t.types (first_key_column places) _
    c.column-column.ensures.kind (c.requires.within 0 0 lt))) ∙ form.1
