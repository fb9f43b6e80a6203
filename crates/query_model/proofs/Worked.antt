-- What a fact about a worked query unfolds, so that it computes.
use Rattle.csv.proofs.OnLiterals.{csv_on_literals}
use Rattle.query_model.proofs.Imports.{row_cmp, ⊤}
use Rattle.query_model.specs.Names.{bad_column, bad_line, bad_place, chosen, combined, count_up, distinct, good_rows, lines_from, operand_value, part_records, spelled_row, truth_of, type_of, value_of, wrapped, wrapped_sum}
use Rattle.std.specs.Fmt.{digits}
use Rattle.std.specs.Int.{int_wrap}
use Rattle.std.specs.Str.{chars, is_utf8}
use lib.Utf8.{encode}

unfoldable pub meaning_on_literals : ⊤
unfolding csv_on_literals is_utf8 chars encode lines_from bad_line int_wrap digits wrapped
    spelled_row part_records good_rows bad_column bad_place value_of type_of operand_value truth_of
    count_up chosen combined distinct row_cmp wrapped_sum
meaning_on_literals = tt
