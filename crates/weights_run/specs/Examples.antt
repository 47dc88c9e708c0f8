-- Whole outputs that the definitions compute to. Assumes nothing.
use Rattle.std.specs.Prelude.{◌≡◌, refl, []}
use Rattle.fixed.specs.Rules.{low_bits, kept, ratio_of, alpha_of, curvature_number, held, weight_number}
use Rattle.text.specs.Ascii.{ascii}
use Rattle.text.specs.Numeral.{is_digit, all_digits, value_of, is_numeral, number_of}
use Rattle.text.specs.Decimal.{decimal_in}
use Rattle.text.specs.Pieces.{onto_first, pieces, but_empty_last}
use Rattle.weights_line.specs.Rules.{counts_of, from_words, line_of, figures_of, answer_of}
use Rattle.weights_run.specs.Output.{row_of, text_of, answer_line, answers_to, output_of}

-- empty input gives the header alone
no_input : output_of [] ≡ ascii "curvature alpha weight\n"
unfolding output_of answers_to but_empty_last pieces
no_input = refl

-- a newline alone is one line, and an empty one is bad
one_newline : output_of (ascii "\n") ≡ ascii "curvature alpha weight\nbad\n"
unfolding output_of answers_to answer_line text_of answer_of line_of from_words but_empty_last pieces
one_newline = refl

-- four lines, without a final newline
four_lines : output_of (ascii "1 3 6000\n1 4 2667\n0 0 999\n5 2 0")
    ≡ ascii "curvature alpha weight\n-21846 3 655\n-32768 1 32768\n0 0 65536\nbad\n"
unfolding output_of answers_to answer_line text_of row_of answer_of figures_of line_of from_words counts_of number_of is_numeral all_digits is_digit value_of decimal_in but_empty_last pieces onto_first curvature_number ratio_of kept low_bits alpha_of weight_number held
four_lines = refl
