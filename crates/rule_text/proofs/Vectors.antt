-- Comparisons, conditions and whole rules texts, by computation over the definitions: what is
-- accepted, each refusal, and the order of the checks.
use Rattle.std.specs.Prelude.{None, Some}
use mathlib.Core.Path.{◌≡◌, refl}
use mathlib.Core.Bool.{true, false}
use mathlib.Core.List.{List, [], ◌∷◌, ◌++◌}
use Prim.Native.Nat.{ℕ}
use Prim.Native.String.{String}
use lib.IntN.{ℤ, pos, negsuc}
use lib.ListN.{length, replicate}
use Rattle.declare.specs.Conditions.{comparisons_of}
use Rattle.declare.specs.Overall.{is_overall, overall_of}
use Rattle.declare.specs.Rules.{fits_template, no_comparison, no_condition, no_rule}
use Rattle.number.specs.Number.{digit, digits, none, zero_alone, positive, negative, natural_form, integer_form, dash, value_from, value_of, integer_value, in_natural_range, natural_of, in_signed_range, integer_of}
use Rattle.number.specs.Written.{digits_in, digits_of, integer_text}
use Rattle.number.proofs.Quoted.{bytes, repeated, Case, ◌gives◌, Checked}
use Rattle.line.specs.Fields.{onto, split, each_after, joined}
use Rattle.declare.specs.Answers.{Answer, accepted, refused, ◌>>=◌, ◌>>◌, require}
use Rattle.line.specs.Values.{number_field}
use Rattle.line.specs.Texts.{Records, All, Stop, line_after, continued, lines_of, text_of, written_line, written_text}
use Rattle.rule_text.specs.Types.{Operator, Equal, NotEqual, Less, AtMost, Greater, AtLeast, Reference, Constant, Activation, Comparison, Condition, End, Rule}
use Rattle.rule_text.specs.Comparisons.{reading_digit, digit_of, operator_of, k_number, k_answer, k_field, constant_field, activation_field, reference_field, comparison_field}
use Rattle.rule_text.specs.Conditions.{comparisons_after, condition_of, comparisons_field, condition_field}
use Rattle.rule_text.specs.Rules.{end_field, is_above, checked_rule, rule_of, in_table, rule_after, rules_text_of}
use Rattle.rule_text.specs.Written.{reference_text, comparison_text, comparisons_text, condition_text, end_text, rule_fields, rules_text}
use Rattle.declare.specs.Limits.{most_rules}
use Rattle.declare.specs.Slots.{padded}

-- ---- comparisons

abbrev compares : ℕ → Operator → Reference → Comparison
compares reading operator reference = record { reading = reading; operator = operator; reference = reference }

-- in an activation condition
abbrev constants : List (Case (Answer Comparison))
constants =
    "1=5" gives accepted (compares 1 Equal (Constant (pos 5)))
    ∷ "2!-7" gives accepted (compares 2 NotEqual (Constant (negsuc 6)))
    ∷ "3<0" gives accepted (compares 3 Less (Constant (pos 0)))
    ∷ "4l2147483647" gives accepted (compares 4 AtMost (Constant (pos 2147483647)))
    ∷ "1>-2147483648" gives accepted (compares 1 Greater (Constant (negsuc 2147483647)))
    ∷ "2g10" gives accepted (compares 2 AtLeast (Constant (pos 10)))
    -- not of the form
    ∷ "" gives refused 4
    ∷ "1" gives refused 4
    ∷ "1=" gives refused 4
    ∷ "0=1" gives refused 4
    ∷ "5=1" gives refused 4
    ∷ "11=5" gives refused 4
    ∷ "=1" gives refused 4
    ∷ "1~5" gives refused 4
    ∷ "1!=5" gives refused 4
    ∷ "1<=5" gives refused 4
    ∷ "1=-" gives refused 4
    ∷ "1=-0" gives refused 4
    ∷ "1=05" gives refused 4
    ∷ "1=+1" gives refused 4
    ∷ "1= 5" gives refused 4
    ∷ "1=5\r" gives refused 4
    ∷ "-" gives refused 4
    -- k outside its range, of any length
    ∷ "1=2147483648" gives refused 3
    ∷ "1=-2147483649" gives refused 3
    ∷ "1=999999999999999999999999999999999999999999999999999999999999" gives refused 3
    -- `@`, whatever k is
    ∷ "1=@1:0" gives refused 4
    ∷ "1=@1:99999999999" gives refused 4
    ∷ []

-- in a correlation
abbrev references : List (Case (Answer Comparison))
references =
    "1=5" gives accepted (compares 1 Equal (Constant (pos 5)))
    ∷ "1=@1:0" gives accepted (compares 1 Equal (Activation 1 (pos 0)))
    ∷ "4g@2:-5" gives accepted (compares 4 AtLeast (Activation 2 (negsuc 4)))
    ∷ "3<@4:2147483647" gives accepted (compares 3 Less (Activation 4 (pos 2147483647)))
    ∷ "1=@" gives refused 4
    ∷ "1=@1" gives refused 4
    ∷ "1=@1:" gives refused 4
    ∷ "1=@1:-" gives refused 4
    ∷ "1=@1:x" gives refused 4
    ∷ "1=@1;0" gives refused 4
    ∷ "1=@:0" gives refused 4
    ∷ "1=@0:0" gives refused 4
    ∷ "1=@5:0" gives refused 4
    ∷ "1=@11:0" gives refused 4
    ∷ "1=@1:2147483648" gives refused 3
    ∷ "1=@1:-99999999999" gives refused 3
    -- the form before the range
    ∷ "1=@5:99999999999" gives refused 4
    ∷ "5=@1:99999999999" gives refused 4
    ∷ []

-- ---- conditions

abbrev equals : ℕ → ℕ → Comparison
equals reading k = compares reading Equal (Constant (pos k))

abbrev conditions : List (Case (Answer Condition))
conditions =
    "-" gives accepted (record { count = 0; first = equals 0 0; second = equals 0 0; third = equals 0 0; fourth = equals 0 0 })
    ∷ "1=5" gives accepted (record { count = 1; first = equals 1 5; second = equals 0 0; third = equals 0 0; fourth = equals 0 0 })
    -- in text order
    ∷ "4=1,3=2,2=3,1=4" gives accepted (record { count = 4; first = equals 4 1; second = equals 3 2; third = equals 2 3; fourth = equals 1 4 })
    -- each part is a comparison
    ∷ "" gives refused 4
    ∷ "--" gives refused 4
    ∷ "," gives refused 4
    ∷ "1=5," gives refused 4
    ∷ ",1=5" gives refused 4
    ∷ "1=5,,2=5" gives refused 4
    ∷ "1=5,-" gives refused 4
    ∷ "-,1=5" gives refused 4
    -- on any readings
    ∷ "1>5,1<7" gives accepted (record { count = 2; first = compares 1 Greater (Constant (pos 5)); second = compares 1 Less (Constant (pos 7)); third = equals 0 0; fourth = equals 0 0 })
    ∷ "2=1,2=1,3=2,2=1" gives accepted (record { count = 4; first = equals 2 1; second = equals 2 1; third = equals 3 2; fourth = equals 2 1 })
    -- comparison by comparison 4, 3
    ∷ "1=5,1=x" gives refused 4
    ∷ "1=5,1=99999999999" gives refused 3
    ∷ "1=x,2=99999999999" gives refused 4
    ∷ "1=99999999999,x" gives refused 3
    -- and 17: a fifth, of the form and in range, whatever follows it
    ∷ "1=1,2=1,3=1,4=1,1=1" gives refused 17
    ∷ "1=1,1=1,1=1,1=1,1=1" gives refused 17
    ∷ "1=1,2=1,3=1,4=1,4=1,zz" gives refused 17
    ∷ "1=1,2=1,3=1,4=1,4=1,1=99999999999" gives refused 17
    ∷ "1=1,2=1,3=1,4=1,5=1" gives refused 4
    ∷ "1=1,2=1,3=1,4=1," gives refused 4
    ∷ "1=1,2=1,3=1,4=1,2=99999999999" gives refused 3
    ∷ "1=1,2=x,3=1,4=1,1=1" gives refused 4
    ∷ "1=1,2=1,3=1,4=99999999999,1=1" gives refused 3
    ∷ []

-- ---- texts

abbrev rule : ℕ → ℕ → ℕ → ℕ → End → Condition → Rule
rule code activation target a b correlation =
    record { code = code; activation = activation; target = target; window = record { from = a; until = b }; condition = condition_of []; correlation = correlation }

-- document 01's listing
abbrev listing : List Rule
listing =
    rule 2 1 2 0 (Some 500) (condition_of []) ∷ rule 6 3 2 0 None (condition_of (compares 1 Equal (Activation 1 (pos 0)) ∷ [])) ∷ []

abbrev listing_text : List ℕ
listing_text = bytes "2\t1\t2\t0\t500\t-\t-\n6\t3\t2\t0\t-\t-\t1=@1:0\n"

-- no line that is accepted has more bytes
abbrev longest_text : String
longest_text =
    "12\t64\t64\t4294967294\t4294967295\t1=-2147483648,2=-2147483648,3=-2147483648,4=-2147483648\t1=@1:-2147483648,2=@1:-2147483648,3=@1:-2147483648,4=@1:-2147483648\n"

-- readings 1 to 4
abbrev each : Reference → Condition
each k = condition_of (compares 1 Equal k ∷ compares 2 Equal k ∷ compares 3 Equal k ∷ compares 4 Equal k ∷ [])

abbrev longest : Rule
longest =
    let lowest : ℤ = negsuc 2147483647 in
    record {
      code = 12;
      activation = 64;
      target = 64;
      window = record { from = 4294967294; until = Some 4294967295 };
      condition = each (Constant lowest);
      correlation = each (Activation 1 lowest);
    }

abbrev accepted_texts : List (Case (Records Rule))
accepted_texts =
    "" gives All []
    ∷ "1\t1\t1\t0\t1\t-\t-\n" gives All (rule 1 1 1 0 (Some 1) (condition_of []) ∷ [])
    ∷ "12\t64\t64\t4294967294\t4294967295\t-\t-\n" gives All (rule 12 64 64 4294967294 (Some 4294967295) (condition_of []) ∷ [])
    ∷ "7\t3\t3\t4294967295\t-\t-\t-\n" gives All (rule 7 3 3 4294967295 None (condition_of []) ∷ [])
    ∷ longest_text gives All (longest ∷ [])
    -- rules about the cycle; under 13 and 14 the activities may be equal
    ∷ "13\t1\t1\t0\t-\t-\t-\n" gives All (rule 13 1 1 0 None (condition_of []) ∷ [])
    ∷ "14\t64\t2\t10\t20\t-\t-\n" gives All (rule 14 64 2 10 (Some 20) (condition_of []) ∷ [])
    ∷ "15\t1\t2\t0\t-\t-\t-\n16\t2\t1\t0\t-\t-\t-\n" gives All (rule 15 1 2 0 None (condition_of []) ∷ rule 16 2 1 0 None (condition_of []) ∷ [])
    ∷ []

-- each cause, with its line
abbrev refused_texts : List (Case (Records Rule))
refused_texts =
    -- an empty line is one empty field; a tab at the end of a line leaves an empty field behind it
    "\n" gives Stop 1 1
    ∷ "1\t1\t1\t0\t-\t-\n" gives Stop 1 1
    ∷ "1\t1\t1\t0\t-\t-\t-\t\n" gives Stop 1 1
    ∷ "1\t1\t1\t0\t-\t-\t-\n\n" gives Stop 1 2
    -- a sign, a zero before digits, no digits; `-` where no end stands
    ∷ "-5\t1\t1\t0\t-\t-\t-\n" gives Stop 2 1
    ∷ "01\t1\t1\t0\t-\t-\t-\n" gives Stop 2 1
    ∷ "\t1\t1\t0\t-\t-\t-\n" gives Stop 2 1
    ∷ "-\t1\t1\t0\t-\t-\t-\n" gives Stop 2 1
    ∷ "1\t-\t1\t0\t-\t-\t-\n" gives Stop 2 1
    ∷ "1\t1\t+1\t0\t-\t-\t-\n" gives Stop 2 1
    ∷ "1\t1\t1\t-\t-\t-\t-\n" gives Stop 2 1
    ∷ "1\t1\t1\t-5\t-\t-\t-\n" gives Stop 2 1
    ∷ "1\t1\t1\t0\t\t-\t-\n" gives Stop 2 1
    ∷ "1\t1\t1\t0\t-0\t-\t-\n" gives Stop 2 1
    ∷ "1\t1\t1\t0\t-5\t-\t-\n" gives Stop 2 1
    ∷ "1\t1\t1\t0\t--\t-\t-\n" gives Stop 2 1
    -- the ends of the ranges; numbers of any length
    ∷ "0\t1\t1\t0\t-\t-\t-\n" gives Stop 3 1
    ∷ "17\t1\t1\t0\t-\t-\t-\n" gives Stop 3 1
    ∷ "1\t0\t1\t0\t-\t-\t-\n" gives Stop 3 1
    ∷ "1\t65\t1\t0\t-\t-\t-\n" gives Stop 3 1
    ∷ "1\t1\t65\t0\t-\t-\t-\n" gives Stop 3 1
    ∷ "257\t1\t1\t0\t-\t-\t-\n" gives Stop 3 1
    ∷ "1\t1\t1\t4294967296\t-\t-\t-\n" gives Stop 3 1
    ∷ "1\t1\t1\t0\t0\t-\t-\n" gives Stop 3 1
    ∷ "1\t1\t1\t0\t4294967296\t-\t-\n" gives Stop 3 1
    ∷ "999999999999999999999999999999999999999999999999999999999999\t1\t1\t0\t-\t-\t-\n" gives Stop 3 1
    ∷ "1\t1\t1\t0\t-\t1=99999999999\t-\n" gives Stop 3 1
    -- an empty field is no condition, and CR is a byte of the last field
    ∷ "1\t1\t1\t0\t-\t\t-\n" gives Stop 4 1
    ∷ "1\t1\t1\t0\t-\t-\t\n" gives Stop 4 1
    ∷ "1\t1\t1\t0\t-\t-\t-\r\n" gives Stop 4 1
    ∷ "1\t1\t1\t0\t-\t-\t1=5\r\n" gives Stop 4 1
    -- `@` in an activation condition
    ∷ "1\t1\t1\t0\t-\t1=@1:0\t-\n" gives Stop 4 1
    ∷ "1\t1\t1\t0\t-\t1=@1:99999999999\t-\n" gives Stop 4 1
    -- a fifth comparison, in either condition
    ∷ "1\t1\t1\t0\t-\t1=1,1=2,1=3,1=4,1=5\t-\n" gives Stop 17 1
    ∷ "1\t1\t1\t0\t-\t-\t1=1,1=2,1=3,1=4,1=@1:0\n" gives Stop 17 1
    ∷ "1\t1\t1\t0\t-\t1=1\t1=1\n1\t1\t1\t0\t-\t-\t1=1,2=1,3=1,4=1,1=1\n" gives Stop 17 2
    ∷ "1\t1\t1\t5\t5\t-\t-\n" gives Stop 6 1
    ∷ "1\t1\t1\t0\t-\t-\t-\n1\t1\t1\t6\t5\t-\t-\n" gives Stop 6 2
    -- activities that both count and are equal; a correlation, `@` in it or not
    ∷ "15\t1\t1\t0\t-\t-\t-\n" gives Stop 16 1
    ∷ "16\t64\t64\t0\t-\t-\t-\n" gives Stop 16 1
    ∷ "13\t1\t2\t0\t-\t-\t1=5\n" gives Stop 16 1
    ∷ "14\t1\t2\t0\t-\t-\t1=@1:0\n" gives Stop 16 1
    ∷ "15\t1\t2\t0\t-\t-\t1=5,2=5\n" gives Stop 16 1
    ∷ "1\t1\t1\t0\t-\t-\t1=5\n16\t1\t2\t0\t-\t-\t4=5\n" gives Stop 16 2
    ∷ "1\t1\t1\t0\t-\t-\t-" gives Stop 12 1
    ∷ "1\t1\t1\t0\t-\t-\t-\n1\t1\t1\t0\t-\t-\t-" gives Stop 12 2
    ∷ []

-- two faults in one text
abbrev ordered : List (Case (Records Rule))
ordered =
    -- 12 before 1 and all else of the line
    "1" gives Stop 12 1
    ∷ "x\t1\t1\t0\t-\t-\t-" gives Stop 12 1
    ∷ "1\t1\t1\t5\t5\tzz\t-" gives Stop 12 1
    -- 1 before 2
    ∷ "x\t1\n" gives Stop 1 1
    -- field by field, so that 3 of a field comes before 2 of the next
    ∷ "17\tx\t1\t0\t-\t-\t-\n" gives Stop 3 1
    ∷ "x\t65\t1\t0\t-\t-\t-\n" gives Stop 2 1
    ∷ "1\t65\tx\t0\t-\t-\t-\n" gives Stop 3 1
    ∷ "1\t1\tx\t4294967296\t-\t-\t-\n" gives Stop 2 1
    ∷ "1\t1\t1\t4294967296\tx\t-\t-\n" gives Stop 3 1
    ∷ "1\t1\t1\tx\t0\t-\t-\n" gives Stop 2 1
    ∷ "1\t1\t1\t0\tx\tzz\t-\n" gives Stop 2 1
    ∷ "1\t1\t1\t0\t0\tzz\t-\n" gives Stop 3 1
    -- the activation condition before the correlation
    ∷ "1\t1\t1\t0\t-\t1=1,1=2,1=3,1=4,1=5\tzz\n" gives Stop 17 1
    ∷ "1\t1\t1\t0\t-\tzz\t1=99999999999\n" gives Stop 4 1
    ∷ "1\t1\t1\t0\t-\t1=99999999999\tzz\n" gives Stop 3 1
    -- all fields before 6, and b's 3 among them
    ∷ "1\t1\t1\t5\t5\tzz\t-\n" gives Stop 4 1
    ∷ "1\t1\t1\t5\t5\t-\tzz\n" gives Stop 4 1
    ∷ "1\t1\t1\t5\t5\t-\t1=99999999999\n" gives Stop 3 1
    ∷ "1\t1\t1\t5\t5\t-\t1=1,1=2,1=3,1=4,1=5\n" gives Stop 17 1
    ∷ "1\t1\t1\t5\t0\t-\t-\n" gives Stop 3 1
    -- all fields before 16, and 6 too
    ∷ "15\t1\t1\t0\t-\tzz\t-\n" gives Stop 4 1
    ∷ "13\t1\t1\t0\t-\t-\tzz\n" gives Stop 4 1
    ∷ "13\t1\t1\t0\t-\t-\t1=99999999999\n" gives Stop 3 1
    ∷ "13\t1\t1\t0\t-\t-\t1=1,1=2,1=3,1=4,1=5\n" gives Stop 17 1
    ∷ "15\t1\t1\t5\t5\t-\t-\n" gives Stop 6 1
    ∷ "13\t1\t1\t5\t5\t-\t1=5\n" gives Stop 6 1
    -- the first line that is refused
    ∷ "1\t1\t1\t5\t5\t-\t-\nx\n" gives Stop 6 1
    ∷ "\n1" gives Stop 1 1
    ∷ []

-- after 16 lines: 8 comes last in its line, and later lines are not read
abbrev full : List (Case (Records Rule))
full =
    "1\t1\t1\t0\t-\t-\t-\n" gives Stop 8 17
    ∷ "1\t1\t1\t0\t-\t-\t-\n\n" gives Stop 8 17
    ∷ "\n" gives Stop 1 17
    ∷ "x\t1\t1\t0\t-\t-\t-\n" gives Stop 2 17
    ∷ "17\t1\t1\t0\t-\t-\t-\n" gives Stop 3 17
    ∷ "1\t1\t1\t0\t-\tzz\t-\n" gives Stop 4 17
    ∷ "1\t1\t1\t0\t-\t1=1,1=2,1=3,1=4,1=5\t-\n" gives Stop 17 17
    ∷ "1\t1\t1\t5\t5\t-\t-\n" gives Stop 6 17
    ∷ "15\t1\t1\t0\t-\t-\t-\n" gives Stop 16 17
    ∷ "1\t1\t1\t0\t-\t-\t-" gives Stop 12 17
    ∷ "" gives All (replicate 16 (rule 1 1 1 0 None (condition_of [])))
    ∷ []

pub record Vectors : Type 0 where
  pub of_constants : Checked (comparison_field false) constants
  pub of_references : Checked (comparison_field true) references
  pub of_conditions : Checked (condition_field false) conditions
  pub listing_read : rules_text_of listing_text ≡ All listing
  pub listing_written : rules_text listing ≡ listing_text
  pub of_accepted : Checked rules_text_of accepted_texts
  pub of_longest : length (bytes longest_text) ≡ 155
  pub of_refused : Checked rules_text_of refused_texts
  pub of_ordered : Checked rules_text_of ordered
  pub of_full : Checked (λ s. rules_text_of (repeated 16 "1\t1\t1\t0\t-\t-\t-\n" ++ s)) full
  -- 16 slots
  pub of_slots : padded most_rules no_rule listing ≡ listing ++ replicate 14 no_rule

pub vectors : Vectors
unfolding comparisons_of no_comparison no_condition no_rule digit digits none zero_alone positive negative natural_form integer_form dash value_from value_of integer_value in_natural_range natural_of in_signed_range integer_of digits_in digits_of integer_text onto split each_after joined ◌>>=◌ ◌>>◌ require number_field line_after continued lines_of text_of written_line written_text reading_digit digit_of operator_of k_number k_answer k_field constant_field activation_field reference_field comparison_field comparisons_after condition_of comparisons_field condition_field is_overall overall_of fits_template end_field is_above checked_rule rule_of in_table rule_after rules_text_of reference_text comparison_text comparisons_text condition_text end_text rule_fields rules_text padded
vectors =
    record {
      of_constants = refl;
      of_references = refl;
      of_conditions = refl;
      listing_read = refl;
      listing_written = refl;
      of_accepted = refl;
      of_longest = refl;
      of_refused = refl;
      of_ordered = refl;
      of_full = refl;
      of_slots = refl;
    }
