-- The templates about the cycle as such: existence 13, absence 14, choice 15, exclusive choice 16.
use Rattle.std.specs.Prelude.{Bool, true, false, not, cond, ◌&&◌, ◌||◌, ℕ, leb, eqb}
use Rattle.declare.specs.Types.{Overall, Existence, Absence, Choice, ExclusiveChoice}
use Rattle.declare.specs.Limits.{last_template, first_overall}

unfoldable pub is_overall : ℕ → Bool
is_overall code = leb first_overall code && leb code last_template

-- of such a code
unfoldable pub overall_of : ℕ → Overall
overall_of code = cond (eqb code 13) Existence (cond (eqb code 14) Absence (cond (eqb code 15) Choice ExclusiveChoice))

-- "for 13 and 14 the target activity is read, kept and not judged"
abbrev pub counts_target : Overall → Bool
counts_target Existence = false
counts_target Absence = false
counts_target Choice = true
counts_target ExclusiveChoice = true

-- what the template's formula says, by whether the activation activity and the target activity
-- occur
abbrev pub formula : Overall → Bool → Bool → Bool
formula Existence a b = a
formula Absence a b = not a
formula Choice a b = a || b
formula ExclusiveChoice a b = (a || b) && not (a && b)

-- and whether no further occurrence changes that
abbrev pub settled : Overall → Bool → Bool → Bool
settled Existence a b = a
settled Absence a b = a
settled Choice a b = a || b
settled ExclusiveChoice a b = a && b
