-- By what the test is held against.
use Rattle.std.proofs.Common.{◌≡◌, ℕ, pos, refl, None, Some, rules, to_z, of_z, w64}
use Rattle.std.specs.Option.{option_and, unwrap_or}
use Rattle.declare.specs.declared.Operator.{Operator}
use Rattle.declare.specs.Types.{Operand}
use Rattle.declare.specs.Comparisons.{holds}
use Rattle.judge.specs.Checks.{check_for}
use Rattle.judge.proofs.check.check_for.Goals as goal

made : (place : ℕ) (o : Operator) (v : Operand) → record { place = place; against = unwrap_or v (pos 0); below = holds o (Some (pos 0)) (option_and v (Some (pos 1))); equal = holds o (Some (pos 0)) (option_and v (Some (pos 0))); above = holds o (Some (pos 1)) (option_and v (Some (pos 0))) } ≡ check_for place o v
unfolding check_for holds
made place o None = refl
made place o (Some y) = refl

pub returns : goal.returns
returns c =
    let y : to_z w64 (of_z w64 c.unwrap_or.result) ≡ c.unwrap_or.result = search rules in
    rw (y, c.unwrap_or.ensures, c.holds.ensures, c.and.ensures, c.holds-2.ensures, c.and-2.ensures, c.holds-3.ensures, c.and-3.ensures)
    (made c.args.place c.args.operator c.args.against)
