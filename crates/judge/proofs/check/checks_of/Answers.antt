-- One check a test.
use Rattle.std.proofs.Common.{◌≡◌, length, rules}
use Rattle.judge.specs.Checks.{check_of}
use Rattle.judge.proofs.Checks.{four_mapped}
use Rattle.judge.proofs.check.checks_of.Goals as goal

pub returns : goal.returns
returns c =
    let four : length c.args.tests.items ≡ 4 = search rules in
    rw (c.check_of.ensures, c.check_of-2.ensures, c.check_of-3.ensures, c.check_of-4.ensures)
    (four_mapped check_of _ c.args.tests.count c.args.tests.items four)
