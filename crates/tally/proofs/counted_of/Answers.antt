-- By the totals' answer.
use Rattle.tally.proofs.Sums.{counts_causes}
use Rattle.tally.proofs.counted_of.Goals as goal

pub invariant_of-result : goal.invariant_of-result
invariant_of-result c = record { causes = counts_causes _ _ _ c.totals_of.ensures }
