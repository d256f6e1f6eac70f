-- What the definitions give is what is expected, in every list of cases; proved as `checked`.
use Rattle.std.specs.Prelude.{true, false, ◌≡◌, List, [], ◌∷◌, map}
use Rattle.declare.specs.Lists.{all, any}
use Rattle.declare.specs.Refusals.{has_line}
use Rattle.declare.specs.EdgeCycles.{Case, edge_cycles, listing}
use Rattle.declare.specs.TemplateCases.{activations, windows, twelve}
use Rattle.declare.specs.TargetCases.{targets}
use Rattle.declare.specs.OverallCases.{starts, overalls}
use Rattle.declare.specs.ConditionCases.{Check, comparisons, conditions}
use Rattle.declare.specs.BandCases.{bands, banded}
use Rattle.declare.specs.LimitCases.{limits, without_line, with_line}
use Rattle.declare.specs.CallCases.{offers, answers, mixed, overtaken, taken_times, clock_after, lapses}

abbrev pub AsExpected : List Case → Type 0
AsExpected cases = map (λ c. c.found) cases ≡ map (λ c. c.expected) cases

abbrev pub ChecksAsExpected : List Check → Type 0
ChecksAsExpected checks = map (λ c. c.found) checks ≡ map (λ c. c.expected) checks

pub record Checked : Type 0 where
  pub edge_cycles_lem : AsExpected edge_cycles
  pub the_listing : AsExpected listing
  pub of_activations : AsExpected activations
  pub of_windows : AsExpected windows
  pub of_templates : AsExpected twelve
  pub of_targets : AsExpected targets
  pub of_starts : AsExpected starts
  pub of_overalls : AsExpected overalls
  pub of_comparisons : ChecksAsExpected comparisons
  pub of_conditions : ChecksAsExpected conditions
  pub of_bands : ChecksAsExpected bands
  pub of_banded : AsExpected banded
  pub of_limits : ChecksAsExpected limits
  pub of_numbers : (with_line ≡ 1 ∷ 2 ∷ 3 ∷ 4 ∷ 6 ∷ 7 ∷ 8 ∷ 12 ∷ 13 ∷ 16 ∷ 17 ∷ []) × (without_line ≡ 9 ∷ 10 ∷ 11 ∷ 14 ∷ 15 ∷ [])
  pub of_lines : (all has_line with_line ≡ true) × (any has_line without_line ≡ false)
  pub of_offers : offers ≡ answers
  pub of_mixed : (taken_times mixed ≡ 3 ∷ 3 ∷ 8 ∷ []) × (clock_after mixed ≡ 8)
  pub of_overtaken : (taken_times overtaken ≡ 9 ∷ []) × (clock_after overtaken ≡ 5)
  pub of_lapses : AsExpected lapses
