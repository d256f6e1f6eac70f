-- What the definitions give is what is expected, in every list of cases; proved as `checked` in
-- proofs/Cases.
use Rattle.run.specs.RecordCases.{AsExpected, codes, records, checked_totals}
use Rattle.run.specs.CallCases.{starts, zeros, judgements, call_numbers, clocks, lapses, closings, finished}
use Rattle.run.specs.QueryCases.{numbers, positions, counts, kept_totals}

pub record Checked : Type 0 where
  pub of_codes : AsExpected codes
  pub of_records : AsExpected records
  pub of_checked_totals : AsExpected checked_totals
  pub of_starts : AsExpected starts
  pub of_zeros : AsExpected zeros
  pub of_takes : AsExpected judgements
  pub of_call_numbers : AsExpected call_numbers
  pub of_clocks : AsExpected clocks
  pub of_lapses : AsExpected lapses
  pub of_closings : AsExpected closings
  pub of_finished : AsExpected finished
  pub of_numbers : AsExpected numbers
  pub of_positions : AsExpected positions
  pub of_totals_lem : AsExpected counts
  pub of_kept_totals : AsExpected kept_totals
