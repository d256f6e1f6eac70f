-- The loop has put the lines of the positions passed, and has their totals, with position 0 first.
use mathlib.Core.Path.{◌≡◌, refl, ap, ◌∙◌}
use Prim.Native.Nat.{◌+◌}
use lib.ListN.{length}
use native.Mathlib.Omega.{arith}
use Rattle.standings.specs.Places.{standing_from, with_zero}
use Rattle.standings.specs.Totals.{with_standing}
use Rattle.standings.proofs.Counts.{totals_first, next_place, totals_again}
use Rattle.printing.proofs.Lines.{no_position, next_position, then_totals}
use Rattle.printing.proofs.rules.put_events.Goals as goal

pub loop-p-init : goal.loop-p-init
unfolding with_zero
loop-p-init c =
    let a = c.args in
    record {
      same_reference = refl;
      put = no_position _ _ _ _;
      counted = c.with_standing-totals.ensures ∙ ap (λ t. with_standing t a.zero) c.no_totals.ensures ∙ totals_first (with_zero a.zero (standing_from a.row.now 0));
    }

pub loop-p-preserved : goal.loop-p-preserved
loop-p-preserved c =
    let l = c.loop-p in
    let z = c.args.zero in
    let row = c.args.row.now in
    let e : 0 + l.p ≡ l.p = omega arith in
    record {
      same_reference = c.put_position.ensures.same_reference ∙ l.invariant.same_reference;
      put = next_position _ _ l.p _ (rw e at (next_place z row 0 l.p)) l.invariant.put c.put_position.ensures.puts;
      counted = totals_again z row 0 l.p (omega arith) l.invariant.counted (rw e refl) c.with_standing-totals-in-loop-p.ensures;
    }

pub returns : goal.returns
returns c =
    let l = c.loop-p in
    let all : l.p ≡ length c.args.row.now = omega arith in
    record {
      same_reference = c.put_total.ensures.same_reference ∙ l.invariant.same_reference;
      puts = rw (← all) (then_totals _ _ l.p _ l.invariant.counted l.invariant.put c.put_total.ensures.puts);
    }
