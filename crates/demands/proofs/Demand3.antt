-- The claim over a list of calls, and the exactness of early verdicts for the course they come to.
use mathlib.Core.Path.{◌≡◌, refl, sym, ap, ◌∙◌}
use mathlib.Core.Bool.{Bool, true, false}
use mathlib.Core.List.{List, map}
use Prim.Native.Nat.{ℕ, zero, suc, ◌≤◌, ◌<◌, zero-le}
use native.Mathlib.Omega.{arith}
use borrow.Author.Tests.{leb-true, leb-false}
use lib.Dec.{leb}
use lib.ListN.{length}
use Rattle.declare.specs.declared.Event.{Event}
use Rattle.declare.specs.declared.Rule.{Rule}
use Rattle.declare.specs.declared.Table.{Table}
use Rattle.declare.specs.Verdicts.{verdict}
use Rattle.line.specs.Texts.{All}
use Rattle.rule_text.specs.Rules.{rules_text_of}
use Rattle.declare.specs.Overall.{is_overall}
use Rattle.declare.specs.Rules.{rule_at, rules_of, is_overall_rule, valid_table}
use Rattle.declare.specs.Answers.{◌>>◌, require}
use Rattle.declare.specs.Steps.{Cycle, Call, course, taken}
use Rattle.declare.specs.Continuations.{Course}
use Rattle.declare.specs.Limits.{most_rules}
use Rattle.declare.specs.Slots.{event_slots}
use Rattle.declare.proofs.Booleans.{and₂}
use Rattle.declare.proofs.Steps.{cycle_of_taken}
use Rattle.declare.proofs.Tables.{rules_within, rule_valid, table_slots, table_valid}
use Rattle.standings.specs.Places.{zero_in}
use Rattle.standings.specs.Totals.{positions_of, totals_by}
use Rattle.standings.proofs.Places.{from_one}
use Rattle.standings.proofs.Same.{same_cells, same_overall}
use Rattle.run.specs.declared.Run.{Run}
use Rattle.run.specs.Records.{with_clock, standing_at, valid_run}
use Rattle.run.specs.Close.{closed_run, finished_run}
use Rattle.run.specs.Queries.{is_position, standing_of, totals_of}
use Rattle.run.specs.Grown.{grown, running, finished, RunOf, Answers}
use Rattle.run.proofs.Places.{overall_rule, no_rule_lem, zero_overall}
use Rattle.run.proofs.Answered.{totals_counted, position_within}
use Rattle.run.proofs.Grown.{every_calls, finished_run_lem}
use Rattle.cycle_text.specs.Written.{events_text}
use Rattle.cycle_text.proofs.RoundTrips.{round_trips as cycle-trips}
use Rattle.rule_text.specs.Written.{ValidRules, rules_text, canonical, rewritten}
use Rattle.rule_text.proofs.RoundTrips.{valid_rules, round_trips as rules-trips}
use Rattle.cycle_text.proofs.Lengths.{written_bytes as cycle-bytes}
use Rattle.rule_text.proofs.Lengths.{written_bytes as rules-bytes}
use Rattle.rule_text.proofs.Canonical.{canonical_verdict}
use Rattle.writer.specs.Writer.{rules_bytes, cycle_bytes}
use Rattle.notebook.specs.Notebook.{read_as, notebook_of}
use Rattle.notebook.proofs.Tables.{same_count, canonical_rule}
use Rattle.notebook.proofs.Replies.{accepted_texts_lem}
use Rattle.demands.proofs.Early.{early_at}
use Rattle.demands.specs.Demand3.{EarlyVerdicts, Bytes, ReadBack, EveryTable}

early : (t : Table) (c : Course) (r : Run) → length t.rules ≡ most_rules → valid_table t ≡ true → Cycle c.events → Answers t c.events (running t c) r → EarlyVerdicts t c r
early t c r slots valid cycle answers k i w =
    early_at (rule_at t k) c r k i (rule_valid t slots valid k w.rule_low w.rule_high) cycle (position_within t (length c.events) k i w.position)
    (answers.standing k i w.rule_low w.rule_high w.position)

-- closed runs by their events
closes_alike : (t : Table) (calls others : List Call) → length t.rules ≡ most_rules → valid_table t ≡ true → taken others ≡ taken calls → closed_run (grown t others) ≡ with_clock (closed_run (grown t calls)) (course others).clock
closes_alike t calls others slots valid same =
    (every_calls t others slots valid).closed_once
    ∙ ap (λ (es : List Event). with_clock (finished_run t (length es) (event_slots es)) (course others).clock) same
    ∙ ap (λ (r : Run). with_clock r (course others).clock) (sym (every_calls t calls slots valid).closed_once)

-- ---- the notebook

-- two valid runs with as many rules and events, the same rules about the cycle and the same cells
-- answer alike
record Alike (q r : Run) : Type 0 where
  left : valid_run q ≡ true
  right : valid_run r ≡ true
  rules : q.table.count ≡ r.table.count
  about : (k : ℕ) → 1 ≤ k → is_overall_rule q.table k ≡ is_overall_rule r.table k
  events : q.count ≡ r.count
  cells : q.cells ≡ r.cells
  overall : q.overall ≡ r.overall

-- there is no rule 0
module _ (q r : Run) (s : Alike q r) where
  same_standing : (k i : ℕ) → standing_of q k i ≡ standing_of r k i
  unfolding standing_of is_position zero_in ◌>>◌ require
  same_standing zero i = rw (s.left, s.right) refl
  same_standing (suc k) i = rw (s.left, s.right, s.about (suc k) (omega arith), s.rules, s.events, s.cells, s.overall)

  same_totals_lem : (k : ℕ) → totals_of q k ≡ totals_of r k
  unfolding totals_by positions_of zero_in ◌>>◌ require
  same_totals_lem zero = rw (totals_counted q 0, totals_counted r 0) (rw (s.left, s.right) refl)
  same_totals_lem (suc k) =
      rw (totals_counted q (suc k), totals_counted r (suc k))
      (rw (s.left, s.right, s.about (suc k) (omega arith), s.rules, s.events, s.cells, s.overall))

module _ (t : Table) (calls : List Call) (slots : length t.rules ≡ most_rules) (valid : valid_table t ≡ true) where
  abbrev es : List Event
  es = taken calls

  abbrev u : Table
  u = rewritten t

  few : t.count ≤ most_rules
  few = rules_within t valid

  cycle : Cycle es
  cycle = cycle_of_taken calls

  read_rules_lem : rules_text_of (rules_text (rules_of t)) ≡ All (map canonical (rules_of t))
  read_rules_lem = rules-trips.read (rules_of t) (valid_rules t valid)

  rules_text_lem : Bytes rules_bytes (rules_text (rules_of t))
  rules_text_lem =
      let s = valid_rules t valid in
      record { bytes = rules-bytes.bytes (rules_of t) s; few = omega (arith, rules-bytes.most (rules_of t) s, s.most) }

  cycle_text_lem : Bytes cycle_bytes (events_text es)
  cycle_text_lem = record { bytes = cycle-bytes.bytes es cycle; few = omega (arith, cycle-bytes.most es cycle, cycle.most) }

  rules_valid : ValidRules (map canonical (rules_of t))
  rules_valid = (rules-trips.valid (rules_text (rules_of t)) (map canonical (rules_of t)) read_rules_lem).0

  u_slots : length u.rules ≡ most_rules
  u_slots = table_slots (map canonical (rules_of t)) rules_valid.most

  u_valid : valid_table u ≡ true
  u_valid = table_valid (map canonical (rules_of t)) rules_valid.most rules_valid.valid

  abbrev read : Run
  read = finished_run u (length es) (event_slots es)

  reply : notebook_of (rules_text (rules_of t)) (events_text es) ≡ read_as read
  reply =
      accepted_texts_lem (rules_text (rules_of t)) (events_text es) (map canonical (rules_of t)) es read_rules_lem (cycle-trips.read es cycle)

  read_run : RunOf u (record { events = es; clock = 0 }) true (finished u es) read
  read_run = finished_run_lem u u_slots u_valid es cycle

  closed : RunOf t (course calls) true (finished t es) (closed_run (grown t calls))
  closed = (every_calls t calls slots valid).closed_run_lem

  count : u.count ≡ t.count
  count = same_count t slots few

  alike : (k i : ℕ) → 1 ≤ k → k ≤ t.count → i ≤ length es → standing_at read k i ≡ standing_at (closed_run (grown t calls)) k i
  alike k i a b d =
      read_run.standings k i a (rw count b) d
      ∙ ap (λ (rule : Rule). verdict rule es i) (canonical_rule t slots few k a b)
      ∙ canonical_verdict (rule_at t k) es i
      ∙ sym (closed.standings k i a b d)

  cells : read.cells ≡ (closed_run (grown t calls)).cells
  cells =
      same_cells t.count (length es) read.cells (closed_run (grown t calls)).cells
      (record { size = read_run.cells; idle = λ j h e. read_run.idle j h (rw count e) })
      (record { size = closed.cells; idle = closed.idle })
      (λ k i a b c d. sym (from_one _ _ i c) ∙ alike k i a b d ∙ from_one _ _ i c)

  -- the same rules are about the cycle
  same_rule : (k : ℕ) → 1 ≤ k → is_overall_rule u k ≡ is_overall_rule t k
  same_rule k a = go (leb k t.count) refl
    where
      go : (b : Bool) → leb k t.count ≡ b → is_overall_rule u k ≡ is_overall_rule t k
      go true e =
          let l : k ≤ t.count = leb-true k t.count e in
          overall_rule u k (rw count l)
          ∙ unfold canonical in ap (λ (rule : Rule). is_overall rule.code) (canonical_rule t slots few k a l)
          ∙ sym (overall_rule t k l)
      go false e =
          let l : t.count < k = leb-false k t.count e in
          no_rule_lem u k (rw count l) ∙ sym (no_rule_lem t k l)

  overall : read.overall ≡ (closed_run (grown t calls)).overall
  overall =
      same_overall (is_overall_rule t) read.overall (closed_run (grown t calls)).overall read_run.overall closed.overall
      (λ k a b o. read_run.others k a b (same_rule k a ∙ o)) closed.others
      (λ k a b o.
      sym (zero_overall read k (rw read_run.table (same_rule k a ∙ o))) ∙ alike k 0 a (unfold is_overall_rule in leb-true k t.count (and₂ o).0) zero-le ∙ zero_overall (closed_run (grown t calls)) k (rw closed.table o))

  same : Alike read (closed_run (grown t calls))
  same =
      record {
        left = read_run.valid;
        right = closed.valid;
        rules = rw (read_run.table, closed.table) count;
        about = λ k a. rw (read_run.table, closed.table) (same_rule k a);
        events = read_run.count ∙ sym closed.count;
        cells = cells;
        overall = overall;
      }

  notebook : ReadBack t calls read
  notebook =
      record {
        rules_text_lem = rules_text_lem;
        cycle_text_lem = cycle_text_lem;
        reply = reply;
        run = read_run;
        cells = cells;
        overall = overall;
        standing = same_standing read (closed_run (grown t calls)) same;
        totals = same_totals_lem read (closed_run (grown t calls)) same;
      }

pub demand3 : EveryTable
demand3 t calls slots valid =
    record {
      run = every_calls t calls slots valid;
      early = early t (course calls) (grown t calls) slots valid (cycle_of_taken calls) (every_calls t calls slots valid).answers;
      alike = λ others same. closes_alike t calls others slots valid same;
      notebook = (read t calls slots valid, notebook t calls slots valid);
    }
