-- The causes of each call on records are read off its definition, check by check. So are those of
-- each line of a text (Lines), and a reader goes from line to line (Texts).
use Rattle.std.specs.Prelude.{Result}
use mathlib.Core.Path.{◌≡◌, refl, sym, ap, ◌∙◌}
use mathlib.Core.Logic.{◌↔◌}
use mathlib.Core.Bool.{Bool, true, not, ◌&&◌}
use mathlib.Core.List.{List, [], ◌∷◌, ◌++◌}
use Prim.Native.Nat.{ℕ}
use native.Mathlib.Omega.{arith}
use lib.Dec.{leb, ltb}
use lib.ListN.{length}
use Rattle.declare.specs.declared.Event.{Event}
use Rattle.declare.specs.declared.Rule.{Rule}
use Rattle.declare.specs.declared.Table.{Table}
use Rattle.declare.specs.declared.Refusal.{Refusal}
use Rattle.declare.specs.declared.Refusal.TheVariants.{OutOfRange, TimeFalls, TooMany, WrongPhase, NotFound, InvalidRecord, TallyOverflow, BufferTooShort}
use Rattle.declare.specs.Lists.{any}
use Rattle.declare.specs.Limits.{most_events}
use Rattle.declare.specs.Events.{latest, well_formed}
use Rattle.declare.specs.Rules.{rules_of, valid_table}
use Rattle.declare.specs.Refusals.{number_of}
use Rattle.declare.specs.Answers.{Answer, accepted, refused, ◌>>=◌, after_call, answer_of}
use Rattle.declare.specs.Steps.{Call, takes, notices, admits}
use Rattle.declare.proofs.Lists.{leb_not, ltb_not}
use Rattle.declare.proofs.Answers.{of_of, required, after_refused}
use Rattle.standings.specs.declared.totals.Totals.{Totals}
use Rattle.run.specs.declared.Run.{Run}
use Rattle.run.specs.Records.{events_of, horizon_of, totals_in, valid_run}
use Rattle.run.specs.Start.{start_of}
use Rattle.run.specs.Calls.{call_of, take_of, notice_of}
use Rattle.run.specs.Close.{close_of}
use Rattle.run.specs.Queries.{one_of, is_position, standing_of, totals_of}
use Rattle.tally.specs.declared.Tally.{Tally}
use Rattle.tally.specs.declared.answer.Counted.{Counted}
use Rattle.tally.specs.Tally.{has_room_for, counts_of, with_totals, with_counted, absorb_of, tally_answer, Counts, Absorbs}
use Rattle.line.specs.Texts.{Records, All, Stop}
use Rattle.cycle_text.specs.Cycle.{event_after, cycle_text_of}
use Rattle.cycle_text.specs.Written.{events_text}
use Rattle.rule_text.specs.Rules.{rule_after, rules_text_of}
use Rattle.rule_text.specs.Written.{rules_text}
use Rattle.buffer.specs.Writes.{write_of, buffer_after, Writes}
use Rattle.printing.specs.Report.{report_of, printed_of}
use Rattle.line.proofs.Texts.{stop_all}
use Rattle.notebook.specs.declared.Text.{Text}
use Rattle.notebook.specs.declared.Text.TheVariants.{Rules, Cycle}
use Rattle.notebook.specs.Notebook.{read_as, not_read, notebook_of, finished_of, read_with}
use Rattle.demands.specs.Causes.{Cause, cause}
use Rattle.demands.specs.LineCauses.{event_causes, rule_causes}
use Rattle.demands.specs.Texts.{Reads}
use Rattle.demands.specs.Demand1.{Refuses, start_causes, take_causes, notice_causes, close_causes, standing_causes, totals_causes, absorb_causes, write_causes, ReadsBoth, Demand1}
use Rattle.demands.proofs.Chains.{Has, has_none, has_one, has_unless, has_only, has_then, has_after, refuses_first, accepts_none}
use Rattle.demands.proofs.Texts.{reads}
use Rattle.demands.proofs.Lines.{has_event, has_rule, event_numbers, event_numbered, rule_numbers, rule_numbered}

-- an answer with these causes
refuses : {A : Type 0} (answer : Answer A) (causes : List Cause) → Has answer causes → Refuses causes answer
refuses answer causes h = record { refuses = refuses_first answer causes h; accepts = accepts_none answer causes h }

-- ---- the calls on records

has_start : (t : Table) → Has (start_of t) (start_causes t)
unfolding start_of start_causes number_of
has_start t = has_one (valid_table t) InvalidRecord 11 _ [] refl (has_none _)

module _ (r : Run) where
  -- 11 and 9, then the causes of the call itself
  has_call : (call : Call) (causes : List Cause) → Has (admits r.count (horizon_of r) call) causes → Has (call_of r call) (cause InvalidRecord (not (valid_run r)) ∷ cause WrongPhase r.closed ∷ (causes ++ []))
  unfolding call_of number_of
  has_call call causes h =
      has_one (valid_run r) InvalidRecord 11 _ _ refl (has_unless r.closed WrongPhase 9 _ _ refl (has_after (admits r.count (horizon_of r) call) _ _ [] h (has_none _)))

  has_take : (e : Event) → Has (take_of r e) (take_causes r e)
  unfolding take_causes
  has_take e = has_call (takes e) _ has_admits
    where
      has_admits : Has (admits r.count (horizon_of r) (takes e)) (cause OutOfRange (not (well_formed e)) ∷ cause TimeFalls (ltb e.time (horizon_of r)) ∷ cause TooMany (leb most_events r.count) ∷ [])
      has_admits =
          unfold admits number_of in
          rw (leb_not (horizon_of r) e.time, ltb_not r.count most_events)
          (has_one (well_formed e) OutOfRange 3 _ _ refl (has_unless (ltb e.time (horizon_of r)) TimeFalls 7 _ _ refl (has_only (leb most_events r.count) TooMany 8 refl)))

  has_notice : (time : ℕ) → Has (notice_of r time) (notice_causes r time)
  unfolding notice_causes
  has_notice time = has_call (notices time) _ has_admits
    where
      has_admits : Has (admits r.count (horizon_of r) (notices time)) (cause OutOfRange (ltb latest time) ∷ cause TimeFalls (ltb time (horizon_of r)) ∷ [])
      has_admits =
          unfold admits number_of in
          rw (leb_not time latest, leb_not (horizon_of r) time)
          (has_unless (ltb latest time) OutOfRange 3 _ _ refl (has_only (ltb time (horizon_of r)) TimeFalls 7 refl))

  has_close : Has (close_of r) (close_causes r)
  unfolding close_of close_causes number_of
  has_close = has_one (valid_run r) InvalidRecord 11 _ _ refl (has_unless r.closed WrongPhase 9 _ [] refl (has_none _))

  module _ (rule : ℕ) where
    has_standing : (position : ℕ) → Has (standing_of r rule position) (standing_causes r rule position)
    unfolding standing_of standing_causes number_of
    has_standing position =
        has_one (valid_run r) InvalidRecord 11 _ _ refl (has_one (one_of r.table.count rule && is_position r.table r.count rule position) NotFound 10 _ [] refl (has_none _))

    has_totals : Has (totals_of r rule) (totals_causes r rule)
    unfolding totals_of totals_causes number_of
    has_totals =
        has_one (valid_run r) InvalidRecord 11 _ _ refl (has_one (one_of r.table.count rule) NotFound 10 _ [] refl (has_none _))

    has_counts : Has (counts_of r rule) (cause InvalidRecord (not (valid_run r)) ∷ cause NotFound (not (one_of r.table.count rule)) ∷ cause WrongPhase (not r.closed) ∷ [])
    unfolding counts_of number_of
    has_counts =
        has_one (valid_run r) InvalidRecord 11 _ _ refl (has_one (one_of r.table.count rule) NotFound 10 _ _ refl (has_one r.closed WrongPhase 9 _ [] refl (has_none _)))

    counts_are : (c : Totals) → counts_of r rule ≡ accepted c → totals_in r rule ≡ c
    unfolding counts_of
    counts_are c e =
        let v = required (valid_run r) 11 _ c e in
        let o = required (one_of r.table.count rule) 10 _ c v.1 in
        of_of (required r.closed 9 _ c o.1).1

    has_absorb : (t : Tally) → Has (absorb_of r rule t) (absorb_causes r rule t)
    unfolding absorb_of with_totals absorb_causes number_of
    has_absorb t =
        has_then (counts_of r rule) (with_totals t) _ _ has_counts
        (λ c e. rw (← counts_are c e) (has_one (has_room_for t (totals_in r rule)) TallyOverflow 14 _ [] refl (has_none _)))

absorb_counted : (r : Run) (rule : ℕ) (c : Counted) (before next : Tally) (o : Result (Unit {0}) Refusal) → Counts r rule c → Absorbs before c next o → (tally_answer next o ≡ absorb_of r rule before) × (next ≡ after_call before (absorb_of r rule before))
unfolding absorb_of with_counted
absorb_counted r rule c before next o p q =
    let e : (counts_of r rule >>= with_totals before) ≡ with_counted before c = ap (λ (x : Answer Totals). x >>= with_totals before) (sym p.answers) in
    (q.answers ∙ sym e, q.leaves ∙ ap (after_call before) (sym e))

-- ---- the lent buffers

has_write : (valid : Bool) (text buffer : List ℕ) → Has (write_of valid text buffer) (write_causes valid text buffer)
unfolding write_of write_causes number_of
has_write valid text buffer =
    rw (leb_not (length text) (length buffer))
    (has_one valid InvalidRecord 11 _ _ refl (has_unless (ltb (length buffer) (length text)) BufferTooShort 15 _ [] refl (has_none _)))

refuses_write : (valid : Bool) (text buffer : List ℕ) → Refuses (write_causes valid text buffer) (write_of valid text buffer)
refuses_write valid text buffer = refuses (write_of valid text buffer) (write_causes valid text buffer) (has_write valid text buffer)

buffer_kept : (valid : Bool) (text before after : List ℕ) (answer : Result ℕ Refusal) (n : ℕ) → Writes valid text before after answer → answer_of answer ≡ refused n → after ≡ before
unfolding buffer_after
buffer_kept valid text before after answer n w e =
    w.leaves ∙ ap (buffer_after text before) (sym w.answers ∙ e)

-- ---- the texts

rules_reads : (text : List ℕ) → Reads rule_causes rules_text_of rule_numbers text
unfolding rules_text_of any
rules_reads text = reads rule_after rule_causes has_rule text rule_numbers refl rule_numbered

cycle_reads : (text : List ℕ) → Reads event_causes cycle_text_of event_numbers text
unfolding cycle_text_of any
cycle_reads text = reads event_after event_causes has_event text event_numbers refl event_numbered

-- ---- the notebook

read_refused : {r : Run} {text : Text} {n line : ℕ} → read_as r ≡ not_read text n line → ⊥
read_refused e =
    let z : ◌≡◌ {A = ℕ} 0 1 = cc in
    omega arith

cycle_rules : {m n k line : ℕ} → not_read Cycle m k ≡ not_read Rules n line → ⊥
cycle_rules e =
    let t : Cycle ≡ Rules = cc in
    let z : ◌≡◌ {A = ℕ} 0 1 = cc in
    omega arith

same_stop : {A : Type 0} (text : Text) (m n k line : ℕ) → not_read text m k ≡ not_read text n line → ◌≡◌ {A = Records A} (Stop m k) (Stop n line)
same_stop text m n k line e =
    let p : m ≡ n = cc in
    let q : k ≡ line = cc in
    rw (p, q)

rules_refused : (x : Records Rule) (y : Records Event) (n line : ℕ) → (finished_of x y ≡ not_read Rules n line) ↔ (x ≡ Stop n line)
unfolding finished_of read_with
rules_refused (All rs) (All es) n line = ((λ e. absurd (read_refused e)), (λ e. absurd (stop_all (sym e))))
rules_refused (All rs) (Stop m k) n line = ((λ e. absurd (cycle_rules e)), (λ e. absurd (stop_all (sym e))))
rules_refused (Stop m k) y n line = (same_stop Rules m n k line, (λ e. cc))

cycle_refused : (x : Records Rule) (y : Records Event) (n line : ℕ) → (finished_of x y ≡ not_read Cycle n line) ↔ (((rs : List Rule) × (x ≡ All rs)) × (y ≡ Stop n line))
unfolding finished_of read_with
cycle_refused (All rs) (All es) n line = ((λ e. absurd (read_refused e)), (λ e. absurd (stop_all (sym e.1))))
cycle_refused (All rs) (Stop m k) n line = ((λ e. ((rs, refl), same_stop Cycle m n k line e)), (λ e. (let q : Stop m k ≡ Stop n line = e.1 in cc)))
cycle_refused (Stop m k) y n line = ((λ e. absurd (cycle_rules (sym e))), (λ e. absurd (stop_all e.0.1)))

both_read : (x : Records Rule) (y : Records Event) → ((r : Run) × (finished_of x y ≡ read_as r)) ↔ (((rs : List Rule) × (x ≡ All rs)) × ((es : List Event) × (y ≡ All es)))
unfolding finished_of read_with
both_read (All rs) (All es) = ((λ e. ((rs, refl), (es, refl))), (λ e. (_, refl)))
both_read (All rs) (Stop m k) = ((λ e. absurd (read_refused (sym e.1))), (λ e. absurd (stop_all e.1.1)))
both_read (Stop m k) y = ((λ e. absurd (read_refused (sym e.1))), (λ e. absurd (stop_all e.0.1)))

reads_both : (rules cycle : List ℕ) → ReadsBoth rules cycle
unfolding notebook_of
reads_both rules cycle =
    record {
      refuses_rules = rules_refused (rules_text_of rules) (cycle_text_of cycle);
      refuses_cycle = cycle_refused (rules_text_of rules) (cycle_text_of cycle);
      accepts = both_read (rules_text_of rules) (cycle_text_of cycle);
    }

-- ---- all calls

pub demand1 : Demand1
demand1 =
    record {
      start = λ t. refuses (start_of t) (start_causes t) (has_start t);
      take = λ r e. refuses (take_of r e) (take_causes r e) (has_take r e);
      notice = λ r time. refuses (notice_of r time) (notice_causes r time) (has_notice r time);
      close = λ r. refuses (close_of r) (close_causes r) (has_close r);
      standing = λ r rule position. refuses (standing_of r rule position) (standing_causes r rule position) (has_standing r rule position);
      totals = λ r rule. refuses (totals_of r rule) (totals_causes r rule) (has_totals r rule);
      absorb = λ r rule t. refuses (absorb_of r rule t) (absorb_causes r rule t) (has_absorb r rule t);
      absorbs = absorb_counted;
      write_rules_lem = λ t buffer. refuses_write (valid_table t) (rules_text (rules_of t)) buffer;
      write_cycle_lem = λ r buffer. refuses_write (valid_run r) (events_text (events_of r)) buffer;
      write_report_lem = λ r buffer. refuses_write (valid_run r) (report_of r) buffer;
      print_texts_lem = λ rules cycle buffer. refuses_write true (printed_of rules cycle) buffer;
      call_keeps = λ r call n p. after_refused r (call_of r call) n p;
      close_keeps = λ r n p. after_refused r (close_of r) n p;
      tally_keeps = λ r rule t n p. after_refused t (absorb_of r rule t) n p;
      buffer_keeps = buffer_kept;
      rules_text_lem = rules_reads;
      cycle_text_lem = cycle_reads;
      notebook = reads_both;
    }
