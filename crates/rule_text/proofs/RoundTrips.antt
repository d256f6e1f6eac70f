-- What an accepted rules text gives, and that writing and reading undo each other: first for one
-- line, then for a text by the laws of texts.
-- A rule and its canonical form are written alike, and the canonical form is what is read back.
use Rattle.std.specs.Prelude.{None, Some}
use mathlib.Core.Path.{◌≡◌, refl, sym, ◌∙◌, ap}
use mathlib.Core.Bool.{Bool, true, false, cond, ◌&&◌}
use mathlib.Core.List.{List, [], ◌∷◌, ◌++◌, map}
use Prim.Native.Nat.{ℕ, ◌+◌, ◌≤◌, ◌<◌}
use native.Mathlib.Omega.{arith}
use borrow.Author.Tests.{leb-true, le-leb, ltb-true, lt-ltb, eqb-true, ne_eqb}
use lib.Dec.{leb, ltb}
use lib.IntN.{pos}
use lib.ListN.{length, get_or, length-append, length-take}
use Rattle.declare.specs.Lists.{all}
use Rattle.declare.specs.Limits.{last_activity, last_template, most_rules}
use Rattle.declare.specs.Events.{latest, is_activity}
use Rattle.declare.specs.Rules.{is_template, valid_condition, valid_end, valid_window, valid_head, fits_template, valid_rule, rules_of, valid_table}
use Rattle.declare.proofs.Booleans.{and₂, both, all_append}
use Rattle.declare.proofs.Arrival.{rule_parts}
use Rattle.declare.proofs.Tables.{rules_within}
use Rattle.number.specs.Number.{dash, none}
use Rattle.number.specs.Written.{digits_of, integer_text}
use Rattle.number.proofs.Written.{integer_not_dash}
use Rattle.line.specs.Fields.{LF, tab}
use Rattle.declare.specs.Answers.{accepted, ◌>>=◌, ◌>>◌, require}
use Rattle.line.specs.Values.{number_field, reading_text}
use Rattle.line.specs.Texts.{All, Stop, written_line, written_text}
use Rattle.declare.proofs.Answers.{of_of, through, required, passed}
use Rattle.line.proofs.Values.{dash_text, number_written, number_read, lacks_number, lacks_reading}
use Rattle.line.proofs.Lines.{all_numbered}
use Rattle.line.proofs.Joined.{lacks}
use Rattle.line.proofs.Texts.{Parted, Follow, text_written, text_back, accepted_records, refused_line_lem}
use Rattle.rule_text.specs.Types.{End, Rule, Table}
use Rattle.rule_text.specs.Conditions.{comma, condition_field}
use Rattle.rule_text.specs.Rules.{end_field, is_above, checked_rule, rule_field_count, rule_of, in_table, rule_after, rules_text_of}
use Rattle.rule_text.specs.Written.{condition_text, end_text, rule_fields, rules_text, canonical, ValidRules, RoundTrips}
use Rattle.rule_text.proofs.ConditionTexts.{condition_lacks, condition_written, condition_read_lem}
use Rattle.rule_text.proofs.Canonical.{canonical_comparisons, canonical_fits}

-- ---- the end of a window

digits_not_dash : (n : ℕ) → dash (digits_of n) ≡ false
unfolding integer_text
digits_not_dash n = integer_not_dash (pos n)

end_written : (a : ℕ) (e : End) → valid_end a e ≡ true → end_field (end_text e) ≡ accepted e
unfolding valid_end end_field end_text ◌>>=◌ dash none
end_written a None v = refl
end_written a (Some b) v =
    let p : (ltb a b ≡ true) × (leb b latest ≡ true) = and₂ v in
    let low = ltb-true a b p.0 in
    rw (digits_not_dash b, number_written 1 latest b (omega arith) (leb-true b latest p.1))

record EndRead (field : List ℕ) (e : End) : Type 0 where
  text : end_text e ≡ field
  valid : (a : ℕ) → is_above e a ≡ true → valid_end a e ≡ true

never_read : (field : List ℕ) → dash field ≡ true → EndRead field None
unfolding end_text valid_end
never_read field p = record { text = dash_text field p; valid = λ a h. refl }

at_read : (field : List ℕ) (b : ℕ) → number_field 1 latest field ≡ accepted b → EndRead field (Some b)
unfolding end_text valid_end is_above
at_read field b h =
    let w = number_read 1 latest field b h in
    record { text = w.text; valid = λ a e. both e (le-leb b latest w.high) }

end_read_lem : (field : List ℕ) (e : End) → end_field field ≡ accepted e → EndRead field e
unfolding end_field
end_read_lem field e h = go (dash field) refl h
  where
    go : (t : Bool) → dash field ≡ t → cond t (accepted None) (number_field 1 latest field >>= λ b. accepted (Some b)) ≡ accepted e → EndRead field e
    go true p q = rw (← of_of q) (never_read field p)
    go false p q =
        let w = through (number_field 1 latest field) (λ b. accepted (Some b)) e q in
        rw (← of_of w.rest) (at_read field w.value w.first)

end_lacks : (b : ℕ) → b < 45 → (e : End) → lacks b (end_text e) ≡ true
unfolding end_text reading_text
end_lacks b h None = lacks_reading b None h
end_lacks b h (Some n) = lacks_number b n h

-- ---- a line that was read

-- what its seven fields gave, and its checks
record RuleRead (fields : List (List ℕ)) (r : Rule) : Type 0 where
  seven : length fields ≡ rule_field_count
  code : number_field 1 last_template (get_or fields 0 []) ≡ accepted r.code
  activation : number_field 1 last_activity (get_or fields 1 []) ≡ accepted r.activation
  target : number_field 1 last_activity (get_or fields 2 []) ≡ accepted r.target
  from : number_field 0 latest (get_or fields 3 []) ≡ accepted r.window.from
  until : end_field (get_or fields 4 []) ≡ accepted r.window.until
  condition : condition_field false (get_or fields 5 []) ≡ accepted r.condition
  correlation : condition_field true (get_or fields 6 []) ≡ accepted r.correlation
  order : is_above r.window.until r.window.from ≡ true
  fits : fits_template r ≡ true

rule_read_lem : (fields : List (List ℕ)) (r : Rule) → rule_of fields ≡ accepted r → RuleRead fields r
unfolding rule_of checked_rule
rule_read_lem fields r h =
    let s = required _ 1 _ r h in
    let c = through _ _ r s.1 in
    let a = through _ _ r c.rest in
    let t = through _ _ r a.rest in
    let f = through _ _ r t.rest in
    let u = through _ _ r f.rest in
    let x = through _ _ r u.rest in
    let y = through _ _ r x.rest in
    let o = required _ 6 _ r y.rest in
    let m = required _ 16 _ r o.1 in
    let k = of_of m.1 in
    record {
      seven = eqb-true (length fields) rule_field_count s.0;
      code = c.first ∙ ap (λ (q : Rule). accepted q.code) k;
      activation = a.first ∙ ap (λ (q : Rule). accepted q.activation) k;
      target = t.first ∙ ap (λ (q : Rule). accepted q.target) k;
      from = f.first ∙ ap (λ (q : Rule). accepted q.window.from) k;
      until = u.first ∙ ap (λ (q : Rule). accepted q.window.until) k;
      condition = x.first ∙ ap (λ (q : Rule). accepted q.condition) k;
      correlation = y.first ∙ ap (λ (q : Rule). accepted q.correlation) k;
      order = sym (ap (λ (q : Rule). is_above q.window.until q.window.from) k) ∙ o.0;
      fits = sym (ap fits_template k) ∙ m.0;
    }

in_range_lem : (low high n : ℕ) → low ≤ n → n ≤ high → (leb low n && leb n high) ≡ true
in_range_lem low high n a b = both (le-leb low n a) (le-leb n high b)

-- its rule is within the limits
read_valid : (fields : List (List ℕ)) (r : Rule) → RuleRead fields r → valid_rule r ≡ true
unfolding valid_rule valid_head valid_window is_template is_activity
read_valid fields r h =
    let c = number_read 1 last_template _ _ h.code in
    let a = number_read 1 last_activity _ _ h.activation in
    let t = number_read 1 last_activity _ _ h.target in
    let f = number_read 0 latest _ _ h.from in
    rw (in_range_lem 1 last_template r.code c.low c.high, in_range_lem 1 last_activity r.activation a.low a.high, in_range_lem 1 last_activity r.target t.low t.high, le-leb r.window.from latest f.high, (end_read_lem _ _ h.until).valid r.window.from h.order, (condition_read_lem false _ _ h.condition).valid, (condition_read_lem true _ _ h.correlation).valid, h.fits)

-- has no_comparison in the slots that are not in use
read_canonical : (fields : List (List ℕ)) (r : Rule) → RuleRead fields r → canonical r ≡ r
unfolding canonical
read_canonical fields r h = rw ((condition_read_lem false _ _ h.condition).is_canonical, (condition_read_lem true _ _ h.correlation).is_canonical)

-- and is written as the same fields
read_fields : (fields : List (List ℕ)) (r : Rule) → RuleRead fields r → rule_fields r ≡ fields
unfolding rule_fields
read_fields fields r h =
    rw ((number_read 1 last_template _ _ h.code).text, (number_read 1 last_activity _ _ h.activation).text, (number_read 1 last_activity _ _ h.target).text, (number_read 0 latest _ _ h.from).text, (end_read_lem _ _ h.until).text, (condition_read_lem false _ _ h.condition).text, (condition_read_lem true _ _ h.correlation).text)
    (all_numbered rule_field_count fields h.seven)

-- what was checked of a line below others
record After (above : List Rule) (fields : List (List ℕ)) (r : Rule) : Type 0 where
  line : RuleRead fields r
  room : length above < most_rules

rule_after_lem : (above : List Rule) (fields : List (List ℕ)) (r : Rule) → rule_after above fields ≡ accepted r → After above fields r
unfolding rule_after in_table
rule_after_lem above fields r h =
    let t = through _ _ r h in
    let l = required _ 8 _ r t.rest in
    record {
      line = rule_read_lem fields r (t.first ∙ ap accepted (of_of l.1));
      room = ltb-true (length above) most_rules l.0;
    }

-- ---- an accepted text

record AcceptedRules (rs : List Rule) : Type 0 where
  rules : ValidRules rs
  is_canonical : map canonical rs ≡ rs

accepted_none : AcceptedRules []
unfolding all
accepted_none = record { rules = record { most = omega arith; valid = refl }; is_canonical = refl }

canonical_more : (rs : List Rule) (r : Rule) → map canonical rs ≡ rs → canonical r ≡ r → map canonical (rs ++ (r ∷ [])) ≡ rs ++ (r ∷ [])
canonical_more rs r e f = map_append rs (r ∷ []) ∙ rw (e, f)
  where
    map_append : (ps qs : List Rule) → map canonical (ps ++ qs) ≡ map canonical ps ++ map canonical qs
    map_append [] qs = refl
    map_append (p ∷ ps) qs = ap (λ (l : List Rule). canonical p ∷ l) (map_append ps qs)

accepted_more : (above : List Rule) (fields : List (List ℕ)) (r : Rule) → AcceptedRules above → rule_after above fields ≡ accepted r → AcceptedRules (above ++ (r ∷ []))
unfolding all
accepted_more above fields r s h =
    let a = rule_after_lem above fields r h in
    record {
      rules = record {
        most = rw (length-append above (r ∷ [])) (omega (arith, a.room));
        valid = all_append valid_rule above (r ∷ []) s.rules.valid (both (read_valid fields r a.line) refl);
      };
      is_canonical = canonical_more above r s.is_canonical (read_canonical fields r a.line);
    }

accepted_text : (text : List ℕ) (rs : List Rule) → rules_text_of text ≡ All rs → AcceptedRules rs
unfolding rules_text_of
accepted_text text rs h = accepted_records rule_after AcceptedRules accepted_none accepted_more text rs h

-- ---- a refused text

-- no line below the 17th is looked at
pub refused_at : (text : List ℕ) (n line : ℕ) → rules_text_of text ≡ Stop n line → line ≤ most_rules + 1
unfolding rules_text_of
refused_at text n line e = refused_line_lem rule_after most_rules (λ above fields r h. (rule_after_lem above fields r h).room) text n line e

-- ---- a line that is written

pub record Limits (r : Rule) : Type 0 where
  pub code : (1 ≤ r.code) × (r.code ≤ last_template)
  pub activation : (1 ≤ r.activation) × (r.activation ≤ last_activity)
  pub target : (1 ≤ r.target) × (r.target ≤ last_activity)
  pub from : r.window.from ≤ latest
  pub until : valid_end r.window.from r.window.until ≡ true
  pub condition : valid_condition false r.condition ≡ true
  pub correlation : valid_condition true r.correlation ≡ true
  pub fits : fits_template r ≡ true

ends : (low high n : ℕ) → (leb low n && leb n high) ≡ true → (low ≤ n) × (n ≤ high)
ends low high n h =
    let p : (leb low n ≡ true) × (leb n high ≡ true) = and₂ h in
    (leb-true low n p.0, leb-true n high p.1)

pub limits : (r : Rule) → valid_rule r ≡ true → Limits r
unfolding valid_window is_template is_activity
limits r h =
    let p = rule_parts r h in
    let w : (leb r.window.from latest ≡ true) × (valid_end r.window.from r.window.until ≡ true) = and₂ p.window in
    record {
      code = ends 1 last_template r.code p.template;
      activation = ends 1 last_activity r.activation p.activation;
      target = ends 1 last_activity r.target p.target;
      from = leb-true r.window.from latest w.0;
      until = w.1;
      condition = p.condition;
      correlation = p.correlation;
      fits = p.fits;
    }

valid_above : (a : ℕ) (e : End) → valid_end a e ≡ true → is_above e a ≡ true
unfolding valid_end is_above
valid_above a None v = refl
valid_above a (Some b) v = (and₂ v).0

-- it passes the checks of a rule that was read
checked_written : (r : Rule) → Limits r → checked_rule (canonical r) ≡ accepted (canonical r)
unfolding checked_rule canonical
checked_written r w =
    passed 6 _ (valid_above r.window.from r.window.until w.until) ∙ passed 16 _ (canonical_fits r ∙ w.fits)

rule_written : (r : Rule) → valid_rule r ≡ true → rule_of (rule_fields r) ≡ accepted (canonical r)
unfolding rule_of rule_fields canonical require ◌>>◌ ◌>>=◌
rule_written r h =
    let w = limits r h in
    rw (number_written 1 last_template r.code w.code.0 w.code.1, number_written 1 last_activity r.activation w.activation.0 w.activation.1, number_written 1 last_activity r.target w.target.0 w.target.1, number_written 0 latest r.window.from (omega arith) w.from, end_written r.window.from r.window.until w.until, condition_written false r.condition w.condition, condition_written true r.correlation w.correlation) (checked_written r w)

after_written : (above : List Rule) (r : Rule) → valid_rule r ≡ true → length above < most_rules → rule_after above (rule_fields r) ≡ accepted (canonical r)
unfolding rule_after in_table require ◌>>◌ ◌>>=◌
after_written above r h m = rw (rule_written r h, lt-ltb (length above) most_rules m)

-- a rule and its canonical form are written alike
canonical_fields : (r : Rule) → rule_fields (canonical r) ≡ rule_fields r
unfolding rule_fields canonical condition_text
canonical_fields r = rw (canonical_comparisons r.condition, canonical_comparisons r.correlation)

canonical_text : (rs : List Rule) → rules_text (map canonical rs) ≡ rules_text rs
unfolding rules_text written_text written_line
canonical_text [] = refl
canonical_text (r ∷ rs) = rw (canonical_fields r, canonical_text rs)

-- neither tab nor LF stands in a field
lacks_fields : (b : ℕ) → b < 33 → (r : Rule) → all (lacks b) (rule_fields r) ≡ true
unfolding rule_fields all
lacks_fields b h r =
    let low : b < 45 = omega arith in
    let mark = ne_eqb 33 b (λ e. omega arith) in
    let part = ne_eqb comma b (λ e. omega arith) in
    rw (lacks_number b r.code low, lacks_number b r.activation low, lacks_number b r.target low, lacks_number b r.window.from low, end_lacks b low r.window.until, condition_lacks b low mark part r.condition, condition_lacks b low mark part r.correlation)

parted : (r : Rule) → Parted rule_fields r
unfolding rule_fields
parted r = record { some = omega arith; tabs = lacks_fields tab (omega arith) r; ends = lacks_fields LF (omega arith) r }

-- ---- a written text

follow : (above rs : List Rule) → all valid_rule rs ≡ true → length above + length rs ≤ most_rules → Follow rule_after rule_fields above (map canonical rs)
unfolding Follow all
follow above [] v m = tt
follow above (r ∷ rs) v m =
    let p : (valid_rule r ≡ true) × (all valid_rule rs ≡ true) = and₂ v in (
      parted (canonical r),
      ap (rule_after above) (canonical_fields r) ∙ after_written above r p.0 (omega arith),
      follow (above ++ (canonical r ∷ [])) rs p.1 (rw (length-append above (canonical r ∷ [])) (omega arith)),
    )

-- the rules of a valid table are such rules
pub valid_rules : (t : Table) → valid_table t ≡ true → ValidRules (rules_of t)
unfolding valid_table rules_of
valid_rules t v =
    let p : (leb t.count most_rules ≡ true) × (all valid_rule (rules_of t) ≡ true) = and₂ v in
    record { most = rw (length-take t.count t.rules) (omega (arith, rules_within t v)); valid = p.1 }

pub round_trips : RoundTrips
unfolding rules_text_of rules_text
round_trips =
    record {
      valid = λ text rs h. ((accepted_text text rs h).rules, (accepted_text text rs h).is_canonical);
      read = λ rs s. ap rules_text_of (sym (canonical_text rs)) ∙ text_written rule_after rule_fields (map canonical rs) (follow [] rs s.valid (omega (arith, s.most)));
      again = λ text rs. text_back rule_after rule_fields (λ above fields r h. read_fields fields r (rule_after_lem above fields r h).line) text rs;
    }
