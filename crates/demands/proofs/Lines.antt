-- The causes of a line are those of its fields, one after the other, and then those that look at
-- the lines above.
use mathlib.Core.Path.{◌≡◌, refl, sym, ap, ◌∙◌}
use mathlib.Core.Bool.{Bool, true, false, not, cond}
use mathlib.Core.List.{List, [], ◌∷◌, ◌++◌, append_assoc}
use Prim.Native.Nat.{ℕ, ◌+◌}
use lib.Dec.{leb, ltb, eqb}
use lib.ListN.{length, get_or}
use Rattle.declare.specs.declared.Event.{Event}
use Rattle.declare.specs.Types.{End}
use Rattle.declare.specs.declared.Rule.{Rule}
use Rattle.declare.specs.declared.Refusal.{Refusal}
use Rattle.declare.specs.declared.Refusal.TheVariants.{FieldCount, EmptyWindow, TimeFalls, TooMany, TemplateMismatch}
use Rattle.declare.specs.Lists.{all, any}
use Rattle.declare.specs.Events.{last_time}
use Rattle.declare.specs.Rules.{fits_template}
use Rattle.declare.specs.Refusals.{number_of}
use Rattle.declare.proofs.Booleans.{all_append}
use Rattle.declare.proofs.Lists.{leb_not, ltb_not}
use Rattle.number.specs.Number.{dash, value_of}
use Rattle.line.specs.Fields.{split}
use Rattle.declare.specs.Answers.{Answer, accepted, ◌>>=◌, ◌>>◌, require}
use Rattle.line.specs.Values.{number_field, reading_field}
use Rattle.rule_text.specs.Conditions.{comma, condition_field}
use Rattle.rule_text.specs.Rules.{end_field, is_above, checked_rule, rule_of, in_table, rule_after}
use Rattle.rule_text.proofs.ConditionTexts.{condition_read_lem}
use Rattle.cycle_text.specs.Cycle.{event_of, in_order as placed, event_after}
use Rattle.cycle_text.proofs.RoundTrips.{event_read_lem}
use Rattle.demands.specs.Causes.{Cause, cause}
use Rattle.demands.specs.LineCauses.{in_turn, number_causes, unless_dash, reading_causes, comparison_causes, condition_causes, event_field_causes, event_place_causes, event_causes, mismatch, rule_field_causes, rule_place_causes, rule_causes}
use Rattle.demands.proofs.Chains.{Has, in_order, has_none, has_one, has_unless, has_then}
use Rattle.demands.proofs.Fields.{has_number, number_value, has_reading, has_until, has_above, fits_unless, has_condition}

turn_append : (first later : List (List Cause)) → in_turn (first ++ later) ≡ in_turn first ++ in_turn later
unfolding in_turn
turn_append [] later = refl
turn_append (group ∷ first) later =
    ap (λ (cs : List Cause). group ++ cs) (turn_append first later) ∙ sym (append_assoc group (in_turn first) (in_turn later))

-- ---- group by group

has_of : {A : Type 0} (a : A) → Has (accepted a) (in_turn [])
unfolding in_turn
has_of a = has_none a

has_check : {B : Type 0} (test : Bool) (refusal : Refusal) (n : ℕ) (x : Answer B) (later : List (List Cause)) → number_of refusal ≡ n → Has x (in_turn later) → Has (require test n >> x) (in_turn ((cause refusal (not test) ∷ []) ∷ later))
unfolding in_turn
has_check test refusal n x later e h = has_one test refusal n x (in_turn later) e h

has_last : {B : Type 0} (holds : Bool) (refusal : Refusal) (n : ℕ) (x : Answer B) (later : List (List Cause)) → number_of refusal ≡ n → Has x (in_turn later) → Has (require (not holds) n >> x) (in_turn ((cause refusal holds ∷ []) ∷ later))
unfolding in_turn
has_last holds refusal n x later e h = has_unless holds refusal n x (in_turn later) e h

has_next : {A B : Type 0} (x : Answer A) (f : A → Answer B) (group : List Cause) (later : List (List Cause)) → Has x group → ((a : A) → x ≡ accepted a → Has (f a) (in_turn later)) → Has (x >>= f) (in_turn (group ∷ later))
unfolding in_turn
has_next x f group later h more = has_then x f group (in_turn later) h more

-- ---- a cycle line

has_event_of : (fields : List (List ℕ)) → Has (event_of fields) (in_turn (event_field_causes fields))
unfolding event_of number_of
has_event_of fields =
    has_check (eqb (length fields) 6) FieldCount 1 _ _ refl
    (has_next (number_field 0 4294967295 (get_or fields 0 [])) _ _ _ (has_number 0 4294967295 (get_or fields 0 []))
    (λ t _. has_next (number_field 1 64 (get_or fields 1 [])) _ _ _ (has_number 1 64 (get_or fields 1 []))
    (λ a _. has_next (reading_field (get_or fields 2 [])) _ _ _ (has_reading (get_or fields 2 []))
    (λ p _. has_next (reading_field (get_or fields 3 [])) _ _ _ (has_reading (get_or fields 3 []))
    (λ q _. has_next (reading_field (get_or fields 4 [])) _ _ _ (has_reading (get_or fields 4 []))
    (λ r _. has_next (reading_field (get_or fields 5 [])) _ _ _ (has_reading (get_or fields 5 []))
    (λ s _. has_of _)))))))

has_placed : (above : List Event) (e : Event) (time : ℕ) → e.time ≡ time → Has (placed above e) (in_turn (event_place_causes above time))
unfolding placed number_of
has_placed above e time t =
    rw (← t, leb_not (last_time above) e.time, ltb_not (length above) 256)
    (has_last (ltb e.time (last_time above)) TimeFalls 7 _ _ refl (has_last (leb 256 (length above)) TooMany 8 _ _ refl (has_of e)))

pub has_event : (above : List Event) (fields : List (List ℕ)) → Has (event_after above fields) (event_causes above fields)
unfolding event_after event_causes
has_event above fields =
    let time : ℕ = value_of (get_or fields 0 []) in
    has_then (event_of fields) (placed above) _ _ (has_event_of fields) (λ e h. has_placed above e time (number_value 0 4294967295 (get_or fields 0 []) e.time (event_read_lem fields e h).time))
    ∙ ap (λ (cs : List Cause). in_order cs) (sym (turn_append (event_field_causes fields) (event_place_causes above time)))

-- ---- a rule line

has_window : {A : Type 0} (a : ℕ) (b : End) (fields : List (List ℕ)) (x : Answer A) (later : List (List Cause)) → number_field 0 4294967295 (get_or fields 3 []) ≡ accepted a → end_field (get_or fields 4 []) ≡ accepted b → Has x (in_turn later) → Has (require (is_above b a) 6 >> x) (in_turn (unless_dash (get_or fields 4 []) (cause EmptyWindow (leb (value_of (get_or fields 4 [])) (value_of (get_or fields 3 []))) ∷ []) ∷ later))
unfolding in_turn
has_window a b fields x later p q h =
    rw (← number_value 0 4294967295 (get_or fields 3 []) a p) (has_above a b (get_or fields 4 []) x (in_turn later) q h)

has_fit : (fields : List (List ℕ)) (r : Rule) → number_field 1 16 (get_or fields 0 []) ≡ accepted r.code → number_field 1 64 (get_or fields 1 []) ≡ accepted r.activation → number_field 1 64 (get_or fields 2 []) ≡ accepted r.target → condition_field true (get_or fields 6 []) ≡ accepted r.correlation → Has (require (fits_template r) 16 >> accepted r) (in_turn ((cause TemplateMismatch (mismatch (value_of (get_or fields 0 [])) (value_of (get_or fields 1 [])) (value_of (get_or fields 2 [])) (get_or fields 6 [])) ∷ []) ∷ []))
unfolding number_of
has_fit fields r c k t n =
    rw (← number_value 1 16 (get_or fields 0 []) r.code c, ← number_value 1 64 (get_or fields 1 []) r.activation k, ← number_value 1 64 (get_or fields 2 []) r.target t, fits_unless r (get_or fields 6 []) (condition_read_lem true (get_or fields 6 []) r.correlation n).empty)
    (has_last (mismatch r.code r.activation r.target (get_or fields 6 [])) TemplateMismatch 16 (accepted r) [] refl (has_of r))

has_rule_of : (fields : List (List ℕ)) → Has (rule_of fields) (in_turn (rule_field_causes fields))
unfolding rule_of checked_rule number_of
has_rule_of fields =
    has_check (eqb (length fields) 7) FieldCount 1 _ _ refl
    (has_next (number_field 1 16 (get_or fields 0 [])) _ _ _ (has_number 1 16 (get_or fields 0 []))
    (λ code c. has_next (number_field 1 64 (get_or fields 1 [])) _ _ _ (has_number 1 64 (get_or fields 1 []))
    (λ activation k. has_next (number_field 1 64 (get_or fields 2 [])) _ _ _ (has_number 1 64 (get_or fields 2 []))
    (λ target t. has_next (number_field 0 4294967295 (get_or fields 3 [])) _ _ _ (has_number 0 4294967295 (get_or fields 3 []))
    (λ a p. has_next (end_field (get_or fields 4 [])) _ _ _ (has_until (get_or fields 4 []))
    (λ b q. has_next (condition_field false (get_or fields 5 [])) _ _ _ (has_condition false (get_or fields 5 []))
    (λ condition _. has_next (condition_field true (get_or fields 6 [])) _ _ _ (has_condition true (get_or fields 6 []))
    (λ correlation n. has_window a b fields _ _ p q (has_fit fields _ c k t n)))))))))

has_room_lem : (above : List Rule) (r : Rule) → Has (in_table above r) (in_turn (rule_place_causes above))
unfolding in_table number_of
has_room_lem above r = rw (ltb_not (length above) 16) (has_last (leb 16 (length above)) TooMany 8 _ _ refl (has_of r))

pub has_rule : (above : List Rule) (fields : List (List ℕ)) → Has (rule_after above fields) (rule_causes above fields)
unfolding rule_after rule_causes
has_rule above fields =
    has_then (rule_of fields) (in_table above) _ _ (has_rule_of fields) (λ r _. has_room_lem above r)
    ∙ ap (λ (cs : List Cause). in_order cs) (sym (turn_append (rule_field_causes fields) (rule_place_causes above)))

-- ---- the numbers that a line can give

module _ (numbers : List ℕ) where
  abbrev pub numbered : Cause → Bool
  numbered c = any (eqb (number_of c.refusal)) numbers

  none_next : all numbered (in_turn []) ≡ true
  unfolding in_turn all
  none_next = refl

  group_next : (group : List Cause) (later : List (List Cause)) → all numbered group ≡ true → all numbered (in_turn later) ≡ true → all numbered (in_turn (group ∷ later)) ≡ true
  unfolding in_turn
  group_next group later h more = all_append numbered group (in_turn later) h more

  one_numbered : (refusal : Refusal) (holds : Bool) → any (eqb (number_of refusal)) numbers ≡ true → all numbered (cause refusal holds ∷ []) ≡ true
  unfolding all
  one_numbered refusal holds h = rw h

  one_next : (refusal : Refusal) (holds : Bool) (later : List (List Cause)) → any (eqb (number_of refusal)) numbers ≡ true → all numbered (in_turn later) ≡ true → all numbered (in_turn ((cause refusal holds ∷ []) ∷ later)) ≡ true
  one_next refusal holds later h more = group_next (cause refusal holds ∷ []) later (one_numbered refusal holds h) more

  dash_numbered : (field : List ℕ) (causes : List Cause) → all numbered causes ≡ true → all numbered (unless_dash field causes) ≡ true
  unfolding unless_dash all
  dash_numbered field causes h = go (dash field)
    where
      go : (t : Bool) → all numbered (cond t [] causes) ≡ true
      go true = refl
      go false = h

  module _ (two : any (eqb 2) numbers ≡ true) (three : any (eqb 3) numbers ≡ true) where
    number_numbered : (low high : ℕ) (field : List ℕ) → all numbered (number_causes low high field) ≡ true
    unfolding number_causes all number_of
    number_numbered low high field = rw (two, three)

    reading_numbered : (field : List ℕ) → all numbered (reading_causes field) ≡ true
    unfolding reading_causes all number_of
    reading_numbered field = dash_numbered field _ (rw (two, three))

    comparison_numbered : any (eqb 4) numbers ≡ true → any (eqb 17) numbers ≡ true → (correlation : Bool) (before : ℕ) (fields : List (List ℕ)) → all numbered (comparison_causes correlation before fields) ≡ true
    unfolding comparison_causes all number_of
    comparison_numbered four seventeen correlation before [] = refl
    comparison_numbered four seventeen correlation before (s ∷ fields) = rw (three, four, seventeen) (comparison_numbered four seventeen correlation (before + 1) fields)

    condition_numbered : any (eqb 4) numbers ≡ true → any (eqb 17) numbers ≡ true → (correlation : Bool) (field : List ℕ) → all numbered (condition_causes correlation field) ≡ true
    unfolding condition_causes
    condition_numbered four seventeen correlation field =
        dash_numbered field _ (comparison_numbered four seventeen correlation 0 (split comma field))

abbrev pub event_numbers : List ℕ
event_numbers = 1 ∷ 2 ∷ 3 ∷ 7 ∷ 8 ∷ 12 ∷ []

pub event_numbered : (above : List Event) (fields : List (List ℕ)) → all (numbered event_numbers) (event_causes above fields) ≡ true
unfolding event_causes any number_of
event_numbered above fields =
    one_next ns FieldCount _ _ refl (group_next ns _ _ (number 0 4294967295 (get_or fields 0 [])) (group_next ns _ _ (number 1 64 (get_or fields 1 []))
    (group_next ns _ _ (reading (get_or fields 2 [])) (group_next ns _ _ (reading (get_or fields 3 [])) (group_next ns _ _ (reading (get_or fields 4 [])) (group_next ns _ _ (reading (get_or fields 5 []))
    (one_next ns TimeFalls _ _ refl (one_next ns TooMany _ _ refl (none_next ns)))))))))
  where
    ns : List ℕ
    ns = event_numbers

    number : (low high : ℕ) (field : List ℕ) → all (numbered ns) (number_causes low high field) ≡ true
    number = number_numbered ns refl refl

    reading : (field : List ℕ) → all (numbered ns) (reading_causes field) ≡ true
    reading = reading_numbered ns refl refl

abbrev pub rule_numbers : List ℕ
rule_numbers = 1 ∷ 2 ∷ 3 ∷ 4 ∷ 6 ∷ 8 ∷ 12 ∷ 16 ∷ 17 ∷ []

pub rule_numbered : (above : List Rule) (fields : List (List ℕ)) → all (numbered rule_numbers) (rule_causes above fields) ≡ true
unfolding rule_causes any number_of
rule_numbered above fields =
    one_next ns FieldCount _ _ refl (group_next ns _ _ (number 1 16 (get_or fields 0 [])) (group_next ns _ _ (number 1 64 (get_or fields 1 [])) (group_next ns _ _ (number 1 64 (get_or fields 2 []))
    (group_next ns _ _ (number 0 4294967295 (get_or fields 3 [])) (group_next ns _ _ (dash_numbered ns (get_or fields 4 []) _ (number 1 4294967295 (get_or fields 4 [])))
    (group_next ns _ _ (condition false (get_or fields 5 [])) (group_next ns _ _ (condition true (get_or fields 6 []))
    (group_next ns _ _ (dash_numbered ns (get_or fields 4 []) _ (one_numbered ns EmptyWindow _ refl)) (one_next ns TemplateMismatch _ _ refl (one_next ns TooMany _ _ refl (none_next ns)))))))))))
  where
    ns : List ℕ
    ns = rule_numbers

    number : (low high : ℕ) (field : List ℕ) → all (numbered ns) (number_causes low high field) ≡ true
    number = number_numbered ns refl refl

    condition : (correlation : Bool) (field : List ℕ) → all (numbered ns) (condition_causes correlation field) ≡ true
    condition = condition_numbered ns refl refl refl refl
