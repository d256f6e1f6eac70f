-- Cases of limits and refusals.
use Rattle.std.specs.Prelude.{true, false, List, [], ◌∷◌, map, ℕ, pos, negsuc, None, Some}
use Rattle.declare.specs.Types.{Equal, Less, Constant, Activation, Condition, End, Rule, Table, FieldCount, NumberForm, OutOfRange, ComparisonForm, EmptyWindow, TimeFalls, TooMany, WrongPhase, NotFound, InvalidRecord, NoLineEnd, NoFile, TallyOverflow, BufferTooShort, TemplateMismatch, TooManyComparisons}
use Rattle.declare.specs.Events.{well_formed, non_falling}
use Rattle.declare.specs.Rules.{valid_rule, valid_table}
use Rattle.declare.specs.Continuations.{continuation}
use Rattle.declare.specs.Refusals.{number_of}
use Rattle.declare.specs.EdgeCycles.{compare, unused, always, when, window, event, reads}
use Rattle.declare.specs.ConditionCases.{Check, ◌gives◌, MIN, MAX}

-- ---- limits

-- a rule with code, activities, window
abbrev pub limited : ℕ → ℕ → ℕ → ℕ → End → Rule
limited code activation target a b =
    record { code = code; activation = activation; target = target; window = window a b; condition = always; correlation = always }

abbrev pub overall : ℕ → Condition → Condition → Rule
overall code condition correlation =
    record { code = code; activation = 1; target = 2; window = window 0 None; condition = condition; correlation = correlation }

abbrev pub conditioned : Condition → Condition → Rule
conditioned condition correlation = overall 2 condition correlation

-- two comparisons, of the readings j and k
abbrev pub pair : ℕ → ℕ → Condition
pair j k =
    record {
      count = 2;
      first = compare j Equal (Constant (pos 0));
      second = compare k Less (Constant (pos 9));
      third = unused;
      fourth = unused;
    }

abbrev pub counted : ℕ → Condition
counted count =
    record {
      count = count;
      first = compare 1 Equal (Constant (pos 0));
      second = compare 2 Equal (Constant (pos 0));
      third = compare 3 Equal (Constant (pos 0));
      fourth = compare 4 Equal (Constant (pos 0));
    }

abbrev pub table : ℕ → List Rule → Table
table count rules = record { count = count; rules = rules }

unfoldable pub limits : List Check
limits =
    well_formed (event 0 0) gives false
    ∷ well_formed (event 0 1) gives true
    ∷ well_formed (event 0 64) gives true
    ∷ well_formed (event 0 65) gives false
    ∷ well_formed (event 4294967295 1) gives true
    ∷ well_formed (event 4294967296 1) gives false
    ∷ well_formed (reads 0 1 MIN) gives true
    ∷ well_formed (reads 0 1 MAX) gives true
    ∷ well_formed (reads 0 1 (negsuc 2147483648)) gives false
    ∷ well_formed (reads 0 1 (pos 2147483648)) gives false
    ∷ well_formed (record { time = 0; activity = 1; reading1 = None; reading2 = None; reading3 = None; reading4 = Some (pos 2147483648) }) gives false
    ∷ valid_rule (limited 0 1 1 0 None) gives false
    ∷ valid_rule (limited 1 1 1 0 None) gives true
    ∷ valid_rule (limited 12 64 64 0 None) gives true
    ∷ valid_rule (limited 13 1 2 0 None) gives true
    ∷ valid_rule (limited 16 1 2 0 None) gives true
    ∷ valid_rule (limited 17 1 2 0 None) gives false
    ∷ valid_rule (limited 1 0 1 0 None) gives false
    ∷ valid_rule (limited 1 65 1 0 None) gives false
    ∷ valid_rule (limited 1 1 0 0 None) gives false
    ∷ valid_rule (limited 1 1 65 0 None) gives false
    ∷ valid_rule (limited 1 1 1 4294967295 None) gives true
    ∷ valid_rule (limited 1 1 1 4294967296 None) gives false
    ∷ valid_rule (limited 1 1 1 5 (Some 6)) gives true
    ∷ valid_rule (limited 1 1 1 5 (Some 5)) gives false
    ∷ valid_rule (limited 1 1 1 6 (Some 5)) gives false
    ∷ valid_rule (limited 1 1 1 0 (Some 0)) gives false
    ∷ valid_rule (limited 1 1 1 0 (Some 4294967295)) gives true
    ∷ valid_rule (limited 1 1 1 0 (Some 4294967296)) gives false
    -- `@` stands in a correlation only
    ∷ valid_rule (conditioned (when Equal (Constant (pos 0))) always) gives true
    ∷ valid_rule (conditioned (when Equal (Activation 1 (pos 0))) always) gives false
    ∷ valid_rule (conditioned always (when Equal (Activation 1 (pos 0)))) gives true
    ∷ valid_rule (conditioned always (when Equal (Activation 4 (pos 0)))) gives true
    ∷ valid_rule (conditioned always (when Equal (Activation 0 (pos 0)))) gives false
    ∷ valid_rule (conditioned always (when Equal (Activation 5 (pos 0)))) gives false
    ∷ valid_rule (conditioned always (when Equal (Constant MIN))) gives true
    ∷ valid_rule (conditioned always (when Equal (Constant (pos 2147483648)))) gives false
    ∷ valid_rule (conditioned always (when Equal (Activation 1 (negsuc 2147483648)))) gives false
    -- on any readings, in either condition; readings 1 to 4; at most four comparisons
    ∷ valid_rule (conditioned always (pair 1 2)) gives true
    ∷ valid_rule (conditioned always (pair 1 1)) gives true
    ∷ valid_rule (conditioned (pair 3 3) always) gives true
    ∷ valid_rule (conditioned always (pair 0 1)) gives false
    ∷ valid_rule (conditioned always (pair 1 5)) gives false
    ∷ valid_rule (conditioned always (counted 4)) gives true
    ∷ valid_rule (conditioned always (counted 5)) gives false
    ∷ valid_rule (conditioned (counted 5) always) gives false
    -- under 15 and 16 the activities differ, under 13 to 16 there is no correlation
    ∷ valid_rule (limited 12 1 1 0 None) gives true
    ∷ valid_rule (limited 13 1 1 0 None) gives true
    ∷ valid_rule (limited 14 1 1 0 None) gives true
    ∷ valid_rule (limited 15 1 1 0 None) gives false
    ∷ valid_rule (limited 16 1 1 0 None) gives false
    ∷ valid_rule (overall 13 (when Equal (Constant (pos 0))) always) gives true
    ∷ valid_rule (overall 13 always (when Equal (Constant (pos 0)))) gives false
    ∷ valid_rule (overall 14 always (when Equal (Constant (pos 0)))) gives false
    ∷ valid_rule (overall 15 always (when Equal (Constant (pos 0)))) gives false
    ∷ valid_rule (overall 16 always (when Equal (Constant (pos 0)))) gives false
    -- slots past a count are not read
    ∷ valid_table (table 0 (limited 0 0 0 0 None ∷ [])) gives true
    ∷ valid_table (table 1 (limited 1 1 1 0 None ∷ limited 0 0 0 0 None ∷ [])) gives true
    ∷ valid_table (table 2 (limited 1 1 1 0 None ∷ limited 0 0 0 0 None ∷ [])) gives false
    ∷ valid_table (table 17 []) gives false
    -- times repeat, and do not fall
    ∷ non_falling (event 5 1 ∷ event 5 1 ∷ event 6 1 ∷ []) gives true
    ∷ non_falling (event 5 1 ∷ event 6 1 ∷ event 5 1 ∷ []) gives false
    ∷ continuation 5 [] gives true
    ∷ continuation 5 (event 5 1 ∷ event 5 2 ∷ []) gives true
    ∷ continuation 5 (event 4 1 ∷ []) gives false
    ∷ continuation 5 (event 6 1 ∷ event 5 1 ∷ []) gives false
    ∷ continuation 5 (event 6 65 ∷ []) gives false
    ∷ []

-- ---- refusals

-- document 01's table and the cards: each cause has its number, and 9, 10, 11, 14 and 15 no line
unfoldable pub without_line : List ℕ
without_line = map number_of (WrongPhase ∷ NotFound ∷ InvalidRecord ∷ TallyOverflow ∷ BufferTooShort ∷ [])

unfoldable pub with_line : List ℕ
with_line =
    map number_of (FieldCount ∷ NumberForm ∷ OutOfRange ∷ ComparisonForm ∷ EmptyWindow ∷ TimeFalls ∷ TooMany ∷ NoLineEnd ∷ NoFile ∷ TemplateMismatch ∷ TooManyComparisons ∷ [])
