-- Laws of a text's records, for every kind of record: a text by its first line; a written text read
-- back, and an accepted text written again; and what holds of all records of an accepted text,
-- because it holds after each line. First the outcome that stands beside them.
use mathlib.Core.Path.{◌≡◌, refl, sym, ◌∙◌, ap}
use mathlib.Core.Bool.{Bool, true, false}
use mathlib.Core.List.{List, [], ◌∷◌, ◌++◌, append-nil, append_assoc}
use Prim.Native.Nat.{ℕ, ◌+◌, ◌≤◌, ◌<◌}
use native.Mathlib.Omega.{arith}
use native.Mathlib.Numerals.{add-one}
use borrow.Author.Tests.{ltb-false}
use lib.Dec.{ltb}
use lib.ListN.{length, take, get_or, length-append}
use lib.Seq.{take_all, take-suc}
use Rattle.declare.specs.Lists.{all}
use Rattle.number.specs.Number.{none}
use Rattle.number.proofs.Results.{no_err, ok_ok, err_err}
use Rattle.std.specs.Prelude.{Result, Ok, Err}
use Rattle.declare.specs.Refusals.{number_of}
use Rattle.line.specs.Types.{Refusal, LineRefusal}
use Rattle.line.specs.Fields.{LF, tab, index_of, before, following, split, each_after, joined}
use Rattle.declare.specs.Answers.{Answer, accepted, refused, answer_of, ◌>>=◌}
use Rattle.line.specs.Texts.{Records, All, Stop, line_after, continued, lines_of, text_of, line_of, at_line, written_line, written_text, records_read}
use Rattle.line.proofs.Fields.{before_take, parts}
use Rattle.line.proofs.Joined.{lacks, split_before, split_joined, lacks_joined, joined_split}

pub stop_all : {A : Type 0} {n line : ℕ} {rs : List A} → Stop n line ≡ All rs → ⊥
stop_all e =
    let z : ◌≡◌ {A = ℕ} 0 1 = cc in
    omega arith

stop_at : {A : Type 0} {m n at line : ℕ} → ◌≡◌ {A = Records A} (Stop m at) (Stop n line) → at ≡ line
stop_at e = cc

pub all_all : {A : Type 0} {rs qs : List A} → All rs ≡ All qs → rs ≡ qs
all_all e = cc

-- an answer that gives all records of a text
pub record Accepted {A B : Type 0} (list : B → List A) (r : Result B LineRefusal) (rs : List A) : Type 0 where
  pub value : B
  pub answer : r ≡ Ok value
  pub records : list value ≡ rs

pub accepted_lem : {A B : Type 0} (list : B → List A) (r : Result B LineRefusal) (rs : List A) → records_read list r ≡ All rs → Accepted list r rs
unfolding records_read
accepted_lem list (Ok b) rs e = record { value = b; answer = refl; records = all_all e }
accepted_lem list (Err r) rs e = absurd (stop_all e)

-- an answer about a line, passed on: a refusal ends the text
pub line_refused : {A B C : Type 0} (list : C → List B) (r : Result A Refusal) (line : ℕ) (told : LineRefusal) (whole : Records B) → at_line line r ≡ Err told → ((n : ℕ) → answer_of r ≡ refused n → whole ≡ Stop n line) → records_read list (Err told) ≡ whole
unfolding at_line records_read answer_of
line_refused list (Ok a) line told whole h stops = absurd (no_err h)
line_refused list (Err cause) line told whole h stops = rw (← err_err h) (sym (stops (number_of cause) refl))

pub line_accepted : {A : Type 0} (r : Result A Refusal) (line : ℕ) (a : A) → at_line line r ≡ Ok a → answer_of r ≡ accepted a
unfolding at_line answer_of
line_accepted (Ok b) line a h = ap accepted (ok_ok h)
line_accepted (Err cause) line a h = absurd (no_err (sym h))

some : (s : List ℕ) → 0 < length s → none s ≡ false
unfolding none
some [] h = absurd (omega arith)
some (b ∷ s) h = refl

-- a line's further checks may be made once it is read
pub line_then : {A B : Type 0} (holds : List (List ℕ) → Answer A) (f : A → Answer B) (s : List ℕ) → line_of (λ fields. holds fields >>= f) s ≡ (line_of holds s >>= f)
unfolding line_of ◌>>=◌
line_then holds f s = go (ltb (index_of LF s) (length s)) refl
  where
    go : (t : Bool) → ltb (index_of LF s) (length s) ≡ t → line_of (λ fields. holds fields >>= f) s ≡ (line_of holds s >>= f)
    go true e = rw e
    go false e = rw e

-- ---- the written lines of records

-- fields, each with the byte that ends it
abbrev pub ended : List (List ℕ) → List ℕ
ended [] = LF ∷ []
ended (f ∷ []) = f ++ (LF ∷ [])
ended (f ∷ g ∷ fs) = (f ++ (tab ∷ [])) ++ ended (g ∷ fs)

pub line_ended : (fields : List (List ℕ)) → joined tab fields ++ (LF ∷ []) ≡ ended fields
unfolding joined each_after
line_ended [] = refl
line_ended (f ∷ []) = rw (append-nil f)
line_ended (f ∷ g ∷ fs) =
    append_assoc f (tab ∷ joined tab (g ∷ fs)) (LF ∷ [])
    ∙ ap (λ (s : List ℕ). f ++ (tab ∷ s)) (line_ended (g ∷ fs))
    ∙ sym (append_assoc f (tab ∷ []) (ended (g ∷ fs)))

module _ {A : Type 0} (fields_of : A → List (List ℕ)) where
  -- the fields of a record can be told from a line
  pub record Parted (r : A) : Type 0 where
    pub some : 0 < length (fields_of r)
    pub tabs : all (lacks tab) (fields_of r) ≡ true
    pub ends : all (lacks LF) (fields_of r) ≡ true

  pub split_fields : (fields : List (List ℕ)) → 0 < length fields → all (lacks tab) fields ≡ true → split tab (joined tab fields) ≡ fields
  split_fields [] h l = absurd (omega arith)
  split_fields (p ∷ ps) h l = split_joined tab p ps l

  pub split_line : (r : A) (s : List ℕ) → all (lacks LF) (fields_of r) ≡ true → split LF (written_line fields_of r ++ s) ≡ joined tab (fields_of r) ∷ split LF s
  unfolding written_line
  split_line r s h =
      rw (append_assoc (joined tab (fields_of r)) (LF ∷ []) s) (split_before LF (joined tab (fields_of r)) s (lacks_joined LF tab (fields_of r) refl h))

  pub written_append : (xs ys : List A) → written_text fields_of (xs ++ ys) ≡ written_text fields_of xs ++ written_text fields_of ys
  unfolding written_text
  written_append [] ys = refl
  written_append (r ∷ xs) ys =
      ap (λ (k : List ℕ). written_line fields_of r ++ k) (written_append xs ys) ∙ sym (append_assoc (written_line fields_of r) (written_text fields_of xs) (written_text fields_of ys))

  pub written_one : (r : A) → written_text fields_of (r ∷ []) ≡ written_line fields_of r
  unfolding written_text
  written_one r = append-nil (written_line fields_of r)

  written_snoc : (above : List A) (r : A) → written_text fields_of (above ++ (r ∷ [])) ≡ written_text fields_of above ++ written_line fields_of r
  written_snoc above r =
      written_append above (r ∷ []) ∙ ap (λ (k : List ℕ). written_text fields_of above ++ k) (written_one r)

  -- the text of the first records, and one more
  pub written_taken : (rs : List A) (k : ℕ) (none : A) → k < length rs → written_text fields_of (take (k + 1) rs) ≡ written_text fields_of (take k rs) ++ written_line fields_of (get_or rs k none)
  written_taken rs k none h = rw (add-one k, take-suc rs k none h) (written_snoc (take k rs) (get_or rs k none))

  -- the text of some records and one more, before further bytes
  written_more : (above : List A) (r : A) (line more : List ℕ) → joined tab (fields_of r) ≡ line → written_text fields_of (above ++ (r ∷ [])) ++ more ≡ written_text fields_of above ++ (line ++ (LF ∷ more))
  unfolding written_line
  written_more above r line more h =
      rw (written_snoc above r, append_assoc (written_text fields_of above) (written_line fields_of r) more, append_assoc (joined tab (fields_of r)) (LF ∷ []) more, h)

module _ {A : Type 0} (record_of : List A → List (List ℕ) → Answer A) where
  -- ---- a text by its first line

  lines_first : (above : List A) (line s : List ℕ) → lines_of record_of above (line ∷ split LF s) ≡ continued above (record_of above (split tab line)) (λ r. lines_of record_of (above ++ (r ∷ [])) (split LF s))
  unfolding lines_of
  lines_first above line s = rw (parts LF s)

  lines_last : (above : List A) (s : List ℕ) → 0 < length s → lines_of record_of above (s ∷ []) ≡ Stop 12 (line_after above)
  unfolding lines_of
  lines_last above s h = rw (some s h)

  pub text_step : (above : List A) (s : List ℕ) → 0 < length s → lines_of record_of above (split LF s) ≡ continued above (line_of (record_of above) s) (λ r. lines_of record_of (above ++ (r ∷ [])) (split LF (following LF s)))
  unfolding line_of continued
  text_step above s h = go (ltb (index_of LF s) (length s)) refl
    where
      go : (t : Bool) → ltb (index_of LF s) (length s) ≡ t → lines_of record_of above (split LF s) ≡ continued above (line_of (record_of above) s) (λ r. lines_of record_of (above ++ (r ∷ [])) (split LF (following LF s)))
      go true p =
          ap (lines_of record_of above) (parts LF s ∙ rw p)
          ∙ lines_first above (before LF s) (following LF s)
          ∙ rw p
      go false p =
          ap (lines_of record_of above) (parts LF s ∙ rw (p, before_take LF s, take_all (index_of LF s) s (ltb-false (index_of LF s) (length s) p)))
          ∙ lines_last above s h
          ∙ rw p

  -- ---- what holds of the records of an accepted text

  pub kept : (P : List A → Type 0) → ((above : List A) (fields : List (List ℕ)) (r : A) → P above → record_of above fields ≡ accepted r → P (above ++ (r ∷ []))) → (above : List A) (lines : List (List ℕ)) (rs : List A) → P above → lines_of record_of above lines ≡ All rs → P rs
  unfolding lines_of continued
  kept P step above [] rs h e = rw (← all_all e) h
  kept P step above (last ∷ []) rs h e = go (none last) refl
    where
      go : (t : Bool) → none last ≡ t → P rs
      go true p = rw (← all_all (rw p at e)) h
      go false p = absurd (stop_all (rw p at e))
  kept P step above (line ∷ next ∷ more) rs h e =
      go (record_of above (split tab line)) refl (λ (r : A). kept P step (above ++ (r ∷ [])) (next ∷ more) rs)
    where
      go : (a : Answer A) → record_of above (split tab line) ≡ a → ((r : A) → P (above ++ (r ∷ [])) → lines_of record_of (above ++ (r ∷ [])) (next ∷ more) ≡ All rs → P rs) → P rs
      go (accepted r) p f = f r (step above (split tab line) r h p) (rw p at e)
      go (refused n) p f = absurd (stop_all (rw p at e))

  pub accepted_records : (P : List A → Type 0) → P [] → ((above : List A) (fields : List (List ℕ)) (r : A) → P above → record_of above fields ≡ accepted r → P (above ++ (r ∷ []))) → (s : List ℕ) (rs : List A) → text_of record_of s ≡ All rs → P rs
  unfolding text_of
  accepted_records P none step s rs e = kept P step [] (split LF s) rs none e

  -- ---- the line of a refusal: below records of which there is room for one more

  module _ (most : ℕ) (room : (above : List A) (fields : List (List ℕ)) (r : A) → record_of above fields ≡ accepted r → length above < most) where
    stops : (above : List A) (lines : List (List ℕ)) (n line : ℕ) → length above ≤ most → lines_of record_of above lines ≡ Stop n line → line ≤ most + 1
    unfolding lines_of continued line_after
    stops above [] n line h e = absurd (stop_all (sym e))
    stops above (last ∷ []) n line h e = go (none last) refl
      where
        go : (t : Bool) → none last ≡ t → line ≤ most + 1
        go true p = absurd (stop_all (sym (rw p at e)))
        go false p = omega (arith, stop_at (rw p at e))
    stops above (first ∷ next ∷ more) n line h e =
        go (record_of above (split tab first)) refl (λ (r : A). stops (above ++ (r ∷ [])) (next ∷ more) n line)
      where
        go : (a : Answer A) → record_of above (split tab first) ≡ a → ((r : A) → length (above ++ (r ∷ [])) ≤ most → lines_of record_of (above ++ (r ∷ [])) (next ∷ more) ≡ Stop n line → line ≤ most + 1) → line ≤ most + 1
        go (accepted r) p f =
            let l = room above (split tab first) r p in
            f r (rw (length-append above (r ∷ [])) (omega arith)) (rw p at e)
        go (refused m) p f = omega (arith, stop_at (rw p at e))

    pub refused_line_lem : (s : List ℕ) (n line : ℕ) → text_of record_of s ≡ Stop n line → line ≤ most + 1
    unfolding text_of
    refused_line_lem s n line e = stops [] (split LF s) n line (omega arith) e

  module _ (fields_of : A → List (List ℕ)) where
    -- ---- a written text, read

    -- records, each of which may stand below those above it
    unfoldable pub Follow : List A → List A → Type 0
    Follow above [] = Unit {0}
    Follow above (r ∷ rs) = Parted fields_of r × (record_of above (fields_of r) ≡ accepted r) × Follow (above ++ (r ∷ [])) rs

    lines_written : (above rs : List A) → Follow above rs → lines_of record_of above (split LF (written_text fields_of rs)) ≡ All (above ++ rs)
    unfolding Follow lines_of written_text split continued none
    lines_written above [] h = ap All (sym (append-nil above))
    lines_written above (r ∷ rs) h =
        rw (split_line fields_of r (written_text fields_of rs) h.0.ends, lines_first above (joined tab (fields_of r)) (written_text fields_of rs), split_fields fields_of (fields_of r) h.0.some h.0.tabs, h.1)
        (lines_written (above ++ (r ∷ [])) rs h.2 ∙ ap All (append_assoc above (r ∷ []) rs))

    pub text_written : (rs : List A) → Follow [] rs → text_of record_of (written_text fields_of rs) ≡ All rs
    unfolding text_of
    text_written rs h = lines_written [] rs h

    -- ---- an accepted text, written again

    module _ (back : (above : List A) (fields : List (List ℕ)) (r : A) → record_of above fields ≡ accepted r → fields_of r ≡ fields) where
      lines_back : (above : List A) (lines : List (List ℕ)) (rs : List A) → lines_of record_of above lines ≡ All rs → written_text fields_of above ++ joined LF lines ≡ written_text fields_of rs
      unfolding lines_of continued joined each_after none
      lines_back above [] rs e = append-nil (written_text fields_of above) ∙ ap (written_text fields_of) (all_all e)
      lines_back above ([] ∷ []) rs e = append-nil (written_text fields_of above) ∙ ap (written_text fields_of) (all_all e)
      lines_back above ((b ∷ last) ∷ []) rs e = absurd (stop_all e)
      lines_back above (line ∷ next ∷ more) rs e =
          go (record_of above (split tab line)) refl (λ (r : A). lines_back (above ++ (r ∷ [])) (next ∷ more) rs)
        where
          go : (a : Answer A) → record_of above (split tab line) ≡ a → ((r : A) → lines_of record_of (above ++ (r ∷ [])) (next ∷ more) ≡ All rs → written_text fields_of (above ++ (r ∷ [])) ++ joined LF (next ∷ more) ≡ written_text fields_of rs) → written_text fields_of above ++ joined LF (line ∷ next ∷ more) ≡ written_text fields_of rs
          go (refused n) p f = absurd (stop_all (rw p at e))
          go (accepted r) p f =
              let l : joined tab (fields_of r) ≡ line = ap (joined tab) (back above (split tab line) r p) ∙ joined_split tab line in
              sym (written_more fields_of above r line (joined LF (next ∷ more)) l) ∙ f r (rw p at e)

      pub text_back : (s : List ℕ) (rs : List A) → text_of record_of s ≡ All rs → written_text fields_of rs ≡ s
      unfolding text_of written_text
      text_back s rs e = sym (lines_back [] (split LF s) rs e) ∙ joined_split LF s
