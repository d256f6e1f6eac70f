-- A reader of texts, for every kind of record: by induction over the lines, the reader stops at the
-- first line that has a cause, and at its first. `record_of` is what the reader makes of a line, and
-- its answer has the causes `causes_of`.
use mathlib.Core.Path.{◌≡◌, refl, sym, ap, subst, ◌∙◌}
use mathlib.Core.Logic.{◌↔◌, inl, inr}
use mathlib.Core.Bool.{Bool, true, false, cond}
use mathlib.Core.List.{List, [], ◌∷◌, ◌++◌, nil≢cons}
use Prim.Native.Nat.{ℕ, ◌+◌}
use native.Mathlib.Omega.{arith}
use lib.Dec.{eqb}
use lib.ListN.{length, length-append}
use Rattle.declare.specs.declared.Refusal.TheVariants.{NoLineEnd}
use Rattle.declare.specs.Lists.{all, any}
use Rattle.declare.specs.Refusals.{number_of}
use Rattle.declare.proofs.Booleans.{and_left, and_right, both}
use Rattle.declare.specs.Answers.{Answer, accepted, refused, ◌>>◌, require}
use Rattle.number.specs.Number.{none}
use Rattle.line.specs.Fields.{LF, tab, onto, split}
use Rattle.line.specs.Texts.{Records, All, Stop, line_after, continued, lines_of as read_lines, text_of}
use Rattle.line.proofs.Joined.{lacks, split_before}
use Rattle.line.proofs.Texts.{stop_all, all_all}
use Rattle.demands.specs.Causes.{Cause, First, none_holds}
use Rattle.demands.specs.Texts.{Line, lines_in, lines_of, bytes_of, line_causes, RefusedAt, NoCause, Reads}
use Rattle.demands.proofs.Chains.{Has, same, has_one, refuses_first, accepts_none, first_none}

-- ---- lines and the parts of a text

nil_append : {A : Type 0} (xs : List A) (x : A) (ys : List A) → [] ≡ xs ++ (x ∷ ys) → ⊥
nil_append [] x ys e = nil≢cons e
nil_append (y ∷ xs) x ys e = nil≢cons e

-- the parts of the text of lines that LF ends
parts_of : List Line → List (List ℕ)
parts_of [] = [] ∷ []
parts_of (line ∷ lines) = line.bytes ∷ parts_of lines

lacks_onto : (b x : ℕ) (ps : List (List ℕ)) → eqb x b ≡ false → all (lacks b) ps ≡ true → all (lacks b) (onto x ps) ≡ true
unfolding onto all lacks
lacks_onto b x [] e h = refl
lacks_onto b x (p ∷ ps) e h = rw e h

-- no part has the byte that parts them
lacks_split : (b : ℕ) (s : List ℕ) → all (lacks b) (split b s) ≡ true
unfolding split all lacks
lacks_split b [] = refl
lacks_split b (x ∷ s) = go (eqb x b) refl (lacks_split b s)
  where
    go : (t : Bool) → eqb x b ≡ t → all (lacks b) (split b s) ≡ true → all (lacks b) (cond t ([] ∷ split b s) (onto x (split b s))) ≡ true
    go true e h = h
    go false e h = lacks_onto b x (split b s) e h

abbrev whole : Line → Bool
whole line = lacks LF line.bytes

lines_whole : (parts : List (List ℕ)) → all (lacks LF) parts ≡ true → all whole (lines_in parts) ≡ true
unfolding lines_in all
lines_whole [] h = refl
lines_whole (last ∷ []) h = go (none last)
  where
    go : (t : Bool) → all whole (cond t [] (record { bytes = last; ended = false } ∷ [])) ≡ true
    go true = refl
    go false = h
lines_whole (part ∷ next ∷ more) h =
    both (and_left (lacks LF part) _ h) (lines_whole (next ∷ more) (and_right (lacks LF part) (all (lacks LF) (next ∷ more)) h))

upper_whole : (upper lower : List Line) → all whole (upper ++ lower) ≡ true → all whole upper ≡ true
unfolding all
upper_whole [] lower h = refl
upper_whole (line ∷ upper) lower h = both (and_left (whole line) _ h) (upper_whole upper lower (and_right (whole line) (all whole (upper ++ lower)) h))

split_bytes : (lines : List Line) → all whole lines ≡ true → split LF (bytes_of lines) ≡ parts_of lines
unfolding bytes_of parts_of split all
split_bytes [] h = refl
split_bytes (line ∷ lines) h =
    split_before LF line.bytes (bytes_of lines) (and_left (whole line) _ h)
    ∙ ap (λ (ps : List (List ℕ)). line.bytes ∷ ps) (split_bytes lines (and_right (whole line) (all whole lines) h))

-- ---- numbers and lines

stop_number : {A : Type 0} {m n k at : ℕ} → ◌≡◌ {A = Records A} (Stop m k) (Stop n at) → m ≡ n
stop_number e = cc

stop_line : {A : Type 0} {m n k at : ℕ} → ◌≡◌ {A = Records A} (Stop m k) (Stop n at) → k ≡ at
stop_line e = cc

-- ---- a reader

module _ {A : Type 0} (record_of : List A → List (List ℕ) → Answer A) (causes_of : List A → List (List ℕ) → List Cause) (has : (above : List A) (fields : List (List ℕ)) → Has (record_of above fields) (causes_of above fields)) where
  abbrev read : List ℕ → Records A
  read = text_of record_of

  abbrev causes : List A → Line → List Cause
  causes = line_causes causes_of read

  read_more : (above : List A) (part : List ℕ) (lines : List Line) → read_lines record_of above (part ∷ parts_of lines) ≡ continued above (record_of above (split tab part)) (λ r. read_lines record_of (above ++ (r ∷ [])) (parts_of lines))
  unfolding read_lines parts_of
  read_more above part [] = refl
  read_more above part (line ∷ lines) = refl

  read_none : (above : List A) → read_lines record_of above (parts_of []) ≡ All above
  unfolding read_lines parts_of none
  read_none above = refl

  -- the reader below some records, at the parts that are left: refused at a line of these
  record Refused (start : List A) (parts : List (List ℕ)) (n at : ℕ) : Type 0 where
    above : List A
    line : Line
    upper : List Line
    lower : List Line
    lines : lines_in parts ≡ upper ++ (line ∷ lower)
    place : at ≡ length start + length upper + 1
    accepted : read_lines record_of start (parts_of upper) ≡ All above
    first : First (causes above line) n

  -- refused at the first of the parts that are left
  refused_here : (start : List A) (parts : List (List ℕ)) (line : Line) (lower : List Line) (n at : ℕ) → lines_in parts ≡ line ∷ lower → line_after start ≡ at → First (causes start line) n → Refused start parts n at
  unfolding line_after
  refused_here start parts line lower n at l p f =
      record { above = start; line = line; upper = []; lower = lower; lines = l; place = omega arith; accepted = read_none start; first = f }

  -- refused below the first
  refused_below : (start : List A) (r : A) (part next : List ℕ) (more : List (List ℕ)) (n at : ℕ) → record_of start (split tab part) ≡ accepted r → Refused (start ++ (r ∷ [])) (next ∷ more) n at → Refused start (part ∷ next ∷ more) n at
  unfolding lines_in parts_of continued
  refused_below start r part next more n at e f =
      record {
        above = f.above;
        line = f.line;
        upper = record { bytes = part; ended = true } ∷ f.upper;
        lower = f.lower;
        lines = ap (λ (ls : List Line). record { bytes = part; ended = true } ∷ ls) f.lines;
        place = omega (arith, f.place, length-append start (r ∷ []));
        accepted = read_more start part f.upper ∙ rw e f.accepted;
        first = f.first;
      }

  -- 12 comes first, and the causes of the fields after it
  -- what a line answers: 12, or what its fields say
  line_answer : List A → Line → Answer A
  line_answer above line = do
    require line.ended 12
    record_of above (split tab line.bytes)

  has_line_lem : (above : List A) (line : Line) → Has (line_answer above line) (causes above line)
  unfolding line_answer line_causes number_of
  has_line_lem above line = has_one line.ended NoLineEnd 12 _ _ refl (has above (split tab line.bytes))

  line_first : (above : List A) (line : Line) (n : ℕ) → (line_answer above line ≡ refused n) ↔ First (causes above line) n
  line_first above line = refuses_first (line_answer above line) (causes above line) (has_line_lem above line)

  -- of a line that LF does not end, and of one that it ends
  lacks_end : (above : List A) (bytes : List ℕ) (n : ℕ) → (12 ≡ n) ↔ First (causes above (record { bytes = bytes; ended = false })) n
  unfolding line_answer require ◌>>◌
  lacks_end above bytes n =
      let f : (refused 12 ≡ refused n) ↔ First (causes above (record { bytes = bytes; ended = false })) n = line_first above (record { bytes = bytes; ended = false }) n in
      ((λ e. f.0 (ap refused e)), (λ c. same (f.1 c)))

  has_end : (above : List A) (bytes : List ℕ) (n : ℕ) → (record_of above (split tab bytes) ≡ refused n) ↔ First (causes above (record { bytes = bytes; ended = true })) n
  unfolding line_answer require ◌>>◌
  has_end above bytes n = line_first above (record { bytes = bytes; ended = true }) n

  refused_at : (start : List A) (parts : List (List ℕ)) (n at : ℕ) → read_lines record_of start parts ≡ Stop n at → Refused start parts n at
  unfolding read_lines continued
  refused_at start [] n at e = absurd (stop_all (sym e))
  refused_at start (last ∷ []) n at e = go (none last) refl e
    where
      go : (t : Bool) → none last ≡ t → cond t (All start) (Stop 12 (line_after start)) ≡ Stop n at → Refused start (last ∷ []) n at
      go true p q = absurd (stop_all (sym q))
      go false p q = refused_here start (last ∷ []) (record { bytes = last; ended = false }) [] n at (unfold lines_in in rw p refl) (stop_line q) ((lacks_end start last n).0 (stop_number q))
  refused_at start (part ∷ next ∷ more) n at e =
      go (record_of start (split tab part)) refl e (λ (r : A). refused_at (start ++ (r ∷ [])) (next ∷ more) n at)
    where
      go : (x : Answer A) → record_of start (split tab part) ≡ x → continued start x (λ r. read_lines record_of (start ++ (r ∷ [])) (next ∷ more)) ≡ Stop n at → ((r : A) → read_lines record_of (start ++ (r ∷ [])) (next ∷ more) ≡ Stop n at → Refused (start ++ (r ∷ [])) (next ∷ more) n at) → Refused start (part ∷ next ∷ more) n at
      go (refused m) p q below = refused_here start (part ∷ next ∷ more) (record { bytes = part; ended = true }) (lines_in (next ∷ more)) n at (unfold lines_in in refl) (stop_line q) ((has_end start part n).0 (p ∙ ap refused (stop_number q)))
      go (accepted r) p q below = refused_below start r part next more n at p (below r q)

  -- ---- and back

  module _ (n at : ℕ) where
    stops_last : (start : List A) (last : List ℕ) (upper : List Line) (line : Line) (lower : List Line) (above : List A) → lines_in (last ∷ []) ≡ upper ++ (line ∷ lower) → at ≡ length start + length upper + 1 → First (causes above line) n → read_lines record_of start (last ∷ []) ≡ Stop n at
    unfolding read_lines lines_in line_after
    stops_last start last upper line lower above l p f = go (none last) upper l p
      where
        go : (t : Bool) (upper : List Line) → cond t [] (record { bytes = last; ended = false } ∷ []) ≡ upper ++ (line ∷ lower) → at ≡ length start + length upper + 1 → cond t (All start) (Stop 12 (length start + 1)) ≡ Stop n at
        go true upper l p = absurd (nil_append upper line lower l)
        go false [] l p =
            let e : line ≡ record { bytes = last; ended = false } = cc in
            let m : 12 ≡ n = (lacks_end above last n).1 (subst (λ (x : Line). First (causes above x) n) e f) in
            let q : length start + 1 ≡ at = omega arith in
            rw (m, q)
        go false (u ∷ upper) l p =
            let e : [] ≡ upper ++ (line ∷ lower) = cc in
            absurd (nil_append upper line lower e)

    stops_here : (start : List A) (part next : List ℕ) (more : List (List ℕ)) (line : Line) (lower : List Line) (above : List A) → lines_in (part ∷ next ∷ more) ≡ line ∷ lower → at ≡ length start + 1 → All start ≡ All above → First (causes above line) n → read_lines record_of start (part ∷ next ∷ more) ≡ Stop n at
    unfolding read_lines lines_in line_after continued
    stops_here start part next more line lower above l p a f =
        let e : line ≡ record { bytes = part; ended = true } = cc in
        let s : above ≡ start = sym (all_all a) in
        let g : First (causes start (record { bytes = part; ended = true })) n = rw (e, s) at f in
        rw ((has_end start part n).1 g) (ap (Stop n) (sym p))

    stops_below : (start : List A) (part next : List ℕ) (more : List (List ℕ)) (u : Line) (upper rest : List Line) (above : List A) → lines_in (part ∷ next ∷ more) ≡ u ∷ rest → read_lines record_of start (parts_of (u ∷ upper)) ≡ All above → ((r : A) → lines_in (next ∷ more) ≡ rest → read_lines record_of (start ++ (r ∷ [])) (parts_of upper) ≡ All above → read_lines record_of (start ++ (r ∷ [])) (next ∷ more) ≡ Stop n at) → read_lines record_of start (part ∷ next ∷ more) ≡ Stop n at
    unfolding read_lines lines_in parts_of continued
    stops_below start part next more u upper rest above l a below =
        let e : record { bytes = part; ended = true } ≡ u = cc in
        let t : lines_in (next ∷ more) ≡ rest = cc in
        let b : read_lines record_of start (part ∷ parts_of upper) ≡ All above = ap (λ (x : Line). read_lines record_of start (x.bytes ∷ parts_of upper)) e ∙ a in
        go t (record_of start (split tab part)) (sym (read_more start part upper) ∙ b)
      where
        go : lines_in (next ∷ more) ≡ rest → (x : Answer A) → continued start x (λ r. read_lines record_of (start ++ (r ∷ [])) (parts_of upper)) ≡ All above → continued start x (λ r. read_lines record_of (start ++ (r ∷ [])) (next ∷ more)) ≡ Stop n at
        go t (refused m) q = absurd (stop_all q)
        go t (accepted r) q = below r t q

    stops_at : (start : List A) (parts : List (List ℕ)) (upper : List Line) (line : Line) (lower : List Line) (above : List A) → lines_in parts ≡ upper ++ (line ∷ lower) → at ≡ length start + length upper + 1 → read_lines record_of start (parts_of upper) ≡ All above → First (causes above line) n → read_lines record_of start parts ≡ Stop n at
    stops_at start [] upper line lower above l p a f = absurd (nil_append upper line lower (unfold lines_in in l))
    stops_at start (last ∷ []) upper line lower above l p a f = stops_last start last upper line lower above l p f
    stops_at start (part ∷ next ∷ more) [] line lower above l p a f = stops_here start part next more line lower above l (omega arith) (sym (read_none start) ∙ a) f
    stops_at start (part ∷ next ∷ more) (u ∷ upper) line lower above l p a f =
        stops_below start part next more u upper (upper ++ (line ∷ lower)) above l a
        (λ (r : A) t b. stops_at (start ++ (r ∷ [])) (next ∷ more) upper line lower above t (omega (arith, length-append start (r ∷ []))) b f)

  -- ---- a text

  module _ (text : List ℕ) where
    all_whole : all whole (lines_of text) ≡ true
    unfolding lines_of
    all_whole = lines_whole (split LF text) (lacks_split LF text)

    -- the text of the lines above
    read_upper : (upper lower : List Line) → lines_of text ≡ upper ++ lower → read (bytes_of upper) ≡ read_lines record_of [] (parts_of upper)
    unfolding text_of
    read_upper upper lower l =
        ap (read_lines record_of []) (split_bytes upper (upper_whole upper lower (sym (ap (all whole) l) ∙ all_whole)))

    refuses : (n at : ℕ) → (read text ≡ Stop n at) ↔ RefusedAt causes_of read text n at
    unfolding text_of lines_of
    refuses n at = (to, back)
      where
        to : read text ≡ Stop n at → RefusedAt causes_of read text n at
        to e =
            let f = refused_at [] (split LF text) n at e in
            record {
              above = f.above;
              line = f.line;
              reached = record { upper = f.upper; lower = f.lower; lines = f.lines; place = omega (arith, f.place); accepted = read_upper f.upper (f.line ∷ f.lower) f.lines ∙ f.accepted };
              first = f.first;
            }

        back : RefusedAt causes_of read text n at → read text ≡ Stop n at
        back f =
            let r = f.reached in
            stops_at n at [] (split LF text) r.upper f.line r.lower f.above r.lines (omega (arith, r.place)) (sym (read_upper r.upper (f.line ∷ r.lower) r.lines) ∙ r.accepted) f.first

    -- a line that is reached has a first cause, or none
    no_cause : (above : List A) (line : Line) → ((n : ℕ) → First (causes above line) n → ⊥) → none_holds (causes above line) ≡ true
    no_cause above line f = go (line_answer above line) refl
      where
        go : (x : Answer A) → line_answer above line ≡ x → none_holds (causes above line) ≡ true
        go (refused n) p = absurd (f n ((line_first above line n).0 p))
        go (accepted r) p = (accepts_none (line_answer above line) (causes above line) (has_line_lem above line)).0 (r, p)

    accepts : ((rs : List A) × (read text ≡ All rs)) ↔ NoCause causes_of read text
    accepts = (to, back (read text) refl)
      where
        to : ((rs : List A) × (read text ≡ All rs)) → NoCause causes_of read text
        to (rs, e) above line at r =
            no_cause above line (λ n f. stop_all (sym ((refuses n at).1 (record { above = above; line = line; reached = r; first = f })) ∙ e))

        back : (x : Records A) → read text ≡ x → NoCause causes_of read text → (rs : List A) × (read text ≡ All rs)
        back (All rs) e h = (rs, e)
        back (Stop n at) e h =
            let f = (refuses n at).0 e in
            absurd (first_none (causes f.above f.line) n f.first (h f.above f.line at f.reached))

    -- ---- the numbers

    module _ (numbers : List ℕ) where
      -- the cause has one of the numbers
      abbrev numbered : Cause → Bool
      numbered c = any (eqb (number_of c.refusal)) numbers

      first_numbered : (n : ℕ) (cs : List Cause) → all numbered cs ≡ true → First cs n → any (eqb n) numbers ≡ true
      unfolding First all
      first_numbered n [] h f = absurd f
      first_numbered n (c ∷ cs) h (inl (p, e)) =
          subst (λ (m : ℕ). any (eqb m) numbers ≡ true) e (and_left (numbered c) (all numbered cs) h)
      first_numbered n (c ∷ cs) h (inr (p, f)) = first_numbered n cs (and_right (numbered c) (all numbered cs) h) f

      pub reads : any (eqb 12) numbers ≡ true → ((above : List A) (fields : List (List ℕ)) → all numbered (causes_of above fields) ≡ true) → Reads causes_of read numbers text
      reads twelve each =
          record {
            refuses = refuses;
            accepts = accepts;
            numbered = λ n at e. (let f = (refuses n at).0 e in first_numbered n (causes f.above f.line) (line_numbered f.above f.line) f.first);
          }
        where
          line_numbered : (above : List A) (line : Line) → all numbered (causes above line) ≡ true
          line_numbered above line = unfold line_causes all number_of in both twelve (each above (split tab line.bytes))
