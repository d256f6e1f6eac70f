-- The first comparison, then each other behind a comma.
use Rattle.std.proofs.Common.{◌≡◌, refl, sym, ◌∙◌, ap, ℕ, zero, suc, ◌+◌, ◌-◌, ◌<◌, min, List, [], ◌∷◌, ◌++◌, map, length, take, get_or, append_assoc, add-one, arith}
use mathlib.Core.List.{append-nil}
use lib.Seq.{take_all}
use Rattle.std.proofs.lemmas.List.{take_min}
use Rattle.declare.specs.declared.Comparison.{Comparison}
use Rattle.declare.specs.declared.Condition.{Condition}
use Rattle.declare.specs.Conditions.{comparisons_of}
use Rattle.line.specs.Fields.{each_after, joined}
use Rattle.rule_text.specs.Conditions.{comma}
use Rattle.rule_text.specs.Written.{comparison_text, comparisons_text, condition_text}
use Rattle.buffer.specs.declared.put.Output.{Output}
use Rattle.buffer.specs.Puts.{Put}
use Rattle.buffer.proofs.Puts.{put_then, put_as}
use Rattle.writer.proofs.conditions.put_condition.Goals as goal

-- one comparison more
each_more : (cs : List Comparison) (k : ℕ) (none : Comparison) → k < length cs → each_after comma (map comparison_text (take (suc k) cs)) ≡ each_after comma (map comparison_text (take k cs)) ++ (comma ∷ comparison_text (get_or cs k none))
unfolding each_after
each_more [] k none h = absurd (omega arith)
each_more (c ∷ cs) zero none h = ap (λ (s : List ℕ). comma ∷ s) (append-nil (comparison_text c))
each_more (c ∷ cs) (suc k) none h =
    rw (each_more cs k none (omega arith)) (ap (λ (s : List ℕ). comma ∷ s) (sym (append_assoc (comparison_text c) _ _)))

pub returns-then-c-eq0 : goal.returns-then-c-eq0
unfolding condition_text comparisons_text comparisons_of
returns-then-c-eq0 c = put_as (rw c.if-c-eq0.true refl) c.put_byte.ensures

next_put : {old between new : Output} (first : List ℕ) (cs : List Comparison) (k : ℕ) (none : Comparison) → k < length cs → Put (first ++ each_after comma (map comparison_text (take k cs))) old between → Put (comma ∷ comparison_text (get_or cs k none)) between new → Put (first ++ each_after comma (map comparison_text (take (k + 1) cs))) old new
next_put first cs k none h a b =
    let before = each_after comma (map comparison_text (take k cs)) in
    let next = comma ∷ comparison_text (get_or cs k none) in
    rw (add-one k, each_more cs k none h) (put_as (append_assoc first before next) (put_then a b))

-- the first, and those behind it up to the count
all_put : (c : Condition) (n : ℕ) → (c.count ≡ 0 → ⊥) → n ≡ min (c.count - 1) 3 → comparison_text c.first ++ each_after comma (map comparison_text (take n (c.second ∷ c.third ∷ c.fourth ∷ []))) ≡ condition_text c
unfolding condition_text comparisons_text comparisons_of joined
all_put c n some e = go c.count refl
  where
    go : (count : ℕ) → c.count ≡ count → comparison_text c.first ++ each_after comma (map comparison_text (take n (c.second ∷ c.third ∷ c.fourth ∷ []))) ≡ condition_text c
    go zero q = absurd (some q)
    go (suc m) q =
        let others : n ≡ min m 3 = omega (arith, e, q) in
        rw (others, take_min m (c.second ∷ c.third ∷ c.fourth ∷ []), q) refl

pub loop-next-init : goal.loop-next-init
unfolding each_after
loop-next-init c = put_as (sym (append-nil _)) c.put_comparison.ensures

pub loop-next-preserved : goal.loop-next-preserved
loop-next-preserved c =
    let l = c.loop-next in
    next_put _ _ l.next-index _ c.loop-next-test.true l.invariant c.put_next.ensures

pub returns : goal.returns
returns c =
    let l = c.loop-next in
    put_as (all_put c.args.c c.min-count.result c.if-c-eq0.false (c.min-count.ensures ∙ ap (λ (n : ℕ). min n 3) c.from.ensures)) (rw (take_all l.next-index _ c.loop-next-test.false) at l.invariant)
