-- What is printed has at most 53792 bytes, so the buffer has room for it.
use mathlib.Core.Path.{◌≡◌, refl, ◌∙◌}
use mathlib.Core.List.{List, ◌++◌}
use Prim.Native.Nat.{ℕ, ◌≤◌}
use native.Mathlib.Omega.{arith}
use lib.ListN.{length, take, drop, length-append}
use lib.Seq.{take-append_seam}
use borrow.Author.Rules.{rules}
use Rattle.files.specs.Counts.{IsPrefixLen}
use Rattle.buffer.proofs.Writes.{comes_out}
use Rattle.report.proofs.printed.Goals as goal

front : (text before after : List ℕ) (n : ℕ) → n ≡ length text → after ≡ text ++ drop (length text) before → IsPrefixLen n after × (take n after ≡ text)
front text before after n m e =
    let whole : take n after ≡ text = rw (m, e) (take-append_seam text (drop (length text) before)) in
    let fits : n ≤ length after = rw (m, e, length-append text (drop (length text) before)) (omega arith) in
    ((fits, rw whole m), whole)

pub returns : goal.returns
returns c =
    let w = c.print_texts.ensures in
    let room : length c.args.out.now ≡ 53792 = search rules in
    let p = comes_out _ _ _ _ _ refl (omega arith) w.writes in
    let f = front _ _ _ _ (c.unwrap_or.ensures ∙ rw p.0 refl) p.1 in
    record { prefix_len = f.0; out_after = f.1 }
