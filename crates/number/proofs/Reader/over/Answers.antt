-- `number::Reader::over`: `after` is the recursion of `fold`.
use Rattle.std.proofs.Common.{◌≡◌, ℕ, List, [], ◌∷◌, refl, ◌∙◌, rules}
use Rattle.std.proofs.lemmas.Iterator.{YieldsList-from_slice}
use Rattle.std.proofs.lemmas.Iterator.Consumers.{fold_from_yields_List}
use Rattle.std.specs.List.{fold}
use Rattle.number.specs.Types.{Reader}
use Rattle.number.specs.Reader.{pushed, after}
use Rattle.number.proofs.Reader.over.Goals as goal

after_is : (r : Reader) (bytes : List ℕ) → fold pushed r bytes ≡ after r bytes
unfolding after
after_is r [] = refl
after_is r (b ∷ bytes) = after_is (pushed r b) bytes

pub returns : goal.returns
returns c =
    let bytes = c.args.bytes.now in
    fold_from_yields_List _ pushed c.new.result c.fold.result c.fold.ensures.ran (YieldsList-from_slice bytes cc) (λ a x b q k. search rules)
    ∙ rw c.new.ensures (after_is _ bytes)
