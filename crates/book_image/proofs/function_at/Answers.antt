-- `function_at` meets its contract.
use Rattle.book_image.proofs.Bounds.{capped_above, capped_reached}
use Rattle.book.proofs.Image.{function_inside, function_past}
use Rattle.book.specs.Image.{word}
use mathlib.Core.Logic.{inl, inr}
use mathlib.Core.Path.{sym, ◌∙◌}
use Rattle.book_image.proofs.function_at.Goals as goal

pub returns-then-image-f : goal.returns-then-image-f
returns-then-image-f c = let a = c.args in c.no_function.ensures ∙ sym (function_past a.image.now a.f (capped_reached a.f (word a.image.now 2) 32 (inl c.if-image-f.true)))

pub returns-then-f-ge-MOST_FUNCTIONS : goal.returns-then-f-ge-MOST_FUNCTIONS
returns-then-f-ge-MOST_FUNCTIONS c = let a = c.args in c.no_function-then-f-ge-MOST_FUNCTIONS.ensures ∙ sym (function_past a.image.now a.f (capped_reached a.f (word a.image.now 2) 32 (inr c.if-f-ge-MOST_FUNCTIONS.true)))

pub returns : goal.returns
returns c = let a = c.args in sym (function_inside a.image.now a.f (capped_above a.f (word a.image.now 2) 32 c.if-image-f.false c.if-f-ge-MOST_FUNCTIONS.false))
