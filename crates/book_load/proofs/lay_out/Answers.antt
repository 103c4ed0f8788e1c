-- `lay_out` meets its contract.
use Rattle.book_load.specs.Loaded.{functions_laid}
use Rattle.book.proofs.Image.{elements_most, functions_most, functions_long, length_filled}
use Rattle.book.specs.Image.{program_in}
use mathlib.Core.Path.{sym, ap, ◌∙◌}
use lib.ListN.{length}
use native.Mathlib.Omega.{arith}
use Rattle.book_load.proofs.lay_out.Goals as goal

pub lay_functions-all-requires : goal.lay_functions-all-requires
lay_functions-all-requires c = let m = c.args.image.now in (omega (arith, c.elements-e.ensures, elements_most m), omega (arith, c.functions-n.ensures, functions_most m))

pub returns : goal.returns
unfolding functions_laid program_in
returns c = let m = c.args.image.now in (c.store.ensures.0 ∙ rw (c.lay_functions-all.ensures.1, c.lay_functions-all.ensures.0, c.elements-e.ensures, c.functions-n.ensures, functions_long m), sym (length_filled _ 2 _ 0 m) ∙ ap length (sym c.lay_functions-all.ensures.1) ∙ c.store.ensures.1)
