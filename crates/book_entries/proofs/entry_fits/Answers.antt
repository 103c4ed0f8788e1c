-- `entry_fits` meets its contract.
use Rattle.book.specs.Contents.{entry_fits}
use Rattle.book_entries.proofs.entry_fits.Goals as goal

pub returns : goal.returns
unfolding entry_fits
returns c = cc
