-- `put_header` meets its contract.
use Rattle.book_load.specs.Loaded.{header_loaded}
use Rattle.book_load.proofs.put_header.Goals as goal

pub returns : goal.returns
unfolding header_loaded
returns c = cc
