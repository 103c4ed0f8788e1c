-- What the program says on standard error where it fails (SPECIFICATION 10.3).
use Rattle.std.specs.Prelude.{List, ℕ, codes}
use Rattle.rental.specs.declared.Failure.{Failure}
use Rattle.rental.specs.declared.Failure.TheVariants.{Unread, Unwritten}

-- the message of a failure; a line end follows it
abbrev pub message : Failure → List ℕ
message Unread = codes "rental: the input cannot be read"
message Unwritten = codes "rental: the output cannot be written"
