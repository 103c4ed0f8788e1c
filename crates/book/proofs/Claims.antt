-- The claims of specs/Claims hold.
use Rattle.book.specs.Claims.{AcceptedBook, AcceptedTable, SumIsLocation, SumAsSecond, ApartSum, SumApart, ApartIsPlace}
use Rattle.book.proofs.Accepted.{accepted, accepted_entries}
use Rattle.book.proofs.Start.{start_sound}
use Rattle.book.proofs.Table.{table_sound}
use Rattle.book.proofs.Sum.{sum_location, sum_second}
use Rattle.book.proofs.Apart.{apart_of_sum, summed, own_place}

pub accepted_book : AcceptedBook
accepted_book text b e = let ok = accepted text b e in (ok, start_sound b ok (accepted_entries text b e))

pub accepted_table : AcceptedTable
accepted_table B ok c h e = table_sound B ok c h e

pub sum_is_location : SumIsLocation
sum_is_location B ok = sum_location B ok.strides

pub sum_as_second : SumAsSecond
sum_as_second = sum_second

pub apart_sum : ApartSum
apart_sum = apart_of_sum

pub sum_apart : SumApart
sum_apart = summed

pub apart_is_place : ApartIsPlace
apart_is_place = own_place
